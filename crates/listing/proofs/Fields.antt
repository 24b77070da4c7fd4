-- A line is its fields, each with the byte after it.
use mathlib.Core.List.{List, [], ◌∷◌, ◌++◌, append_assoc}
use mathlib.Core.Path.{◌≡◌, refl, sym, ap, ◌∙◌}
use Prim.Native.Nat.{ℕ}
use Rattle.std.proofs.lemmas.Grind.{common_steps}
use Rattle.theory.specs.Listing.{newline, space, line_of}

pub line_more : (x y : List ℕ) (ys : List (List ℕ)) → line_of (x ∷ y ∷ ys) ≡ (x ++ (space ∷ [])) ++ line_of (y ∷ ys)
unfolding line_of
line_more x y ys = sym (append_assoc x (space ∷ []) (line_of (y ∷ ys)))

pub line_last : (x : List ℕ) → line_of (x ∷ []) ≡ x ++ (newline ∷ [])
unfolding line_of
line_last x = refl

-- a piece, then another
pub then : (o a b : List ℕ) {p q : List ℕ} → p ≡ o ++ a → q ≡ p ++ b → q ≡ o ++ (a ++ b)
then o a b e h = h ∙ ap (λ t. t ++ b) e ∙ append_assoc o a b

-- what a line is made of, and how long it is
pub ruleset fields = (common_steps, line_more, line_last)
