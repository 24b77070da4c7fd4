-- Names that interfere are decided exactly: each test finds what its rule names. The relation is symmetric, no name meets itself, and only names that are read or written interfere, so that
-- with a handler all of these do and no others. How many names are live at once is attained at a statement, and passed at none. By the tests of live names. Assumes nothing.
use Prim.Native.Nat.{ℕ, ◌^◌, ◌<◌, ◌≤◌}
use mathlib.Core.Bool.{Bool, true, false, not, ◌&&◌, ◌||◌}
use mathlib.Core.Logic.{◌⊎◌, inl, inr}
use mathlib.Core.Option.{Option, none, some}
use mathlib.Core.Path.{◌≡◌, refl, sym, ◌∙◌, ap}
use native.Mathlib.Omega.{arith}
use borrow.Author.Tests.{not-true, eqb-false, ne_eqb, eq-eqb}
use lib.Dec.{eqb}
use Rattle.flow.specs.Flow.{Flow, size}
use Rattle.theory.specs.Lists.{any, up_to, max_below}
use Rattle.theory.specs.Key.{on_handler}
use Rattle.theory.specs.Clauses.WellFormed.{WellFormed}
use Rattle.theory.specs.Live.{member, reads, writes, LiveIn, LiveOut, is_live_in, is_live_out}
use Rattle.theory.specs.Interference.{After, Used, Together, Interferes, after, used, together_at, together, interferes, interference_word, live_count, most_live}
use Rattle.theory.proofs.Lists.{or_cases, or_left, or_right, and_both, and-true, same_test, any-In, any_find, up_to-In, In-up_to}
use Rattle.theory.proofs.Below.{max_below-at, max_below-attained}
use Rattle.theory.proofs.Live.{is_live_in-sound, is_live_in-complete, is_live_out-sound, is_live_out-complete}
use Rattle.theory.proofs.Names.{names_word-member, names_word-lt, names_word-empty}

-- Each test finds what its rule names

after-sound : (f : Flow) (x i : ℕ) → after f x i ≡ true → After f x i
unfolding after
after-sound f x i h = go (or_cases (is_live_out f x i) (writes f i x) h)
  where
    go : (is_live_out f x i ≡ true) ⊎ (writes f i x ≡ true) → After f x i
    go (inl e) = After.live (is_live_out-sound f x i e)
    go (inr e) = After.written e

used_sound : (f : Flow) (x : ℕ) → used f x ≡ true → Used f x
unfolding used
used_sound f x h =
    let r = any_find (λ i. reads f i x || writes f i x) (up_to (size f)) h in
    go r.0 (In-up_to (size f) r.1) (or_cases (reads f r.0 x) (writes f r.0 x) r.2)
  where
    go : (i : ℕ) → i < size f → (reads f i x ≡ true) ⊎ (writes f i x ≡ true) → Used f x
    go i l (inl e) = Used.read l e
    go i l (inr e) = Used.written l e

used-complete : {f : Flow} {x : ℕ} → Used f x → used f x ≡ true
unfolding used
used-complete {f} {x} (Used.read {i = i} l e) = any-In (λ i. reads f i x || writes f i x) (up_to-In (size f) i l) (or_left (reads f i x) (writes f i x) e)
used-complete {f} {x} (Used.written {i = i} l e) = any-In (λ i. reads f i x || writes f i x) (up_to-In (size f) i l) (or_right (reads f i x) (writes f i x) e)

together_at-sound : (f : Flow) (x y i : ℕ) → i < size f → together_at f x y i ≡ true → Together f x y
unfolding together_at
together_at-sound f x y i l h = go (or_cases (is_live_in f x i && is_live_in f y i) (after f x i && after f y i) h)
  where
    go : ((is_live_in f x i && is_live_in f y i) ≡ true) ⊎ ((after f x i && after f y i) ≡ true) → Together f x y
    go (inl e) = let t = and_both (is_live_in f x i) (is_live_in f y i) e in Together.at_start l (is_live_in-sound f x i t.0) (is_live_in-sound f y i t.1)
    go (inr e) = let t = and_both (after f x i) (after f y i) e in Together.at_end l (after-sound f x i t.0) (after-sound f y i t.1)

together-sound : (f : Flow) (x y : ℕ) → together f x y ≡ true → Together f x y
unfolding together
together-sound f x y = go f.handler refl
  where
    go : (o : Option ℕ) → f.handler ≡ o → on_handler o (any (together_at f x y) (up_to (size f))) (λ h. used f x && used f y) ≡ true → Together f x y
    go none e h = let r = any_find (together_at f x y) (up_to (size f)) h in together_at-sound f x y r.0 (In-up_to (size f) r.1) r.2
    go (some k) e h = let t = and_both (used f x) (used f y) h in Together.by_handler e (used_sound f x t.0) (used_sound f y t.1)

pub interferes-sound : (f : Flow) (x y : ℕ) → interferes f x y ≡ true → Interferes f x y
unfolding interferes
interferes-sound f x y h =
    let t = and_both (not (eqb x y)) (together f x y) h in
    record { different = eqb-false x y (not-true (eqb x y) t.0); together = together-sound f x y t.1 }

-- Only names that are read or written interfere

module _ {f : Flow} (w : WellFormed f) where
  live-used : {x i : ℕ} → i < size f → LiveIn f x i → Used f x
  live-used l (LiveIn.now e) = Used.read l e
  live-used l (LiveIn.later {i = i} {j = j} u m h) = live-used (w.successor i j m) h

  after-used : {x i : ℕ} → i < size f → After f x i → Used f x
  after-used l (After.written e) = Used.written l e
  after-used {i = i} l (After.live (LiveOut.at_successor {j = j} m h)) = live-used (w.successor i j m) h

  together-used : {x y : ℕ} → Together f x y → Used f x × Used f y
  together-used (Together.at_start l a b) = (live-used l a, live-used l b)
  together-used (Together.at_end l a b) = (after-used l a, after-used l b)
  together-used (Together.by_handler e a b) = (a, b)

  pub interferes-used : {x y : ℕ} → Interferes f x y → Used f x × Used f y
  interferes-used r = together-used r.together

  -- and the tests miss nothing

  after-complete : {x i : ℕ} → After f x i → after f x i ≡ true
  unfolding after
  after-complete {x} {i} (After.live h) = or_left (is_live_out f x i) (writes f i x) (is_live_out-complete w h)
  after-complete {x} {i} (After.written e) = or_right (is_live_out f x i) (writes f i x) e

  -- without a handler
  together_at-complete : {x y : ℕ} → f.handler ≡ none → Together f x y → any (together_at f x y) (up_to (size f)) ≡ true
  unfolding together_at
  together_at-complete {x} {y} e (Together.at_start {i = i} l a b) =
      any-In (together_at f x y) (up_to-In (size f) i l)
      (or_left (is_live_in f x i && is_live_in f y i) (after f x i && after f y i) (and-true (is_live_in f x i) (is_live_in f y i) (is_live_in-complete w l a) (is_live_in-complete w l b)))
  together_at-complete {x} {y} e (Together.at_end {i = i} l a b) =
      any-In (together_at f x y) (up_to-In (size f) i l)
      (or_right (is_live_in f x i && is_live_in f y i) (after f x i && after f y i) (and-true (after f x i) (after f y i) (after-complete a) (after-complete b)))
  together_at-complete e (Together.by_handler {h = h} q a b) = let z : ◌≡◌ {A = Option ℕ} none (some h) = sym e ∙ q in let bad : ◌≡◌ {A = ℕ} 0 1 = cc in absurd (omega arith)

  together-complete : {x y : ℕ} → Together f x y → together f x y ≡ true
  unfolding together
  together-complete {x} {y} t = go f.handler refl
    where
      go : (o : Option ℕ) → f.handler ≡ o → on_handler o (any (together_at f x y) (up_to (size f))) (λ h. used f x && used f y) ≡ true
      go none e = together_at-complete e t
      go (some k) e = let u = together-used t in and-true (used f x) (used f y) (used-complete u.0) (used-complete u.1)

  pub interferes-complete : {x y : ℕ} → Interferes f x y → interferes f x y ≡ true
  unfolding interferes
  interferes-complete {x} {y} r = and-true (not (eqb x y)) (together f x y) (ap not (ne_eqb x y r.different)) (together-complete r.together)

  -- with a handler all that are used do
  pub handler-all : {h x y : ℕ} → f.handler ≡ some h → (x ≡ y → ⊥) → Used f x → Used f y → Interferes f x y
  handler-all e d a b = record { different = d; together = Together.by_handler e a b }

-- Symmetric, and never itself

together-sym : {f : Flow} {x y : ℕ} → Together f x y → Together f y x
together-sym (Together.at_start l a b) = Together.at_start l b a
together-sym (Together.at_end l a b) = Together.at_end l b a
together-sym (Together.by_handler e a b) = Together.by_handler e b a

pub interferes-sym : {f : Flow} {x y : ℕ} → Interferes f x y → Interferes f y x
interferes-sym r = record { different = λ e. r.different (sym e); together = together-sym r.together }

pub never_itself : {f : Flow} {x : ℕ} → Interferes f x x → ⊥
never_itself r = r.different refl

-- The words

module _ (f : Flow) where
  pub interference_word-member : (x y : ℕ) → y < f.names → member (interference_word f x) y ≡ interferes f x y
  unfolding interference_word
  interference_word-member x = names_word-member f (interferes f x)

  pub interference_word-lt : (x : ℕ) → interference_word f x < 2 ^ f.names
  unfolding interference_word
  interference_word-lt x = names_word-lt f (interferes f x)

  pub interference_word-sound : (x y : ℕ) → y < f.names → member (interference_word f x) y ≡ true → Interferes f x y
  interference_word-sound x y l h = interferes-sound f x y (sym (interference_word-member x y l) ∙ h)

  pub interference_word_itself : (x : ℕ) → x < f.names → member (interference_word f x) x ≡ false
  unfolding interferes
  interference_word_itself x l = interference_word-member x x l ∙ ap (λ b. not b && together f x x) (eq-eqb x x refl)

  -- with no statements no name is used
  pub interference_word-none : size f ≡ 0 → (x : ℕ) → interference_word f x ≡ 0
  unfolding interference_word
  interference_word-none e x = names_word-empty f (interferes f x) (λ y. no_pair y (interferes f x y) refl)
    where
      unused : (x : ℕ) → Used f x → ⊥
      unused x (Used.read l h) = omega arith
      unused x (Used.written l h) = omega arith

      apart : {y : ℕ} → Together f x y → ⊥
      apart (Together.at_start l a b) = omega arith
      apart (Together.at_end l a b) = omega arith
      apart (Together.by_handler q a b) = unused x a

      no_pair : (y : ℕ) (b : Bool) → interferes f x y ≡ b → b ≡ false
      no_pair y false h = refl
      no_pair y true h = absurd (apart (interferes-sound f x y h).together)

pub interference_word-complete : {f : Flow} → WellFormed f → {x y : ℕ} → y < f.names → Interferes f x y → member (interference_word f x) y ≡ true
interference_word-complete {f} w {x} {y} l r = interference_word-member f x y l ∙ interferes-complete w r

pub interference_word-sym : {f : Flow} → WellFormed f → (x y : ℕ) → x < f.names → y < f.names → member (interference_word f x) y ≡ member (interference_word f y) x
interference_word-sym {f} w x y k l =
    same_test (member (interference_word f x) y) (member (interference_word f y) x)
    (λ h. interference_word-complete w k (interferes-sym (interference_word-sound f x y l h)))
    (λ h. interference_word-complete w l (interferes-sym (interference_word-sound f y x k h)))

-- How many names are live at once

module _ (f : Flow) where
  pub most_live-largest : (i : ℕ) → i < size f → live_count f i ≤ most_live f
  unfolding most_live
  most_live-largest = max_below-at (size f) (live_count f)

  pub most_live-attained : 0 < size f → (i : ℕ) × (i < size f) × (live_count f i ≡ most_live f)
  unfolding most_live
  most_live-attained = max_below-attained (size f) (live_count f)

  pub most_live-none : size f ≡ 0 → most_live f ≡ 0
  unfolding most_live max_below
  most_live-none e = rw e refl
