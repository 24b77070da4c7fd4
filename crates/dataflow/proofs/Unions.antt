-- Unions of masks: of three, each within the next, the one between is alike where the outer two are; and words that say 1 where masks differ.
-- By the laws of unions and of tests.
use Prim.Native.Nat.{ℕ}
use mathlib.Core.Bool.{Bool, true, false, cond, ◌||◌}
use mathlib.Core.Path.{◌≡◌, refl, sym, ap, ◌∙◌}
use lib.Bits.{bit_or, or_comm}
use Rattle.theory.specs.Lists.{differ}
use Rattle.theory.proofs.Push.{no_differ}

pub differ_self : (n : ℕ) (x : ℕ → ℕ) → differ n x x ≡ false
differ_self n x = no_differ n x x (λ a l. refl)

-- where the outer two are alike, so is the one between
pub or-between : (x y z : ℕ) → bit_or x y ≡ y → bit_or y z ≡ z → z ≡ x → y ≡ x
or-between x y z wx wy e = sym wx ∙ or_comm x y ∙ ap (bit_or y) (sym e) ∙ wy ∙ e

-- a word that says 1 where either differs
pub cond-or : {A : Type 0} (b c : Bool) (x y : A) → cond c x (cond b x y) ≡ cond (b || c) x y
cond-or true true x y = refl
cond-or true false x y = refl
cond-or false c x y = refl

pub cond-zero : (b : Bool) → ◌≡◌ {A = ℕ} 0 (cond b 0 0)
cond-zero true = refl
cond-zero false = refl
