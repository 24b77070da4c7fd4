-- The number of a statement's kind decides what data it has: one case for each kind with data, and one for the others.
-- By the tests that the definitions go by.
use Prim.Native.Nat.{ℕ}
use mathlib.Core.Bool.{Bool, true, false}
use mathlib.Core.Path.{◌≡◌, refl}
use lib.Dec.{eqb}
use borrow.Author.Tests.{eqb-true, eqb-false, ne_eqb}
use Rattle.flow.specs.declared.kind.Kind.{Kind}
use Rattle.flow.specs.Clauses.Kinds.{kind_number}
use Rattle.flow.proofs.KindNumbers.{number-not}

-- a kind's number is one of those with data, or none of them
pub data Number (k : ℕ) : Type 0 where
  dim : k ≡ 4 → Number k
  gosub : k ≡ 5 → Number k
  on_gosub : k ≡ 6 → Number k
  other : (k ≡ 4 → ⊥) → (k ≡ 5 → ⊥) → (k ≡ 6 → ⊥) → Number k

pub number : (k : ℕ) → Number k
number k = go (eqb k 4) (eqb k 5) (eqb k 6) refl refl refl
  where
    go : (d g o : Bool) → eqb k 4 ≡ d → eqb k 5 ≡ g → eqb k 6 ≡ o → Number k
    go true g o e _ _ = dim (eqb-true k 4 e)
    go false true o _ e _ = gosub (eqb-true k 5 e)
    go false false true _ _ e = on_gosub (eqb-true k 6 e)
    go false false false d g o = other (eqb-false k 4 d) (eqb-false k 5 g) (eqb-false k 6 o)

-- the tests of a number of which the kind is known, and is not j
pub no_number : {k : Kind} {n : ℕ} (j : Kind) → kind_number k ≡ n → (k ≡ j → ⊥) → eqb n (kind_number j) ≡ false
no_number {n = n} j is unlike = ne_eqb n (kind_number j) (number-not j is unlike)
