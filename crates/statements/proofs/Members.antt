-- The members of a set: a word of zero has none, and the next member comes later.
-- By what the next member is. Assumes nothing.
use Prim.Native.Nat.{ℕ, ◌+◌, ◌/◌, ◌%◌, ◌<◌}
use mathlib.Core.List.{List}
use mathlib.Core.Path.{◌≡◌, ap, ◌∙◌}
use native.Mathlib.Omega.{arith}
use lib.ListN.{get_or}
use Rattle.words.specs.Clauses.Row.{bit, has, next_member}
use Rattle.words.proofs.Bit.{bit_of_zero}
use Rattle.words.proofs.NextMember.{first}

-- a word of zero has no members
pub zero_has : (ws : List ℕ) (base i : ℕ) → get_or ws (base + i / 64) 0 ≡ 0 → has ws base i ≡ 0
unfolding has
zero_has ws base i e = ap (λ w. bit w (i % 64)) e ∙ bit_of_zero (i % 64)

-- the next member comes later
pub next-later : (ws : List ℕ) (base i bound : ℕ) → i < bound → i < next_member ws base (i + 1) bound
next-later ws base i bound l = let low = (first ws base (i + 1) bound (omega arith)).low in omega arith
