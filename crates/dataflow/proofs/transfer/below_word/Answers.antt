-- `dataflow::transfer::below_word` meets its contract: the lowest bits, or all of them, by how many arrays stand at or above the word's first.
-- Assumes nothing.
use Prim.Native.Nat.{ℕ, ◌+◌, ◌-◌, ◌*◌, ◌%◌, ◌^◌, ◌<◌}
use mathlib.Core.Bool.{cond}
use mathlib.Core.Path.{◌≡◌, ap, sym, ◌∙◌}
use native.Mathlib.Decide.{dec_lt}
use native.Mathlib.Nat.{sub-zero}
use native.Mathlib.Omega.{arith}
use borrow.Author.Tests.{lt-ltb, le-ltb}
use lib.Dec.{ltb}
use lib.Pow.{pow_pos}
use Rattle.words.specs.Clauses.Row.{bit}
use Rattle.words.proofs.Bit.{bit_of_zero, bit_not, bit_high, one_shl}
use Rattle.dataflow.proofs.transfer.below_word.Goals as goal

pub returns-then-rest-lt64 : goal.returns-then-rest-lt64
returns-then-rest-lt64 c j l = at (dec_lt j m)
  where
    m : ℕ
    m = c.saturating_sub-rest.result

    word : (1 * 2 ^ m % 2 ^ 64) - 1 ≡ 2 ^ m - 1 - 0
    word = ap (λ (x : ℕ). x - 1) (one_shl m (omega arith)) ∙ sym (sub-zero (2 ^ m - 1))

    at : Dec (j < m) → bit ((1 * 2 ^ m % 2 ^ 64) - 1) j ≡ cond (ltb (64 * c.args.k + j) c.args.count) 1 0
    at (yes h) =
        ap (λ (x : ℕ). bit x j) word ∙ bit_not m 0 j (pow_pos m) h ∙ omega (arith, bit_of_zero j)
        ∙ sym (ap (λ b. cond b 1 0) (lt-ltb (64 * c.args.k + j) c.args.count (omega arith)))
    at (no h) =
        ap (λ (x : ℕ). bit x j) word ∙ bit_high {j = m} j (omega (arith, pow_pos m)) (omega (arith, h))
        ∙ sym (ap (λ b. cond b 1 0) (le-ltb (64 * c.args.k + j) c.args.count (omega (arith, h))))

pub returns-else-rest-lt64 : goal.returns-else-rest-lt64
returns-else-rest-lt64 c j l = bit_not 64 0 j (pow_pos 64) l ∙ omega (arith, bit_of_zero j) ∙ sym (ap (λ b. cond b 1 0) (lt-ltb (64 * c.args.k + j) c.args.count (omega arith)))
