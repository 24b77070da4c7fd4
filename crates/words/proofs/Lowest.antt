-- The lowest bit of a word that is not 0, and the word without it: the other bits stay, and there is one less.
-- By the bits of a difference and of a power of two. Assumes nothing.
use mathlib.Core.Path.{◌≡◌, sym}
use mathlib.Core.Logic.{◌≢◌}
use Prim.Native.Nat.{ℕ, ◌-◌, ◌^◌, ◌<◌, min}
use native.Mathlib.Omega.{arith}
use lib.Count.{count_trailing_zeros}
use lib.Pow.{pow-lt}
use Rattle.words.specs.Clauses.Row.{bit, tally}
use Rattle.words.specs.Clauses.Change.{without}
use Rattle.words.proofs.Bit.{bit-lt, bit-pow-same, bit-pow-other, bit-without, trailing_one, trailing_lt}
use Rattle.words.proofs.Tally.{tally-suc}

module _ (w : ℕ) (h : w < 2 ^ 64) (some : 0 < w) where
  pub lowest-lt : count_trailing_zeros 64 w < 64
  lowest-lt = trailing_lt 64 w h some

  pub lowest-one : bit w (count_trailing_zeros 64 w) ≡ 1
  lowest-one = trailing_one 64 w lowest-lt

  off : (k : ℕ) → bit (without w (2 ^ count_trailing_zeros 64 w)) k ≡ min (bit w k) (1 - bit (2 ^ count_trailing_zeros 64 w) k)
  off k = bit-without w (2 ^ count_trailing_zeros 64 w) k h (pow-lt {j = 64} lowest-lt)

  pub lowest_off : bit (without w (2 ^ count_trailing_zeros 64 w)) (count_trailing_zeros 64 w) ≡ 0
  lowest_off = omega (arith, off (count_trailing_zeros 64 w), bit-pow-same (count_trailing_zeros 64 w))

  pub lowest-other : (k : ℕ) → k ≢ count_trailing_zeros 64 w → bit (without w (2 ^ count_trailing_zeros 64 w)) k ≡ bit w k
  lowest-other k d = omega (arith, off k, bit-lt w k, bit-pow-other (count_trailing_zeros 64 w) k d)

  pub lowest_less : tally (bit (without w (2 ^ count_trailing_zeros 64 w))) 64 < tally (bit w) 64
  lowest_less =
      omega (
        arith,
        tally-suc (bit (without w (2 ^ count_trailing_zeros 64 w))) (bit w) 64 (count_trailing_zeros 64 w) lowest-lt
            (omega (arith, lowest-one, lowest_off))
            (λ k d. sym (lowest-other k d)),
      )
