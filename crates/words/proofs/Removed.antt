-- A number removed: that word, the other words, and what the rows then have.
-- By the bits of a difference and of a power of two. Assumes nothing.
use mathlib.Core.Path.{◌≡◌, refl, sym, ap, ◌∙◌}
use mathlib.Core.List.{List}
use mathlib.Core.Logic.{◌≢◌}
use Prim.Native.Nat.{ℕ, ◌+◌, ◌-◌, ◌*◌, ◌/◌, ◌%◌, ◌^◌, ◌<◌, min}
use native.Mathlib.Decide.{ℕ_discrete}
use native.Mathlib.Omega.{arith}
use lib.ListN.{length, get_or, length-set}
use lib.Pow.{pow-lt}
use lib.Seq.{get_or-set_same, get_or-set_other}
use Rattle.words.specs.Clauses.Row.{bit, has, members, Words}
use Rattle.words.specs.Clauses.Change.{removed, without}
use Rattle.words.proofs.Bit.{bit-without, bit-pow-same, bit-pow-other}
use Rattle.words.proofs.Tally.{tally-suc}
use Rattle.words.proofs.Row.{has-lt, has-cong}

module _ (ws : List ℕ) (base i : ℕ) where
  pub length_removed : length (removed ws base i) ≡ length ws
  unfolding removed
  length_removed = length-set ws (base + i / 64) _

  -- a word that does not hold i stays
  pub removed-other : (x : ℕ) → x ≢ base + i / 64 → get_or (removed ws base i) x 0 ≡ get_or ws x 0
  unfolding removed
  removed-other x d = get_or-set_other ws (base + i / 64) x _ 0 d

  -- a row that does not hold i's word has what it had
  pub remove_else : (base' j : ℕ) → base' + j / 64 ≢ base + i / 64 → has (removed ws base i) base' j ≡ has ws base' j
  remove_else base' j d = has-cong (removed ws base i) ws base' j (removed-other (base' + j / 64) d)

  module _ (w : Words ws) (l : base + i / 64 < length ws) where
    removed-has : (j : ℕ) → j / 64 ≡ i / 64 → has (removed ws base i) base j ≡ min (has ws base j) (1 - bit (2 ^ (i % 64)) (j % 64))
    unfolding has removed
    removed-has j e =
        rw e
        (ap (λ (v : ℕ). bit v (j % 64)) (get_or-set_same ws (base + i / 64) (without (get_or ws (base + i / 64) 0) (2 ^ (i % 64))) 0 l)
        ∙ bit-without (get_or ws (base + i / 64) 0) (2 ^ (i % 64)) (j % 64) (w (base + i / 64)) (pow-lt {j = 64} (omega arith)))

    pub remove_same : has (removed ws base i) base i ≡ 0
    remove_same = removed-has i refl ∙ omega (arith, bit-pow-same (i % 64))

    pub remove_other : (j : ℕ) → j ≢ i → has (removed ws base i) base j ≡ has ws base j
    remove_other j d = at (ℕ_discrete (j / 64) (i / 64))
      where
        at : Dec (j / 64 ≡ i / 64) → has (removed ws base i) base j ≡ has ws base j
        at (yes e) = removed-has j e ∙ omega (arith, bit-pow-other (i % 64) (j % 64) (omega (arith, d)), has-lt ws base j)
        at (no n) = has-cong (removed ws base i) ws base j (removed-other (base + j / 64) (omega (arith, n)))

    -- a member removed is one less
    pub remove_members : (width : ℕ) → i < 64 * width → has ws base i ≡ 1 → members ws base width ≡ members (removed ws base i) base width + 1
    unfolding members
    remove_members width m e =
        tally-suc (has (removed ws base i) base) (has ws base) (64 * width) i m (e ∙ sym (ap (λ z. z + 1) remove_same)) (λ j d. sym (remove_other j d))
