-- A row zeroed: each word is 0, the words outside stay, and the row has nothing.
-- By the laws of words written one after the other. Assumes nothing.
use mathlib.Core.Path.{◌≡◌, sym, ap, ◌∙◌, subst}
use mathlib.Core.List.{List}
use mathlib.Core.Logic.{◌≢◌}
use Prim.Native.Nat.{ℕ, ◌+◌, ◌-◌, ◌*◌, ◌/◌, ◌%◌, ◌≤◌, ◌<◌}
use native.Mathlib.Nat.{zero-add}
use native.Mathlib.Omega.{arith}
use lib.ListN.{length, get_or, replicate, length-replicate, get_or-replicate}
use lib.Pow.{pow_pos}
use lib.Seq.{ext_get_or}
use Rattle.words.specs.Clauses.Row.{bit, has, Words}
use Rattle.words.specs.Clauses.Change.{zeroed}
use Rattle.words.proofs.Bit.{bit_of_zero}
use Rattle.words.proofs.Rewritten.{length-rewritten, rewritten-other, rewritten-word, words-rewritten}

module _ (ws : List ℕ) (base width : ℕ) where
  pub length-zeroed : length (zeroed ws base width) ≡ length ws
  unfolding zeroed
  length-zeroed = length-rewritten _ ws base width

  pub words-zeroed : Words ws → Words (zeroed ws base width)
  unfolding zeroed
  words-zeroed w = words-rewritten _ ws base width w (λ vs k h. pow_pos 64)

  pub zeroed-other : (x : ℕ) → ((k : ℕ) → k < width → x ≢ base + k) → get_or (zeroed ws base width) x 0 ≡ get_or ws x 0
  unfolding zeroed
  zeroed-other x h = rewritten-other _ ws base width x h

  pub zeroed-word : base + width ≤ length ws → (k : ℕ) → k < width → get_or (zeroed ws base width) (base + k) 0 ≡ 0
  unfolding zeroed
  zeroed-word fits k l = rewritten-word _ ws base width k fits l

  pub zeroed-has : base + width ≤ length ws → (i : ℕ) → i < 64 * width → has (zeroed ws base width) base i ≡ 0
  unfolding has
  zeroed-has fits i l = ap (λ (w : ℕ). bit w (i % 64)) (zeroed-word fits (i / 64) (omega arith)) ∙ bit_of_zero (i % 64)

-- a run of words, by where it begins and ends
pub zeroed-run : (ws : List ℕ) (from end x : ℕ) → end ≤ length ws → from ≤ x → x < end → get_or (zeroed ws from (end - from)) x 0 ≡ 0
zeroed-run ws from end x fits l m =
    let here : from + (x - from) ≡ x = omega arith in
    subst (λ (y : ℕ). get_or (zeroed ws from (end - from)) y 0 ≡ 0) here (zeroed-word ws from (end - from) (omega arith) (x - from) (omega arith))

-- the first words of a slice
pub zeroed_first : (ws : List ℕ) (width x : ℕ) → width ≤ length ws → x < width → get_or (zeroed ws 0 width) x 0 ≡ 0
zeroed_first ws width x fits l = subst (λ (y : ℕ). get_or (zeroed ws 0 width) y 0 ≡ 0) (zero-add x) (zeroed-word ws 0 width (omega arith) x l)

-- a slice zeroed whole
pub zeroed-all : (ws : List ℕ) → zeroed ws 0 (length ws) ≡ replicate (length ws) 0
zeroed-all ws =
    ext_get_or 0 (zeroed ws 0 (length ws)) (replicate (length ws) 0) (length-zeroed ws 0 (length ws) ∙ sym (length-replicate (length ws) 0))
    (λ x l. zeroed_first ws (length ws) x (omega arith) (omega (arith, length-zeroed ws 0 (length ws)))
    ∙ sym (get_or-replicate (length ws) x 0 0 (omega (arith, length-zeroed ws 0 (length ws)))))
