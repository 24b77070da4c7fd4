-- From sets of arrays to bytes: eight bits spread to the bytes of a word, a test that antt computes at the 256 values of the bits; the masks that three such words
-- sum up to; and the masks of a word of each set, joined over two rows, or from some array on; the same sets make the same masks. Assumes nothing.
use Prim.Native.Nat.{ℕ, zero, suc, ◌+◌, ◌*◌, ◌/◌, ◌%◌, ◌^◌, ◌<◌, ◌≤◌, max}
use native.Mathlib.Nat.{div-one}
use native.Mathlib.Omega.{arith}
use mathlib.Core.List.{List}
use mathlib.Core.Path.{◌≡◌, refl, sym, ap, ap₂, ◌∙◌}
use lib.Bits.{bit_and, bit_or}
use lib.Dec.{eqb, eqb→eq}
use lib.ListN.{get_or}
use Rattle.std.specs.Int.{w64, to_le_bytes}
use Rattle.flow.specs.Format.{tabulate}
use Rattle.words.specs.Clauses.Byte.{byte_of, bytes}
use Rattle.words.specs.Clauses.Row.{bit, has}
use Rattle.words.proofs.Bit.{bit-lt, bit-or, bit-shr}
use Rattle.words.proofs.Row.{has-lt, has_word}
use Rattle.masks.proofs.Finite.{at-below}
use Rattle.masks.proofs.Sets.{mask-or}
use Rattle.solve.specs.Clauses.Layout.{mask_row_at}
use Rattle.solve.specs.Clauses.Rows.{mask_at}
use Rattle.dataflow.specs.Clauses.Bytes.{mask_in, joined_word, joined_mask, both_words, both_copies, SameSets}

-- what `spread` computes
abbrev pub spread : ℕ → ℕ
spread bits = bit_and ((bit_and (bits * 72340172838076673) 9241421688590303745 + 18120434683510399) / 128) 72340172838076673

pub spread-bytes : (bits : ℕ) → bits < 256 → spread bits ≡ bytes (bit bits) 8
unfolding bytes bit
spread-bytes bits l = eqb→eq _ _ (at-below 256 (λ b. eqb (spread b) (bytes (bit b) 8)) tt bits l)

pub bits_most : (n : ℕ) → bytes (bit n) 8 ≤ 72340172838076673
unfolding bytes
bits_most n = omega (arith, bit-lt n 0, bit-lt n 1, bit-lt n 2, bit-lt n 3, bit-lt n 4, bit-lt n 5, bit-lt n 6, bit-lt n 7)

-- the sum of bytes that are masks together
pub sum_bytes : (f g h : ℕ → ℕ) (k : ℕ) → bytes f k + 2 * bytes g k + 4 * bytes h k ≡ bytes (λ j. f j + 2 * g j + 4 * h j) k
unfolding bytes
sum_bytes f g h zero = refl
sum_bytes f g h (suc k) = omega (arith, sum_bytes (λ j. f (suc j)) (λ j. g (suc j)) (λ j. h (suc j)) k)

-- the masks of a word of each set, joined over two rows
pub joined-mask : (ws : List ℕ) (w x y k j : ℕ) → j < 64
    → mask_in (joined_word ws x y k) (joined_word ws x y (w + k)) (joined_word ws x y (2 * w + k)) j ≡ joined_mask ws w x y (64 * k + j)
unfolding mask_at
joined-mask ws w x y k j l =
    omega (
      arith,
      part k x y refl refl,
      part (w + k) (x + w) (y + w) (omega arith) (omega arith),
      part (2 * w + k) (x + 2 * w) (y + 2 * w) (omega arith) (omega arith),
    )
    ∙ sym (mask-or _ _ _ _ _ _ (lt x) (lt (x + w)) (lt (x + 2 * w)) (lt y) (lt (y + w)) (lt (y + 2 * w)))
  where
    a : ℕ
    a = 64 * k + j

    lt : (row : ℕ) → has ws row a < 2
    lt row = has-lt ws row a

    part : (s u v : ℕ) → u + k ≡ x + s → v + k ≡ y + s → bit (joined_word ws x y s) j ≡ max (has ws u a) (has ws v a)
    part s u v p q =
        ap₂ (λ (c d : ℕ). bit (bit_or (get_or ws c 0) (get_or ws d 0)) j) (sym p) (sym q)
        ∙ bit-or (get_or ws (u + k) 0) (get_or ws (v + k) 0) j
        ∙ sym (ap₂ max (has_word ws u k j l) (has_word ws v k j l))

-- in the rows of a statement
module _ (ws : List ℕ) (n w : ℕ) where
  pub both_masks : (i k j : ℕ) → j < 64 → mask_in (both_words ws n w i k) (both_words ws n w i (w + k)) (both_words ws n w i (2 * w + k)) j ≡ both_copies ws n w i (64 * k + j)
  unfolding both_words both_copies
  both_masks i k j l = joined-mask ws w (mask_row_at n w i) (mask_row_at n w (n + i)) k j l

  -- the same sets make the same masks
  pub same_masks : (i j a : ℕ) → SameSets ws n w i j → a < 64 * w → both_copies ws n w i a ≡ both_copies ws n w j a
  same_masks i j a same l =
      let k = a / 64 in
      let whole : a ≡ 64 * k + a % 64 = omega arith in
      ap (both_copies ws n w i) whole
      ∙ sym (both_masks i k (a % 64) (omega arith))
      ∙ rw (same k (omega arith), same (w + k) (omega arith), same (2 * w + k) (omega arith)) (both_masks j k (a % 64) (omega arith))
      ∙ ap (both_copies ws n w j) (sym whole)

-- the bytes of a word, as the word gives them
pub le-bytes : (word : ℕ) → to_le_bytes w64 word ≡ tabulate 8 (byte_of word)
unfolding byte_of tabulate
le-bytes word = rw div-one refl

-- the masks of a word of each set from array s on
pub mask-shr : (none auto dimmed s j : ℕ) → mask_in (none / 2 ^ s) (auto / 2 ^ s) (dimmed / 2 ^ s) j ≡ mask_in none auto dimmed (s + j)
mask-shr none auto dimmed s j = omega (arith, bit-shr none s j, bit-shr auto s j, bit-shr dimmed s j)
