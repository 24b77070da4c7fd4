-- Whether a row of masks is all zero, by its words: a word of one of the three sets that is not zero has a bit, and so an array whose mask is not zero. And tests of every number below a bound, one number more.
use Prim.Native.Nat.{ℕ, zero, suc, ◌+◌, ◌*◌, ◌%◌, ◌^◌, ◌≤◌, ◌<◌, max}
use mathlib.Core.Bool.{Bool, true, false, not, ◌&&◌}
use mathlib.Core.List.{List}
use mathlib.Core.Logic.{◌≢◌}
use mathlib.Core.Path.{◌≡◌, refl, sym, ap, subst, ◌∙◌}
use native.Mathlib.Decide.{dec_lt}
use native.Mathlib.Numerals.{add-one}
use native.Mathlib.Omega.{arith}
use borrow.Author.Tests.{eq-eqb, eqb-true}
use lib.Bits.{bit_or, bit_xor, or_lt, or_add_and, xor_add_and, and_le_l, and_le_r}
use lib.Count.{count_trailing_zeros}
use lib.Dec.{eqb}
use lib.ListN.{get_or}
use Rattle.words.specs.Clauses.Row.{bit}
use Rattle.words.proofs.Bit.{bit-or, bit_of_zero, trailing_one, trailing_lt}
use Rattle.words.proofs.Row.{has_word}
use Rattle.theory.specs.Lists.{all_below}
use Rattle.theory.specs.Queue.{union_below}
use Rattle.theory.proofs.Below.{all_below-at, all_below-all}
use Rattle.solve.specs.Clauses.Rows.{mask_at}

-- one number more
pub below_more : (k : ℕ) (p : ℕ → Bool) (b : Bool) → b ≡ all_below k p → (b && p k) ≡ all_below (k + 1) p
unfolding all_below
below_more k p b e = rw add-one (ap (λ c. c && p k) e)

pub union_more : (k : ℕ) (f : ℕ → ℕ) {u : ℕ} → u ≡ union_below k f → bit_or u (f k) ≡ union_below (k + 1) f
unfolding union_below
union_more k f e = rw add-one (ap (λ u. bit_or u (f k)) e)

-- a union is no less than what it joins
pub union_most : (k : ℕ) (f : ℕ → ℕ) (j : ℕ) → j < k → f j ≤ union_below k f
unfolding union_below
union_most zero f j l = absurd (omega arith)
union_most (suc k) f j l = go (dec_lt j k) (union_most k f j)
  where
    go : Dec (j < k) → (j < k → f j ≤ union_below k f) → f j ≤ bit_or (union_below k f) (f k)
    go (yes b) h = omega (arith, h b, or_add_and (union_below k f) (f k), and_le_r (union_below k f) (f k))
    go (no b) h = let e : j ≡ k = omega (arith, b) in subst (λ (i : ℕ). f i ≤ bit_or (union_below k f) (f k)) (sym e) (omega (arith, or_add_and (union_below k f) (f k), and_le_l (union_below k f) (f k)))

-- two bytes that differ in no bit are one
pub apart_none : (a b : ℕ) → bit_xor a b ≡ 0 → a ≡ b
apart_none a b e = omega (arith, e, xor_add_and a b, and_le_l a b, and_le_r a b)

-- what holds of each number below k and of k
pub each_more : (P : ℕ → Type 0) (k : ℕ) → ((j : ℕ) → j < k → P j) → P k → (j : ℕ) → j < k + 1 → P j
each_more P k h x j l = go (dec_lt j k)
  where
    go : Dec (j < k) → P j
    go (yes b) = h j b
    go (no b) = let e : j ≡ k = omega (arith, b) in subst P (sym e) x

not-all : (k : ℕ) (p : ℕ → Bool) (i : ℕ) → i < k → (p i ≡ true → ⊥) → all_below k p ≡ false
not-all k p i l h = go (all_below k p) refl
  where
    go : (b : Bool) → all_below k p ≡ b → all_below k p ≡ false
    go true e = absurd (h (all_below-at k p e i l))
    go false e = e

pub fails_at : (k : ℕ) (p : ℕ → ℕ) (v i : ℕ) → i < k → p i ≢ v → all_below k (λ j. eqb (p j) v) ≡ false
fails_at k p v i l h = not-all k (λ j. eqb (p j) v) i l (λ e. h (eqb-true (p i) v e))

module _ (ws : List ℕ) (w row : ℕ) where
  -- word k of the three sets, joined
  abbrev pub joined : ℕ → ℕ
  joined k = bit_or (bit_or (get_or ws (row + k) 0) (get_or ws (row + w + k) 0)) (get_or ws (row + 2 * w + k) 0)

  -- array j of those that word k stands for has a mask that is not zero exactly where the joined word has bit j
  bits : (k j : ℕ) → bit (joined k) j ≡ max (max (bit (get_or ws (row + k) 0) j) (bit (get_or ws (row + w + k) 0) j)) (bit (get_or ws (row + 2 * w + k) 0) j)
  bits k j =
      bit-or (bit_or (get_or ws (row + k) 0) (get_or ws (row + w + k) 0)) (get_or ws (row + 2 * w + k) 0) j
      ∙ ap (λ (x : ℕ). max x (bit (get_or ws (row + 2 * w + k) 0) j)) (bit-or (get_or ws (row + k) 0) (get_or ws (row + w + k) 0) j)

  mask_word : (k j : ℕ) → j < 64 → mask_at ws w row (64 * k + j) ≡ bit (get_or ws (row + k) 0) j + 2 * bit (get_or ws (row + w + k) 0) j + 4 * bit (get_or ws (row + 2 * w + k) 0) j
  unfolding mask_at
  mask_word k j l = omega (arith, has_word ws row k j l, has_word ws (row + w) k j l, has_word ws (row + 2 * w) k j l)

  pub zero_more : (k : ℕ) → joined k ≡ 0 → ((a : ℕ) → a < 64 * k → mask_at ws w row a ≡ 0) → (a : ℕ) → a < 64 * (k + 1) → mask_at ws w row a ≡ 0
  zero_more k e h a l = go (dec_lt a (64 * k))
    where
      go : Dec (a < 64 * k) → mask_at ws w row a ≡ 0
      go (yes b) = h a b
      go (no b) =
          let j : ℕ = a % 64 in
          let place : a ≡ 64 * k + j = omega (arith, b) in
          let none : bit (joined k) j ≡ 0 = ap (λ (x : ℕ). bit x j) e ∙ bit_of_zero j in
          ap (mask_at ws w row) place ∙ mask_word k j (omega arith) ∙ omega (arith, none, bits k j)

  pub zero-all : ((a : ℕ) → a < 64 * w → mask_at ws w row a ≡ 0) → not (all_below (64 * w) (λ a. eqb (mask_at ws w row a) 0)) ≡ false
  zero-all h = ap not (all_below-all (64 * w) (λ a. eqb (mask_at ws w row a) 0) (λ a l. eq-eqb (mask_at ws w row a) 0 (h a l)))

  pub some_word : (k : ℕ) → k < w → get_or ws (row + k) 0 < 2 ^ 64 → get_or ws (row + w + k) 0 < 2 ^ 64 → get_or ws (row + 2 * w + k) 0 < 2 ^ 64 → joined k ≢ 0
      → not (all_below (64 * w) (λ a. eqb (mask_at ws w row a) 0)) ≡ true
  some_word k l x y z n =
      let small : joined k < 2 ^ 64 = or_lt 64 (bit_or (get_or ws (row + k) 0) (get_or ws (row + w + k) 0)) (get_or ws (row + 2 * w + k) 0) (or_lt 64 (get_or ws (row + k) 0) (get_or ws (row + w + k) 0) x y) z in
      let j : ℕ = count_trailing_zeros 64 (joined k) in
      let low : j < 64 = trailing_lt 64 (joined k) small (omega (arith, n)) in
      let one : bit (joined k) j ≡ 1 = trailing_one 64 (joined k) low in
      ap not (fails_at (64 * w) (mask_at ws w row) 0 (64 * k + j) (omega arith) (λ e. omega (arith, e, mask_word k j low, bits k j)))
