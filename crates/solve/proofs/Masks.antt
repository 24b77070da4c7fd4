-- Rows of masks: a mask is below 8 and goes by the words of its row, a union of rows unites each mask, and a row differs where some mask does.
-- By the memberships of each array in the three sets.
use Prim.Native.Nat.{ℕ, zero, suc, ◌+◌, ◌-◌, ◌*◌, ◌/◌, ◌%◌, ◌≤◌, ◌<◌, max}
use mathlib.Core.Bool.{Bool, true, false, not, ◌&&◌}
use mathlib.Core.List.{List}
use mathlib.Core.Path.{◌≡◌, refl, sym, ap, ap₂, subst, ◌∙◌}
use native.Mathlib.Decide.{dec_lt}
use native.Mathlib.Omega.{arith}
use borrow.Author.Tests.{eq-eqb, eqb-true, not-false}
use lib.Bits.{bit_or}
use lib.Dec.{eqb}
use lib.ListN.{length, get_or}
use Rattle.words.specs.Clauses.Row.{bit, has, Words}
use Rattle.words.specs.Clauses.Change.{unioned, ReadFirst, differs}
use Rattle.words.proofs.Bit.{bit-or, bits_below}
use Rattle.words.proofs.Row.{has-lt, has-cong, has_word}
use Rattle.words.proofs.Rewritten.{differs-cong, differs_self, differs_false}
use Rattle.words.proofs.Unioned.{unioned-word}
use Rattle.masks.specs.Clauses.Sets.{mask_of}
use Rattle.masks.proofs.Sets as sets
use Rattle.theory.specs.Lists.{all_below, differ}
use Rattle.theory.proofs.Lists.{clash}
use Rattle.theory.proofs.Below.{all_below-at, all_below-all}
use Rattle.solve.specs.Clauses.Rows.{mask_at}

pub mask_lt : (ws : List ℕ) (w row a : ℕ) → mask_at ws w row a < 8
unfolding mask_at
mask_lt ws w row a = sets.mask_lt _ _ _ (has-lt ws row a) (has-lt ws (row + w) a) (has-lt ws (row + 2 * w) a)

-- a mask goes by its three words
pub mask-words : (ws vs : List ℕ) (w row a : ℕ) → get_or vs (row + a / 64) 0 ≡ get_or ws (row + a / 64) 0 → get_or vs (row + w + a / 64) 0 ≡ get_or ws (row + w + a / 64) 0
    → get_or vs (row + 2 * w + a / 64) 0 ≡ get_or ws (row + 2 * w + a / 64) 0 → mask_at vs w row a ≡ mask_at ws w row a
unfolding mask_at
mask-words ws vs w row a x y z =
    omega (arith, has-cong vs ws row a x, has-cong vs ws (row + w) a y, has-cong vs ws (row + 2 * w) a z)

-- which are words of its row
pub mask-cong : (ws vs : List ℕ) (w row a : ℕ) → a < 64 * w → ((x : ℕ) → row ≤ x → x < row + 3 * w → get_or vs x 0 ≡ get_or ws x 0)
    → mask_at vs w row a ≡ mask_at ws w row a
mask-cong ws vs w row a l h =
    mask-words ws vs w row a (h (row + a / 64) (omega arith) (omega arith)) (h (row + w + a / 64) (omega arith) (omega arith)) (h (row + 2 * w + a / 64) (omega arith) (omega arith))

-- a union of rows unites each mask
pub unioned-mask : (ws : List ℕ) (w to from : ℕ) → to + 3 * w ≤ length ws → ReadFirst to from (3 * w) → (a : ℕ) → a < 64 * w
    → mask_at (unioned ws to from (3 * w)) w to a ≡ bit_or (mask_at ws w to a) (mask_at ws w from a)
unfolding mask_at has
unioned-mask ws w to from fits apart a l =
    let none = part 0 to from (omega arith) (omega arith) (omega arith) in
    let auto = part w (to + w) (from + w) (omega arith) refl refl in
    let dimmed = part (2 * w) (to + 2 * w) (from + 2 * w) (omega arith) refl refl in
    let mask : mask_of (has us to a) (has us (to + w) a) (has us (to + 2 * w) a)
    ≡ mask_of (max (has ws to a) (has ws from a)) (max (has ws (to + w) a) (has ws (from + w) a)) (max (has ws (to + 2 * w) a) (has ws (from + 2 * w) a)) = omega arith in
    mask
    ∙ sym (sets.mask-or _ _ _ _ _ _ (has-lt ws to a) (has-lt ws (to + w) a) (has-lt ws (to + 2 * w) a) (has-lt ws from a) (has-lt ws (from + w) a) (has-lt ws (from + 2 * w) a))
  where
    us : List ℕ
    us = unioned ws to from (3 * w)

    part : (k b c : ℕ) → k + w ≤ 3 * w → b ≡ to + k → c ≡ from + k → has us b a ≡ max (has ws b a) (has ws c a)
    part k b c h eb ec =
        let to' : b + a / 64 ≡ to + (k + a / 64) = omega arith in
        let from' : c + a / 64 ≡ from + (k + a / 64) = omega arith in
        ap (λ (x : ℕ). bit (get_or us x 0) (a % 64)) to'
        ∙ ap (λ (x : ℕ). bit x (a % 64)) (unioned-word ws to from (3 * w) fits apart (k + a / 64) (omega arith))
        ∙ bit-or (get_or ws (to + (k + a / 64)) 0) (get_or ws (from + (k + a / 64)) 0) (a % 64)
        ∙ ap₂ (λ (x y : ℕ). max (bit (get_or ws x 0) (a % 64)) (bit (get_or ws y 0) (a % 64))) (sym to') (sym from')

module _ (ws vs : List ℕ) (w row : ℕ) (ww : Words ws) (wv : Words vs) where
  -- rows whose masks are alike have the same words
  masks-word : ((a : ℕ) → a < 64 * w → mask_at vs w row a ≡ mask_at ws w row a) → (k : ℕ) → k < 3 * w → get_or vs (row + k) 0 ≡ get_or ws (row + k) 0
  unfolding mask_at
  masks-word h k l = at (dec_lt k w) (dec_lt k (2 * w))
    where
      members : (a : ℕ) → a < 64 * w
          → (has vs row a ≡ has ws row a) × (has vs (row + w) a ≡ has ws (row + w) a) × (has vs (row + 2 * w) a ≡ has ws (row + 2 * w) a)
      members a m =
          sets.mask-same _ _ _ _ _ _ (has-lt vs row a) (has-lt vs (row + w) a) (has-lt vs (row + 2 * w) a) (has-lt ws row a) (has-lt ws (row + w) a) (has-lt ws (row + 2 * w) a) (h a m)

      word : (b j : ℕ) → j < w → ((a : ℕ) → a < 64 * w → has vs b a ≡ has ws b a) → b + j ≡ row + k → get_or vs (row + k) 0 ≡ get_or ws (row + k) 0
      word b j m same e =
          subst (λ (x : ℕ). get_or vs x 0 ≡ get_or ws x 0) e
          (bits_below 64 (get_or vs (b + j) 0) (get_or ws (b + j) 0) (wv (b + j)) (ww (b + j))
          (λ i o. sym (has_word vs b j i o) ∙ same (64 * j + i) (omega arith) ∙ has_word ws b j i o))

      at : Dec (k < w) → Dec (k < 2 * w) → get_or vs (row + k) 0 ≡ get_or ws (row + k) 0
      at (yes a) b = word row k a (λ i m. (members i m).0) refl
      at (no a) (yes b) = word (row + w) (k - w) (omega (arith, a)) (λ i m. (members i m).1) (omega (arith, a))
      at (no a) (no b) = word (row + 2 * w) (k - 2 * w) (omega (arith, b)) (λ i m. (members i m).2) (omega (arith, b))

  -- a row of masks differs where some mask does
  pub differs-masks : differs ws vs row (3 * w) ≡ differ (64 * w) (mask_at vs w row) (mask_at ws w row)
  differs-masks = at (differs ws vs row (3 * w)) refl (differ (64 * w) (mask_at vs w row) (mask_at ws w row)) refl
    where
      at : (d : Bool) → differs ws vs row (3 * w) ≡ d → (b : Bool) → differ (64 * w) (mask_at vs w row) (mask_at ws w row) ≡ b → d ≡ b
      at true p true q = refl
      at false p false q = refl
      at true p false q =
          let same : (a : ℕ) → a < 64 * w → mask_at vs w row a ≡ mask_at ws w row a =
          λ a l. eqb-true _ _ (all_below-at (64 * w) (λ a. eqb (mask_at vs w row a) (mask_at ws w row a)) (not-false _ q) a l) in
          clash (differs ws vs row (3 * w)) p (differs-cong ws vs ws row (3 * w) (masks-word same) ∙ differs_self ws row (3 * w))
      at false p true q =
          clash (differ (64 * w) (mask_at vs w row) (mask_at ws w row)) q
          (ap not (all_below-all (64 * w) (λ a. eqb (mask_at vs w row a) (mask_at ws w row a))
          (λ a l. eq-eqb (mask_at vs w row a) (mask_at ws w row a) (mask-cong ws vs w row a l
          (λ x m o. subst (λ (y : ℕ). get_or vs y 0 ≡ get_or ws y 0) (omega arith) (differs_false ws vs row (3 * w) p (x - row) (omega arith)))))))

-- what differs goes by the masks below the count
pub differ_as : (n : ℕ) (x x' y y' : ℕ → ℕ) → ((a : ℕ) → a < n → x a ≡ x' a) → ((a : ℕ) → a < n → y a ≡ y' a) → differ n x y ≡ differ n x' y'
unfolding all_below
differ_as n x x' y y' h k = ap not (every n (λ a l. ap₂ eqb (h a l) (k a l)))
  where
    every : (k : ℕ) → ((a : ℕ) → a < k → eqb (x a) (y a) ≡ eqb (x' a) (y' a)) → all_below k (λ a. eqb (x a) (y a)) ≡ all_below k (λ a. eqb (x' a) (y' a))
    every zero g = refl
    every (suc k) g = ap₂ ◌&&◌ (every k (λ a l. g a (omega arith))) (g k (omega arith))
