-- The masks of 64 arrays as three sets: a mask is below 8, is its three memberships, is united as its sets are, and is made of them set by set.
-- By arithmetic, and by tests that antt computes at every mask. Assumes nothing.
use mathlib.Core.Path.{◌≡◌, sym, ap, ap₂, ◌∙◌}
use mathlib.Core.Bool.{cond}
use Prim.Native.Nat.{ℕ, zero, suc, ◌+◌, ◌*◌, ◌/◌, ◌%◌, ◌<◌, max}
use native.Mathlib.Omega.{arith}
use lib.Bits.{bit_or, or_step}
use lib.Dec.{eqb, eqb→eq}
use Rattle.words.specs.Clauses.Row.{bit}
use Rattle.words.specs.Clauses.Change.{Chosen}
use Rattle.words.proofs.Bit.{bit-lt}
use Rattle.masks.specs.declared.Effect.{Effect}
use Rattle.masks.specs.Step.{step_of}
use Rattle.masks.specs.Clauses.Sets.{mask_of, StepBits}
use Rattle.masks.proofs.Finite.{every_below, at-below}

module _ (x y z : ℕ) (hx : x < 2) (hy : y < 2) (hz : z < 2) where
  pub mask_lt : mask_of x y z < 8
  mask_lt = omega arith

  half : mask_of x y z / 2 ≡ y + 2 * z
  half = omega arith

  digit_none : mask_of x y z % 2 ≡ x
  digit_none = omega arith

-- of two words of masks that are w apart the set chooses: where it has an array, that of the larger mask
pub chosen_bits : {e : Effect} {near far mask : ℕ → ℕ} {s set b a r : ℕ} (w : ℕ) → StepBits e far s b → StepBits e near s a → Chosen set b a r
    → ((j : ℕ) → near j + w ≡ far j) → ((j : ℕ) → near j + w * bit set j ≡ mask j) → StepBits e mask s r
chosen_bits {e} {near} {s = s} {set = set} {b = b} {a = a} w with without chosen apart whole = record {
  member = λ j l. chosen.member j ∙ (picked j l (bit set j) (bit-lt set j) ∙ ap (λ (m : ℕ). bit (step_of e m) s) (whole j));
}
  where
    picked : (j : ℕ) → j < 64 → (x : ℕ) → x < 2 → cond (eqb x 1) (bit b j) (bit a j) ≡ bit (step_of e (near j + w * x)) s
    picked j l zero h = without.member j l ∙ ap (λ (m : ℕ). bit (step_of e m) s) (omega arith)
    picked j l (suc zero) h = with.member j l ∙ ap (λ (m : ℕ). bit (step_of e m) s) (sym (apart j) ∙ omega arith)
    picked j l (suc (suc x)) h = absurd (omega arith)

-- a mask of states is that of its bits
pub mask_of_bits : (m : ℕ) → m < 8 → mask_of (bit m 0) (bit m 1) (bit m 2) ≡ m
unfolding bit
mask_of_bits m h = eqb→eq _ _ (at-below 8 (λ m. eqb (mask_of (bit m 0) (bit m 1) (bit m 2)) m) tt m h)

-- a mask is its memberships
pub mask-same : (x y z x' y' z' : ℕ) → x < 2 → y < 2 → z < 2 → x' < 2 → y' < 2 → z' < 2 → mask_of x y z ≡ mask_of x' y' z' → (x ≡ x') × (y ≡ y') × (z ≡ z')
mask-same x y z x' y' z' hx hy hz hx' hy' hz' e = (omega arith, omega arith, omega arith)

-- and is united as they are
pub mask-or : (x y z x' y' z' : ℕ) → x < 2 → y < 2 → z < 2 → x' < 2 → y' < 2 → z' < 2
    → bit_or (mask_of x y z) (mask_of x' y' z') ≡ mask_of (max x x') (max y y') (max z z')
mask-or x y z x' y' z' hx hy hz hx' hy' hz' =
    or_step (mask_of x y z) (mask_of x' y' z')
    ∙ ap₂ (λ (p q : ℕ). bit_or p q * 2 + max (mask_of x y z % 2) (mask_of x' y' z' % 2)) (half x y z hx hy hz) (half x' y' z' hx' hy' hz')
    ∙ ap₂ (λ (p q : ℕ). p * 2 + q) (rest ∙ ap₂ (λ (p q : ℕ). p * 2 + q) last (ap₂ max (low y z hy) (low y' z' hy')))
    (ap₂ max (digit_none x y z hx hy hz) (digit_none x' y' z' hx' hy' hz'))
    ∙ omega arith
  where
    low : (a b : ℕ) → a < 2 → (a + 2 * b) % 2 ≡ a
    low a b h = omega arith

    rest : bit_or (y + 2 * z) (y' + 2 * z') ≡ bit_or ((y + 2 * z) / 2) ((y' + 2 * z') / 2) * 2 + max ((y + 2 * z) % 2) ((y' + 2 * z') % 2)
    rest = or_step (y + 2 * z) (y' + 2 * z')

    last : bit_or ((y + 2 * z) / 2) ((y' + 2 * z') / 2) ≡ max z z'
    last =
        let p : (y + 2 * z) / 2 ≡ z = omega arith in
        let q : (y' + 2 * z') / 2 ≡ z' = omega arith in
        ap₂ bit_or p q ∙ eqb→eq _ _ (at-below 2 (λ b. eqb (bit_or z b) (max z b)) (at-below 2 (λ a. every_below 2 (λ b. eqb (bit_or a b) (max a b))) tt z hz) z' hz')
