-- The bits of a number: of a union, a difference, a power of two and a shift, and that a number is its bits.
-- By the digit steps of the library, and by induction on the digits. Assumes nothing.
use mathlib.Core.Path.{◌≡◌, refl, sym, ap, ◌∙◌}
use mathlib.Core.Bool.{not}
use mathlib.Core.Logic.{◌≢◌}
use Prim.Native.Nat.{ℕ, zero, suc, ◌+◌, ◌-◌, ◌*◌, ◌/◌, ◌%◌, ◌^◌, ◌≤◌, ◌<◌, min, max}
use native.Mathlib.Nat.{div_self, div-eq_of_lt, mod-eq_of_lt, one-mul, sub-zero, div-one, pow-suc, zero-div, lt_of_lt_of_le, le_of_suc-le-suc, not-suc-le-zero}
use native.Mathlib.Numerals.{one-add}
use native.Mathlib.Decide.{dec_lt, ℕ_discrete}
use native.Mathlib.Omega.{arith}
use borrow.Author.Tests.{eq-eqb, ne_eqb}
use lib.Arith.{bin_ind}
use lib.Bits.{bit_and, bit_or, or_shr, or_step, and_shr, and_step, and_mask}
use lib.Count.{count_trailing_zeros, under}
use lib.Dec.{eqb}
use lib.Pow.{pow_mono, pow-lt, pow_pos, shr-shr}
use Rattle.words.specs.Clauses.Row.{bit}
use Rattle.words.specs.Clauses.Change.{without}

pub bit-lt : (n k : ℕ) → bit n k < 2
unfolding bit
bit-lt n k = omega arith

pub bit-shr : (n j k : ℕ) → bit (n / 2 ^ j) k ≡ bit n (j + k)
unfolding bit
bit-shr n j k = ap (λ (x : ℕ). x % 2) (shr-shr n j k)

pub bit-first : (n : ℕ) → bit n 0 ≡ n % 2
unfolding bit
bit-first n = ap (λ (x : ℕ). x % 2) (div-one n)

bit-suc : (n k : ℕ) → bit n (suc k) ≡ bit (n / 2) k
bit-suc n k = ap (bit n) (sym (one-add k)) ∙ sym (bit-shr n 1 k)

pub bit_of_zero : (k : ℕ) → bit 0 k ≡ 0
unfolding bit
bit_of_zero k = ap (λ (x : ℕ). x % 2) (zero-div (2 ^ k))

-- a number of j digits has no bit from j on
pub bit_high : {n j : ℕ} (k : ℕ) → n < 2 ^ j → j ≤ k → bit n k ≡ 0
unfolding bit
bit_high k h l = ap (λ (x : ℕ). x % 2) (div-eq_of_lt (lt_of_lt_of_le h (pow_mono l)))

pub bit-or : (a b k : ℕ) → bit (bit_or a b) k ≡ max (bit a k) (bit b k)
unfolding bit
bit-or a b k = ap (λ (x : ℕ). x % 2) (or_shr a b k) ∙ omega (arith, or_step (a / 2 ^ k) (b / 2 ^ k))

pub bit-and : (a b k : ℕ) → bit (bit_and a b) k ≡ min (bit a k) (bit b k)
unfolding bit
bit-and a b k = ap (λ (x : ℕ). x % 2) (and_shr a b k) ∙ omega (arith, and_step (a / 2 ^ k) (b / 2 ^ k))

-- the bits of `!b`, for a b of w digits
pub bit_not : (w b k : ℕ) → b < 2 ^ w → k < w → bit (2 ^ w - 1 - b) k ≡ 1 - bit b k
bit_not zero b k h l = absurd (not-suc-le-zero l)
bit_not (suc w) b zero h l = rw (bit-first (2 ^ suc w - 1 - b), bit-first b) (omega (arith, pow-suc 2 w, pow_pos w))
bit_not (suc w) b (suc k) h l =
    let half : (2 ^ suc w - 1 - b) / 2 ≡ 2 ^ w - 1 - b / 2 = omega (arith, pow-suc 2 w, pow_pos w) in
    let less : b / 2 < 2 ^ w = omega (arith, pow-suc 2 w) in
    bit-suc (2 ^ suc w - 1 - b) k ∙ ap (λ (x : ℕ). bit x k) half ∙ bit_not w (b / 2) k less (le_of_suc-le-suc l)
    ∙ ap (λ (x : ℕ). 1 - x) (sym (bit-suc b k))

-- the low j digits have the low j bits
pub bit-mod : (j n k : ℕ) → k < j → bit (n % 2 ^ j) k ≡ bit n k
bit-mod j n k l =
    ap (λ (x : ℕ). bit x k) (sym (and_mask n j)) ∙ bit-and n (2 ^ j - 1) k
    ∙ omega (arith, bit_not j 0 k (pow_pos j) l, bit_of_zero k, bit-lt n k, ap (λ (x : ℕ). bit x k) (sub-zero (2 ^ j - 1)))

pub bit-pow-same : (s : ℕ) → bit (2 ^ s) s ≡ 1
unfolding bit
bit-pow-same s = ap (λ (x : ℕ). x % 2) (div_self (pow_pos s))

pub bit-pow-other : (s k : ℕ) → k ≢ s → bit (2 ^ s) k ≡ 0
bit-pow-other zero zero d = absurd (d refl)
bit-pow-other zero (suc k) d = bit-suc 1 k ∙ bit_of_zero k
bit-pow-other (suc s) zero d = bit-first (2 ^ suc s) ∙ omega (arith, pow-suc 2 s)
bit-pow-other (suc s) (suc k) d =
    let half : 2 ^ suc s / 2 ≡ 2 ^ s = omega (arith, pow-suc 2 s) in
    bit-suc (2 ^ suc s) k ∙ ap (λ (x : ℕ). bit x k) half ∙ bit-pow-other s k (λ e. d (ap suc e))

-- a number whose bits are all 0 is 0
no_bits : (n : ℕ) → ((k : ℕ) → bit n k ≡ 0) → n ≡ 0
no_bits =
    bin_ind (λ (n : ℕ). ((k : ℕ) → bit n k ≡ 0) → n ≡ 0) (λ h. refl)
    (λ n ih h. omega (arith, ih (λ k. sym (bit-suc n k) ∙ h (suc k)), sym (bit-first n) ∙ h 0))

-- a number is its bits
pub bits_ext : (a b : ℕ) → ((k : ℕ) → bit a k ≡ bit b k) → a ≡ b
bits_ext =
    bin_ind (λ (a : ℕ). (b : ℕ) → ((k : ℕ) → bit a k ≡ bit b k) → a ≡ b)
    (λ b h. sym (no_bits b (λ k. sym (h k) ∙ bit_of_zero k)))
    (λ a ih b h. omega (arith, ih (b / 2) (λ k. sym (bit-suc a k) ∙ h (suc k) ∙ bit-suc b k), sym (bit-first a) ∙ h 0 ∙ bit-first b))

-- so two numbers of w digits are equal where those bits are
pub bits_below : (w a b : ℕ) → a < 2 ^ w → b < 2 ^ w → ((k : ℕ) → k < w → bit a k ≡ bit b k) → a ≡ b
bits_below w a b ha hb h = bits_ext a b (λ k. at k (dec_lt k w))
  where
    at : (k : ℕ) → Dec (k < w) → bit a k ≡ bit b k
    at k (yes l) = h k l
    at k (no l) =
        let past : w ≤ k = omega (arith, l) in
        bit_high k ha past ∙ sym (bit_high k hb past)

-- a member joined again changes nothing
pub or-member : (a s : ℕ) → bit a s ≡ 1 → bit_or a (2 ^ s) ≡ a
or-member a s h = bits_ext (bit_or a (2 ^ s)) a (λ k. bit-or a (2 ^ s) k ∙ at k (ℕ_discrete k s))
  where
    at : (k : ℕ) → Dec (k ≡ s) → max (bit a k) (bit (2 ^ s) k) ≡ bit a k
    at k (yes e) = rw e (omega (arith, bit-lt (2 ^ s) s))
    at k (no d) = omega (arith, bit-pow-other s k d)

-- so joining a bit changes a number when the bit was 0
pub or_changes : (a s : ℕ) → not (eqb (bit_or a (2 ^ s)) a) ≡ eqb (bit a s) 0
or_changes a s = at (ℕ_discrete (bit a s) 0)
  where
    at : Dec (bit a s ≡ 0) → not (eqb (bit_or a (2 ^ s)) a) ≡ eqb (bit a s) 0
    at (yes e) =
        let one : bit (bit_or a (2 ^ s)) s ≡ 1 = omega (arith, bit-or a (2 ^ s) s, bit-pow-same s) in
        simp (ne_eqb (bit_or a (2 ^ s)) a (λ q. absurd (omega (arith, ap (λ (x : ℕ). bit x s) q))), eq-eqb (bit a s) 0 e)
    at (no d) = simp (eq-eqb (bit_or a (2 ^ s)) a (or-member a s (omega (arith, d, bit-lt a s))), ne_eqb (bit a s) 0 d)

-- `1 << s`
pub one_shl : (s : ℕ) → s < 64 → 1 * 2 ^ s % 2 ^ 64 ≡ 2 ^ s
one_shl s h = ap (λ (x : ℕ). x % 2 ^ 64) (one-mul (2 ^ s)) ∙ mod-eq_of_lt (pow-lt {j = 64} h)

-- the bits of a word less those of another
pub bit-without : (a b k : ℕ) → a < 2 ^ 64 → b < 2 ^ 64 → bit (without a b) k ≡ min (bit a k) (1 - bit b k)
unfolding without
bit-without a b k ha hb = bit-and a (2 ^ 64 - 1 - b) k ∙ at (dec_lt k 64)
  where
    at : Dec (k < 64) → min (bit a k) (bit (2 ^ 64 - 1 - b) k) ≡ min (bit a k) (1 - bit b k)
    at (yes l) = ap (min (bit a k)) (bit_not 64 b k hb l)
    at (no l) =
        let past : 64 ≤ k = omega (arith, l) in
        omega (arith, bit_high k ha past)

-- the trailing zeros are bits that are 0
pub trailing_zero : (w n k : ℕ) → k < count_trailing_zeros w n → bit n k ≡ 0
unfolding count_trailing_zeros
trailing_zero zero n k h = absurd (not-suc-le-zero h)
trailing_zero (suc w) n k h = at (trailing_zero w (n / 2)) (n % 2) refl k h
  where
    at : ((k : ℕ) → k < count_trailing_zeros w (n / 2) → bit (n / 2) k ≡ 0) → (d : ℕ) → n % 2 ≡ d
        → (k : ℕ) → k < under d (count_trailing_zeros w (n / 2)) → bit n k ≡ 0
    at rest zero e zero l = bit-first n ∙ e
    at rest zero e (suc k) l = bit-suc n k ∙ rest k (le_of_suc-le-suc l)
    at rest (suc d) e k l = absurd (not-suc-le-zero l)

-- and the next bit is 1
pub trailing_one : (w n : ℕ) → count_trailing_zeros w n < w → bit n (count_trailing_zeros w n) ≡ 1
unfolding count_trailing_zeros
trailing_one zero n h = absurd (not-suc-le-zero h)
trailing_one (suc w) n h = at (trailing_one w (n / 2)) (n % 2) refl h
  where
    at : (count_trailing_zeros w (n / 2) < w → bit (n / 2) (count_trailing_zeros w (n / 2)) ≡ 1) → (d : ℕ) → n % 2 ≡ d
        → under d (count_trailing_zeros w (n / 2)) < suc w → bit n (under d (count_trailing_zeros w (n / 2))) ≡ 1
    at rest zero e l = bit-suc n (count_trailing_zeros w (n / 2)) ∙ rest (le_of_suc-le-suc l)
    at rest (suc d) e l = bit-first n ∙ omega arith

-- a number of w digits that is not 0 has fewer than w
pub trailing_lt : (w n : ℕ) → n < 2 ^ w → 0 < n → count_trailing_zeros w n < w
trailing_lt w n h p = at (dec_lt (count_trailing_zeros w n) w)
  where
    at : Dec (count_trailing_zeros w n < w) → count_trailing_zeros w n < w
    at (yes l) = l
    at (no l) =
        let none : n ≡ 0 = bits_below w n 0 h (pow_pos w) (λ k lt. trailing_zero w n k (omega (arith, l)) ∙ sym (bit_of_zero k)) in
        omega arith
