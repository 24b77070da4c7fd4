-- The listing's decimal is the number that `io::decimal` writes: `places n` is the fewest digits that hold n, and there is only one such number.
-- By the recursion of `places`, a digit at a time; two numbers of digits that differ would have a power of ten between them. Assumes nothing.
use Prim.Native.Nat.{ℕ, zero, suc, ◌*◌, ◌/◌, ◌^◌, ◌≤◌, ◌<◌}
use mathlib.Core.Bool.{Bool, true, false, cond}
use mathlib.Core.Path.{◌≡◌, refl}
use native.Mathlib.Nat.{pow-le-pow_right}
use native.Mathlib.Numerals.{unary_clauses}
use native.Mathlib.Omega.{arith}
use borrow.Author.Tests.{ltb-true, ltb-false}
use lib.Dec.{ltb}
use Rattle.io.specs.Digits.{IsDigitCount}
use Rattle.theory.specs.Listing.{places_within, places}

-- a digit more
digit_more : (n p : ℕ) → 10 ≤ n → IsDigitCount 10 1 (n / 10) p → IsDigitCount 10 1 n (suc p)
digit_more n zero l (m, h, q) = absurd (omega arith)
digit_more n (suc zero) l (m, h, q) = (omega arith, omega arith, λ _. omega arith)
digit_more n (suc (suc p)) l (m, h, q) =
    let r : 10 ^ p * 10 ≤ n / 10 = simp unary_clauses at (q (omega arith)) in
    (omega arith, omega arith, λ _. simp unary_clauses (omega arith))

within_fewest : (k n : ℕ) → n < 10 ^ suc k → IsDigitCount 10 1 n (places_within k n)
unfolding places_within
within_fewest zero n h = (omega arith, h, λ l. omega arith)
within_fewest (suc k) n h = go (ltb n 10) refl (within_fewest k (n / 10) (omega arith))
  where
    go : (b : Bool) → ltb n 10 ≡ b → IsDigitCount 10 1 (n / 10) (places_within k (n / 10)) → IsDigitCount 10 1 n (cond b 1 (suc (places_within k (n / 10))))
    go true e i = (omega arith, omega (arith, ltb-true n 10 e), λ l. omega arith)
    go false e i = digit_more n (places_within k (n / 10)) (ltb-false n 10 e) i

-- a number is below ten to the power of one more than it
below_power : (n : ℕ) → n < 10 ^ suc n
below_power zero = omega arith
below_power (suc n) = omega (arith, below_power n)

pub places_fewest : (n : ℕ) → IsDigitCount 10 1 n (places n)
unfolding places
places_fewest n = within_fewest n n (below_power n)

-- no other number of digits is the fewest
not_more : (b n j k : ℕ) → 0 < b → IsDigitCount b 1 n j → IsDigitCount b 1 n k → j < k → ⊥
not_more b n j zero p _ _ l = elim l [ ]
not_more b n j (suc k) p (o, h, _) (_, _, q) l =
    let m : b ^ j ≤ b ^ k = pow-le-pow_right p (omega arith) in
    let r : b ^ k ≤ n = simp unary_clauses at (q (omega arith)) in
    omega arith

pub fewest_only : (b n j k : ℕ) → 0 < b → IsDigitCount b 1 n j → IsDigitCount b 1 n k → j ≡ k
fewest_only b n j k p h i = omega (arith, not_more b n j k p h i, not_more b n k j p i h)
