-- The digits that `io` writes of a number are the field of the definition: in decimal there is one fewest number of digits, and 16 hexadecimal digits
-- hold every word.
use Prim.Native.Nat.{ℕ, ◌-◌, ◌^◌, ◌≤◌, ◌<◌}
use native.Mathlib.Omega.{arith}
use mathlib.Core.List.{List}
use mathlib.Core.Logic.{⊎_elim}
use native.Mathlib.Nat.{pow-le-pow_right, eq-or-lt_of_le}
use mathlib.Core.Path.{◌≡◌, sym, ap, ◌∙◌}
use Rattle.io.specs.Digits.{last_digits, IsDigitCount}
use Rattle.theory.specs.Listing.{places, decimal, hexadecimal}
use Rattle.theory.proofs.Listing.{places_fewest, fewest_only}

pub decimal_spelled : {n r : ℕ} {t : List ℕ} → IsDigitCount 10 1 n r → t ≡ last_digits 10 r n → t ≡ decimal n
unfolding decimal
decimal_spelled {n} {r} f e = e ∙ ap (λ k. last_digits 10 k n) (fewest_only 10 n r (places n) (omega arith) f (places_fewest n))

word-places : (n r : ℕ) → n < 2 ^ 64 → IsDigitCount 16 16 n r → 16 ≡ r
word-places n r h (l, _, q) =
    ⊎_elim
    (λ e. e)
    (λ (m : 16 < r). let p : 16 ^ 16 ≤ 16 ^ (r - 1) = pow-le-pow_right (omega arith) {i = 16} {j = r - 1} (omega arith) in absurd (omega (arith, q m)))
    (eq-or-lt_of_le l)

pub hex_spelled : {n r : ℕ} {t : List ℕ} → n < 2 ^ 64 → IsDigitCount 16 16 n r → t ≡ last_digits 16 r n → t ≡ hexadecimal n
unfolding hexadecimal
hex_spelled {n} {r} h f e = e ∙ sym (ap (λ k. last_digits 16 k n) (word-places n r h f))
