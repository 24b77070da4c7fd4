-- The text of every input is no longer than the buffer: 11 bytes of the first line, and 108 a statement for 96 statements.
-- By the digits of the numbers: a statement has two, a line five, arrays are 64, and a word has 16.
use Prim.Native.Nat.{ℕ, zero, suc, ◌+◌, ◌-◌, ◌*◌, ◌/◌, ◌%◌, ◌^◌, ◌≤◌, ◌<◌}
use native.Mathlib.Omega.{arith}
use native.Mathlib.Nat.{pow-le-pow_right}
use mathlib.Core.List.{List, [], ◌∷◌, append-nil}
use mathlib.Core.Path.{◌≡◌, refl, ◌∙◌}
use lib.ListN.{length, length-append}
use Rattle.io.specs.Digits.{last_digits, hex_digit_ascii, IsDigitCount}
use Rattle.flow.specs.Limits.{max_arrays, max_names}
use Rattle.flow.specs.Flow.{Flow, size, statement}
use Rattle.records.proofs.Tabulated.{length-tabulate}
use Rattle.theory.specs.Lists.{concat_map, up_to}
use Rattle.theory.specs.Listing.{letter_r, places, decimal, hexadecimal, line_of, mask_digits, first_line, statement_line, flow_text}
use Rattle.theory.proofs.Listing.{places_fewest}
use Rattle.theory.proofs.Lists.{concat_map-append}
use Rattle.listing.specs.Text.{served}

length_digits : (b k n : ℕ) → length (last_digits b k n) ≡ k
length_digits b zero n = refl
length_digits b (suc k) n = length-append (last_digits b k (n / b)) (hex_digit_ascii (n % b) ∷ []) ∙ omega (arith, length_digits b k (n / b))

-- k digits hold a number below 10 ^ k

too_many : (n k p : ℕ) → n < 10 ^ suc k → IsDigitCount 10 1 n p → suc k < p → ⊥
too_many n k p h (_, _, q) l =
    let m : 10 ^ suc k ≤ 10 ^ (p - 1) = pow-le-pow_right (omega arith) {i = suc k} {j = p - 1} (omega arith) in
    omega (arith, q (omega arith))

decimal-length : (n k : ℕ) → n < 10 ^ suc k → length (decimal n) ≤ suc k
unfolding decimal
decimal-length n k h = omega (arith, length_digits 10 (places n) n, too_many n k (places n) h (places_fewest n))

hex_length : (w : ℕ) → length (hexadecimal w) ≡ 16
unfolding hexadecimal
hex_length w = length_digits 16 16 w

mask-length : (k : ℕ) (mask : ℕ → ℕ) → k ≤ max_arrays → length (mask_digits k mask) ≤ max_arrays
unfolding mask_digits
mask-length zero mask h = omega arith
mask-length (suc k) mask h = omega (arith, length-tabulate (λ a. hex_digit_ascii (mask a)) (suc k))

lines-length : (n : ℕ) (line : ℕ → List ℕ) → ((i : ℕ) → i < n → length (line i) ≤ 108) → length (concat_map line (up_to n)) ≤ 108 * n
unfolding up_to concat_map
lines-length zero line h = omega arith
lines-length (suc n) line h =
    rw (concat_map-append line (up_to n) (n ∷ []), append-nil (line n))
    (omega (arith, length-append (concat_map line (up_to n)) (line n), lines-length n line (λ i l. h i (omega arith)), h n (omega arith)))

-- a flow that the areas serve
pub record Served (f : Flow) : Type 0 where
  pub statements : size f ≤ served
  pub arrays : f.arrays ≤ max_arrays
  pub names : f.names ≤ max_names
  pub line : (i : ℕ) → i < size f → (statement f i).line < 65536

module _ (f : Flow) (mask : ℕ → ℕ → ℕ) (live_in live_out : ℕ → ℕ) (h : Served f) where
  first-length : length (first_line f) ≤ 11
  unfolding first_line line_of
  first-length =
      simp length-append
      (omega (arith, decimal-length (size f) 1 (omega (arith, h.statements)), decimal-length f.arrays 1 (omega (arith, h.arrays)), decimal-length f.names 1 (omega (arith, h.names))))

  statement-length : (i : ℕ) → i < size f → length (statement_line f mask live_in live_out i) ≤ 108
  unfolding statement_line line_of
  statement-length i l =
      simp length-append
      (omega (
        arith,
        decimal-length i 1 (omega (arith, h.statements)),
        decimal-length (statement f i).line 4 (omega (arith, h.line i l)),
        mask-length f.arrays (mask i) h.arrays,
        hex_length (live_in i),
        hex_length (live_out i),
      ))

  pub text-length : length (flow_text f mask live_in live_out) ≤ 11 + 108 * served
  unfolding flow_text
  text-length =
      omega (
        arith,
        length-append (first_line f) (concat_map (statement_line f mask live_in live_out) (up_to (size f))),
        first-length,
        lines-length (size f) (statement_line f mask live_in live_out) statement-length,
        h.statements,
      )

-- a refusal's line, whatever its numbers are
pub refusal_length : (number place : ℕ) → number < 2 ^ 64 → place < 2 ^ 64 → length (line_of ((letter_r ∷ []) ∷ decimal number ∷ decimal place ∷ [])) ≤ 44
unfolding line_of
refusal_length number place n p = simp length-append (omega (arith, decimal-length number 19 (omega arith), decimal-length place 19 (omega arith)))

-- a number of 64 bits has at most 20 digits
pub decimal_fits : (n : ℕ) → n < 2 ^ 64 → length (decimal n) ≤ 20
decimal_fits n h = decimal-length n 19 (omega arith)
