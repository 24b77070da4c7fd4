-- The bytes of a number that is given by its bytes. By induction on how many there are. Assumes nothing.
use Prim.Native.Nat.{ℕ, zero, suc, ◌+◌, ◌*◌, ◌/◌, ◌%◌, ◌^◌, ◌<◌}
use native.Mathlib.Nat.{div-one, mul-suc, le_of_suc-le-suc, not-suc-le-zero}
use native.Mathlib.Omega.{arith}
use mathlib.Core.Path.{◌≡◌, sym, ap, ◌∙◌}
use lib.Pow.{shr-shr}
use Rattle.words.specs.Clauses.Byte.{byte_of, bytes}

byte_of-suc : (n j : ℕ) → byte_of n (suc j) ≡ byte_of (n / 256) j
unfolding byte_of
byte_of-suc n j =
    let place : 8 * suc j ≡ 8 + 8 * j = omega (arith, mul-suc 8 j) in
    ap (λ (x : ℕ). n / 2 ^ x % 256) place ∙ ap (λ (x : ℕ). x % 256) (sym (shr-shr n 8 (8 * j)))

pub byte_at : (f : ℕ → ℕ) (k j : ℕ) → ((i : ℕ) → f i < 256) → j < k → byte_of (bytes f k) j ≡ f j
unfolding byte_of bytes
byte_at f zero j h l = absurd (not-suc-le-zero l)
byte_at f (suc k) zero h l = ap (λ (x : ℕ). x % 256) (div-one (bytes f (suc k))) ∙ omega (arith, h 0)
byte_at f (suc k) (suc j) h l =
    let rest : bytes f (suc k) / 256 ≡ bytes (λ i. f (suc i)) k = omega (arith, h 0) in
    byte_of-suc (bytes f (suc k)) j ∙ ap (λ (x : ℕ). byte_of x j) rest ∙ byte_at (λ i. f (suc i)) k j (λ i. h (suc i)) (le_of_suc-le-suc l)
