-- Little-endian numbers over a list of bytes: a number of w bytes is below 256 ^ w, and it is what std reads from those bytes.
-- By induction on the width.
use Prim.Native.Nat.{ℕ, zero, suc, ◌+◌, ◌*◌, ◌/◌, ◌^◌, ◌≤◌, ◌<◌}
use native.Mathlib.Nat.{add-zero, mul_assoc, one-mul, pow-suc, div-eq_of_lt, le-div_iff_mul-le}
use native.Mathlib.Omega.{arith}
use mathlib.Core.List.{List}
use mathlib.Core.Bool.{Bool, true, false}
use mathlib.Core.Path.{◌≡◌, refl, sym, ap, subst, ◌∙◌}
use borrow.Author.Tests.{eq-eqb, ne_eqb, ltb-true, ltb-false}
use lib.Dec.{eqb, ltb}
use lib.ListN.{get_or, drop}
use mir.Syntax.{Width, w8, w16, w32, w64, w128}
use Rattle.std.specs.Int.{byte_len, byte_worth, sum_through, from_le_bytes}
use Rattle.std.specs.List.{slice_range}
use Rattle.std.proofs.lemmas.List.{get_or-take, get_or-drop}
use mir.Val.{Fits}
use Rattle.flow.specs.Format.{le_at}

pub le_at-lt : (w : ℕ) (s : List ℕ) (at : ℕ) → ((i : ℕ) → Fits w8 (get_or s i 0)) → le_at w s at < 256 ^ w
unfolding le_at
le_at-lt zero s at bytes = omega arith
le_at-lt (suc w) s at bytes = omega (arith, bytes at, le_at-lt w s (at + 1) bytes)

-- what std's `from_le_bytes` reads from the bytes at a place

byte-worth : (i b : ℕ) → byte_worth i b ≡ b * 256 ^ i
byte-worth zero b = omega arith
byte-worth (suc i) b = refl

-- the last byte counts the most
last_byte : (w : ℕ) (s : List ℕ) (at : ℕ) → le_at (suc w) s at ≡ le_at w s at + get_or s (at + w) 0 * 256 ^ w
unfolding le_at
last_byte zero s at = rw (add-zero at) (omega arith)
last_byte (suc w) s at =
    let next : at + 1 + w ≡ at + suc w = omega arith in
    let rest : le_at (suc w) s (at + 1) ≡ le_at w s (at + 1) + get_or s (at + suc w) 0 * 256 ^ w =
    last_byte w s (at + 1) ∙ ap (λ i. le_at w s (at + 1) + get_or s i 0 * 256 ^ w) next in
    let high : get_or s (at + suc w) 0 * 256 ^ suc w ≡ get_or s (at + suc w) 0 * 256 ^ w * 256 = rw pow-suc (sym (mul_assoc (get_or s (at + suc w) 0) (256 ^ w) 256)) in
    omega (arith, rest, high)

bytes_sum : (n : ℕ) (bs s : List ℕ) (at : ℕ) → ((i : ℕ) → i ≤ n → get_or bs i 0 ≡ get_or s (at + i) 0)
    → sum_through (λ i. byte_worth i (get_or bs i 0)) n ≡ le_at (suc n) s at
unfolding le_at
bytes_sum zero bs s at same = rw (same 0 (omega arith), add-zero at) (omega arith)
bytes_sum (suc n) bs s at same =
    let before = bytes_sum n bs s at (λ i l. same i (omega arith)) in
    let worth = byte-worth (suc n) (get_or bs (suc n) 0) ∙ ap (λ b. b * 256 ^ suc n) (same (suc n) (omega arith)) in
    omega (arith, before, worth, last_byte (suc n) s at)

pub reads_bytes : (w : Width) (s : List ℕ) (at : ℕ) → from_le_bytes w (slice_range s at (at + byte_len w)) ≡ le_at (byte_len w) s at
reads_bytes w s at = go w
  where
    through : (n : ℕ) → sum_through (λ i. byte_worth i (get_or (slice_range s at (at + suc n)) i 0)) n ≡ le_at (suc n) s at
    through n = bytes_sum n (slice_range s at (at + suc n)) s at (λ i l. get_or-take _ (drop at s) i 0 (omega arith) ∙ get_or-drop at s i 0)

    go : (w : Width) → from_le_bytes w (slice_range s at (at + byte_len w)) ≡ le_at (byte_len w) s at
    go w8 = through 0
    go w16 = through 1
    go w32 = through 3
    go w64 = through 7
    go w128 = through 15

-- a quotient is 0 exactly where the number is below the divisor
pub div-is-zero : (a m : ℕ) → 0 < m → eqb (a / m) 0 ≡ ltb a m
div-is-zero a m h = go (ltb a m) refl
  where
    go : (t : Bool) → ltb a m ≡ t → eqb (a / m) 0 ≡ t
    go true e = eq-eqb (a / m) 0 (div-eq_of_lt (ltb-true a m e))
    go false e =
        let l = (le-div_iff_mul-le h).1 (subst (λ x. x ≤ a) (sym (one-mul m)) (ltb-false a m e)) in
        ne_eqb (a / m) 0 (λ z. omega arith)
