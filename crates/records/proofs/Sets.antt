-- The words of a set: bit j of word w is 1 exactly where 64 w + j is an element. By the bits of a union and of a power of two,
-- and induction on the number of elements.
use Prim.Native.Nat.{ℕ, zero, suc, ◌+◌, ◌*◌, ◌/◌, ◌%◌, ◌^◌, ◌<◌, max}
use native.Mathlib.Omega.{arith}
use native.Mathlib.Nat.{eq-or-lt_of_le, le_of_suc-le-suc}
use mathlib.Core.Logic.{⊎_elim, ◌↔◌}
use mathlib.Core.Bool.{Bool, true, false, cond}
use mathlib.Core.List.Memᴰ
use mathlib.Core.List.{List, Memᴰ}
use mathlib.Core.Path.{◌≡◌, refl, sym}
use lib.Bits.{or_lt}
use lib.Dec.{eqb, lit<}
use lib.Pow.{pow-lt}
use borrow.Author.Tests.{eqb-true, eqb-false, eq-eqb}
use Rattle.words.specs.Clauses.Row.{bit}
use Rattle.words.proofs.Bit.{bit-lt, bit-or, bit_of_zero, bit-pow-same, bit-pow-other}
use Rattle.flow.specs.Flow.{statement}
use Rattle.flow.specs.Format.{tabulate, flow_of, record_place, statements_of, reference_count, reference_at}
use Rattle.records.specs.Clauses.Fields.{bit_in, set_word}
use Rattle.records.proofs.Tabulated.{member_of, member-at}
use Rattle.records.proofs.Statements.{says}

bit_in-lt : (w a : ℕ) → bit_in w a < 2 ^ 64
bit_in-lt w a = go (eqb (a / 64) w)
  where
    go : (b : Bool) → cond b (2 ^ (a % 64)) 0 < 2 ^ 64
    go true = pow-lt {i = a % 64} {j = 64} (omega arith)
    go false = lit< tt

pub word_lt : (n : ℕ) (f : ℕ → ℕ) (w : ℕ) → set_word n f w < 2 ^ 64
unfolding set_word
word_lt zero f w = lit< tt
word_lt (suc n) f w = or_lt 64 (set_word n f w) (bit_in w (f n)) (word_lt n f w) (bit_in-lt w (f n))

bit-same : (w j a : ℕ) → j < 64 → a ≡ 64 * w + j → bit (bit_in w a) j ≡ 1
bit-same w j a l e =
    let low : a % 64 ≡ j = omega arith in
    rw (eq-eqb (a / 64) w (omega arith)) (rw low (bit-pow-same j))

bit-only : (w j a : ℕ) → j < 64 → bit (bit_in w a) j ≡ 1 → a ≡ 64 * w + j
bit-only w j a l h = go (eqb (a / 64) w) refl h
  where
    low : (b : Bool) → eqb j (a % 64) ≡ b → bit (2 ^ (a % 64)) j ≡ 1 → j ≡ a % 64
    low true e h = eqb-true j (a % 64) e
    low false e h = absurd (omega (arith, bit-pow-other (a % 64) j (eqb-false j (a % 64) e)))

    go : (b : Bool) → eqb (a / 64) w ≡ b → bit (cond b (2 ^ (a % 64)) 0) j ≡ 1 → a ≡ 64 * w + j
    go true e h = omega (arith, eqb-true (a / 64) w e, low (eqb j (a % 64)) refl h)
    go false e h = absurd (omega (arith, bit_of_zero j))

module _ (f : ℕ → ℕ) (w j : ℕ) (l : j < 64) where
  more : (n : ℕ) → bit (set_word (suc n) f w) j ≡ max (bit (set_word n f w) j) (bit (bit_in w (f n)) j)
  unfolding set_word
  more n = bit-or (set_word n f w) (bit_in w (f n)) j

  pub has-bit : (n k : ℕ) → k < n → f k ≡ 64 * w + j → bit (set_word n f w) j ≡ 1
  has-bit zero k m e = absurd (omega arith)
  has-bit (suc n) k m e =
      ⊎_elim
      (λ q. omega (arith, more n, bit-lt (set_word n f w) j, bit-same w j (f n) l (rw (← q) e)))
      (λ b. omega (arith, more n, bit-lt (bit_in w (f n)) j, has-bit n k b e))
      (eq-or-lt_of_le (le_of_suc-le-suc m))

  pub bit-has : (n : ℕ) → bit (set_word n f w) j ≡ 1 → (k : ℕ) × (k < n) × (f k ≡ 64 * w + j)
  unfolding set_word
  bit-has zero h = absurd (omega (arith, bit_of_zero j))
  bit-has (suc n) h = go (eqb (bit (set_word n f w) j) 1) refl (λ e. bit-has n e)
    where
      go : (b : Bool) → eqb (bit (set_word n f w) j) 1 ≡ b → (bit (set_word n f w) j ≡ 1 → (k : ℕ) × (k < n) × (f k ≡ 64 * w + j))
          → (k : ℕ) × (k < suc n) × (f k ≡ 64 * w + j)
      go true e found = let r = found (eqb-true _ 1 e) in let below = r.1 in (r.0, omega arith, r.2)
      go false e found =
          let not-before = eqb-false (bit (set_word n f w) j) 1 e in
          (n, omega arith, bit-only w j (f n) l (omega (arith, more n, bit-lt (set_word n f w) j)))

-- the words of a statement's references are the set of those references in the flow
pub references-set : (s : List ℕ) (i w j : ℕ) → i < statements_of s → j < 64
    → (bit (set_word (reference_count s (record_place s i)) (reference_at s (record_place s i)) w) j ≡ 1)
    ↔ Memᴰ (64 * w + j) (statement (flow_of s) i).references
references-set s i w j m l =
    rw (says s i m).references (λ h. here (bit-has (reference_at s p) w j l (reference_count s p) h), λ h. there (member_of (reference_at s p) (reference_count s p) h))
  where
    p : ℕ
    p = record_place s i

    here : (k : ℕ) × (k < reference_count s p) × (reference_at s p k ≡ 64 * w + j) → Memᴰ (64 * w + j) (tabulate (reference_count s p) (reference_at s p))
    here r = Memᴰ.cast (sym r.2) (member-at (reference_at s p) (reference_count s p) r.0 r.1)

    there : (k : ℕ) × (k < reference_count s p) × (64 * w + j ≡ reference_at s p k) → bit (set_word (reference_count s p) (reference_at s p) w) j ≡ 1
    there r = has-bit (reference_at s p) w j l (reference_count s p) r.0 r.1 (sym r.2)
