-- The next member of a row: numbers that are no members are passed over, a member is the answer, and what the answer means.
-- By induction on the numbers that are left. Assumes nothing.
use mathlib.Core.Path.{◌≡◌, refl, sym, ap, ap₂, ◌∙◌, subst}
use mathlib.Core.Bool.{Bool, true, false, cond}
use mathlib.Core.List.{List}
use Prim.Native.Nat.{ℕ, zero, suc, ◌+◌, ◌-◌, ◌*◌, ◌/◌, ◌%◌, ◌^◌, ◌≤◌, ◌<◌, zero-le, suc-le-suc, min}
use native.Mathlib.Nat.{le_refl, lt_of_le_of_lt, zero-add, add-zero, suc-add, div-one}
use native.Mathlib.Decide.{dec_lt, ℕ_discrete}
use native.Mathlib.Omega.{arith}
use borrow.Author.Tests.{eqb-true, eqb-false}
use lib.Count.{count_trailing_zeros}
use lib.Dec.{eqb}
use lib.ListN.{get_or}
use lib.Pow.{shr_lt, shr_le}
use Rattle.words.specs.Clauses.Row.{bit, has, seek, next_member, First}
use Rattle.words.proofs.Bit.{bit-shr, bit_high, bit_of_zero, trailing_zero, trailing_one, trailing_lt}
use Rattle.words.proofs.Row.{has-lt}

seek-skip : (ws : List ℕ) (base i d n : ℕ) → ((k : ℕ) → k < d → has ws base (i + k) ≡ 0) → seek ws base i (d + n) ≡ seek ws base (i + d) n
unfolding seek
seek-skip ws base i zero n h = ap₂ (seek ws base) (sym (add-zero i)) (zero-add n)
seek-skip ws base i (suc d) n h =
    let here : has ws base i ≡ 0 = ap (has ws base) (sym (add-zero i)) ∙ h 0 (suc-le-suc zero-le) in
    let on : i + 1 + d ≡ i + suc d = omega arith in
    ap (seek ws base i) (suc-add d n)
    ∙ ap (λ (b : Bool). cond b i (seek ws base (i + 1) (d + n))) (ap (λ (x : ℕ). eqb x 1) here)
    ∙ seek-skip ws base (i + 1) d n (λ k l. subst (λ (x : ℕ). has ws base x ≡ 0) (omega arith) (h (suc k) (suc-le-suc l)))
    ∙ ap (λ (x : ℕ). seek ws base x n) on

-- d numbers that are no members are passed over
pub next-skip : (ws : List ℕ) (base i d bound : ℕ) → ((k : ℕ) → k < d → has ws base (i + k) ≡ 0) → i + d ≤ bound
    → next_member ws base i bound ≡ next_member ws base (i + d) bound
unfolding next_member
next-skip ws base i d bound h l =
    let left : bound - i ≡ d + (bound - (i + d)) = omega arith in
    ap (seek ws base i) left ∙ seek-skip ws base i d (bound - (i + d)) h

-- a member is the answer
pub next_here : (ws : List ℕ) (base i bound : ℕ) → has ws base i ≡ 1 → i < bound → next_member ws base i bound ≡ i
unfolding next_member seek
next_here ws base i bound h l =
    let left : bound - i ≡ suc (bound - (i + 1)) = omega arith in
    ap (seek ws base i) left ∙ ap (λ (x : ℕ). cond (eqb x 1) i (seek ws base (i + 1) (bound - (i + 1)))) h

-- at the bound or past it the search stays where it is
pub next_past : (ws : List ℕ) (base i bound : ℕ) → bound ≤ i → next_member ws base i bound ≡ i
unfolding next_member seek
next_past ws base i bound l =
    let left : bound - i ≡ 0 = omega arith in
    ap (seek ws base i) left

sought : (ws : List ℕ) (base i n : ℕ) → First ws base i (i + n) (seek ws base i n)
unfolding seek
sought ws base i zero =
    record { low = le_refl i; high = omega arith; none = λ j a b. absurd (omega arith); member = λ l. absurd (omega arith) }
sought ws base i (suc n) = at (sought ws base (i + 1) n) (eqb (has ws base i) 1) refl
  where
    at : First ws base (i + 1) (i + 1 + n) (seek ws base (i + 1) n) → (b : Bool) → eqb (has ws base i) 1 ≡ b
        → First ws base i (i + suc n) (cond b i (seek ws base (i + 1) n))
    at rest true e =
        record { low = le_refl i; high = omega arith; none = λ j a b. absurd (omega arith); member = λ l. eqb-true (has ws base i) 1 e }
    at rest false e =
        let here : has ws base i ≡ 0 = omega (arith, eqb-false (has ws base i) 1 e, has-lt ws base i) in
        let above : (j : ℕ) → i ≤ j → j < seek ws base (i + 1) n → Dec (i ≡ j) → has ws base j ≡ 0 =
        λ j a b. elim [ yes q ↦ ap (has ws base) (sym q) ∙ here | no d ↦ rest.none j (omega (arith, d)) b ] in
        record {
          low = omega (arith, rest.low);
          high = omega (arith, rest.high);
          none = λ j a b. above j a b (ℕ_discrete i j);
          member = λ l. rest.member (omega arith);
        }

pub first : (ws : List ℕ) (base from bound : ℕ) → from ≤ bound → First ws base from bound (next_member ws base from bound)
unfolding next_member
first ws base from bound l =
    let end : from + (bound - from) ≡ bound = omega arith in
    subst (λ (x : ℕ). First ws base from x (next_member ws base from bound)) end (sought ws base from (bound - from))

-- ---- what a word tells of the numbers from i on: `rest` is the word shifted by i's place in it

rest_has : (ws : List ℕ) (base i k : ℕ) → i % 64 + k < 64 → has ws base (i + k) ≡ bit (get_or ws (base + i / 64) 0 / 2 ^ (i % 64)) k
unfolding has
rest_has ws base i k l =
    let word : (i + k) / 64 ≡ i / 64 = omega arith in
    let place : (i + k) % 64 ≡ i % 64 + k = omega arith in
    ap₂ (λ (x y : ℕ). bit (get_or ws (base + x) 0) y) word place ∙ sym (bit-shr (get_or ws (base + i / 64) 0) (i % 64) k)

-- no bit is left in the word: on to the next word, or to the bound
pub next_word : (ws : List ℕ) (base i bound : ℕ) → i < bound → get_or ws (base + i / 64) 0 / 2 ^ (i % 64) ≡ 0
    → next_member ws base i bound ≡ next_member ws base (min (i + (64 - i % 64)) bound) bound
next_word ws base i bound l e =
    let d : ℕ = min (64 - i % 64) (bound - i) in
    let on : i + d ≡ min (i + (64 - i % 64)) bound = omega arith in
    next-skip ws base i d bound (λ k lt. rest_has ws base i k (omega arith) ∙ ap (λ (w : ℕ). bit w k) e ∙ bit_of_zero k) (omega arith)
    ∙ ap (λ (x : ℕ). next_member ws base x bound) on

-- the lowest bit that is left gives the answer
pub next_bit : (ws : List ℕ) (base i bound : ℕ) → i < bound → get_or ws (base + i / 64) 0 < 2 ^ 64 → 0 < get_or ws (base + i / 64) 0 / 2 ^ (i % 64)
    → next_member ws base i bound ≡ min (i + count_trailing_zeros 64 (get_or ws (base + i / 64) 0 / 2 ^ (i % 64))) bound
next_bit ws base i bound l h p = at (dec_lt (i + t) bound)
  where
    rest : ℕ
    rest = get_or ws (base + i / 64) 0 / 2 ^ (i % 64)

    t : ℕ
    t = count_trailing_zeros 64 rest

    one : bit rest t ≡ 1
    one = trailing_one 64 rest (trailing_lt 64 rest (lt_of_le_of_lt (shr_le (get_or ws (base + i / 64) 0) (i % 64)) h) p)

    short : rest < 2 ^ (64 - i % 64)
    short =
        let whole : 64 - i % 64 + i % 64 ≡ 64 = omega arith in
        shr_lt (64 - i % 64) (i % 64) (subst (λ (x : ℕ). get_or ws (base + i / 64) 0 < 2 ^ x) (sym whole) h)

    inside : i % 64 + t < 64
    inside = held (dec_lt (i % 64 + t) 64)
      where
        held : Dec (i % 64 + t < 64) → i % 64 + t < 64
        held (yes a) = a
        held (no a) =
            let past : 64 - i % 64 ≤ t = omega (arith, a) in
            absurd (omega (arith, one, bit_high t short past))

    zeros : (k : ℕ) → k < t → has ws base (i + k) ≡ 0
    zeros k a = rest_has ws base i k (omega (arith, inside)) ∙ trailing_zero 64 rest k a

    at : Dec (i + t < bound) → next_member ws base i bound ≡ min (i + t) bound
    at (yes a) =
        next-skip ws base i t bound zeros (omega arith) ∙ next_here ws base (i + t) bound (rest_has ws base i t inside ∙ one) a ∙ omega arith
    at (no a) =
        let end : i + (bound - i) ≡ bound = omega arith in
        next-skip ws base i (bound - i) bound (λ k b. zeros k (omega (arith, a))) (omega arith)
        ∙ next_past ws base (i + (bound - i)) bound (omega arith) ∙ omega (arith, a)

-- ---- a whole word: no number of it was passed

module _ (ws : List ℕ) (base k bound : ℕ) (l : 64 * k < bound) where
  whole : get_or ws (base + 64 * k / 64) 0 / 2 ^ (64 * k % 64) ≡ get_or ws (base + k) 0
  whole =
      let word : 64 * k / 64 ≡ k = omega arith in
      let place : 64 * k % 64 ≡ 0 = omega arith in
      ap₂ (λ (x y : ℕ). get_or ws (base + x) 0 / 2 ^ y) word place ∙ div-one (get_or ws (base + k) 0)

  here : min (64 * k) bound ≡ 64 * k
  here = omega arith

  -- the word is zero: on to the next
  pub next-zero-word : get_or ws (base + k) 0 ≡ 0 → next_member ws base (min (64 * k) bound) bound ≡ next_member ws base (min (64 * (k + 1)) bound) bound
  next-zero-word e =
      let on : min (64 * k + (64 - 64 * k % 64)) bound ≡ min (64 * (k + 1)) bound = omega arith in
      ap (λ (x : ℕ). next_member ws base x bound) here ∙ next_word ws base (64 * k) bound l (whole ∙ e) ∙ ap (λ (x : ℕ). next_member ws base x bound) on

  -- its lowest bit gives the answer
  pub next_whole_bit : get_or ws (base + k) 0 < 2 ^ 64 → 0 < get_or ws (base + k) 0
      → next_member ws base (min (64 * k) bound) bound ≡ min (64 * k + count_trailing_zeros 64 (get_or ws (base + k) 0)) bound
  next_whole_bit h p =
      let word : 64 * k / 64 ≡ k = omega arith in
      ap (λ (x : ℕ). next_member ws base x bound) here
      ∙ next_bit ws base (64 * k) bound l (subst (λ (x : ℕ). get_or ws (base + x) 0 < 2 ^ 64) (sym word) h) (subst (λ (x : ℕ). 0 < x) (sym whole) p)
      ∙ ap (λ (x : ℕ). min (64 * k + count_trailing_zeros 64 x) bound) whole
