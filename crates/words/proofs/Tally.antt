-- Sums f 0 + .. + f (n - 1): equal, ordered and split term by term, and the ones of a word are the sum of its bits.
-- By induction on the number of terms. Assumes nothing.
use mathlib.Core.Path.{◌≡◌, refl, sym, ap, ap₂, ◌∙◌}
use mathlib.Core.Logic.{◌≢◌}
use Prim.Native.Nat.{ℕ, zero, suc, ◌+◌, ◌/◌, ◌%◌, ◌^◌, ◌≤◌, ◌<◌}
use native.Mathlib.Nat.{not-suc-le-zero, pow-suc, add-zero, add-suc, add_assoc, le_refl}
use native.Mathlib.Decide.{ℕ_discrete}
use native.Mathlib.Numerals.{one-add}
use native.Mathlib.Omega.{arith}
use lib.Count.{ones, ones_step, ones-le}
use Rattle.words.specs.Clauses.Row.{bit, tally}
use Rattle.words.proofs.Bit.{bit-first, bit-shr}

pub tally-cong : (f g : ℕ → ℕ) (n : ℕ) → ((i : ℕ) → i < n → f i ≡ g i) → tally f n ≡ tally g n
unfolding tally
tally-cong f g zero h = refl
tally-cong f g (suc n) h = ap₂ (λ (x y : ℕ). x + y) (tally-cong f g n (λ i l. h i (omega arith))) (h n (le_refl (suc n)))

pub tally-mono : (f g : ℕ → ℕ) (n : ℕ) → ((i : ℕ) → i < n → f i ≤ g i) → tally f n ≤ tally g n
unfolding tally
tally-mono f g zero h = le_refl 0
tally-mono f g (suc n) h = omega (arith, tally-mono f g n (λ i l. h i (omega arith)), h n (le_refl (suc n)))

-- terms that are no larger and have the same sum are the same
pub tally-eq : (f g : ℕ → ℕ) (n : ℕ) → ((i : ℕ) → i < n → f i ≤ g i) → tally f n ≡ tally g n → (i : ℕ) → i < n → f i ≡ g i
unfolding tally
tally-eq f g zero h e i l = absurd (not-suc-le-zero l)
tally-eq f g (suc n) h e i l = at (tally-eq f g n below) (ℕ_discrete i n)
  where
    below : (j : ℕ) → j < n → f j ≤ g j
    below j lt = h j (omega arith)

    at : (tally f n ≡ tally g n → (j : ℕ) → j < n → f j ≡ g j) → Dec (i ≡ n) → f i ≡ g i
    at rest (yes p) = rw p (omega (arith, tally-mono f g n below, h n (le_refl (suc n))))
    at rest (no d) = rest (omega (arith, tally-mono f g n below, h n (le_refl (suc n)))) i (omega (arith, d))

-- one term is one more, and the others are the same
pub tally-suc : (f g : ℕ → ℕ) (n j : ℕ) → j < n → g j ≡ f j + 1 → ((i : ℕ) → i ≢ j → g i ≡ f i) → tally g n ≡ tally f n + 1
unfolding tally
tally-suc f g zero j l e h = absurd (not-suc-le-zero l)
tally-suc f g (suc n) j l e h = at (tally-suc f g n j) (ℕ_discrete j n)
  where
    at : (j < n → g j ≡ f j + 1 → ((i : ℕ) → i ≢ j → g i ≡ f i) → tally g n ≡ tally f n + 1) → Dec (j ≡ n) → tally g n + g n ≡ tally f n + f n + 1
    at rest (yes p) =
        let low : tally g n ≡ tally f n = tally-cong g f n (λ i lt. h i (omega arith)) in
        omega (arith, rw p at e)
    at rest (no d) = omega (arith, rest (omega (arith, d)) e h, h n (λ q. d (sym q)))

pub tally-le : (f : ℕ → ℕ) (n : ℕ) → ((i : ℕ) → i < n → f i ≤ 1) → tally f n ≤ n
unfolding tally
tally-le f zero h = le_refl 0
tally-le f (suc n) h = omega (arith, tally-le f n (λ i l. h i (omega arith)), h n (le_refl (suc n)))

pub tally-add : (f : ℕ → ℕ) (a b : ℕ) → tally f (a + b) ≡ tally f a + tally (λ i. f (a + i)) b
unfolding tally
tally-add f a zero = ap (tally f) (add-zero a) ∙ sym (add-zero (tally f a))
tally-add f a (suc b) =
    ap (tally f) (add-suc a b) ∙ ap (λ (x : ℕ). x + f (a + b)) (tally-add f a b) ∙ add_assoc (tally f a) (tally (λ i. f (a + i)) b) (f (a + b))

pub ones-tally : (k n : ℕ) → n < 2 ^ k → ones n ≡ tally (bit n) k
unfolding tally
ones-tally zero n h = omega (arith, ones-le 0 n h)
ones-tally (suc k) n h =
    let first : n % 2 ≡ tally (bit n) 1 = omega (arith, bit-first n) in
    ones_step n
    ∙ ap₂ (λ (x y : ℕ). x + y) first
    (ones-tally k (n / 2) (omega (arith, pow-suc 2 k)) ∙ tally-cong (bit (n / 2)) (λ i. bit n (1 + i)) k (λ i l. bit-shr n 1 i))
    ∙ sym (tally-add (bit n) 1 k) ∙ ap (tally (bit n)) (one-add k)
