-- Lists that rise strictly: the check of each element against the one before it gives the order of any two.
-- By induction on the later one.
use Prim.Native.Nat.{ℕ, zero, suc, ◌-◌, ◌<◌}
use native.Mathlib.Omega.{arith}
use native.Mathlib.Nat.{eq-or-lt_of_le, le_of_suc-le-suc, lt_trans}
use mathlib.Core.Bool.{Bool, true, false, ◌||◌}
use mathlib.Core.Logic.{⊎_elim}
use mathlib.Core.Path.{◌≡◌}
use lib.Dec.{eqb, ltb}
use borrow.Author.Tests.{ltb-true, ne_eqb}

-- the element k is the first, or it is above the one before it
abbrev pub rises_at : (ℕ → ℕ) → ℕ → Bool
rises_at f k = eqb k 0 || ltb (f (k - 1)) (f k)

-- the elements 0 to n - 1 rise strictly
abbrev pub Rising : (ℕ → ℕ) → ℕ → Type 0
Rising f n = (j k : ℕ) → j < k → k < n → f j < f k

pub or-second : (a b : Bool) → a ≡ false → (a || b) ≡ true → b ≡ true
or-second true b e h = absurd (cc)
or-second false b e h = h

above : (f : ℕ → ℕ) (k : ℕ) → rises_at f (suc k) ≡ true → f k < f (suc k)
above f k h =
    let before : suc k - 1 ≡ k = omega arith in
    let test = or-second (eqb (suc k) 0) _ (ne_eqb (suc k) 0 (λ e. omega arith)) h in
    rw before at (ltb-true (f (suc k - 1)) (f (suc k)) test)

pub rising : (f : ℕ → ℕ) (n : ℕ) → ((k : ℕ) → k < n → rises_at f k ≡ true) → Rising f n
rising f n rises j zero l m = absurd (omega arith)
rising f n rises j (suc k) l m =
    let here = above f k (rises (suc k) m) in
    let below : k < n = omega arith in
    ⊎_elim (λ e. rw e here) (λ b. lt_trans (rising f n rises j k b below) here) (eq-or-lt_of_le (le_of_suc-le-suc l))
