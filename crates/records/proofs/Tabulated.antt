-- Lists given by their elements: how long, what stands where, and which members.
-- By induction on the number of elements.
use Prim.Native.Nat.{ℕ, zero, suc, ◌<◌}
use native.Mathlib.Omega.{arith}
use native.Mathlib.Nat.{eq-or-lt_of_le, le_of_suc-le-suc}
use mathlib.Core.List.Memᴰ
use mathlib.Core.List.{[], ◌∷◌, Memᴰ}
use mathlib.Core.Logic.{⊎_elim}
use mathlib.Core.Path.{◌≡◌, refl, sym, ap, ◌∙◌}
use lib.ListN.{length, get_or, length-append, get_or-append}
use lib.Seq.{get_or_at}
use Rattle.flow.specs.Format.{tabulate}

module _ {A : Type 0} (f : ℕ → A) where
  pub length-tabulate : (n : ℕ) → length (tabulate n f) ≡ n
  unfolding tabulate
  length-tabulate zero = refl
  length-tabulate (suc n) = omega (arith, length-append (tabulate n f) (f n ∷ []), length-tabulate n)

  pub get_or-tabulate : (n k : ℕ) (d : A) → k < n → get_or (tabulate n f) k d ≡ f k
  unfolding tabulate
  get_or-tabulate zero k d l = absurd (omega arith)
  get_or-tabulate (suc n) k d l =
      ⊎_elim
      (λ e. get_or_at (tabulate n f) (f n) [] d k (length-tabulate n ∙ sym e) ∙ ap f (sym e))
      (λ b. get_or-append (tabulate n f) (f n ∷ []) d k (omega (arith, length-tabulate n)) ∙ get_or-tabulate n k d b)
      (eq-or-lt_of_le (le_of_suc-le-suc l))

  pub member_of : (n : ℕ) {x : A} → Memᴰ x (tabulate n f) → (k : ℕ) × (k < n) × (x ≡ f k)
  unfolding tabulate
  member_of zero m = absurd (Memᴰ.not-nil m)
  member_of (suc n) {x} m = ⊎_elim (λ q. further (member_of n q)) (λ q. (n, omega arith, Memᴰ.eq_of_singleton q)) (Memᴰ.append_cases (tabulate n f) m)
    where
      further : (k : ℕ) × (k < n) × (x ≡ f k) → (k : ℕ) × (k < suc n) × (x ≡ f k)
      further w = let l = w.1 in (w.0, omega arith, w.2)

  pub member-at : (n k : ℕ) → k < n → Memᴰ (f k) (tabulate n f)
  unfolding tabulate
  member-at zero k l = absurd (omega arith)
  member-at (suc n) k l =
      ⊎_elim
      (λ e. rw e (Memᴰ.append_right (tabulate n f) (Memᴰ.head refl)))
      (λ b. Memᴰ.append_left (f n ∷ []) (member-at n k b))
      (eq-or-lt_of_le (le_of_suc-le-suc l))
