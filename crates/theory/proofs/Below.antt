-- Tests of every number below a bound, sums and the largest of the numbers below it: what `all_below` says of each, both ways, the sums that bound a count, and where the largest is met.
-- By induction on the bound. Assumes nothing.
use Prim.Native.Nat.{ℕ, zero, suc, ◌*◌, ◌<◌, ◌≤◌, max}
use mathlib.Core.Bool.{Bool, true, false, ◌&&◌}
use mathlib.Core.Path.{◌≡◌, refl, subst, sym, ap, ap₂, ◌∙◌}
use native.Mathlib.Decide.{dec_lt, ℕ_discrete}
use native.Mathlib.Omega.{arith}
use borrow.Author.Tests.{eqb-true, eqb-false}
use lib.Dec.{eqb}
use Rattle.theory.specs.Lists.{all_below, sum_below, max_below}
use Rattle.theory.proofs.Lists.{clash, and_both, and-true}

pub all_below-at : (k : ℕ) (p : ℕ → Bool) → all_below k p ≡ true → (i : ℕ) → i < k → p i ≡ true
unfolding all_below
all_below-at zero p h i l = absurd (omega arith)
all_below-at (suc k) p h i l = go (eqb i k) refl (and_both (all_below k p) (p k) h) (λ e. all_below-at k p e i)
  where
    go : (b : Bool) → eqb i k ≡ b → (all_below k p ≡ true) × (p k ≡ true) → (all_below k p ≡ true → i < k → p i ≡ true) → p i ≡ true
    go true e r ih = subst (λ (x : ℕ). p x ≡ true) (sym (eqb-true i k e)) r.1
    go false e r ih = let d : i ≡ k → ⊥ = eqb-false i k e in ih r.0 (omega arith)

pub all_below-all : (k : ℕ) (p : ℕ → Bool) → ((i : ℕ) → i < k → p i ≡ true) → all_below k p ≡ true
unfolding all_below
all_below-all zero p h = refl
all_below-all (suc k) p h = and-true (all_below k p) (p k) (all_below-all k p (λ i l. h i (omega arith))) (h k (omega arith))

-- where the test of all fails, it fails at one
pub all_below_fails : (k : ℕ) (p : ℕ → Bool) → all_below k p ≡ false → (i : ℕ) × (i < k) × (p i ≡ false)
unfolding all_below
all_below_fails zero p h = clash true refl h
all_below_fails (suc k) p h = go (p k) refl (all_below k p) refl (all_below_fails k p)
  where
    rest : (i : ℕ) × (i < k) × (p i ≡ false) → (i : ℕ) × (i < suc k) × (p i ≡ false)
    rest r = let l : r.0 < k = r.1 in (r.0, omega arith, r.2)

    go : (b : Bool) → p k ≡ b → (c : Bool) → all_below k p ≡ c → (all_below k p ≡ false → (i : ℕ) × (i < k) × (p i ≡ false)) → (i : ℕ) × (i < suc k) × (p i ≡ false)
    go false e c f ih = (k, omega arith, e)
    go true e false f ih = rest (ih f)
    go true e true f ih = clash (all_below k p && p k) (rw (f, e) refl) h

pub sum_below_const : (k c : ℕ) → sum_below k (λ i. c) ≡ k * c
unfolding sum_below
sum_below_const zero c = omega arith
sum_below_const (suc k) c = let h = sum_below_const k c in omega arith

pub sum_below_scale : (k : ℕ) (f : ℕ → ℕ) (c : ℕ) → sum_below k (λ i. f i * c) ≡ sum_below k f * c
unfolding sum_below
sum_below_scale zero f c = omega arith
sum_below_scale (suc k) f c = let h = sum_below_scale k f c in omega arith

-- the largest is passed by none

pub max_below-at : (k : ℕ) (f : ℕ → ℕ) (i : ℕ) → i < k → f i ≤ max_below k f
unfolding max_below
max_below-at zero f i l = absurd (omega arith)
max_below-at (suc k) f i l = go (ℕ_discrete i k) (max_below-at k f i)
  where
    go : Dec (i ≡ k) → (i < k → f i ≤ max_below k f) → f i ≤ max (max_below k f) (f k)
    go (yes e) ih = let same : f i ≡ f k = ap f e in omega arith
    go (no d) ih = omega (arith, ih (omega (arith, d)))

-- and is one of them
pub max_below-attained : (k : ℕ) (f : ℕ → ℕ) → 0 < k → (i : ℕ) × (i < k) × (f i ≡ max_below k f)
unfolding max_below
max_below-attained zero f l = absurd (omega arith)
max_below-attained (suc k) f l = go (dec_lt (f k) (max_below k f)) (dec_lt 0 k) (max_below-attained k f)
  where
    go : Dec (f k < max_below k f) → Dec (0 < k) → (0 < k → (i : ℕ) × (i < k) × (f i ≡ max_below k f)) → (i : ℕ) × (i < suc k) × (f i ≡ max (max_below k f) (f k))
    go (no d) s ih = (k, omega arith, omega (arith, d))
    go (yes m) (yes s) ih = let r = ih s in (r.0, omega (arith, r.1), r.2 ∙ omega arith)
    go (yes m) (no s) ih =
        let none : k ≡ 0 = omega (arith, s) in
        let empty : max_below k f ≡ 0 = rw none refl in
        absurd (omega arith)

pub max_below-same : (k : ℕ) (f g : ℕ → ℕ) → ((i : ℕ) → i < k → f i ≡ g i) → max_below k f ≡ max_below k g
unfolding max_below
max_below-same zero f g h = refl
max_below-same (suc k) f g h = ap₂ max (max_below-same k f g (λ i l. h i (omega arith))) (h k (omega arith))
