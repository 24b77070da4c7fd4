-- A Boolean test that antt computes at every effect, every state or every number below a bound gives the fact at each of them.
-- By cases on the constructors, and by induction on the bound. Assumes nothing.
use mathlib.Core.Logic.{◌⊎◌, inl, inr}
use mathlib.Core.Path.{◌≡◌, refl, sym, subst}
use mathlib.Core.Bool.{Bool, true, false, ◌&&◌, ◌||◌, not}
use Prim.Native.Nat.{ℕ, zero, suc, ◌<◌}
use native.Mathlib.Nat.{not-suc-le-zero}
use native.Mathlib.Omega.{arith}
use native.Mathlib.Decide.{ℕ_discrete}
use lib.Dec.{T}
use Rattle.masks.specs.declared.Effect.{Effect}
use Rattle.masks.specs.declared.Effect.TheVariants.{None, Reference, Dim, Reset, Touched}
use Rattle.masks.specs.State.{State, none, auto, dimmed}

pub and_left : (a b : Bool) → T (a && b) → T a
and_left true b t = tt
and_left false b t = t

pub and_right : (a b : Bool) → T (a && b) → T b
and_right true b t = t
and_right false b t = absurd t

pub and_both : (a b : Bool) → T a → T b → T (a && b)
and_both true b s t = t
and_both false b s t = s

pub or_cases : (a b : Bool) → T (a || b) → T a ⊎ T b
or_cases true b t = inl tt
or_cases false b t = inr t

abbrev pub implies : Bool → Bool → Bool
implies true b = b
implies false b = true

pub implied : (a b : Bool) → T (implies a b) → T a → T b
implied true b t h = t
implied false b t h = absurd h

abbrev pub alike : Bool → Bool → Bool
alike true b = b
alike false b = not b

pub alike→eq : (a b : Bool) → T (alike a b) → a ≡ b
alike→eq true true t = refl
alike→eq true false t = absurd t
alike→eq false true t = absurd t
alike→eq false false t = refl

pub eq→alike : (a b : Bool) → a ≡ b → T (alike a b)
eq→alike a b e = subst (λ (x : Bool). T (alike a x)) e (self a)
  where
    self : (x : Bool) → T (alike x x)
    self true = tt
    self false = tt

-- the test passes at every number below n
abbrev pub every_below : ℕ → (ℕ → Bool) → Bool
every_below zero f = true
every_below (suc n) f = f n && every_below n f

pub at-below : (n : ℕ) (f : ℕ → Bool) → T (every_below n f) → (m : ℕ) → m < n → T (f m)
at-below zero f t m h = absurd (not-suc-le-zero h)
at-below (suc n) f t m h = go (at-below n f (and_right (f n) (every_below n f) t) m) (ℕ_discrete m n)
  where
    go : (m < n → T (f m)) → Dec (m ≡ n) → T (f m)
    go rest (yes e) = subst (λ (x : ℕ). T (f x)) (sym e) (and_left (f n) (every_below n f) t)
    go rest (no d) = rest (omega (arith, d))

abbrev pub every_effect : (Effect → Bool) → Bool
every_effect f = f None && (f Reference && (f Dim && (f Reset && f Touched)))

pub at_effect : (f : Effect → Bool) → T (every_effect f) → (e : Effect) → T (f e)
at_effect f t None = and_left (f None) _ t
at_effect f t Reference = and_left (f Reference) _ (and_right (f None) _ t)
at_effect f t Dim = and_left (f Dim) _ (and_right (f Reference) _ (and_right (f None) _ t))
at_effect f t Reset = and_left (f Reset) _ (and_right (f Dim) _ (and_right (f Reference) _ (and_right (f None) _ t)))
at_effect f t Touched = and_right (f Reset) _ (and_right (f Dim) _ (and_right (f Reference) _ (and_right (f None) _ t)))

abbrev pub every_state : (State → Bool) → Bool
every_state f = f none && (f auto && f dimmed)

pub at-state : (f : State → Bool) → T (every_state f) → (s : State) → T (f s)
at-state f t none = and_left (f none) _ t
at-state f t auto = and_left (f auto) _ (and_right (f none) _ t)
at-state f t dimmed = and_right (f auto) _ (and_right (f none) _ t)

pub all-states : (f : State → Bool) → ((s : State) → T (f s)) → T (every_state f)
all-states f h = and_both (f none) (f auto && f dimmed) (h none) (and_both (f auto) (f dimmed) (h auto) (h dimmed))

-- every mask below 8, at every effect
abbrev pub every_mask : (Effect → ℕ → Bool) → Bool
every_mask f = every_effect (λ e. every_below 8 (f e))

pub at-mask : (f : Effect → ℕ → Bool) → T (every_mask f) → (e : Effect) (m : ℕ) → m < 8 → T (f e m)
at-mask f t e m h = at-below 8 (f e) (at_effect (λ e. every_below 8 (f e)) t e) m h
