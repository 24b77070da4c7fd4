-- Laws of masks that the queue rule's proof rests on: what a union holds, what a chain of effects keeps, and how many states a mask holds.
-- The chain's laws follow from the step's by induction; the others are tests that antt computes at the masks 0 to 7. Assumes nothing.
use Prim.Native.Nat.{ℕ, zero, suc, ◌+◌, ◌/◌, ◌%◌, ◌≤◌, ◌<◌}
use mathlib.Core.Bool.{Bool, true, false, cond, ◌||◌}
use mathlib.Core.List.{List, [], ◌∷◌}
use mathlib.Core.Logic.{◌⊎◌, inl, inr, ◌≢◌}
use mathlib.Core.Path.{◌≡◌, refl, sym, subst, ◌∙◌}
use native.Mathlib.Nat.{mod-lt, zero-lt-suc}
use native.Mathlib.Omega.{arith}
use borrow.Author.Tests.{ne_eqb}
use lib.Bits.{bit_or}
use lib.Dec.{T, eqb, ltb, leb, lt→ltb, leb→le}
use Rattle.masks.specs.declared.Effect.{Effect}
use Rattle.masks.specs.Step.{step_of}
use Rattle.masks.specs.State.{State, none, auto, dimmed, holds}
use Rattle.masks.proofs.Laws.{step-lt, step-pos, step_carries, step-comes, or-holds, holds-ext}
use Rattle.masks.proofs.Finite.{implies, implied, every_below, at-below, every_state, all-states}
use Rattle.theory.specs.Queue.{step_all}
use Rattle.theory.specs.Walks.{Turns, same, then}
use Rattle.theory.proofs.Lists.{clash, or_cases, or_left, or_right, same_test}

pub T→eq : (b : Bool) → T b → b ≡ true
T→eq true t = refl
T→eq false t = absurd t

pub eq→T : (b : Bool) → b ≡ true → T b
eq→T b e = subst T (sym e) tt

-- every state of the first mask is one of the second
abbrev pub Within : ℕ → ℕ → Type 0
Within a b = (s : State) → holds a s ≡ true → holds b s ≡ true

-- a mask of one state or more
pub record Proper (m : ℕ) : Type 0 where
  pub pos : 0 < m
  pub below : m < 8

-- Unions

pub or-held : (a b : ℕ) (s : State) → holds (bit_or a b) s ≡ true → (holds a s ≡ true) ⊎ (holds b s ≡ true)
or-held a b s h = or_cases (holds a s) (holds b s) (sym (or-holds a b s) ∙ h)

pub or-holds-left : (a b : ℕ) (s : State) → holds a s ≡ true → holds (bit_or a b) s ≡ true
or-holds-left a b s h = or-holds a b s ∙ or_left (holds a s) (holds b s) h

pub or-holds-right : (a b : ℕ) (s : State) → holds b s ≡ true → holds (bit_or a b) s ≡ true
or-holds-right a b s h = or-holds a b s ∙ or_right (holds a s) (holds b s) h

-- the empty mask holds nothing
pub zero-holds : {A : Type 0} (s : State) → holds 0 s ≡ true → A
zero-holds none h = clash false h refl
zero-holds auto h = clash false h refl
zero-holds dimmed h = clash false h refl

pub held-pos : (m : ℕ) (s : State) → holds m s ≡ true → 0 < m
held-pos zero s h = zero-holds s h
held-pos (suc m) s h = zero-lt-suc m

-- a mask that is not empty holds a state
pub some-held : (m : ℕ) → Proper m → (s : State) × (holds m s ≡ true)
some-held m h = first (or_cases (holds m none) (holds m auto || holds m dimmed) (T→eq _ held))
  where
    held : T (holds m none || (holds m auto || holds m dimmed))
    held =
        implied (ltb 0 m) (holds m none || (holds m auto || holds m dimmed))
        (at-below 8 (λ m. implies (ltb 0 m) (holds m none || (holds m auto || holds m dimmed))) tt m h.below) (lt→ltb 0 m h.pos)

    last : (holds m auto ≡ true) ⊎ (holds m dimmed ≡ true) → (s : State) × (holds m s ≡ true)
    last (inl x) = (auto, x)
    last (inr x) = (dimmed, x)

    first : (holds m none ≡ true) ⊎ ((holds m auto || holds m dimmed) ≡ true) → (s : State) × (holds m s ≡ true)
    first (inl x) = (none, x)
    first (inr x) = last (or_cases (holds m auto) (holds m dimmed) x)

-- two masks within each other are one
pub within-eq : (a b : ℕ) → a < 8 → b < 8 → Within a b → Within b a → a ≡ b
within-eq a b ha hb h k = holds-ext a b ha hb (λ s. same_test (holds a s) (holds b s) (h s) (k s))

-- Chains of effects

pub all_proper : (es : List Effect) (m : ℕ) → Proper m → Proper (step_all es m)
unfolding step_all
all_proper [] m h = h
all_proper (e ∷ es) m h =
    all_proper es (step_of e m) (record { pos = step-pos e m h.below h.pos; below = step-lt e m h.below })

pub all-lt : (es : List Effect) (m : ℕ) → m < 8 → step_all es m < 8
unfolding step_all
all-lt [] m h = h
all-lt (e ∷ es) m h = all-lt es (step_of e m) (step-lt e m h)

-- what the effects turn a held state into is held after them
pub all_carries : (m : ℕ) {es : List Effect} {s t : State} → m < 8 → holds m s ≡ true → Turns es s t → holds (step_all es m) t ≡ true
unfolding step_all
all_carries m b h same = h
all_carries m b h (then {e = e} {s = s} {t = t} x r) =
    all_carries (step_of e m) (step-lt e m b) (T→eq _ (step_carries e m s t b (eq→T _ h) (eq→T _ x))) r

-- and what is held after them comes from a held state
pub all-comes : (es : List Effect) (m : ℕ) (t : State) → Proper m → holds (step_all es m) t ≡ true → (s : State) × (holds m s ≡ true) × Turns es s t
unfolding step_all
all-comes [] m t h k = (t, k, same)
all-comes (e ∷ es) m t h k =
    go (all-comes es (step_of e m) t (record { pos = step-pos e m h.below h.pos; below = step-lt e m h.below }) k)
  where
    go : (s : State) × (holds (step_of e m) s ≡ true) × Turns es s t → (s : State) × (holds m s ≡ true) × Turns (e ∷ es) s t
    go r =
        let c = step-comes e m r.0 h.below h.pos (eq→T _ r.1) in
        (c.0, T→eq _ c.1, then (T→eq _ c.2) r.2)

pub all-mono : (es : List Effect) (a b : ℕ) → Proper a → b < 8 → Within a b → Within (step_all es a) (step_all es b)
all-mono es a b h k w t x = let c = all-comes es a t h x in all_carries b k (w c.0 c.1) c.2

-- How many states a mask holds

abbrev pub states_held : ℕ → ℕ
states_held m = m % 2 + m / 2 % 2 + m / 4 % 2

pub states-pos : (m : ℕ) → Proper m → 1 ≤ states_held m
states-pos m h =
    leb→le 1 (states_held m)
    (implied (ltb 0 m) (leb 1 (states_held m)) (at-below 8 (λ m. implies (ltb 0 m) (leb 1 (states_held m))) tt m h.below) (lt→ltb 0 m h.pos))

pub states-le : (m : ℕ) → states_held m ≤ 3
states-le m =
    let a : m % 2 < 2 = mod-lt m (zero-lt-suc 1) in
    let b : m / 2 % 2 < 2 = mod-lt (m / 2) (zero-lt-suc 1) in
    let c : m / 4 % 2 < 2 = mod-lt (m / 4) (zero-lt-suc 1) in
    omega arith

-- a mask that grows holds more states: one more at least where it differs
abbrev more : ℕ → ℕ → Bool
more a b = leb (states_held a + cond (eqb a b) 0 1) (states_held b)

abbrev within : ℕ → ℕ → Bool
within a b = every_state (λ s. implies (holds a s) (holds b s))

within_more : (a b : ℕ) → a < 8 → b < 8 → Within a b → states_held a + cond (eqb a b) 0 1 ≤ states_held b
within_more a b ha hb w =
    leb→le (states_held a + cond (eqb a b) 0 1) (states_held b)
    (implied (within a b) (more a b)
    (at-below 8 (λ b. implies (within a b) (more a b)) (at-below 8 (λ a. every_below 8 (λ b. implies (within a b) (more a b))) tt a ha) b hb)
    (all-states (λ s. implies (holds a s) (holds b s)) (λ s. go (holds a s) (holds b s) (w s))))
  where
    go : (x y : Bool) → (x ≡ true → y ≡ true) → T (implies x y)
    go true y f = eq→T y (f refl)
    go false y f = tt

pub states-mono : (a b : ℕ) → a < 8 → b < 8 → Within a b → states_held a ≤ states_held b
states-mono a b ha hb w = let h = within_more a b ha hb w in omega arith

pub states_rise : (a b : ℕ) → a < 8 → b < 8 → Within a b → a ≢ b → states_held a < states_held b
states_rise a b ha hb w n = let h : states_held a + 1 ≤ states_held b = rw (ne_eqb a b n) at (within_more a b ha hb w) in omega arith
