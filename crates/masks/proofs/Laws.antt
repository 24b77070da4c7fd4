-- The laws of `step_of` on the masks 0 to 7: it keeps them, preserves union, is monotone and idempotent, makes the touched step needless before a reference, and is the union of its steps on single states.
-- Each is a test that antt computes at every effect and every mask; that it is idempotent, the step before a reference, and what a union holds, is shown of any number. Assumes nothing.
use mathlib.Core.Path.{◌≡◌, refl, sym, ap, subst, ◌∙◌}
use mathlib.Core.Logic.{◌⊎◌, inl, inr}
use mathlib.Core.Bool.{Bool, true, false, ◌&&◌, ◌||◌, cond}
use Prim.Native.Nat.{ℕ, ◌+◌, ◌-◌, ◌*◌, ◌/◌, ◌%◌, ◌^◌, ◌<◌, max}
use native.Mathlib.Nat.{mod-lt, zero-lt-suc}
use native.Mathlib.Omega.{arith}
use borrow.Author.Tests.{eqb-true, eq-eqb, ne_eqb}
use lib.Dec.{T, eqb, eqb→eq, ltb, ltb→lt, lt→ltb}
use lib.Bits.{bit_or, or_shr, or_step, or_zero_r}
use Rattle.masks.specs.declared.Effect.{Effect}
use Rattle.masks.specs.declared.Effect.TheVariants.{None, Reference, Dim, Reset, Touched}
use Rattle.masks.specs.Step.{step_of}
use Rattle.masks.specs.State.{State, none, auto, dimmed, state_bit, state_mask, same, holds, turns, brought}
use Rattle.masks.proofs.Finite.{and_left, and_right, or_cases, all-states, implies, implied, alike, alike→eq, eq→alike, every_below, at-below, every_state, at-state, at-mask}

-- a mask of states stays one
pub step-lt : (e : Effect) (m : ℕ) → m < 8 → step_of e m < 8
step-lt e m h = ltb→lt (step_of e m) 8 (at-mask (λ e m. ltb (step_of e m) 8) tt e m h)

-- a mask that holds a state holds one after the step
pub step-pos : (e : Effect) (m : ℕ) → m < 8 → 0 < m → 0 < step_of e m
step-pos e m h p =
    ltb→lt 0 (step_of e m)
    (implied (ltb 0 m) (ltb 0 (step_of e m)) (at-mask (λ e m. implies (ltb 0 m) (ltb 0 (step_of e m))) tt e m h) (lt→ltb 0 m p))

-- union-preserving, for every effect and the empty mask too
pub step-or : (e : Effect) (a b : ℕ) → a < 8 → b < 8 → step_of e (bit_or a b) ≡ bit_or (step_of e a) (step_of e b)
step-or e a b ha hb =
    eqb→eq (step_of e (bit_or a b)) (bit_or (step_of e a) (step_of e b))
    (at-below 8 (λ b. eqb (step_of e (bit_or a b)) (bit_or (step_of e a) (step_of e b)))
    (at-mask (λ e a. every_below 8 (λ b. eqb (step_of e (bit_or a b)) (bit_or (step_of e a) (step_of e b)))) tt e a ha) b hb)

-- a is within b when their union is b
pub step-mono : (e : Effect) (a b : ℕ) → a < 8 → b < 8 → bit_or a b ≡ b → bit_or (step_of e a) (step_of e b) ≡ step_of e b
step-mono e a b ha hb h = sym (step-or e a b ha hb) ∙ ap (step_of e) h

-- AUTO joined to a mask, whatever stands above the states
or-auto : (m : ℕ) → bit_or m 2 ≡ m / 4 * 4 + 2 + m % 2
or-auto m =
    let low : bit_or m 2 ≡ bit_or (m / 2) 1 * 2 + m % 2 = or_step m 2 ∙ omega arith in
    let high : bit_or (m / 2) 1 ≡ m / 2 / 2 * 2 + 1 = or_step (m / 2) 1 ∙ ap (λ x. x * 2 + max (m / 2 % 2) 1) (or_zero_r (m / 2 / 2)) ∙ omega arith in
    omega arith

-- a step taken twice is one, on any byte
pub step_idem : (e : Effect) (m : ℕ) → step_of e (step_of e m) ≡ step_of e m
step_idem None m = refl
step_idem Reference m = at (eqb (m % 2) 1) refl
  where
    at : (b : Bool) → eqb (m % 2) 1 ≡ b → step_of Reference (cond b (bit_or (m - 1) 2) m) ≡ cond b (bit_or (m - 1) 2) m
    at true e =
        let odd : m % 2 ≡ 1 = eqb-true (m % 2) 1 e in
        let even : eqb (bit_or (m - 1) 2 % 2) 1 ≡ false = ne_eqb (bit_or (m - 1) 2 % 2) 1 (λ q. omega (arith, or-auto (m - 1))) in
        ap (λ b. cond b (bit_or (bit_or (m - 1) 2 - 1) 2) (bit_or (m - 1) 2)) even
    at false e = ap (λ b. cond b (bit_or (m - 1) 2) m) e
step_idem Dim m = refl
step_idem Reset m = refl
step_idem Touched m = at (eqb (m % 2) 1) refl
  where
    at : (b : Bool) → eqb (m % 2) 1 ≡ b → step_of Touched (cond b (bit_or m 2) m) ≡ cond b (bit_or m 2) m
    at true e =
        let odd : eqb (bit_or m 2 % 2) 1 ≡ true = eq-eqb (bit_or m 2 % 2) 1 (omega (arith, or-auto m, eqb-true (m % 2) 1 e)) in
        ap (λ b. cond b (bit_or (bit_or m 2) 2) (bit_or m 2)) odd ∙ omega (arith, or-auto m, or-auto (bit_or m 2))
    at false e = ap (λ b. cond b (bit_or m 2) m) e

-- a reference after the touched step is a reference, on any byte
pub touched-reference : (m : ℕ) → step_of Reference (step_of Touched m) ≡ step_of Reference m
touched-reference m = at (eqb (m % 2) 1) refl
  where
    again : (q : ℕ) → bit_or (q * 4 + 2) 2 ≡ q * 4 + 2
    again q = or-auto (q * 4 + 2) ∙ omega arith

    at : (b : Bool) → eqb (m % 2) 1 ≡ b → step_of Reference (cond b (bit_or m 2) m) ≡ cond b (bit_or (m - 1) 2) m
    at true e =
        let one : m % 2 ≡ 1 = eqb-true (m % 2) 1 e in
        let odd : eqb (bit_or m 2 % 2) 1 ≡ true = eq-eqb (bit_or m 2 % 2) 1 (omega (arith, or-auto m)) in
        let rest : bit_or m 2 - 1 ≡ m / 4 * 4 + 2 = omega (arith, or-auto m) in
        let less : bit_or (m - 1) 2 ≡ m / 4 * 4 + 2 = or-auto (m - 1) ∙ omega arith in
        ap (λ b. cond b (bit_or (bit_or m 2 - 1) 2) (bit_or m 2)) odd ∙ ap (λ x. bit_or x 2) rest ∙ again (m / 4) ∙ sym less
    at false e = ap (λ b. cond b (bit_or (m - 1) 2) m) e

-- a stepped mask that was not empty holds exactly what its states turn into
pub step-holds : (e : Effect) (m : ℕ) (t : State) → m < 8 → 0 < m → holds (step_of e m) t ≡ brought e m t
step-holds e m t h p =
    alike→eq (holds (step_of e m) t) (brought e m t)
    (at-state (λ t. alike (holds (step_of e m) t) (brought e m t))
    (implied (ltb 0 m) (every_state (λ t. alike (holds (step_of e m) t) (brought e m t)))
    (at-mask (λ e m. implies (ltb 0 m) (every_state (λ t. alike (holds (step_of e m) t) (brought e m t)))) tt e m h) (lt→ltb 0 m p)) t)

-- what a state of the mask turns into is held after the step
pub step_carries : (e : Effect) (m : ℕ) (s t : State) → m < 8 → T (holds m s) → T (turns e s t) → T (holds (step_of e m) t)
step_carries e m s t h a b =
    implied (turns e s t) (holds (step_of e m) t)
    (implied (holds m s) (implies (turns e s t) (holds (step_of e m) t))
    (at-state (λ t. implies (holds m s) (implies (turns e s t) (holds (step_of e m) t)))
    (at-state (λ s. every_state (λ t. implies (holds m s) (implies (turns e s t) (holds (step_of e m) t))))
    (at-mask (λ e m. every_state (λ s. every_state (λ t. implies (holds m s) (implies (turns e s t) (holds (step_of e m) t))))) tt e m h)
    s) t) a) b

-- and what is held after the step of a mask that was not empty comes from a state of it
pub step-comes : (e : Effect) (m : ℕ) (t : State) → m < 8 → 0 < m → T (holds (step_of e m) t) → (s : State) × T (holds m s) × T (turns e s t)
step-comes e m t h p held = first (or_cases (from none) (from auto || from dimmed) (subst T (step-holds e m t h p) held))
  where
    from : State → Bool
    from s = holds m s && turns e s t

    found : (s : State) → T (from s) → (s : State) × T (holds m s) × T (turns e s t)
    found s x = (s, and_left (holds m s) (turns e s t) x, and_right (holds m s) (turns e s t) x)

    last : T (from auto) ⊎ T (from dimmed) → (s : State) × T (holds m s) × T (turns e s t)
    last (inl x) = found auto x
    last (inr x) = found dimmed x

    first : T (from none) ⊎ T (from auto || from dimmed) → (s : State) × T (holds m s) × T (turns e s t)
    first (inl x) = found none x
    first (inr x) = last (or_cases (from auto) (from dimmed) x)

or_digit : (a b : ℕ) → bit_or a b % 2 ≡ max (a % 2) (b % 2)
or_digit a b =
    let e = or_step a b in
    let p : a % 2 < 2 = mod-lt a (zero-lt-suc 1) in
    let q : b % 2 < 2 = mod-lt b (zero-lt-suc 1) in
    omega arith

digit_test : (p q : ℕ) → p < 2 → q < 2 → eqb (max p q) 1 ≡ (eqb p 1 || eqb q 1)
digit_test p q hp hq =
    alike→eq (eqb (max p q) 1) (eqb p 1 || eqb q 1)
    (at-below 2 (λ q. alike (eqb (max p q) 1) (eqb p 1 || eqb q 1))
    (at-below 2 (λ p. every_below 2 (λ q. alike (eqb (max p q) 1) (eqb p 1 || eqb q 1))) tt p hp) q hq)

-- a union holds what either mask holds, also above the states
pub or-holds : (a b : ℕ) (s : State) → holds (bit_or a b) s ≡ (holds a s || holds b s)
or-holds a b s =
    ap (λ x. eqb (x % 2) 1) (or_shr a b (state_bit s))
    ∙ (ap (λ x. eqb x 1) (or_digit (a / 2 ^ state_bit s) (b / 2 ^ state_bit s))
    ∙ digit_test (a / 2 ^ state_bit s % 2) (b / 2 ^ state_bit s % 2) (mod-lt _ (zero-lt-suc 1)) (mod-lt _ (zero-lt-suc 1)))

-- a mask is its states
pub holds-ext : (a b : ℕ) → a < 8 → b < 8 → ((s : State) → holds a s ≡ holds b s) → a ≡ b
holds-ext a b ha hb e =
    eqb→eq a b
    (implied (every_state (λ s. alike (holds a s) (holds b s))) (eqb a b)
    (at-below 8 (λ b. implies (every_state (λ s. alike (holds a s) (holds b s))) (eqb a b))
    (at-below 8 (λ a. every_below 8 (λ b. implies (every_state (λ s. alike (holds a s) (holds b s))) (eqb a b))) tt a ha) b hb)
    (all-states (λ s. alike (holds a s) (holds b s)) (λ s. eq→alike (holds a s) (holds b s) (e s))))

-- the mask of one state holds that state alone
pub mask-holds : (s t : State) → holds (state_mask s) t ≡ same s t
mask-holds s t =
    alike→eq (holds (state_mask s) t) (same s t)
    (at-state (λ t. alike (holds (state_mask s) t) (same s t))
    (at-state (λ s. every_state (λ t. alike (holds (state_mask s) t) (same s t))) tt s) t)
