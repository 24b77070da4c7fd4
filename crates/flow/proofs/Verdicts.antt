-- Laws of verdicts: a list of checks is fit where each check holds, and its verdict is that of its first part unless that is fit.
-- By induction on the list, and for `each` on the number of elements.
use Prim.Native.Nat.{ℕ, zero, suc, ◌+◌, ◌*◌, ◌≤◌, ◌<◌}
use native.Mathlib.Omega.{arith}
use native.Mathlib.Numerals.{add-one}
use native.Mathlib.Nat.{eq-or-lt_of_le}
use native.Mathlib.Decide.{le_ind}
use mathlib.Core.Logic.{⊎_elim}
use mathlib.Core.Bool.{Bool, true, false}
use mathlib.Core.List.{List, [], ◌∷◌, ◌++◌}
use mathlib.Core.Path.{◌≡◌, refl, sym, ap, ◌∙◌}
use Rattle.flow.specs.declared.Refusal.{Refusal}
use Rattle.flow.specs.declared.Refusal.TheVariants.{TooLong}
use Rattle.flow.specs.Format.{Check, Verdict, fit, unfit, first, verdict, each}

pub fit≢unfit : {r : Refusal} {A : Type 0} → fit ≡ unfit r → A
fit≢unfit {r} e = let z : ◌≡◌ {A = ℕ} 0 1 = cc in absurd (omega arith)

-- each check holds
abbrev pub AllHold : List Check → Type 0
AllHold [] = Unit
AllHold (c ∷ cs) = (c.holds ≡ true) × AllHold cs

pub all_hold : (cs : List Check) → verdict cs ≡ fit → AllHold cs
unfolding verdict
all_hold [] h = tt
all_hold (c ∷ cs) h = go c.holds refl h (all_hold cs)
  where
    go : (b : Bool) → c.holds ≡ b → first b c.otherwise (verdict cs) ≡ fit → (verdict cs ≡ fit → AllHold cs) → (c.holds ≡ true) × AllHold cs
    go true e h' ih = (e, ih h')
    go false e h' ih = fit≢unfit (sym h')

pub all_fit : (cs : List Check) → AllHold cs → verdict cs ≡ fit
unfolding verdict
all_fit [] h = refl
all_fit (c ∷ cs) h = ap (λ b. first b c.otherwise (verdict cs)) h.0 ∙ all_fit cs h.1

-- check k is the first that fails
abbrev pub StopsAt : ℕ → List Check → Type 0
StopsAt k [] = ⊥
StopsAt zero (c ∷ cs) = c.holds ≡ false
StopsAt (suc k) (c ∷ cs) = (c.holds ≡ true) × StopsAt k cs

-- the refusal of check k
abbrev pub refusal_at : ℕ → List Check → Refusal
refusal_at k [] = TooLong
refusal_at zero (c ∷ cs) = c.otherwise
refusal_at (suc k) (c ∷ cs) = refusal_at k cs

pub stops_at : (k : ℕ) (cs : List Check) → StopsAt k cs → verdict cs ≡ unfit (refusal_at k cs)
unfolding verdict
stops_at k [] h = absurd h
stops_at zero (c ∷ cs) h = ap (λ b. first b c.otherwise (verdict cs)) h
stops_at (suc k) (c ∷ cs) h = ap (λ b. first b c.otherwise (verdict cs)) h.0 ∙ stops_at k cs h.1

-- the verdict of two lists, one after the other

abbrev pub after : Verdict → Verdict → Verdict
after fit v = v
after (unfit r) v = unfit r

pub verdict-append : (cs ds : List Check) → verdict (cs ++ ds) ≡ after (verdict cs) (verdict ds)
unfolding verdict
verdict-append [] ds = refl
verdict-append (c ∷ cs) ds = go c.holds (verdict-append cs ds)
  where
    go : (b : Bool) → verdict (cs ++ ds) ≡ after (verdict cs) (verdict ds)
        → first b c.otherwise (verdict (cs ++ ds)) ≡ after (first b c.otherwise (verdict cs)) (verdict ds)
    go true h = h
    go false h = refl

pub fit_append : (cs ds : List Check) → verdict cs ≡ fit → verdict (cs ++ ds) ≡ verdict ds
fit_append cs ds h = verdict-append cs ds ∙ ap (λ v. after v (verdict ds)) h

pub unfit-append : (cs ds : List Check) {r : Refusal} → verdict cs ≡ unfit r → verdict (cs ++ ds) ≡ unfit r
unfit-append cs ds h = verdict-append cs ds ∙ ap (λ v. after v (verdict ds)) h

-- two lists are fit together only if each is
pub fit-left : (cs ds : List Check) → verdict (cs ++ ds) ≡ fit → verdict cs ≡ fit
fit-left cs ds h = go (verdict cs) (sym (verdict-append cs ds) ∙ h)
  where
    go : (v : Verdict) → after v (verdict ds) ≡ fit → v ≡ fit
    go fit e = refl
    go (unfit r) e = fit≢unfit (sym e)

pub fit-right : (cs ds : List Check) → verdict (cs ++ ds) ≡ fit → verdict ds ≡ fit
fit-right cs ds h = sym (fit_append cs ds (fit-left cs ds h)) ∙ h

-- the checks of elements

pub fit_none : (f : ℕ → List Check) → verdict (each 0 f) ≡ fit
unfolding each verdict
fit_none f = refl

pub fit-more : (k : ℕ) (f : ℕ → List Check) → verdict (each k f) ≡ fit → verdict (f k) ≡ fit → verdict (each (k + 1) f) ≡ fit
unfolding each
fit-more k f h e = rw add-one (fit_append (each k f) (f k) h ∙ e)

-- elements after one that is unfit are not looked at
pub unfit-more : (k m : ℕ) (f : ℕ → List Check) {r : Refusal} → k ≤ m → verdict (each k f) ≡ unfit r → verdict (each m f) ≡ unfit r
unfolding each
unfit-more k m f {r} l h = le_ind (λ i. verdict (each i f) ≡ unfit r) h (λ i _ e. unfit-append (each i f) (f i) e) m l

-- elements 0 to k - 1 are fit and element k is not: so are n elements, if k is among them
pub unfit-at : (k n : ℕ) (f : ℕ → List Check) {r : Refusal} → k < n → verdict (each k f) ≡ fit → verdict (f k) ≡ unfit r → verdict (each n f) ≡ unfit r
unfolding each
unfit-at k n f l h e = unfit-more (suc k) n f l (fit_append (each k f) (f k) h ∙ e)

-- each element of a fit list of elements is fit
pub fit_at : (n : ℕ) (f : ℕ → List Check) → verdict (each n f) ≡ fit → (i : ℕ) → i < n → verdict (f i) ≡ fit
unfolding each
fit_at zero f h i l = absurd (omega arith)
fit_at (suc n) f h i l =
    ⊎_elim (λ e. rw e (fit-right (each n f) (f n) h)) (λ b. fit_at n f (fit-left (each n f) (f n) h) i b)
    (eq-or-lt_of_le (le_pred l))
  where
    le_pred : i < suc n → i ≤ n
    le_pred h = omega arith

-- elements of w bytes from b on end within n bytes, if each that is fit ends there
pub elements-within : (k : ℕ) (f : ℕ → List Check) (n b w : ℕ) → b ≤ n → ((i : ℕ) → verdict (f i) ≡ fit → b + w * i + w ≤ n) → verdict (each k f) ≡ fit
    → b + w * k ≤ n
unfolding each
elements-within zero f n b w l each-ends h = omega arith
elements-within (suc k) f n b w l each-ends h = omega (arith, each-ends k (fit-right (each k f) (f k) h))
