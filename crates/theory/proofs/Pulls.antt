-- What a visit's masks hold: a state is in `pulled` exactly when the boundary at the entry has it, or an edge from a visited number brings it.
-- Both ways, by induction on the list of edges and on the bound of the numbers. Assumes nothing.
use Prim.Native.Nat.{ℕ, zero, suc, ◌<◌}
use mathlib.Core.Bool.{Bool, true, false, cond}
use mathlib.Core.List.Memᴰ
use mathlib.Core.List.{List, [], ◌∷◌}
use mathlib.Core.Logic.{⊎_elim}
use mathlib.Core.Path.{◌≡◌, refl, sym, ap, subst, ◌∙◌}
use native.Mathlib.Omega.{arith}
use borrow.Author.Tests.{eqb-true, eqb-false, eq-eqb, ne_eqb}
use lib.Bits.{bit_or, or_lt}
use lib.Dec.{eqb, lit<}
use Rattle.masks.specs.State.{State, holds}
use Rattle.theory.specs.Lists.{In, upd}
use Rattle.theory.specs.Queue.{Arc, Graph, Solver, step_all, brings, union_below, pulled}
use Rattle.theory.proofs.MaskLaws.{Proper, or-held, or-holds-left, or-holds-right, zero-holds, all-lt}

-- a function with one value changed

pub upd_same : {A : Type 0} (f : ℕ → A) (j : ℕ) (v : A) (i : ℕ) → i ≡ j → upd f j v i ≡ v
unfolding upd
upd_same f j v i e = rw (eq-eqb i j e) refl

pub upd_other : {A : Type 0} (f : ℕ → A) (j : ℕ) (v : A) (i : ℕ) → (i ≡ j → ⊥) → upd f j v i ≡ f i
unfolding upd
upd_other f j v i e = rw (ne_eqb i j e) refl

-- brings

pub brings-In : (d a m : ℕ) (s : State) {e : Arc} {es : List Arc} → In e es → e.to ≡ d → holds (step_all (e.effects a) m) s ≡ true → holds (brings d a m es) s ≡ true
unfolding brings
brings-In d a m s {e} (Memᴰ.head {x = x} {xs = xs} q) t h =
    or-holds-left (cond (eqb x.to d) (step_all (x.effects a) m) 0) (brings d a m xs) s
    (subst (λ b. holds (cond b (step_all (x.effects a) m) 0) s ≡ true) (sym (eq-eqb x.to d (ap (λ y. y.to) (sym q) ∙ t)))
    (subst (λ (y : Arc). holds (step_all (y.effects a) m) s ≡ true) q h))
brings-In d a m s (Memᴰ.tail {x = x} {xs = xs} n) t h =
    or-holds-right (cond (eqb x.to d) (step_all (x.effects a) m) 0) (brings d a m xs) s (brings-In d a m s n t h)

pub In-brings : (d a m : ℕ) (s : State) (es : List Arc) → holds (brings d a m es) s ≡ true → (e : Arc) × In e es × (e.to ≡ d) × (holds (step_all (e.effects a) m) s ≡ true)
unfolding brings
In-brings d a m s [] h = zero-holds s h
In-brings d a m s (x ∷ xs) h =
    ⊎_elim (first (eqb x.to d) refl) (λ k. rest (In-brings d a m s xs k))
    (or-held (cond (eqb x.to d) (step_all (x.effects a) m) 0) (brings d a m xs) s h)
  where
    first : (b : Bool) → eqb x.to d ≡ b → holds (cond b (step_all (x.effects a) m) 0) s ≡ true
        → (e : Arc) × In e (x ∷ xs) × (e.to ≡ d) × (holds (step_all (e.effects a) m) s ≡ true)
    first true t k = (x, Memᴰ.head refl, eqb-true x.to d t, k)
    first false t k = zero-holds s k

    rest : (e : Arc) × In e xs × (e.to ≡ d) × (holds (step_all (e.effects a) m) s ≡ true)
        → (e : Arc) × In e (x ∷ xs) × (e.to ≡ d) × (holds (step_all (e.effects a) m) s ≡ true)
    rest r = (r.0, Memᴰ.tail r.1, r.2, r.3)

choice_lt : (b : Bool) (m : ℕ) → (b ≡ true → m < 8) → cond b m 0 < 8
choice_lt true m h = h refl
choice_lt false m h = lit< tt

pub brings-lt : (d a m : ℕ) (es : List Arc) → m < 8 → brings d a m es < 8
unfolding brings
brings-lt d a m [] h = lit< tt
brings-lt d a m (x ∷ xs) h =
    or_lt 3 (cond (eqb x.to d) (step_all (x.effects a) m) 0) (brings d a m xs)
    (choice_lt (eqb x.to d) (step_all (x.effects a) m) (λ e. all-lt (x.effects a) m h)) (brings-lt d a m xs h)

-- unions below a bound

pub union_In : (k : ℕ) (f : ℕ → ℕ) (s : State) (p : ℕ) → p < k → holds (f p) s ≡ true → holds (union_below k f) s ≡ true
unfolding union_below
union_In zero f s p l h = absurd (omega arith)
union_In (suc k) f s p l h = go (eqb p k) refl (union_In k f s p)
  where
    go : (b : Bool) → eqb p k ≡ b → (p < k → holds (f p) s ≡ true → holds (union_below k f) s ≡ true) → holds (bit_or (union_below k f) (f k)) s ≡ true
    go true e ih = or-holds-right (union_below k f) (f k) s (subst (λ (x : ℕ). holds (f x) s ≡ true) (eqb-true p k e) h)
    go false e ih = let d : p ≡ k → ⊥ = eqb-false p k e in or-holds-left (union_below k f) (f k) s (ih (omega arith) h)

pub In_union : (k : ℕ) (f : ℕ → ℕ) (s : State) → holds (union_below k f) s ≡ true → (p : ℕ) × (p < k) × (holds (f p) s ≡ true)
unfolding union_below
In_union zero f s h = zero-holds s h
In_union (suc k) f s h = ⊎_elim (λ x. rest (In_union k f s x)) (λ x. (k, omega arith, x)) (or-held (union_below k f) (f k) s h)
  where
    rest : (p : ℕ) × (p < k) × (holds (f p) s ≡ true) → (p : ℕ) × (p < suc k) × (holds (f p) s ≡ true)
    rest r = let l : r.0 < k = r.1 in (r.0, omega arith, r.2)

union_lt : (k : ℕ) (f : ℕ → ℕ) → ((p : ℕ) → f p < 8) → union_below k f < 8
unfolding union_below
union_lt zero f h = lit< tt
union_lt (suc k) f h = or_lt 3 (union_below k f) (f k) (union_lt k f h) (h k)

-- what a visit of d would bring now

pub data Pulls (g : Graph) (st : Solver) (a d : ℕ) (s : State) : Type 0 where
  boundary : d ≡ g.entry → holds (g.boundary a) s ≡ true → Pulls g st a d s
  arc : {p : ℕ} {e : Arc} → p < g.nodes → st.visited p ≡ true → In e (g.arcs p) → e.to ≡ d
      → holds (step_all (e.effects a) (st.masks p a)) s ≡ true → Pulls g st a d s

abbrev from : Graph → Solver → ℕ → ℕ → ℕ → ℕ
from g st d a p = cond (st.visited p) (brings d a (st.masks p a) (g.arcs p)) 0

abbrev start : Graph → ℕ → ℕ → ℕ
start g d a = cond (eqb d g.entry) (g.boundary a) 0

pub Pulls-holds : (g : Graph) (st : Solver) (a d : ℕ) (s : State) → Pulls g st a d s → holds (pulled g st d a) s ≡ true
unfolding pulled
Pulls-holds g st a d s (boundary e h) =
    or-holds-left (start g d a) (union_below g.nodes (from g st d a)) s
    (subst (λ b. holds (cond b (g.boundary a) 0) s ≡ true) (sym (eq-eqb d g.entry e)) h)
Pulls-holds g st a d s (arc {p = p} {e = e} l v m t h) =
    or-holds-right (start g d a) (union_below g.nodes (from g st d a)) s
    (union_In g.nodes (from g st d a) s p l
    (subst (λ b. holds (cond b (brings d a (st.masks p a) (g.arcs p)) 0) s ≡ true) (sym v) (brings-In d a (st.masks p a) s m t h)))

pub holds-Pulls : (g : Graph) (st : Solver) (a d : ℕ) (s : State) → holds (pulled g st d a) s ≡ true → Pulls g st a d s
unfolding pulled
holds-Pulls g st a d s h =
    ⊎_elim (at_entry (eqb d g.entry) refl) (λ k. some-arc (In_union g.nodes (from g st d a) s k))
    (or-held (start g d a) (union_below g.nodes (from g st d a)) s h)
  where
    at_entry : (b : Bool) → eqb d g.entry ≡ b → holds (cond b (g.boundary a) 0) s ≡ true → Pulls g st a d s
    at_entry true e k = boundary (eqb-true d g.entry e) k
    at_entry false e k = zero-holds s k

    of_visited : (p : ℕ) → p < g.nodes → (b : Bool) → st.visited p ≡ b → holds (cond b (brings d a (st.masks p a) (g.arcs p)) 0) s ≡ true → Pulls g st a d s
    of_visited p l true v k = let r = In-brings d a (st.masks p a) s (g.arcs p) k in arc l v r.1 r.2 r.3
    of_visited p l false v k = zero-holds s k

    some-arc : (p : ℕ) × (p < g.nodes) × (holds (from g st d a p) s ≡ true) → Pulls g st a d s
    some-arc r = of_visited r.0 r.1 (st.visited r.0) refl r.2

pub pulled-lt : (g : Graph) (st : Solver) (a d : ℕ) → g.boundary a < 8 → ((p : ℕ) → st.visited p ≡ true → Proper (st.masks p a)) → pulled g st d a < 8
unfolding pulled
pulled-lt g st a d h k =
    or_lt 3 (start g d a) (union_below g.nodes (from g st d a)) (choice_lt (eqb d g.entry) (g.boundary a) (λ e. h))
    (union_lt g.nodes (from g st d a)
    (λ p. choice_lt (st.visited p) (brings d a (st.masks p a) (g.arcs p)) (λ v. brings-lt d a (st.masks p a) (g.arcs p) (k p v).below)))
