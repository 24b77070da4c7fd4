-- Terms 1, 2 and 3 for a flow: the queue rule over its doubled graph ends within the bound, a statement's mask holds a state exactly when a walk brings
-- it to one of the two copies, and what a run finds is in it. The doubled graph is well formed, and the theorems over any graph apply. With an opaque handler the masks are 7,
-- which holds every state. Assumes nothing.
use Prim.Native.Nat.{ℕ, ◌+◌, ◌≤◌, ◌<◌}
use mathlib.Core.Bool.{Bool, true, false}
use mathlib.Core.List.Memᴰ
use mathlib.Core.List.{[], ◌∷◌, map}
use mathlib.Core.Logic.{⊎_elim}
use mathlib.Core.Option.{Option, none, some}
use mathlib.Core.Path.{◌≡◌, refl, sym, ap, ap₂, subst}
use native.Mathlib.Omega.{arith}
use lib.Bits.{bit_or, or_lt}
use lib.Dec.{lit<}
use Rattle.masks.specs.State.{State, holds}
use Rattle.flow.specs.declared.Base.{Base}
use Rattle.flow.specs.declared.Base.TheVariants.{Zero, N}
use Rattle.flow.specs.Flow.{Flow, size}
use Rattle.theory.specs.Lists.{In}
use Rattle.theory.specs.Key.{OpaqueHandler, on_handler, opaque_handler}
use Rattle.theory.specs.Clauses.WellFormed.{WellFormed}
use Rattle.theory.specs.Queue.{Arc, Solver, Over, initial, visit_bound}
use Rattle.theory.specs.Doubled.{Edge, at, number, node, edges, edge_effects, key_effects, boundary, key_arcs, arcs_of, doubled}
use Rattle.theory.specs.Masks.{any_state, mask_left, BringsTo, copy}
use Rattle.theory.specs.Computed.{Progress, solved, mask_of, visits_of}
use Rattle.theory.specs.Runs.{Config, Run, Listed}
use Rattle.theory.proofs.Lists.{In-map}
use Rattle.theory.proofs.Handler.{handler-not-opaque}
use Rattle.theory.proofs.MaskLaws.{all_proper}
use Rattle.theory.proofs.Invariant.{WellFormedGraph}
use Rattle.theory.proofs.Ends.{over-bound, no_visits}
use Rattle.theory.proofs.Computed.{solved-over, over-solved}
use Rattle.theory.proofs.Exact.{over_below, over-unreached, over-brought, over-holds}
use Rattle.theory.proofs.Edges.{edge-below}
use Rattle.theory.proofs.Term3.{number-below, key_arc, copy-held, held-copy, run-brings}

-- the only edge of a key is that to n + handler
pub In-key_arcs : (f : Flow) {e : Arc} → In e (key_arcs f) → (h : ℕ) × (f.handler ≡ some h) × (e ≡ key_arc f h)
unfolding key_arcs
In-key_arcs f {e} = go f.handler refl
  where
    go : (o : Option ℕ) → f.handler ≡ o → In e (on_handler o [] (λ h. key_arc f h ∷ [])) → (h : ℕ) × (f.handler ≡ some h) × (e ≡ key_arc f h)
    go none q m = absurd (Memᴰ.not-nil m)
    go (some h) q m = (h, q, Memᴰ.eq_of_singleton m)

pub doubled_well_formed : (f : Flow) → WellFormed f → WellFormedGraph (doubled f)
unfolding doubled arcs_of boundary
doubled_well_formed f wf = record {
  entry = λ h. number-below f (at Zero f.entry) (wf.entry (omega arith));
  target = λ d e m. ⊎_elim (listed d e) (pressed e) (Memᴰ.append_cases (map (arc d) (edges f (node f d))) m);
  boundary = λ a. all_proper (key_effects f a) 1 (record { pos = lit< tt; below = lit< tt });
}
  where
    arc : ℕ → Edge → Arc
    arc d x = record { to = number f x.to; effects = edge_effects f (node f d).stmt x }

    listed : (d : ℕ) (e : Arc) → In e (map (arc d) (edges f (node f d))) → e.to < size f + size f
    listed d e m =
        let r = In-map (arc d) (edges f (node f d)) m in
        subst (λ (t : ℕ). t < size f + size f) (sym (ap (λ (x : Arc). x.to) r.2)) (number-below f r.0.to (edge-below f wf (node f d) r.1))

    pressed : (e : Arc) → In e (key_arcs f) → e.to < size f + size f
    pressed e m =
        let r = In-key_arcs f m in
        subst (λ (t : ℕ). t < size f + size f) (sym (ap (λ (x : Arc). x.to) r.2)) (number-below f (at N r.0) (wf.handler r.0 r.1))

-- Term 1, where the handler's body is not opaque

module _ (f : Flow) (wf : WellFormed f) (clear : opaque_handler f ≡ false) where
  -- the queue rule's course ends, and only so
  pub term_1_ends : Over (doubled f) (visits_of f) (solved (doubled f)).state
  unfolding visits_of
  term_1_ends = rw clear (solved-over (doubled f) (doubled_well_formed f wf))

  pub term_1_visits : {k : ℕ} {st : Solver} → Over (doubled f) k st → k ≡ visits_of f
  unfolding visits_of
  term_1_visits over = rw clear (ap (λ (x : Progress). x.count) (over-solved (doubled_well_formed f wf) over))

  pub term_1_masks : {k : ℕ} {st : Solver} → Over (doubled f) k st → (i a : ℕ) → mask_left f st i a ≡ mask_of f i a
  unfolding mask_of
  term_1_masks over i a = rw clear (ap (λ (x : Progress). mask_left f x.state i a) (over-solved (doubled_well_formed f wf) over))

-- where it is, nothing is visited, and every mask holds every state

module _ (f : Flow) (covered : opaque_handler f ≡ true) where
  pub opaque-visits : visits_of f ≡ 0
  unfolding visits_of
  opaque-visits = rw covered refl

  pub opaque-masks : (i a : ℕ) → mask_of f i a ≡ any_state
  unfolding mask_of
  opaque-masks i a = rw covered refl

pub any-state : (s : State) → holds any_state s ≡ true
any-state State.none = refl
any-state State.auto = refl
any-state State.dimmed = refl

-- with n 0 there are no visits
pub term_1_empty : (f : Flow) → size f ≡ 0 → Over (doubled f) 0 (initial (doubled f))
unfolding doubled
term_1_empty f e = no_visits (doubled f) (let h = e in omega arith)

-- The terms of a course that is over

module _ (f : Flow) (wf : WellFormed f) {k : ℕ} {st : Solver} (over : Over (doubled f) k st) where
  -- at most 1 + edges × (1 + 2 × arrays) visits, edges counted with repeats
  pub term_1 : k ≤ visit_bound (doubled f)
  term_1 = over-bound (doubled_well_formed f wf) over

  -- Term 2

  nodes_exist : {i : ℕ} → i < size f → 0 < (doubled f).nodes
  unfolding doubled
  nodes_exist h = omega arith

  -- every state of a statement's mask is brought by a walk
  pub term_2_sound : {a i : ℕ} {s : State} → holds (mask_left f st i a) s ≡ true → BringsTo f a i s
  unfolding mask_left
  term_2_sound {a} {i} {s} h =
      let c = held-copy f st.masks i a s h in
      copy c.0 (over-brought (doubled f) (doubled_well_formed f wf) over (number f (at c.0 i)) a s c.1)

  -- and every state that a walk brings is in it
  pub term_2_complete : {a i : ℕ} {s : State} → i < size f → a < f.arrays → BringsTo f a i s → holds (mask_left f st i a) s ≡ true
  unfolding mask_left doubled
  term_2_complete {a} {i} {s} h l (copy b w) = join (over-holds (doubled f) (doubled_well_formed f wf) over (nodes_exist h) l w)
    where
      join : holds (st.masks (number f (at b i)) a) s ≡ true → holds (mask_left f st i a) s ≡ true
      join = copy-held f st.masks b i a s

  -- a mask is a union of states, 0 to 7
  pub term_2_below : (i a : ℕ) → mask_left f st i a < 8
  unfolding mask_left
  term_2_below i a =
      or_lt 3 (st.masks (number f (at Zero i)) a) (st.masks (number f (at N i)) a) (below Zero) (below N)
    where
      below : (b : Base) → st.masks (number f (at b i)) a < 8
      below b = over_below (doubled f) (doubled_well_formed f wf) over (number f (at b i)) a

  -- unreached: 0
  pub term_2_unreached : (i a : ℕ) → ((s : State) → BringsTo f a i s → ⊥) → mask_left f st i a ≡ 0
  unfolding mask_left
  term_2_unreached i a h = ap₂ bit_or (none Zero) (none N)
    where
      none : (b : Base) → st.masks (number f (at b i)) a ≡ 0
      none b = over-unreached (doubled f) (doubled_well_formed f wf) over (number f (at b i)) a (λ s w. h s (copy b w))

  -- Term 3: what a run finds at a statement is in its mask, for every list of moves, keys included, and every array, where the handler's body is not opaque
  pub term_3 : Listed f → (OpaqueHandler f → ⊥) → {x : Config} → Run f x → (a : ℕ) → a < f.arrays → holds (mask_left f st x.stmt a) (x.states a) ≡ true
  term_3 listed clear r a l = let q = run-brings f wf listed clear r in term_2_complete q.0 l (copy q.1.0 (q.1.1 a))

-- and in the computed mask, with any handler
pub term_3_computed : (f : Flow) → WellFormed f → Listed f → {x : Config} → Run f x → (a : ℕ) → a < f.arrays → holds (mask_of f x.stmt a) (x.states a) ≡ true
term_3_computed f wf listed {x} r a l = go (opaque_handler f) refl
  where
    go : (b : Bool) → opaque_handler f ≡ b → holds (mask_of f x.stmt a) (x.states a) ≡ true
    go true q = subst (λ (m : ℕ). holds m (x.states a) ≡ true) (sym (opaque-masks f q x.stmt a)) (any-state (x.states a))
    go false q =
        let over = term_1_ends f wf q in
        subst (λ (m : ℕ). holds m (x.states a) ≡ true) (term_1_masks f wf q over x.stmt a) (term_3 f wf over listed (handler-not-opaque wf q) r a l)
