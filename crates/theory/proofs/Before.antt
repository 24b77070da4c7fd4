-- Masks before request E2 and with it. A flow without sure arrays has the doubled graph, masks and visits that it had; in any flow a mask holds no state that it did not hold before,
-- since what the step of a reference makes of a sure array, which is touched, the touched step makes of it too; and P5 shows that they are not always the same. All of it also with a handler
-- (request E3). Assumes nothing.
use Prim.Native.Nat.{ℕ, ◌+◌, ◌<◌}
use mathlib.Core.Bool.{Bool, true, false, cond, not, ◌&&◌}
use mathlib.Core.List.Memᴰ
use mathlib.Core.List.{List, [], ◌∷◌, ◌++◌, map}
use mathlib.Core.Logic.{◌⊎◌, inl, inr, ⊎_elim}
use mathlib.Core.Path.{◌≡◌, refl, sym, ◌∙◌, ap, subst, fun_ext}
use native.Mathlib.Omega.{arith}
use Rattle.masks.specs.declared.Effect.{Effect}
use Rattle.masks.specs.declared.Effect.TheVariants.{Reference, Touched}
use Rattle.masks.specs.State.{State, holds, same, referenced}
use Rattle.flow.specs.declared.Base.TheVariants.{Zero}
use Rattle.flow.specs.Flow.{Flow, size, first_of}
use Rattle.flow.specs.Format.{le_at, tabulate, count_lines, record_end, record_place, kind_of, statement_at, flow_of}
use Rattle.theory.specs.Lists.{In, any, elem, select, concat_map, option_list, up_to, sum_below, all_below, upd}
use Rattle.theory.specs.Reach.{closure, closure_fuel, reached}
use Rattle.theory.specs.Body.{entered, callees, walk_next, walked, called, bodies, touches, on_cycle, opaque, opaque_call, call_touches}
use Rattle.theory.specs.Key.{opaque_handler, handler_touches}
use Rattle.theory.specs.Sure.{gosub_body, can_return, returning, missed_from, missed_after, missed, sure}
use Rattle.theory.specs.Clauses.WellFormed.{WellFormed}
use Rattle.theory.specs.Queue.{Arc, Graph, Solver, Over, step_all, arc_count, brings, union_below, pulled, changed, enqueue, visit, initial}
use Rattle.theory.specs.Walks.{Turns, Brings}
use Rattle.theory.specs.Doubled.{Edge, at, number, node, returns_to, return_edges, once, call_edges, listed_edges, edges_of, edges, kind_effects, statement_effects, entering, continuation_effects, own_effects, key_effects, edge_effects, boundary, key_arcs, arcs_of, doubled}
use Rattle.theory.specs.Masks.{mask_left}
use Rattle.theory.specs.Computed.{Progress, visit_front, visit_times, solved, mask_of}
use Rattle.theory.specs.Cases.{p5}
use Rattle.theory.proofs.Lists.{clash, not_so, or_right, map-In, In-map}
use Rattle.theory.proofs.Sure.{sure-touched, sure-array, sure-statement}
use Rattle.theory.proofs.Invariant.{WellFormedGraph}
use Rattle.theory.proofs.Computed.{over_unique}
use Rattle.theory.proofs.Exact.{over-brought, over-holds}
use Rattle.theory.proofs.Acts.{turns-append}
use Rattle.theory.proofs.Term3.{copy-held, held-copy}
use Rattle.theory.proofs.Terms.{doubled_well_formed}

-- The doubled graph with other effects of statement i's edges on array a

abbrev Effects : Type 0
Effects = ℕ → Edge → ℕ → List Effect

abbrev arc_with : Flow → Effects → ℕ → Edge → Arc
arc_with f E d x = record { to = number f x.to; effects = E (node f d).stmt x }

unfoldable pub doubled_with : Flow → Effects → Graph
doubled_with f E = record {
  nodes = size f + size f;
  arrays = f.arrays;
  entry = number f (at Zero f.entry);
  boundary = boundary f;
  arcs = λ d. map (arc_with f E d) (edges f (node f d)) ++ key_arcs f;
}

pub doubled_with_lem : (f : Flow) → doubled f ≡ doubled_with f (edge_effects f)
unfolding doubled arcs_of doubled_with
doubled_with_lem f = refl

-- the effect before: on the edge to base + continuation every touched array takes the touched step
unfoldable pub edge_effects_before : Flow → Effects
edge_effects_before f i e a = (statement_effects f i a ++ cond (e.continues && call_touches f i a) (Touched ∷ []) []) ++ key_effects f a

unfoldable pub doubled_before : Flow → Graph
doubled_before f = doubled_with f (edge_effects_before f)

-- Without sure arrays

module _ {f : Flow} (wf : WellFormed f) (no_sure : (c a : ℕ) → c < size f → a < f.arrays → sure f c a ≡ false) where
  unsure : (c a : ℕ) → sure f c a ≡ false
  unsure c a = not_so (sure f c a) (λ h. clash (sure f c a) h (no_sure c a (sure-statement wf c a h) (sure-array wf c a h)))

  same-effects : (i : ℕ) (x : Edge) (a : ℕ) → edge_effects f i x a ≡ edge_effects_before f i x a
  unfolding edge_effects own_effects edge_effects_before continuation_effects
  same-effects i x a = ap (λ (es : List Effect). (statement_effects f i a ++ es) ++ key_effects f a) (go x.continues)
    where
      go : (t : Bool) → cond t (continuation_effects f i x a) [] ≡ cond (t && call_touches f i a) (Touched ∷ []) []
      go true = rw (unsure i a)
      go false = refl

  pub without-sure : doubled f ≡ doubled_before f
  unfolding doubled_before
  without-sure = doubled_with_lem f ∙ ap (doubled_with f) (fun_ext (λ i. fun_ext (λ x. fun_ext (same-effects i x))))

  -- the course of the queue rule is what it was, and so are visits and masks

  pub over-before : {k : ℕ} {st : Solver} → Over (doubled f) k st → Over (doubled_before f) k st
  over-before {k} {st} = subst (λ g. Over g k st) without-sure

  pub before-over : {k : ℕ} {st : Solver} → Over (doubled_before f) k st → Over (doubled f) k st
  before-over {k} {st} = subst (λ g. Over g k st) (sym without-sure)

  module _ {k k' : ℕ} {st st' : Solver} (over : Over (doubled f) k st) (before : Over (doubled_before f) k' st') where
    pub same-visits : k ≡ k'
    same-visits = ap (λ (x : Progress). x.count) (over_unique (over-before over) before)

    pub same_masks : (i a : ℕ) → mask_left f st i a ≡ mask_left f st' i a
    same_masks i a = ap (λ (x : Progress). mask_left f x.state i a) (over_unique (over-before over) before)

-- Within

turns_split : (es : List Effect) {fs : List Effect} {s u : State} → Turns (es ++ fs) s u → (t : State) × Turns es s t × Turns fs t u
turns_split [] {s = s} q = (s, Turns.same, q)
turns_split (e ∷ es) (Turns.then p q) = let r = turns_split es q in (r.0, Turns.then p r.1, r.2)

turns-after : (es : List Effect) {fs gs : List Effect} {s u : State} → ((t u : State) → Turns fs t u → Turns gs t u) → Turns (es ++ fs) s u → Turns (es ++ gs) s u
turns-after es {u = u} h q = let r = turns_split es q in turns-append r.1 (h r.0 u r.2)

turns-first : {es fs : List Effect} (gs : List Effect) {s u : State} → ((s t : State) → Turns es s t → Turns fs s t) → Turns (es ++ gs) s u → Turns (fs ++ gs) s u
turns-first {es} gs {s} {u} h q = let r = turns_split es q in turns-append (h s r.0 r.1) r.2

-- where the step of a reference brings a state, so does the touched step
reference-touched : {s t : State} → Turns (Reference ∷ []) s t → Turns (Touched ∷ []) s t
reference-touched {s} (Turns.then {t = t} p q) = Turns.then (or_right (same s t) (same (referenced s) t) p) q

module _ {f : Flow} (wf : WellFormed f) where
  turns-before : (i : ℕ) (x : Edge) (a : ℕ) (s t : State) → Turns (edge_effects f i x a) s t → Turns (edge_effects_before f i x a) s t
  unfolding edge_effects own_effects edge_effects_before continuation_effects
  turns-before i x a s t =
      turns-first (key_effects f a) (λ s t. turns-after (statement_effects f i a) (λ s t. go x.continues (sure f i a) refl (not (entering f i x))))
    where
      go : {s t : State} (c b : Bool) → sure f i a ≡ b → (n : Bool)
          → Turns (cond c (cond (b && n) (Reference ∷ []) (cond (call_touches f i a) (Touched ∷ []) [])) []) s t → Turns (cond (c && call_touches f i a) (Touched ∷ []) []) s t
      go true true h true q = rw (sure-touched wf i a h) (reference-touched q)
      go true true h false q = q
      go true false h n q = q
      go false b h n q = q

-- what a walk brings, it brings with effects that have all these turns
brings_with : (f : Flow) (E E' : Effects) {a d : ℕ} {s : State} → ((i : ℕ) (x : Edge) (s t : State) → Turns (E i x a) s t → Turns (E' i x a) s t)
    → Brings (doubled_with f E) a d s → Brings (doubled_with f E') a d s
unfolding doubled_with
brings_with f E E' h (Brings.empty q) = Brings.empty q
brings_with f E E' {a} h (Brings.along {d = d} {s = s} {t = t} {e = e} w m q) =
    go (brings_with f E E' h w) (Memᴰ.append_cases (map (arc_with f E d) (edges f (node f d))) m)
  where
    go : Brings (doubled_with f E') a d s → In e (map (arc_with f E d) (edges f (node f d))) ⊎ In e (key_arcs f) → Brings (doubled_with f E') a e.to t
    go w (inl m) =
        let r = In-map (arc_with f E d) (edges f (node f d)) m in
        let step : Turns (E' (node f d).stmt r.0 a) s t = h (node f d).stmt r.0 s t (subst (λ y. Turns (y.effects a) s t) r.2 q) in
        subst (λ (n : ℕ). Brings (doubled_with f E') a n t) (sym (ap (λ (y : Arc). y.to) r.2))
        (Brings.along w (Memᴰ.append_left (key_arcs f) (map-In (arc_with f E' d) r.1)) step)
    go w (inr m) = Brings.along w (Memᴰ.append_right (map (arc_with f E' d) (edges f (node f d))) m) q

with_well_formed : {f : Flow} (E : Effects) → WellFormed f → WellFormedGraph (doubled_with f E)
unfolding doubled_with doubled arcs_of
with_well_formed {f} E wf =
    let g = doubled_well_formed f wf in
    record {
      entry = g.entry;
      target = λ d e m.
          ⊎_elim
          (λ m.
          let r = In-map (arc_with f E d) (edges f (node f d)) m in
          subst (λ (n : ℕ). n < size f + size f) (sym (ap (λ (y : Arc). y.to) r.2))
          (g.target d (arc_with f (edge_effects f) d r.0) (Memᴰ.append_left (key_arcs f) (map-In (arc_with f (edge_effects f) d) r.1))))
          (λ m. g.target d e (Memᴰ.append_right (map (arc_with f (edge_effects f) d) (edges f (node f d))) m))
          (Memᴰ.append_cases (map (arc_with f E d) (edges f (node f d))) m);
      boundary = g.boundary;
    }

-- no mask holds a state that it did not hold before
pub within-before : {f : Flow} → WellFormed f → {k k' : ℕ} {st st' : Solver} → Over (doubled f) k st → Over (doubled_before f) k' st'
    → (i a : ℕ) → i < size f → a < f.arrays → (s : State) → holds (mask_left f st i a) s ≡ true → holds (mask_left f st' i a) s ≡ true
unfolding mask_left doubled_before doubled_with
within-before {f} wf {st = st} {st' = st'} over before i a h l s m =
    let c = held-copy f st.masks i a s m in
    let w : Brings (doubled f) a (number f (at c.0 i)) s = over-brought (doubled f) (doubled_well_formed f wf) over (number f (at c.0 i)) a s c.1 in
    copy-held f st'.masks c.0 i a s
    (over-holds (doubled_before f) (with_well_formed (edge_effects_before f) wf) before (omega arith) l
    (brings_with f (edge_effects f) (edge_effects_before f) (λ i x. turns-before wf i x a) (subst (λ g. Brings g a (number f (at c.0 i)) s) (doubled_with_lem f) w)))

-- P5: the mask at statement 1 is AUTO, and held NONE too before
pub p5-masks : (mask_of (flow_of p5) 1 0 ≡ 2) × (mask_left (flow_of p5) (solved (doubled_before (flow_of p5))).state 1 0 ≡ 3)
unfolding le_at tabulate count_lines record_end record_place kind_of statement_at flow_of first_of any elem select concat_map option_list up_to sum_below all_below upd closure closure_fuel reached entered callees walk_next walked called bodies touches on_cycle opaque opaque_call call_touches gosub_body can_return returning missed_from missed_after missed sure step_all arc_count brings union_below pulled changed enqueue visit visit_front visit_times initial solved returns_to return_edges once call_edges listed_edges edges_of edges kind_effects statement_effects entering continuation_effects own_effects key_effects edge_effects boundary key_arcs arcs_of doubled opaque_handler handler_touches mask_left mask_of edge_effects_before doubled_with doubled_before
p5-masks = (refl, refl)
