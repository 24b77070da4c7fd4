-- What an accepted table gives: a run finds each array's state in one of the statement's two rows, all arrays in the same one; our own masks by doubled number are accepted, and every accepted table holds them.
-- An accepted table follows the arcs of the doubled graph, since a row that holds a state is not all zero; ours does by the queue rule, since a row that is not all zero was visited. Assumes nothing.
use Prim.Native.Nat.{ℕ, ◌+◌, ◌<◌}
use mathlib.Core.Bool.{Bool, true, false}
use mathlib.Core.Path.{◌≡◌, refl, sym, ap, subst, ◌∙◌}
use native.Mathlib.Decide.{ℕ_discrete}
use native.Mathlib.Omega.{arith}
use lib.Bits.{bit_or}
use Rattle.masks.specs.State.{State, holds}
use Rattle.flow.specs.declared.Base.{Base}
use Rattle.flow.specs.declared.Base.TheVariants.{Zero, N}
use Rattle.flow.specs.Flow.{Flow, size}
use Rattle.theory.specs.Lists.{In}
use Rattle.theory.specs.Key.{opaque_handler}
use Rattle.theory.specs.Clauses.WellFormed.{WellFormed}
use Rattle.theory.specs.Queue.{Arc, Graph, Solver, Over, step_all}
use Rattle.theory.specs.Walks.{Brings}
use Rattle.theory.specs.Doubled.{Node, at, number, edge_effects, doubled}
use Rattle.theory.specs.Masks.{mask_left}
use Rattle.theory.specs.Computed.{Progress, mask_of, own_mask}
use Rattle.theory.specs.Accept.{Proposal, Holds, Filled, Holding, Accepted, Own, accepted}
use Rattle.theory.specs.Runs.{Config, Run, Listed}
use Rattle.theory.proofs.Lists.{clash, not_so}
use Rattle.theory.proofs.Handler.{opaque_handler-sound, opaque_handler-complete, handler-not-opaque, not-opaque-handler}
use Rattle.theory.proofs.MaskLaws.{zero-holds, all_carries}
use Rattle.theory.proofs.Invariant.{WellFormedGraph}
use Rattle.theory.proofs.Computed.{solved-over, over-solved}
use Rattle.theory.proofs.Exact.{over-brought, over-entry, over-edge}
use Rattle.theory.proofs.RunsWithin.{run-below}
use Rattle.theory.proofs.Term3.{number-below, arc_in, key_arc, key-arc_in, Follows, Held, run-follows}
use Rattle.theory.proofs.Terms.{doubled_well_formed, any-state}
use Rattle.theory.proofs.Accept.{any_numbers, row-filled, holding_leaves, accepted-sound, accepted-complete}

-- the bytes of a proposal that was not refused
abbrev pub Bytes : Flow → Proposal → Type 0
Bytes f t = (d a : ℕ) → d < size f + size f → a < f.arrays → t d a < 8

-- an accepted table follows every arc
pub holding-follows : (f : Flow) (t : Proposal) → Bytes f t → Holding f t → Follows (doubled f) (Held f.arrays t)
unfolding doubled
holding-follows f t bytes h = record {
  entry = λ some a s k l. h.entry a l s k;
  arc = λ d x a s u below m held turn l.
      holding_leaves f t h d below (row-filled f t d (a, l, λ z. zero-holds s (subst (λ (b : ℕ). holds b s ≡ true) z (held l)))) x m a l u
      (all_carries (t d a) (bytes d a below l) (held l) turn);
}

-- Term 3 over any accepted table, for every list of moves, keys included, and all arrays in the same row
pub accepted-runs : (f : Flow) (t : Proposal) → WellFormed f → Bytes f t → Accepted f t → Listed f → {x : Config} → Run f x
    → (x.stmt < size f) × ((b : Base) × ((a : ℕ) → a < f.arrays → holds (t (number f (at b x.stmt)) a) (x.states a) ≡ true))
accepted-runs f t wf bytes (Accepted.no_statements e) listed r = let l = run-below wf r in absurd (omega arith)
accepted-runs f t wf bytes (Accepted.all_any o h) listed {x} r =
    (run-below wf r, (Zero, λ a l. subst (λ (m : ℕ). holds m (x.states a) ≡ true) (sym (h (at Zero x.stmt) a (run-below wf r) l)) (any-state (x.states a))))
accepted-runs f t wf bytes (Accepted.holding some clear h) listed r = run-follows f (Held f.arrays t) wf listed clear (holding-follows f t bytes h) r

-- Our own masks

module _ {f : Flow} (wf : WellFormed f) where
  -- what the queue rule leaves
  left-holding : (t : Proposal) {k : ℕ} {st : Solver} → 0 < size f → Over (doubled f) k st → ((d a : ℕ) → d < size f + size f → a < f.arrays → t d a ≡ st.masks d a) → Holding f t
  unfolding doubled step_all
  left-holding t {st = st} some over same = record {
    entry = λ a l s k. left_at (at Zero f.entry) a s (wf.entry some) l (over-entry (doubled f) graph over nodes a l s k);
    edge = λ v x a l n m k. leaves v l n (record { to = number f x.to; effects = edge_effects f v.stmt x }) (arc_in f v l m) a k;
    key = λ v h a l n e k. leaves v l n (key_arc f h) (key-arc_in f (number f v) e) a k;
  }
    where
      graph : WellFormedGraph (doubled f)
      graph = doubled_well_formed f wf

      nodes : 0 < size f + size f
      nodes = omega arith

      left_at : (v : Node) (a : ℕ) (s : State) → v.stmt < size f → a < f.arrays → holds (st.masks (number f v) a) s ≡ true → holds (t (number f v) a) s ≡ true
      left_at v a s l k = subst (λ (m : ℕ). holds m s ≡ true) (sym (same (number f v) a (number-below f v l) k))

      leaves : (v : Node) → v.stmt < size f → Filled f t v → (x : Arc) → In x ((doubled f).arcs (number f v)) → (a : ℕ) → a < f.arrays → Holds (t x.to a) (step_all (x.effects a) (t (number f v) a))
      leaves v l (Filled.not_zero {a = b} j n) x m a k s h =
          subst (λ (y : ℕ). holds y s ≡ true) (sym (same x.to a (graph.target (number f v) x m) k))
          (over-edge (doubled f) graph over nodes (λ z. n (same (number f v) b (number-below f v l) j ∙ z)) m a k s
          (subst (λ (y : ℕ). holds (step_all (x.effects a) y) s ≡ true) (same (number f v) a (number-below f v l) k) h))

  pub own-accepted : {t : Proposal} → Own f t → Accepted f t
  own-accepted (Own.all_any o same) = Accepted.all_any o (λ v a l k. same (number f v) a (number-below f v l) k)
  own-accepted {t} (Own.left clear over same) = go (ℕ_discrete (size f) 0)
    where
      go : Dec (size f ≡ 0) → Accepted f t
      go (yes e) = Accepted.no_statements e
      go (no n) = let some : 0 < size f = omega (arith, n) in Accepted.holding some clear (left-holding t some over same)

  -- they are what is computed
  pub own-mask : Own f (own_mask f)
  unfolding own_mask
  own-mask = go (opaque_handler f) refl
    where
      go : (b : Bool) → opaque_handler f ≡ b → Own f (own_mask f)
      go true q = Own.all_any (opaque_handler-sound f q) (λ d a l k. rw q)
      go false q = Own.left (handler-not-opaque wf q) (solved-over (doubled f) (doubled_well_formed f wf)) (λ d a l k. rw q)

  -- and nothing else is
  pub own_unique : {t : Proposal} → Own f t → (d a : ℕ) → d < size f + size f → a < f.arrays → t d a ≡ own_mask f d a
  unfolding own_mask
  own_unique (Own.all_any o same) d a l k = same d a l k ∙ sym (rw (opaque_handler-complete wf o))
  own_unique (Own.left clear over same) d a l k =
      same d a l k ∙ (ap (λ (x : Progress). x.state.masks d a) (over-solved (doubled_well_formed f wf) over) ∙ sym (rw (not-opaque-handler f clear)))

  pub own-passes : accepted f (own_mask f) ≡ true
  own-passes = accepted-complete wf (own-accepted own-mask)

-- the union of a statement's two rows is its mask
pub own_union : (f : Flow) (i a : ℕ) → mask_of f i a ≡ bit_or (own_mask f (number f (at Zero i)) a) (own_mask f (number f (at N i)) a)
unfolding mask_of own_mask mask_left
own_union f i a = go (opaque_handler f) refl
  where
    go : (b : Bool) → opaque_handler f ≡ b → mask_of f i a ≡ bit_or (own_mask f (number f (at Zero i)) a) (own_mask f (number f (at N i)) a)
    go true q = rw q
    go false q = rw q

-- The least accepted table

-- what follows every arc has what a walk brings
follows-brings : (g : Graph) (P : ℕ → ℕ → State → Type 0) {a d : ℕ} {s : State} → WellFormedGraph g → Follows g P → 0 < g.nodes → Brings g a d s → (d < g.nodes) × P d a s
follows-brings g P {a} {s = s} wf follows some (Brings.empty h) = (wf.entry some, follows.entry some a s h)
follows-brings g P {a} {s = u} wf follows some (Brings.along {d = d} {s = s} {e = e} b m x) =
    let r = follows-brings g P wf follows some b in
    (wf.target d e m, follows.arc d e a s u r.0 m r.1 x)

-- every accepted table holds our own masks
pub own_least : {f : Flow} → WellFormed f → {t u : Proposal} → Own f t → Bytes f u → Accepted f u → (d a : ℕ) → d < size f + size f → a < f.arrays → Holds (u d a) (t d a)
unfolding doubled
own_least wf own bytes (Accepted.no_statements e) d a l k s h = absurd (omega arith)
own_least {f} wf {u = u} own bytes (Accepted.all_any o any) d a l k s h = subst (λ (m : ℕ). holds m s ≡ true) (sym (any_numbers f u any d a l k)) (any-state s)
own_least wf (Own.all_any o same) bytes (Accepted.holding some clear held) d a l k s h = absurd (clear o)
own_least {f} wf {u = u} (Own.left clear over same) bytes (Accepted.holding some free held) d a l k s h =
    let nodes : 0 < size f + size f = omega arith in
    (follows-brings (doubled f) (Held f.arrays u) (doubled_well_formed f wf) (holding-follows f u bytes held) nodes
    (over-brought (doubled f) (doubled_well_formed f wf) over d a s (subst (λ (m : ℕ). holds m s ≡ true) (same d a l k) h))).1 k

-- so that none of our own states can be spared
pub own_needed : {f : Flow} → WellFormed f → {t u : Proposal} → Own f t → Bytes f u → (d a : ℕ) (s : State) → d < size f + size f → a < f.arrays
    → holds (t d a) s ≡ true → holds (u d a) s ≡ false → accepted f u ≡ false
own_needed {f} wf {u = u} own bytes d a s l k h n = not_so (accepted f u) (λ q. clash (holds (u d a) s) (own_least wf own bytes (accepted-sound wf q) d a l k s h) n)
