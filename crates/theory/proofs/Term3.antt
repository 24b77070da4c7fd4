-- Term 3 at doubled numbers: whatever holds the boundary at the entry and follows every arc of the doubled graph holds what a run finds at a statement, at one of its
-- two numbers. The walks are such, and so is every closed table of masks; the union of a statement's two masks then holds what a run finds.
use Prim.Native.Nat.{ℕ, ◌+◌, ◌-◌, ◌<◌, ◌≤◌}
use mathlib.Core.Bool.{true}
use mathlib.Core.List.Memᴰ
use mathlib.Core.List.{[], ◌∷◌, map}
use mathlib.Core.Logic.{⊎_elim}
use mathlib.Core.Option.{some}
use mathlib.Core.Path.{◌≡◌, refl, sym, ap, subst}
use lib.Bits.{bit_or}
use lib.Dec.{lit<}
use native.Mathlib.Nat.{zero-add}
use native.Mathlib.Omega.{arith}
use borrow.Author.Tests.{lt-ltb, le-ltb}
use Rattle.masks.specs.State.{State, holds}
use Rattle.flow.specs.declared.Base.{Base}
use Rattle.flow.specs.declared.Base.TheVariants.{Zero, N}
use Rattle.flow.specs.Flow.{Flow, size}
use Rattle.theory.specs.Lists.{In}
use Rattle.theory.specs.Key.{OpaqueHandler, on_handler}
use Rattle.theory.specs.Clauses.WellFormed.{WellFormed}
use Rattle.theory.specs.Queue.{Arc, Graph}
use Rattle.theory.specs.Walks.{Turns, Brings}
use Rattle.theory.specs.Doubled.{Node, Edge, at, number, node, edges, edge_effects, boundary, key_arcs, arcs_of, doubled}
use Rattle.theory.specs.Runs.{Config, Run, Listed}
use Rattle.theory.proofs.MaskLaws.{or-held, or-holds-left, or-holds-right, all_carries}
use Rattle.theory.proofs.Edges.{edge-below}
use Rattle.theory.proofs.Runs.{Table, Closed, run-found}

-- a doubled number's node
pub node-number : (f : Flow) (v : Node) → v.stmt < size f → node f (number f v) ≡ v
node-number f v h = go v.base v.stmt h
  where
    go : (b : Base) (i : ℕ) → i < size f → node f (number f (at b i)) ≡ at b i
    go Zero i h = rw (zero-add i, lt-ltb i (size f) h)
    go N i h =
        let e : size f + i - size f ≡ i = omega arith in
        let above : size f ≤ size f + i = omega arith in
        rw (le-ltb (size f + i) (size f) above, e)

pub number-below : (f : Flow) (v : Node) → v.stmt < size f → number f v < size f + size f
number-below f v h = go v.base v.stmt h
  where
    go : (b : Base) (i : ℕ) → i < size f → number f (at b i) < size f + size f
    go Zero i h = omega arith
    go N i h = omega arith

-- an edge of a node is an arc of its number
pub arc_in : (f : Flow) (v : Node) {x : Edge} → v.stmt < size f → In x (edges f v)
    → In {A = Arc} (record { to = number f x.to; effects = edge_effects f v.stmt x }) ((doubled f).arcs (number f v))
unfolding doubled arcs_of
arc_in f v {x} h m =
    Memᴰ.append_left (key_arcs f)
    (subst (λ w. In {A = Arc} (record { to = number f x.to; effects = edge_effects f v.stmt x }) (map (λ e. record { to = number f e.to; effects = edge_effects f w.stmt e }) (edges f w)))
    (sym (node-number f v h)) (Memᴰ.map (λ e. record { to = number f e.to; effects = edge_effects f v.stmt e }) m))

-- the key's edge
abbrev pub key_arc : Flow → ℕ → Arc
key_arc f h = record { to = number f (at N h); effects = λ a. [] }

-- every number has it
pub key-arc_in : (f : Flow) (d : ℕ) {h : ℕ} → f.handler ≡ some h → In (key_arc f h) ((doubled f).arcs d)
unfolding doubled arcs_of key_arcs
key-arc_in f d {h} e =
    Memᴰ.append_right (map (λ x. record { to = number f x.to; effects = edge_effects f (node f d).stmt x }) (edges f (node f d)))
    (subst (λ l. In (key_arc f h) l) (sym (ap (λ o. on_handler o [] (λ h. key_arc f h ∷ [])) e)) (Memᴰ.head refl))

-- it holds the boundary at the entry and follows every arc
pub record Follows (g : Graph) (P : ℕ → ℕ → State → Type 0) : Type 0 where
  pub entry : 0 < g.nodes → (a : ℕ) (s : State) → holds (g.boundary a) s ≡ true → P g.entry a s
  pub arc : (d : ℕ) (x : Arc) (a : ℕ) (s t : State) → d < g.nodes → In x (g.arcs d) → P d a s → Turns (x.effects a) s t → P x.to a t

-- as a table over nodes, within the statements
abbrev table_of : (f : Flow) → (ℕ → ℕ → State → Type 0) → Table
table_of f P v a s = (v.stmt < size f) × P (number f v) a s

table_closed : (f : Flow) (P : ℕ → ℕ → State → Type 0) → WellFormed f → Follows (doubled f) P → Closed f (table_of f P)
unfolding doubled boundary
table_closed f P wf follows = record {
  entry = λ h a s turn. (wf.entry h, follows.entry (omega arith) a s (all_carries 1 (lit< tt) refl turn));
  edge = λ v x a s t held m turn. (
    edge-below f wf v m,
    follows.arc (number f v) (record { to = number f x.to; effects = edge_effects f v.stmt x }) a s t (number-below f v held.0) (arc_in f v held.0 m) held.1 turn,
  );
  key = λ v h a s e held. (wf.handler h e, follows.arc (number f v) (key_arc f h) a s s (number-below f v held.0) (key-arc_in f (number f v) e) held.1 Turns.same);
}

-- Term 3, for every list of moves, keys included, and all arrays at once, where the handler's body is not opaque
pub run-follows : (f : Flow) (P : ℕ → ℕ → State → Type 0) {x : Config} → WellFormed f → Listed f → (OpaqueHandler f → ⊥) → Follows (doubled f) P → Run f x
    → (x.stmt < size f) × ((b : Base) × ((a : ℕ) → P (number f (at b x.stmt)) a (x.states a)))
run-follows f P wf listed clear follows r =
    let q = run-found f (table_of f P) wf listed clear (table_closed f P wf follows) r in
    ((q.1 0).0, (q.0, λ a. (q.1 a).1))

-- the walks of a graph follow its arcs
walks_follow : (g : Graph) → Follows g (λ d a s. Brings g a d s)
walks_follow g = record { entry = λ h a s held. Brings.empty held; arc = λ d x a s t h m walk turn. Brings.along walk m turn }

-- a walk of the doubled graph brings what a run finds, all arrays in the same copy
pub run-brings : (f : Flow) {x : Config} → WellFormed f → Listed f → (OpaqueHandler f → ⊥) → Run f x
    → (x.stmt < size f) × ((b : Base) × ((a : ℕ) → Brings (doubled f) a (number f (at b x.stmt)) (x.states a)))
run-brings f wf listed clear r = run-follows f (λ d a s. Brings (doubled f) a d s) wf listed clear (walks_follow (doubled f)) r

-- the mask at a number holds the state, for the arrays that there are
abbrev pub Held : ℕ → (ℕ → ℕ → ℕ) → ℕ → ℕ → State → Type 0
Held arrays m d a s = a < arrays → holds (m d a) s ≡ true

-- the union over a statement's two masks holds what one of them holds

pub copy-held : (f : Flow) (m : ℕ → ℕ → ℕ) (b : Base) (i a : ℕ) (s : State) → holds (m (number f (at b i)) a) s ≡ true
    → holds (bit_or (m (number f (at Zero i)) a) (m (number f (at N i)) a)) s ≡ true
copy-held f m Zero i a s h = or-holds-left (m (number f (at Zero i)) a) (m (number f (at N i)) a) s h
copy-held f m N i a s h = or-holds-right (m (number f (at Zero i)) a) (m (number f (at N i)) a) s h

pub held-copy : (f : Flow) (m : ℕ → ℕ → ℕ) (i a : ℕ) (s : State) → holds (bit_or (m (number f (at Zero i)) a) (m (number f (at N i)) a)) s ≡ true
    → (b : Base) × (holds (m (number f (at b i)) a) s ≡ true)
held-copy f m i a s h = ⊎_elim (λ k. (Zero, k)) (λ k. (N, k)) (or-held (m (number f (at Zero i)) a) (m (number f (at N i)) a) s h)

-- Term 3 over any closed table of masks: the union over both copies holds what a run finds
pub run_masked : (f : Flow) (m : ℕ → ℕ → ℕ) {x : Config} → WellFormed f → Listed f → (OpaqueHandler f → ⊥) → Follows (doubled f) (Held f.arrays m) → Run f x
    → (a : ℕ) → a < f.arrays → holds (bit_or (m (number f (at Zero x.stmt)) a) (m (number f (at N x.stmt)) a)) (x.states a) ≡ true
run_masked f m {x} wf listed clear follows r a h =
    let q = run-follows f (Held f.arrays m) wf listed clear follows r in
    copy-held f m q.1.0 x.stmt a (x.states a) (q.1.1 a h)
