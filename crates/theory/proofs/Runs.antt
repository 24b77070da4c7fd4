-- Term 3, over any table of (doubled number, array, state) that holds the entry's and is closed under the edges: what a run finds at a statement stands in
-- the table at one of its two copies, for all arrays at once. By induction on the list of moves, with one invariant on the statement, the states and the stack.
-- The table also holds what the handler may make of the states, since the entry and every edge end with its step: so going back from the handler needs no edge.
-- Whether a key counts plays no part.
use Prim.Native.Nat.{ℕ, ◌<◌}
use mathlib.Core.Bool.{Bool, true, false, ◌||◌, or-true, true≢false}
use mathlib.Core.List.Memᴰ
use mathlib.Core.List.{List, [], ◌∷◌}
use mathlib.Core.Option.{Option, none, some}
use mathlib.Core.Path.{◌≡◌, refl, sym, ap, ◌∙◌}
use Rattle.masks.specs.State.{State}
use Rattle.flow.specs.declared.Base.{Base}
use Rattle.flow.specs.declared.Base.TheVariants.{Zero, N}
use Rattle.flow.specs.Flow.{Flow, Kind, size}
use Rattle.theory.specs.Lists.{In}
use Rattle.theory.specs.Reach.{Reach}
use Rattle.theory.specs.Body.{kind, successors, continuation_of, entered, callees, is_return, wipes, walk_next, Walks, Calls, Opaque, OpaqueCall, CallTouches, opaque_call}
use Rattle.theory.specs.Key.{OpaqueHandler, HandlerTouches}
use Rattle.theory.specs.Sure.{is_gosub, returning, Missed, sure}
use Rattle.theory.specs.Clauses.WellFormed.{WellFormed}
use Rattle.theory.specs.Doubled.{Node, Edge, at, plain, same_node, edges, statement_effects, entering, key_effects, edge_effects}
use Rattle.theory.specs.Walks.{Turns}
use Rattle.theory.specs.Runs.{Frame, back, end, key, frame_of, Config, act, goes_on, empties, Move, Run, Listed}
use Rattle.theory.proofs.Lists.{clash}
use Rattle.theory.proofs.Edges.{call_edge, node-same, listed_edge, opaque-edge, entered-edge, continuation-edge, entered_known, return-edge, statement_of}
use Rattle.theory.proofs.Body.{callees-below, walked-complete, opaque_call-sound, opaque_call-complete, call_touches-complete}
use Rattle.theory.proofs.Handler.{handler_touches-complete}
use Rattle.theory.proofs.Sure.{gosub-one, returning-body, no_gosub, no_continuation, sure-sound}
use Rattle.theory.proofs.Acts.{turns-become_all, key-keeps, key-then, edge-act, Kept, kept_then, key-kept, kept-key, kept-nested, kept-none, edge_kept, act-kept, act-none}

-- states of arrays at doubled numbers
abbrev pub Table : Type 1
Table = Node → ℕ → State → Type 0

-- it holds at the entry what the handler may make of NONE, for every array, and follows every edge, the key's too
pub record Closed (f : Flow) (T : Table) : Type 0 where
  pub entry : 0 < size f → (a : ℕ) (s : State) → Turns (key_effects f a) State.none s → T (at Zero f.entry) a s
  pub edge : (v : Node) (x : Edge) (a : ℕ) (s t : State) → T v a s → In x (edges f v) → Turns (edge_effects f v.stmt x a) s t → T x.to a t
  pub key : (v : Node) (h a : ℕ) (s : State) → f.handler ≡ some h → T v a s → T (at N h) a s

-- it holds at a node what the handler may make of the states
abbrev Stands : Flow → Table → Node → (ℕ → State) → Type 0
Stands f T v s = (a : ℕ) (u : State) → Turns (key_effects f a) (s a) u → T v a u

-- in base 0 a frame that returns was pushed by an opaque call that enters a body on whose walk the run is
pub data Level (f : Flow) : ℕ → List Frame → Type 0 where
  bottom : {i : ℕ} → Level f i []
  ended : {i : ℕ} {k : List Frame} → Level f i (end ∷ k)
  called : {i c e j : ℕ} {k : List Frame} → continuation_of (kind f c) ≡ some j → opaque_call f c ≡ true → In e (callees f c) → Walks f e i → Level f c k
      → Level f i (back j ∷ k)

-- outer: in base 0. last: in base n, in a body that is not opaque, over "end". inner: in base n, in a body that is not opaque, over the frame of the call that
-- entered it; the invariant holds of that call, and where an array is NONE the body's start is missed if the statement here is. keyed: in base n, in the handler's body,
-- over the key's frame; the invariant holds of the statement before which the key came
pub data Invariant (f : Flow) (T : Table) : ℕ → (ℕ → State) → List Frame → Type 0 where
  outer : {i : ℕ} {s : ℕ → State} {k : List Frame} → Stands f T (at Zero i) s → Level f i k → Invariant f T i s k
  last : {i e : ℕ} {s : ℕ → State} {k : List Frame} → Stands f T (at N i) s → Walks f e i → (Opaque f e → ⊥) → Invariant f T i s (end ∷ k)
  inner : {i e c j : ℕ} {s t : ℕ → State} {k : List Frame} → Stands f T (at N i) s → Walks f e i → (Opaque f e → ⊥)
      → continuation_of (kind f c) ≡ some j → opaque_call f c ≡ false → In e (callees f c) → Invariant f T c t k
      → ((a : ℕ) → Kept f e a (act f c t a) (s a)) → ((a : ℕ) → s a ≡ State.none → Missed f a i → Missed f a e) → Invariant f T i s (back j ∷ k)
  keyed : {i h j : ℕ} {s t : ℕ → State} {k : List Frame} → Stands f T (at N i) s → Walks f h i → (Opaque f h → ⊥)
      → f.handler ≡ some h → Invariant f T j t k → ((a : ℕ) → Kept f h a (t a) (s a)) → Invariant f T i s (key j ∷ k)

-- the table holds all arrays' states at one copy, and what the handler may make of them
standing : {f : Flow} {T : Table} {i : ℕ} {s : ℕ → State} {k : List Frame} → Invariant f T i s k → (b : Base) × Stands f T (at b i) s
standing (Invariant.outer t l) = (Zero, t)
standing (Invariant.last t w o) = (N, t)
standing (Invariant.inner t w o c q m v r l) = (N, t)
standing (Invariant.keyed t w o h v r) = (N, t)

-- all arrays' states stand in the table at one copy
abbrev pub Found : Table → ℕ → (ℕ → State) → Type 0
Found T i s = (b : Base) × ((a : ℕ) → T (at b i) a (s a))

pub found : {f : Flow} {T : Table} {i : ℕ} {s : ℕ → State} {k : List Frame} → Invariant f T i s k → Found T i s
found {f} {s = s} inv = let r = standing inv in (r.0, λ a. r.1 a (s a) (key-keeps f a (s a)))

-- classes of kinds

calls-on : (k : Kind) {j : ℕ} → continuation_of k ≡ some j → is_return k ≡ false
calls-on Kind.other c = refl
calls-on Kind.return c = cc
calls-on Kind.clr c = refl
calls-on Kind.run c = refl
calls-on (Kind.dim items) c = refl
calls-on (Kind.gosub l e) c = refl
calls-on (Kind.on_gosub ls e) c = refl

-- kinds that go on to their listed successors, in the doubled graph and on a body walk
pub record BySuccessors (k : Kind) : Type 0 where
  pub alone : continuation_of k ≡ none
  pub moves : is_return k ≡ false

by_successors : (k : Kind) → (goes_on k || empties k) ≡ true → BySuccessors k
by_successors Kind.other h = record { alone = refl; moves = refl }
by_successors Kind.return h = record { alone = refl; moves = cc }
by_successors Kind.clr h = record { alone = refl; moves = refl }
by_successors Kind.run h = record { alone = refl; moves = refl }
by_successors (Kind.dim items) h = record { alone = refl; moves = refl }
by_successors (Kind.gosub l c) h = record { alone = cc; moves = refl }
by_successors (Kind.on_gosub ls c) h = record { alone = cc; moves = refl }

empties-wipes : (k : Kind) → empties k ≡ true → wipes k ≡ true
empties-wipes Kind.other h = cc
empties-wipes Kind.return h = cc
empties-wipes Kind.clr h = refl
empties-wipes Kind.run h = refl
empties-wipes (Kind.dim items) h = cc
empties-wipes (Kind.gosub l c) h = cc
empties-wipes (Kind.on_gosub ls c) h = cc

level_on : {f : Flow} {i j : ℕ} {k : List Frame} → Level f i k → In j (walk_next f i) → Level f j k
level_on Level.bottom m = Level.bottom
level_on Level.ended m = Level.ended
level_on (Level.called c o b w l) m = Level.called c o b (Reach.on w m) l

-- where the body walk goes on
walk_listed : (f : Flow) (i : ℕ) {j : ℕ} → continuation_of (kind f i) ≡ none → is_return (kind f i) ≡ false → In j (successors f i) → In j (walk_next f i)
unfolding walk_next
walk_listed f i c r m = rw (r, c) m

walk_continuation : (f : Flow) (i : ℕ) {j : ℕ} → continuation_of (kind f i) ≡ some j → In j (walk_next f i)
unfolding walk_next
walk_continuation f i c = rw (calls-on (kind f i) c, c) (Memᴰ.head refl)

entered_callee : (f : Flow) (c : ℕ) {e j : ℕ} → continuation_of (kind f c) ≡ some j → In e (entered f c) → In e (callees f c)
unfolding callees
entered_callee f c h m = rw h m

-- a statement at which a walk passes no body that counts for sure arrays: one without a continuation, or an ON GOSUB
abbrev Passes : Flow → ℕ → Type 0
Passes f i = (b : ℕ) → In b (returning f i) → ⊥

-- the body that a plain GOSUB enters is the one that it calls
called-missed : (f : Flow) (c : ℕ) {e a : ℕ} → In e (callees f c) → Missed f a e → (b : ℕ) → In b (returning f c) → Missed f a b
called-missed f c m x b k = rw (gosub-one f c (returning-body f c k).0 m) x

module _ (f : Flow) (T : Table) (wf : WellFormed f) (listed : Listed f) (clear : OpaqueHandler f → ⊥) (closed : Closed f T) where
  -- the statement's act is brought along an edge
  along : (b : Base) (i : ℕ) {s : ℕ → State} (x : Edge) → ((a : ℕ) → x.continues ≡ true → sure f i a ≡ true → entering f i x ≡ true)
      → Stands f T (at b i) s → In x (edges f (at b i)) → Stands f T x.to (act f i s)
  along b i {s} x n t m a u q = closed.edge (at b i) x a (s a) u (t a (s a) (key-keeps f a (s a))) m (edge-act f i x a s (n a) q)

  along-plain : {b : Base} {i : ℕ} {v : Node} {s : ℕ → State} → Stands f T (at b i) s → In (plain v) (edges f (at b i)) → Stands f T v (act f i s)
  along-plain {b} {i} {v} = along b i (plain v) (λ a h. clash false h refl)

  not_wiping : {e i : ℕ} → Walks f e i → (Opaque f e → ⊥) → wipes (kind f i) ≡ false
  not_wiping {i = i} w o = go (wipes (kind f i)) refl
    where
      go : (t : Bool) → wipes (kind f i) ≡ t → wipes (kind f i) ≡ false
      go true q = absurd (o (Opaque.own w q))
      go false q = q

  -- where a move of a body leaves NONE, the statement before it is missed if that after it is
  missed-before : {e i j a : ℕ} (s : ℕ → State) → Walks f e i → (Opaque f e → ⊥) → ((b : ℕ) → In b (returning f i) → Missed f a b) → In j (walk_next f i)
      → (s a ≡ State.none → Missed f a i → Missed f a e) → act f i s a ≡ State.none → Missed f a j → Missed f a e
  missed-before {i = i} {a = a} s v o b m link h x =
      let n = act-none f i a s (not_wiping v o) h in
      link n.1 (Missed.on n.0 b m x)

  -- an ordinary move, which stays on the body's walk: it has an edge in either base
  goes : {i j : ℕ} {s : ℕ → State} {k : List Frame} → Passes f i → ((b : Base) → (c : Bool) × In (record { to = at b j; continues = c }) (edges f (at b i)))
      → In j (walk_next f i) → Invariant f T i s k → Invariant f T j (act f i s) k
  goes {i} {j} {s} p x w inv = go inv
    where
      brings : (b : Base) → Stands f T (at b i) s → Stands f T (at b j) (act f i s)
      brings b t = along b i _ (λ a c h. let n = sure-sound wf i a h in absurd (p n.body n.enters)) t (x b).1

      go : {k : List Frame} → Invariant f T i s k → Invariant f T j (act f i s) k
      go (Invariant.outer t l) = Invariant.outer (brings Zero t) (level_on l w)
      go (Invariant.last t v o) = Invariant.last (brings N t) (Reach.on v w) o
      go (Invariant.inner t v o c q m call r link) =
          Invariant.inner (brings N t) (Reach.on v w) o c q m call
          (λ a. kept_then (r a) (act-kept f i a s v (not_wiping v o)))
          (λ a. missed-before s v o (λ b n. absurd (p b n)) w (link a))
      go (Invariant.keyed t v o h call r) =
          Invariant.keyed (brings N t) (Reach.on v w) o h call (λ a. kept_then (r a) (act-kept f i a s v (not_wiping v o)))

  -- a move to a listed successor of a statement that is neither RETURN nor a call with a continuation
  listed_move : {i j : ℕ} {s : ℕ → State} {k : List Frame} → BySuccessors (kind f i) → In j (successors f i) → Invariant f T i s k → Invariant f T j (act f i s) k
  listed_move {i} g m = goes (λ b. no_continuation f i g.alone) (λ b. (false, listed_edge f b i g.alone g.moves m)) (walk_listed f i g.alone g.moves m)

  -- CLR and RUN empty the stack, and no body that is not opaque meets them
  reset-move : {i j : ℕ} {s : ℕ → State} {k : List Frame} → empties (kind f i) ≡ true → In j (successors f i) → Invariant f T i s k → Invariant f T j (act f i s) []
  reset-move {i} h m (Invariant.outer t l) =
      let g = by_successors (kind f i) (rw (h, or-true)) in
      Invariant.outer (along-plain t (listed_edge f Zero i g.alone g.moves m)) Level.bottom
  reset-move {i} h m (Invariant.last t w o) = absurd (o (Opaque.own w (empties-wipes (kind f i) h)))
  reset-move {i} h m (Invariant.inner t w o c q b call r l) = absurd (o (Opaque.own w (empties-wipes (kind f i) h)))
  reset-move {i} h m (Invariant.keyed t w o e call r) = absurd (o (Opaque.own w (empties-wipes (kind f i) h)))

  -- a call without a continuation goes by a listed successor and pushes "end"
  enter_ending : {i e : ℕ} {s : ℕ → State} {k : List Frame} → BySuccessors (kind f i) → In e (entered f i) → Invariant f T i s k
      → Invariant f T e (act f i s) (end ∷ k)
  enter_ending {i} {e} g m inv = go (listed_move g (listed.enters i e m) inv)
    where
      go : {s : ℕ → State} {k : List Frame} → Invariant f T e s k → Invariant f T e s (end ∷ k)
      go (Invariant.outer t l) = Invariant.outer t Level.ended
      go (Invariant.last t w o) = Invariant.last t w o
      go (Invariant.inner t w o c q b call r l) = Invariant.last t w o
      go (Invariant.keyed t w o h call r) = Invariant.last t w o

  -- no body that is not opaque meets an opaque call
  no_opaque-call : {e i : ℕ} → Walks f e i → (Opaque f e → ⊥) → OpaqueCall f i → ⊥
  no_opaque-call w o (OpaqueCall.enters_opaque m b) = o (Opaque.calls (Calls.calls w m) b)

  -- an opaque call stays in base 0, and its frame asks for the walk of the body that it enters
  enter_opaque : {i e j : ℕ} {s : ℕ → State} {k : List Frame} → continuation_of (kind f i) ≡ some j → opaque_call f i ≡ true → In e (entered f i)
      → Invariant f T i s k → Invariant f T e (act f i s) (back j ∷ k)
  enter_opaque {i} {e} c q m (Invariant.outer t l) =
      Invariant.outer (along-plain t (opaque-edge f Zero i c q (listed.enters i e m)))
      (Level.called c q (entered_callee f i c m) Reach.here l)
  enter_opaque {i} c q m (Invariant.last t w o) = absurd (no_opaque-call w o (opaque_call-sound f i q))
  enter_opaque {i} c q m (Invariant.inner t w o d p b call r l) = absurd (no_opaque-call w o (opaque_call-sound f i q))
  enter_opaque {i} c q m (Invariant.keyed t w o h call r) = absurd (no_opaque-call w o (opaque_call-sound f i q))

  -- a call that is not opaque goes to base n
  enter_copy : {i e j : ℕ} {s : ℕ → State} {k : List Frame} → continuation_of (kind f i) ≡ some j → opaque_call f i ≡ false → In e (entered f i)
      → (b : Base) × Stands f T (at b i) s → Invariant f T i s k → Invariant f T e (act f i s) (back j ∷ k)
  enter_copy {i} {e} {j} c q m (b, t) inv =
      Invariant.inner (along b i _ (λ a n h. entered_known f i (at b j) m) t (entered-edge f b i c q m)) Reach.here not_opaque c q (entered_callee f i c m) inv
      (λ a. Kept.kept) (λ a h x. x)
    where
      not_opaque : Opaque f e → ⊥
      not_opaque o = true≢false (sym (opaque_call-complete wf (OpaqueCall.enters_opaque (entered_callee f i c m) o)) ∙ q)

  call-move : {i e : ℕ} {s : ℕ → State} {k : List Frame} (c : Option ℕ) → continuation_of (kind f i) ≡ c → is_return (kind f i) ≡ false → In e (entered f i)
      → Invariant f T i s k → Invariant f T e (act f i s) (frame_of c ∷ k)
  call-move none h r m inv = enter_ending (record { alone = h; moves = r }) m inv
  call-move {i} {e} {s} {k} (some j) h r m inv = go (opaque_call f i) refl
    where
      go : (t : Bool) → opaque_call f i ≡ t → Invariant f T e (act f i s) (back j ∷ k)
      go true q = enter_opaque h q m inv
      go false q = enter_copy h q m (standing inv) inv

  -- ON GOSUB goes to its continuation instead: listed, or the continuation edge, in either base
  skip-move : {i j : ℕ} {s : ℕ → State} {k : List Frame} {ls : List ℕ} → kind f i ≡ Kind.on_gosub ls (some j) → Invariant f T i s k → Invariant f T j (act f i s) k
  skip-move {i} {j} {ls = ls} h = goes (λ b. no_gosub f i (ap is_gosub h)) (go (opaque_call f i) refl) (walk_continuation f i c)
    where
      c : continuation_of (kind f i) ≡ some j
      c = ap continuation_of h

      go : (t : Bool) → opaque_call f i ≡ t → (b : Base) → (x : Bool) × In (record { to = at b j; continues = x }) (edges f (at b i))
      go true q b = (false, opaque-edge f b i c q (listed.after i j ls h))
      go false q b = (same_node (at b j) (at b j), continuation-edge f b i c q)

  -- RETURN from a body that is not opaque: the continuation edge of its call brings what the body made of the call's act. An array that it leaves as NONE is missed, so it is not sure
  module _ {c e j : ℕ} {s t : ℕ → State} (h : continuation_of (kind f c) ≡ some j) (q : opaque_call f c ≡ false) (m : In e (callees f c))
      (r : (a : ℕ) → Kept f e a (act f c t a) (s a)) (missed : (a : ℕ) → s a ≡ State.none → Missed f a e) where
    brought : (b : Base) → Stands f T (at b c) t → Stands f T (at b j) s
    unfolding act
    brought b u a v y =
        closed.edge (at b c) (call_edge (at b j) (at b j)) a (t a) v (u a (t a) (key-keeps f a (t a))) (continuation-edge f b c h q)
        (edge_kept f c (call_edge (at b j) (at b j)) a (node-same (at b j)) (λ p. call_touches-complete wf (CallTouches.enters_touching m p))
        (λ p n. let k = sure-sound wf c a p in k.met (called-missed f c m (missed a n) k.body k.enters))
        (turns-become_all (statement_effects f c a) (t a)) (r a) y)

    resumed : {k : List Frame} → Invariant f T c t k → Invariant f T j s k
    resumed (Invariant.outer u l) = Invariant.outer (brought Zero u) (level_on l (walk_continuation f c h))
    resumed (Invariant.last u w o) = Invariant.last (brought N u) (Reach.on w (walk_continuation f c h)) o
    resumed (Invariant.inner u w o d p b call v link) =
        Invariant.inner (brought N u) (Reach.on w (walk_continuation f c h)) o d p b call
        (λ a. kept_then (v a) (kept_then (act-kept f c a t w (not_wiping w o)) (kept-nested (Calls.calls w m) (r a))))
        (λ a n. missed-before t w o (called-missed f c m (missed a n)) (walk_continuation f c h) (link a) (kept-none (r a) n))
    resumed (Invariant.keyed u w o d call v) =
        Invariant.keyed (brought N u) (Reach.on w (walk_continuation f c h)) o d call
        (λ a. kept_then (v a) (kept_then (act-kept f c a t w (not_wiping w o)) (kept-nested (Calls.calls w m) (r a))))

  return-move : {i j : ℕ} {s : ℕ → State} {k : List Frame} → kind f i ≡ Kind.return → Invariant f T i s (back j ∷ k) → Invariant f T j (act f i s) k
  return-move {i} {j} h (Invariant.outer t (Level.called {c = c} {e = e} d q m w l)) =
      Invariant.outer
      (along-plain t
      (return-edge f i (ap continuation_of h) (ap is_return h) (statement_of f c d) (wf.continuation c j d) d q m
      (walked-complete wf (callees-below wf c e m) w)))
      (level_on l (walk_continuation f c d))
  return-move {i} {s = s} h (Invariant.inner t w o d q m call r link) =
      resumed d q m (λ a. kept_then (r a) (act-kept f i a s w (not_wiping w o)))
      (λ a n. let k = act-none f i a s (not_wiping w o) n in link a k.1 (Missed.at_return k.0 (ap is_return h)))
      call

  -- a key: its edge brings the row as it is
  press-move : {i h : ℕ} {s : ℕ → State} {k : List Frame} → f.handler ≡ some h → Invariant f T i s k → Invariant f T h s (key i ∷ k)
  press-move {i} {h} e inv =
      let r = standing inv in
      Invariant.keyed (λ a u q. closed.key (at r.0 i) h a u e (r.1 a u q)) Reach.here (λ o. clear (OpaqueHandler.body_opaque e o)) e inv (λ a. Kept.kept)

  -- the invariant holds again after whatever the handler has done
  interrupted : {i : ℕ} {s t : ℕ → State} {k : List Frame} → ((a : ℕ) → Turns (key_effects f a) (t a) (s a)) → Invariant f T i t k → Invariant f T i s k
  interrupted {i} {s} {t} q = go
    where
      stands : {b : Base} → Stands f T (at b i) t → Stands f T (at b i) s
      stands r a u p = r a u (key-then f a (q a) p)

      go : {k : List Frame} → Invariant f T i t k → Invariant f T i s k
      go (Invariant.outer r l) = Invariant.outer (stands r) l
      go (Invariant.last r w o) = Invariant.last (stands r) w o
      go (Invariant.inner r w o c p m call v link) =
          Invariant.inner (stands r) w o c p m call (λ a. kept_then (v a) (key-kept f a (q a))) (λ a n. link a (kept-none (key-kept f a {e = i} (q a)) n))
      go (Invariant.keyed r w o h call v) = Invariant.keyed (stands r) w o h call (λ a. kept_then (v a) (key-kept f a (q a)))

  -- the RETURN that takes the key's frame: the row of the statement before which the key came holds what the handler made of it
  resume-move : {i j : ℕ} {s : ℕ → State} {k : List Frame} → Invariant f T i s (key j ∷ k) → Invariant f T j (act f i s) k
  resume-move {i = i} {j = j} {s = s} {k = k} (Invariant.outer _ l) = elim l [ ]
  resume-move {i} {s = s} (Invariant.keyed t w o h call r) =
      interrupted
      (λ a. kept-key f a (λ p. handler_touches-complete wf (HandlerTouches.body_touches h p)) (kept_then (r a) (act-kept f i a s w (not_wiping w o))))
      call

  moved : {x y : Config} → Move f x y → Invariant f T x.stmt x.states x.stack → Invariant f T y.stmt y.states y.stack
  moved (Move.next {i = i} h m) inv = listed_move (by_successors (kind f i) (rw h)) m inv
  moved (Move.reset h m) inv = reset-move h m inv
  moved (Move.gosub {c = c} h m) inv = call-move c (ap continuation_of h) (ap is_return h) m inv
  moved (Move.on_gosub {c = c} h m) inv = call-move c (ap continuation_of h) (ap is_return h) m inv
  moved (Move.skip h) inv = skip-move h inv
  moved (Move.return h) inv = return-move h inv
  moved (Move.press h) inv = press-move h inv
  moved (Move.resume h) inv = resume-move inv

  -- the invariant holds wherever a run has come
  pub holds_of : {x : Config} → Run f x → Invariant f T x.stmt x.states x.stack
  holds_of (Run.start h) = Invariant.outer (closed.entry h) Level.bottom
  holds_of (Run.move r m) = moved m (holds_of r)

  -- Term 3: what a run finds stands in the table
  pub run-found : {x : Config} → Run f x → Found T x.stmt x.states
  run-found r = found (holds_of r)
