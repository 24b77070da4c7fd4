-- Request E3 changes nothing in a flow without a handler: its doubled graph, masks, visits, certain names and runs are those of the definitions before the request, which stand here.
-- No step of a handler is taken and no edge is a key's; a run never meets a key's frame, and a key always counts. Assumes nothing.
use Prim.Native.Nat.{ℕ, ◌+◌, ◌<◌}
use mathlib.Core.Bool.{Bool, true, false, not, ◌&&◌, ◌||◌}
use mathlib.Core.List.{List, [], ◌∷◌, ◌++◌, map, append-nil}
use mathlib.Core.Option.{Option, none, some}
use mathlib.Core.Path.{◌≡◌, refl, sym, ◌∙◌, ap, ap₂, fun_ext}
use Rattle.masks.specs.declared.Effect.{Effect}
use Rattle.masks.specs.State.{State}
use Rattle.flow.specs.declared.Base.TheVariants.{Zero}
use Rattle.flow.specs.Flow.{Flow, Kind, size}
use Rattle.theory.specs.Lists.{In, any, up_to, all_below}
use Rattle.theory.specs.Body.{kind, successors, entered, touches, opaque}
use Rattle.theory.specs.Key.{on_handler, opaque_handler, handler_touches}
use Rattle.theory.specs.Queue.{Arc, Graph, step_all}
use Rattle.theory.specs.Doubled.{Edge, at, number, node, edges, own_effects, key_effects, edge_effects, boundary, key_arcs, arcs_of, doubled}
use Rattle.theory.specs.Masks.{mask_left}
use Rattle.theory.specs.Computed.{solved, mask_of, visits_of}
use Rattle.theory.specs.Live.{reads, writes}
use Rattle.theory.specs.Certain.{Reached, Unwritten, Certain, reached_at, unwritten_at, certain}
use Rattle.theory.specs.Runs.{Frame, frame_of, Config, config, act, goes_on, empties, Move, Run}
use Rattle.theory.proofs.Lists.{clash}
use Rattle.theory.proofs.Term3.{key_arc}

-- Graph, masks and visits

abbrev arc_with : Flow → (ℕ → Edge → ℕ → List Effect) → ℕ → Edge → Arc
arc_with f E d e = record { to = number f e.to; effects = E (node f d).stmt e }

unfoldable pub doubled_without_key : Flow → Graph
doubled_without_key f = record {
  nodes = size f + size f;
  arrays = f.arrays;
  entry = number f (at Zero f.entry);
  boundary = λ a. 1;
  arcs = λ d. map (arc_with f (own_effects f) d) (edges f (node f d));
}

unfoldable pub mask_without_key : Flow → ℕ → ℕ → ℕ
mask_without_key f = mask_left f (solved (doubled_without_key f)).state

unfoldable pub visits_without_key : Flow → ℕ
visits_without_key f = (solved (doubled_without_key f)).count

-- Certain names

pub record CertainWithoutKey (f : Flow) (x : ℕ) : Type 0 where
  pub writer : (i : ℕ) × (i < size f) × (writes f i x ≡ true)
  pub readers : (i : ℕ) → i < size f → reads f i x ≡ true → Reached f i × (Unwritten f x i → ⊥)

unfoldable pub certain_without_key : Flow → ℕ → Bool
certain_without_key f x =
    any (λ i. writes f i x) (up_to (size f))
    && all_below (size f) (λ i. not (reads f i x) || (reached_at f i && not (unwritten_at f x i)))

module _ (f : Flow) (free : f.handler ≡ none) where
  pub no_opaque-handler : opaque_handler f ≡ false
  unfolding opaque_handler
  no_opaque-handler = ap (λ o. on_handler o false (opaque f)) free

  no_effects : (a : ℕ) → key_effects f a ≡ []
  unfolding key_effects handler_touches
  no_effects a = rw (ap (λ o. on_handler o false (λ h. touches f h a)) free) refl

  no_arcs : key_arcs f ≡ []
  unfolding key_arcs
  no_arcs = ap (λ o. on_handler o [] (λ h. key_arc f h ∷ [])) free

  same-boundary : boundary f ≡ (λ a. 1)
  unfolding boundary step_all
  same-boundary = fun_ext (λ a. ap (λ es. step_all es 1) (no_effects a))

  same-effects : edge_effects f ≡ own_effects f
  unfolding edge_effects
  same-effects = fun_ext (λ i. fun_ext (λ e. fun_ext (λ a. ap (λ es. own_effects f i e a ++ es) (no_effects a) ∙ append-nil (own_effects f i e a))))

  same-arcs : (d : ℕ) → arcs_of f d ≡ map (arc_with f (own_effects f) d) (edges f (node f d))
  unfolding arcs_of
  same-arcs d =
      ap (λ l. map (arc_with f (edge_effects f) d) (edges f (node f d)) ++ l) no_arcs
      ∙ append-nil (map (arc_with f (edge_effects f) d) (edges f (node f d)))
      ∙ ap (λ E. map (arc_with f E d) (edges f (node f d))) same-effects

  pub same-doubled : doubled f ≡ doubled_without_key f
  unfolding doubled doubled_without_key
  same-doubled =
      ap₂ (λ (b : ℕ → ℕ) (l : ℕ → List Arc). record { nodes = size f + size f; arrays = f.arrays; entry = number f (at Zero f.entry); boundary = b; arcs = l })
      same-boundary (fun_ext same-arcs)

  pub same-mask : (i a : ℕ) → mask_of f i a ≡ mask_without_key f i a
  unfolding mask_of mask_without_key
  same-mask i a = rw no_opaque-handler (ap (λ g. mask_left f (solved g).state i a) same-doubled)

  pub same-visits : visits_of f ≡ visits_without_key f
  unfolding visits_of visits_without_key
  same-visits = rw no_opaque-handler (ap (λ g. (solved g).count) same-doubled)

  pub same-certain : (x : ℕ) → certain f x ≡ certain_without_key f x
  unfolding certain certain_without_key
  same-certain x = passes f.handler _ free
    where
      passes : (o : Option ℕ) (b : Bool) → o ≡ none → (on_handler o true (λ h. false) && b) ≡ b
      passes o b e = rw e refl

  pub certain-without : {x : ℕ} → Certain f x → CertainWithoutKey f x
  certain-without c = record { writer = c.writer; readers = c.readers }

  pub without-certain : {x : ℕ} → CertainWithoutKey f x → Certain f x
  without-certain c = record { no_handler = free; writer = c.writer; readers = c.readers }

-- Runs

pub data FrameWithoutKey : Type 0 where
  back : ℕ → FrameWithoutKey
  end : FrameWithoutKey

abbrev pub pushed : Option ℕ → FrameWithoutKey
pushed none = FrameWithoutKey.end
pushed (some k) = FrameWithoutKey.back k

pub record ConfigWithoutKey : Type 0 where
  pub stmt : ℕ
  pub states : ℕ → State
  pub stack : List FrameWithoutKey

abbrev place : ℕ → (ℕ → State) → List FrameWithoutKey → ConfigWithoutKey
place i s k = record { stmt = i; states = s; stack = k }

pub data MoveWithoutKey (f : Flow) : ConfigWithoutKey → ConfigWithoutKey → Type 0 where
  next : {i j : ℕ} {s : ℕ → State} {k : List FrameWithoutKey} → goes_on (kind f i) ≡ true → In j (successors f i)
      → MoveWithoutKey f (place i s k) (place j (act f i s) k)
  reset : {i j : ℕ} {s : ℕ → State} {k : List FrameWithoutKey} → empties (kind f i) ≡ true → In j (successors f i)
      → MoveWithoutKey f (place i s k) (place j (act f i s) [])
  gosub : {i e l : ℕ} {c : Option ℕ} {s : ℕ → State} {k : List FrameWithoutKey} → kind f i ≡ Kind.gosub l c → In e (entered f i)
      → MoveWithoutKey f (place i s k) (place e (act f i s) (pushed c ∷ k))
  on_gosub : {i e : ℕ} {ls : List ℕ} {c : Option ℕ} {s : ℕ → State} {k : List FrameWithoutKey} → kind f i ≡ Kind.on_gosub ls c → In e (entered f i)
      → MoveWithoutKey f (place i s k) (place e (act f i s) (pushed c ∷ k))
  skip : {i j : ℕ} {ls : List ℕ} {s : ℕ → State} {k : List FrameWithoutKey} → kind f i ≡ Kind.on_gosub ls (some j)
      → MoveWithoutKey f (place i s k) (place j (act f i s) k)
  return : {i j : ℕ} {s : ℕ → State} {k : List FrameWithoutKey} → kind f i ≡ Kind.return
      → MoveWithoutKey f (place i s (FrameWithoutKey.back j ∷ k)) (place j (act f i s) k)

pub data RunWithoutKey (f : Flow) : ConfigWithoutKey → Type 0 where
  start : 0 < size f → RunWithoutKey f (place f.entry (λ a. State.none) [])
  move : {x y : ConfigWithoutKey} → RunWithoutKey f x → MoveWithoutKey f x y → RunWithoutKey f y

-- as a configuration of now, in which a key counts

abbrev pub frame_now : FrameWithoutKey → Frame
frame_now (FrameWithoutKey.back j) = Frame.back j
frame_now FrameWithoutKey.end = Frame.end

abbrev pub now : ConfigWithoutKey → Config
now x = config x.stmt x.states (map frame_now x.stack) true

pushed-now : (c : Option ℕ) → frame_now (pushed c) ≡ frame_of c
pushed-now none = refl
pushed-now (some j) = refl

-- every run of before is one of now
pub run-now : {f : Flow} {x : ConfigWithoutKey} → RunWithoutKey f x → Run f (now x)
run-now (RunWithoutKey.start h) = Run.start h
run-now {f} (RunWithoutKey.move {x = x} {y = y} r m) = Run.move (run-now r) (go m)
  where
    go : {x y : ConfigWithoutKey} → MoveWithoutKey f x y → Move f (now x) (now y)
    go (MoveWithoutKey.next h m) = Move.next h m
    go (MoveWithoutKey.reset h m) = Move.reset h m
    go (MoveWithoutKey.gosub {c = c} h m) = rw (pushed-now c) (Move.gosub h m)
    go (MoveWithoutKey.on_gosub {c = c} h m) = rw (pushed-now c) (Move.on_gosub h m)
    go (MoveWithoutKey.skip h) = Move.skip h
    go (MoveWithoutKey.return h) = Move.return h

-- a stack with no key's frame, and as one of before

data Keyless : List Frame → Type 0 where
  empty : Keyless []
  back : {j : ℕ} {k : List Frame} → Keyless k → Keyless (Frame.back j ∷ k)
  end : {k : List Frame} → Keyless k → Keyless (Frame.end ∷ k)

stack_before : List Frame → List FrameWithoutKey
stack_before [] = []
stack_before (Frame.back j ∷ k) = FrameWithoutKey.back j ∷ stack_before k
stack_before (Frame.end ∷ k) = FrameWithoutKey.end ∷ stack_before k
stack_before (Frame.key j ∷ k) = stack_before k

no_key : {j : ℕ} {k : List Frame} → Keyless (Frame.key j ∷ k) → ⊥
no_key p = elim p [ ]

stack-now : {k : List Frame} → Keyless k → map frame_now (stack_before k) ≡ k
unfolding stack_before
stack-now Keyless.empty = refl
stack-now (Keyless.back {j = j} p) = ap (λ l. Frame.back j ∷ l) (stack-now p)
stack-now (Keyless.end p) = ap (λ l. Frame.end ∷ l) (stack-now p)

before : Config → ConfigWithoutKey
before x = place x.stmt x.states (stack_before x.stack)

-- what holds of a run's configurations without a handler
record Before (f : Flow) (x : Config) : Type 0 where
  counted : x.counts ≡ true
  keyless : Keyless x.stack
  run : RunWithoutKey f (before x)

module _ (f : Flow) (free : f.handler ≡ none) where
  moved : {x y : Config} → Move f x y → Before f x → Before f y
  unfolding before stack_before
  moved (Move.next h m) b = record { counted = b.counted; keyless = b.keyless; run = RunWithoutKey.move b.run (MoveWithoutKey.next h m) }
  moved (Move.reset h m) b = record { counted = b.counted; keyless = Keyless.empty; run = RunWithoutKey.move b.run (MoveWithoutKey.reset h m) }
  moved (Move.gosub {c = none} h m) b = record { counted = b.counted; keyless = Keyless.end b.keyless; run = RunWithoutKey.move b.run (MoveWithoutKey.gosub h m) }
  moved (Move.gosub {c = some j} h m) b = record { counted = b.counted; keyless = Keyless.back b.keyless; run = RunWithoutKey.move b.run (MoveWithoutKey.gosub h m) }
  moved (Move.on_gosub {c = none} h m) b = record { counted = b.counted; keyless = Keyless.end b.keyless; run = RunWithoutKey.move b.run (MoveWithoutKey.on_gosub h m) }
  moved (Move.on_gosub {c = some j} h m) b = record { counted = b.counted; keyless = Keyless.back b.keyless; run = RunWithoutKey.move b.run (MoveWithoutKey.on_gosub h m) }
  moved (Move.skip h) b = record { counted = b.counted; keyless = b.keyless; run = RunWithoutKey.move b.run (MoveWithoutKey.skip h) }
  moved (Move.return {k = k} h) b = record { counted = b.counted; keyless = go b.keyless; run = RunWithoutKey.move b.run (MoveWithoutKey.return h) }
    where
      go : {j : ℕ} → Keyless (Frame.back j ∷ k) → Keyless k
      go (Keyless.back p) = p
  moved (Move.press h) b = clash true refl (ap (λ o. on_handler o true (λ h. false)) (sym free ∙ h))
  moved (Move.resume h) b = absurd (no_key b.keyless)

  run-before : {x : Config} → Run f x → Before f x
  unfolding before stack_before
  run-before (Run.start h) = record { counted = refl; keyless = Keyless.empty; run = RunWithoutKey.start h }
  run-before (Run.move r m) = moved m (run-before r)

  -- and every run of now is one of before
  pub run-without : {x : Config} → Run f x → (y : ConfigWithoutKey) × (now y ≡ x) × RunWithoutKey f y
  unfolding before
  run-without {x} r = let b = run-before r in (before x, ap₂ (config x.stmt x.states) (stack-now b.keyless) (sym b.counted), b.run)
