-- A run stays within the flow's statements, with any handler: a move goes to a successor, to an entered statement, to a continuation, to the handler, or back to where a frame says,
-- and what a frame says is a continuation or the statement before which a key came. By induction on the list of moves. Assumes nothing.
use Prim.Native.Nat.{ℕ, ◌<◌}
use mathlib.Core.List.{List, [], ◌∷◌}
use mathlib.Core.Option.{Option, none, some}
use mathlib.Core.Path.{◌≡◌, ap}
use Rattle.flow.specs.Flow.{Flow, size}
use Rattle.theory.specs.Body.{kind, continuation_of}
use Rattle.theory.specs.Runs.{Frame, back, end, key, frame_of, Config, Move, Run}
use Rattle.theory.specs.Clauses.WellFormed.{WellFormed}
use Rattle.theory.proofs.Body.{entered_below}

-- every frame goes back to a statement
data Frames (f : Flow) : List Frame → Type 0 where
  bottom : Frames f []
  ended : {k : List Frame} → Frames f k → Frames f (end ∷ k)
  called : {j : ℕ} {k : List Frame} → j < size f → Frames f k → Frames f (back j ∷ k)
  pressed : {j : ℕ} {k : List Frame} → j < size f → Frames f k → Frames f (key j ∷ k)

record Within (f : Flow) (x : Config) : Type 0 where
  stmt : x.stmt < size f
  stack : Frames f x.stack

called-to : {f : Flow} {j : ℕ} {k : List Frame} → Frames f (back j ∷ k) → (j < size f) × Frames f k
called-to (Frames.called l s) = (l, s)

pressed-at : {f : Flow} {j : ℕ} {k : List Frame} → Frames f (key j ∷ k) → (j < size f) × Frames f k
pressed-at (Frames.pressed l s) = (l, s)

module _ {f : Flow} (wf : WellFormed f) where
  pushed : (i : ℕ) {k : List Frame} (c : Option ℕ) → continuation_of (kind f i) ≡ c → Frames f k → Frames f (frame_of c ∷ k)
  pushed i none e s = Frames.ended s
  pushed i (some j) e s = Frames.called (wf.continuation i j e) s

  stays : {x y : Config} → Within f x → Move f x y → Within f y
  stays p (Move.next {i = i} {j = j} g m) = record { stmt = wf.successor i j m; stack = p.stack }
  stays p (Move.reset {i = i} {j = j} g m) = record { stmt = wf.successor i j m; stack = Frames.bottom }
  stays p (Move.gosub {i = i} {e = e} {c = c} q m) = record { stmt = entered_below wf i e m; stack = pushed i c (ap continuation_of q) p.stack }
  stays p (Move.on_gosub {i = i} {e = e} {c = c} q m) = record { stmt = entered_below wf i e m; stack = pushed i c (ap continuation_of q) p.stack }
  stays p (Move.skip {i = i} {j = j} q) = record { stmt = wf.continuation i j (ap continuation_of q); stack = p.stack }
  stays p (Move.return q) = let t = called-to p.stack in record { stmt = t.0; stack = t.1 }
  stays p (Move.press {h = h} q) = record { stmt = wf.handler h q; stack = Frames.pressed p.stmt p.stack }
  stays p (Move.resume q) = let t = pressed-at p.stack in record { stmt = t.0; stack = t.1 }

  within : {x : Config} → Run f x → Within f x
  within (Run.start l) = record { stmt = wf.entry l; stack = Frames.bottom }
  within (Run.move r m) = stays (within r) m

  pub run-below : {x : Config} → Run f x → x.stmt < size f
  run-below r = (within r).stmt
