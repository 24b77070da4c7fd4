-- Walks of a graph that bring a state of an array to a number: "over all walks from the entry (arrays NONE there). The empty walk counts".
-- An edge turns a state by its effects on the array, one after the other.
use Rattle.std.specs.Prelude.{ℕ, true, List, [], ◌∷◌, ◌≡◌}
use Rattle.masks.specs.declared.Effect.{Effect}
use Rattle.masks.specs.State.{State, holds, turns}
use Rattle.theory.specs.Lists.{In}
use Rattle.theory.specs.Queue.{Graph, Arc}

-- the effects, in order, may turn the first state into the second
pub data Turns : List Effect → State → State → Type 0 where
  same : {s : State} → Turns [] s s
  then : {e : Effect} {es : List Effect} {s t u : State} → turns e s t ≡ true → Turns es t u → Turns (e ∷ es) s u

-- a walk brings state s of array a to number d
pub data Brings (g : Graph) (a : ℕ) : ℕ → State → Type 0 where
  empty : {s : State} → holds (g.boundary a) s ≡ true → Brings g a g.entry s
  along : {d : ℕ} {s t : State} {e : Arc} → Brings g a d s → In e (g.arcs d) → Turns (e.effects a) s t → Brings g a e.to t
