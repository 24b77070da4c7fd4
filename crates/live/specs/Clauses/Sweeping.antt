-- A statement is settled when its words follow from its successors' live-in, and a sweep settles every statement once. Where it changes nothing, all of them
-- satisfy document 01's equation.
use Rattle.std.specs.Prelude.{ℕ, Bool, false, cond, not, List, [], ◌≡◌, eqb, length, get_or, set}
use Rattle.flow.specs.Flow.{Flow}
use Rattle.theory.specs.Body.{successors}
use Rattle.theory.specs.Queue.{union_below, join}
use Rattle.statements.specs.Clauses.Ready.{Keeps}
use Rattle.solve.specs.declared.Queue.{Queue}
use Rattle.solve.specs.Clauses.Waiting.{Waits, KeepsRest}
use Rattle.live.specs.Clauses.Solving.{transfer, Sound, Solving}

-- live-out of statement i, from the live-in words
abbrev pub gathered : Flow → List ℕ → ℕ → ℕ
gathered f ins i = union_below (length (successors f i)) (λ k. get_or ins (get_or (successors f i) k 0) 0)

-- r says whether the live-in changed
pub record Settled (f : Flow) (i : ℕ) (ins ins' outs outs' : List ℕ) (r : Bool) : Type 0 where
  pub live_in : ins' ≡ set ins i (transfer f i (gathered f ins i))
  pub live_out : outs' ≡ set outs i (gathered f ins i)
  pub changed : r ≡ not (eqb (transfer f i (gathered f ins i)) (get_or ins i 0))

-- a statement whose live-in changed waits
pub record SettledOrWaits (f : Flow) (n : ℕ) (ws vs ins ins' outs outs' : List ℕ) (q r : Queue) (i : ℕ) : Type 0 where
  pub changed : Bool
  pub settled : Settled f i ins ins' outs outs' changed
  pub waits : (w : List ℕ) → Waits ws n 0 q w → Waits vs n 0 r (cond changed (join w i) w)
  pub kept : KeepsRest n 0 ws vs

-- r says whether the last sweep changed a live-in
pub record Swept (f : Flow) (n : ℕ) (ins ins' outs outs' : List ℕ) (r : Bool) : Type 0 where
  pub sound : Sound f n ins'
  pub solved : r ≡ false → Solving f 0 n ins' outs' []
  pub in_area : Keeps 0 n ins ins'
  pub out_area : Keeps 0 n outs outs'
