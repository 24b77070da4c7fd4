-- The first k successors were put into the row.
use Rattle.std.specs.Prelude.{take}
use Rattle.flow.specs.Format.{flow_of}
use Rattle.theory.specs.Body.{successors}
use Rattle.calls.specs.Clauses.Walking.{Met}
use Rattle.calls.proofs.walk.meet_successors.Given as goal

abbrev pub invariant-loop-k : goal.invariant-loop-k
invariant-loop-k l = Met l.initial.work l.work l.layout.n l.e.0 l.top l.height (take l.k (successors (flow_of l.file) l.i.0))
