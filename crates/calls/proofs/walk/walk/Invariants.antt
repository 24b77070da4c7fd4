-- The walk as it is made: with the stack empty, the row is the walk. What is left to do falls with each turn.
use Rattle.flow.specs.Format.{flow_of}
use Rattle.calls.proofs.Walking.{Walking, left}
use Rattle.calls.proofs.walk.walk.Given as goal

abbrev pub invariant-loop-top : goal.invariant-loop-top
invariant-loop-top l = Walking (flow_of l.file) l.initial.work l.work l.layout.n l.e.0 l.top

abbrev pub decreases-loop-top : goal.decreases-loop-top
decreases-loop-top l = left l.work l.layout.n l.e.0 l.top
