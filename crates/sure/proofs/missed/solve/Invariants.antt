-- The law's invariant. The measure: what may still be done.
use Rattle.flow.specs.Format.{flow_of}
use Rattle.sure.specs.Clauses.Missing.{left}
use Rattle.sure.proofs.Solution.{Solving}
use Rattle.sure.proofs.missed.solve.Given as goal

abbrev pub invariant-loop-k : goal.invariant-loop-k
invariant-loop-k l = Solving (flow_of l.file) l.initial.work l.work l.layout.n l.last

abbrev pub decreases-loop-k : goal.decreases-loop-k
decreases-loop-k l = left l.work l.layout.n
