-- `certain::solve` meets its contract. The invariant: the law's. The measure: what may still be done.
-- Assumes nothing.
use Rattle.flow.specs.Format.{flow_of}
use Rattle.certain.specs.Clauses.Unwritten.{left}
use Rattle.certain.proofs.Solution.{Solving}
use Rattle.certain.proofs.solve.Given as goal

abbrev pub invariant-loop-i : goal.invariant-loop-i
invariant-loop-i l = Solving (flow_of l.file) l.initial.work l.work l.layout.n l.last

abbrev pub decreases-loop-i : goal.decreases-loop-i
decreases-loop-i l = left l.work l.layout.n
