-- The first k words of the row have stepped.
use Rattle.solve.proofs.Stepping.{Stepping}
use Rattle.solve.proofs.rows.step_members.Given as goal

abbrev pub invariant-loop-k : goal.invariant-loop-k
invariant-loop-k l = Stepping l.initial.work l.width l.to l.from l.set l.effect l.work l.k
