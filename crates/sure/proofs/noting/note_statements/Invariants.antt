-- The first i statements are noted.
use Rattle.flow.specs.Format.{flow_of}
use Rattle.sure.proofs.Statements.{NotedUpTo}
use Rattle.sure.proofs.noting.note_statements.Given as goal

abbrev pub invariant-loop-i : goal.invariant-loop-i
invariant-loop-i l = NotedUpTo (flow_of l.file) l.initial.work l.work l.layout.n l.i
