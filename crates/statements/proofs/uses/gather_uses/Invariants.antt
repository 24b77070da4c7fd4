-- What the first i statements write and read.
use Rattle.flow.specs.Format.{flow_of}
use Rattle.statements.specs.Clauses.Uses.{Gathered}
use Rattle.statements.proofs.uses.gather_uses.Given as goal

abbrev pub invariant-loop-i : goal.invariant-loop-i
invariant-loop-i l = Gathered (flow_of l.file) l.i l.written l.read
