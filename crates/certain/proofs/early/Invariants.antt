-- `certain::early` meets its contract. The invariant: what the first i statements read too early.
-- Assumes nothing.
use Rattle.flow.specs.Format.{flow_of}
use Rattle.certain.specs.Clauses.CertainNames.{Early}
use Rattle.certain.proofs.early.Given as goal

abbrev pub invariant-loop-i : goal.invariant-loop-i
invariant-loop-i l = Early (flow_of l.file) l.i l.names
