-- `clear_rows` meets its contract. The invariant: the rows of the RETURNs before r are empty.
-- By the laws of `Notes`. Assumes nothing.
use Rattle.flow.specs.Format.{flow_of}
use Rattle.calls.specs.Clauses.Joins.{ClearsReturns}
use Rattle.calls.proofs.rows.clear_rows.Given as goal

abbrev pub invariant-loop-r : goal.invariant-loop-r
invariant-loop-r l = ClearsReturns (flow_of l.file) l.initial.work l.work l.layout.n 0 l.r
