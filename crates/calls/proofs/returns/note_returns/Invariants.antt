-- The row, empty at first, has gained the RETURNs below r.
use Rattle.flow.specs.Format.{flow_of}
use Rattle.statements.specs.Clauses.Layout.{returns_row_at}
use Rattle.calls.specs.Clauses.Joins.{Adds}
use Rattle.calls.proofs.ReturnSet.{returns_below}
use Rattle.calls.proofs.returns.note_returns.Given as goal

abbrev pub invariant-loop-r : goal.invariant-loop-r
invariant-loop-r l = Adds (returns_row_at l.layout.n) l.initial.work l.work l.layout.n (returns_below (flow_of l.file) l.r)
