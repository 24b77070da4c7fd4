-- `add_lines` meets its contract. The invariant: the row has gained the bodies that the lines before l enter. So the rows of walks stay.
-- Assumes nothing.
use lib.ListN.{take}
use Rattle.flow.specs.Format.{flow_of}
use Rattle.theory.specs.Body.{kind, call_lines}
use Rattle.calls.specs.Clauses.Joins.{Adds, bodies_of}
use Rattle.calls.proofs.Lines.{entered_by}
use Rattle.calls.proofs.rows.add_lines.Given as goal

abbrev pub invariant-loop-l : goal.invariant-loop-l
invariant-loop-l l =
    Adds l.to l.initial.work l.work l.n (bodies_of (flow_of l.file) l.whole (entered_by (flow_of l.file) (take l.l (call_lines (kind (flow_of l.file) l.c.0)))))
