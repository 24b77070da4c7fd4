-- `note_rows` meets its contract. The invariant: the rows of the transparent calls before i are noted.
-- By the laws of `Notes`. Assumes nothing.
use Rattle.flow.specs.Format.{flow_of}
use Rattle.calls.specs.Clauses.Joins.{NotesCalls}
use Rattle.calls.proofs.rows.note_rows.Given as goal

abbrev pub invariant-loop-i : goal.invariant-loop-i
invariant-loop-i l = NotesCalls (flow_of l.file) l.initial.work l.work l.n 0 l.i
