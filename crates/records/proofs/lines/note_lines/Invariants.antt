-- The words say where the records passed stand.
use Rattle.records.specs.Clauses.Fields.{PartsNoted}
use Rattle.records.proofs.lines.note_lines.Given as goal

abbrev pub invariant-loop-r : goal.invariant-loop-r
invariant-loop-r l = PartsNoted l.file l.initial.work l.work l.base l.n l.r
