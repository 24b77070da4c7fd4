-- The words hold the pairs of the first i statements, those of the last set among them.
use Rattle.std.specs.Prelude.{◌<◌, ◌^◌}
use Rattle.flow.specs.Format.{flow_of}
use Rattle.interference.specs.Clauses.Rows.{Seen}
use Rattle.interference.proofs.Paired.{Going}
use Rattle.interference.proofs.add_statements.Given as goal

abbrev pub invariant-loop-i : goal.invariant-loop-i
invariant-loop-i l = (l.last < 2 ^ 64) × Going (flow_of l.file).names (Seen (flow_of l.file) l.i) l.initial.rows l.rows l.last
