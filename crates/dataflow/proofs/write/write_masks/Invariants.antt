-- The rows of the statements before i are noted.
use Rattle.std.specs.Prelude.{◌≡◌}
use Rattle.statements.specs.Clauses.Layout.{set_words}
use Rattle.dataflow.specs.Clauses.Bytes.{both_copies, noted_rows}
use Rattle.dataflow.proofs.write.write_masks.Given as goal

abbrev pub invariant-loop-i : goal.invariant-loop-i
invariant-loop-i l = l.masks ≡ noted_rows l.initial.masks l.arrays (both_copies l.work l.n (set_words l.arrays)) l.i
