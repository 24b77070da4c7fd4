-- The masks of the words before k are noted.
use Rattle.std.specs.Prelude.{◌≡◌, ◌*◌, min}
use Rattle.words.specs.Clauses.Change.{noted}
use Rattle.dataflow.specs.Clauses.Bytes.{both_copies}
use Rattle.dataflow.proofs.write.write_row.Given as goal

abbrev pub invariant-loop-k : goal.invariant-loop-k
invariant-loop-k l = l.out ≡ noted l.initial.out 0 (min (64 * l.k) l.arrays) (both_copies l.work l.n l.width l.i)
