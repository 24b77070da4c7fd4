-- The bytes before k are those of the word.
use Rattle.std.specs.Prelude.{◌≡◌}
use Rattle.words.specs.Clauses.Byte.{byte_of}
use Rattle.words.specs.Clauses.Change.{noted}
use Rattle.dataflow.proofs.write.write_bytes.Given as goal

abbrev pub invariant-loop-k : goal.invariant-loop-k
invariant-loop-k l = l.out ≡ noted l.initial.out 0 l.k (byte_of l.word)
