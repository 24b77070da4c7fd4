-- The words before k are the same.
use Rattle.std.specs.Prelude.{◌≡◌, ℕ, ◌<◌}
use Rattle.dataflow.specs.Clauses.Bytes.{both_words}
use Rattle.dataflow.proofs.write.same_sets.Given as goal

abbrev pub invariant-loop-k : goal.invariant-loop-k
invariant-loop-k l = (x : ℕ) → x < l.k → both_words l.work l.layout.n l.layout.width l.i x ≡ both_words l.work l.layout.n l.layout.width l.j x
