-- The first k words of the three sets are loaded.
use Rattle.accept.proofs.Loading.{RowLoading}
use Rattle.accept.proofs.rows.load_row.Given as goal

abbrev pub invariant-loop-k : goal.invariant-loop-k
invariant-loop-k l = RowLoading l.s l.initial.work l.work l.row l.width l.k
