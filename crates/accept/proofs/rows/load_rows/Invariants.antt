-- The first d numbers have the masks of their rows.
use Rattle.accept.specs.Clauses.Rows.{Loaded}
use Rattle.accept.proofs.rows.load_rows.Given as goal

abbrev pub invariant-loop-d : goal.invariant-loop-d
invariant-loop-d l = Loaded l.s l.initial.work l.work l.n l.arrays l.d
