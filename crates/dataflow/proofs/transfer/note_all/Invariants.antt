-- The first k words are noted.
use lib.Dec.{ltb}
use Rattle.dataflow.proofs.Sets.{Noting}
use Rattle.dataflow.proofs.transfer.note_all.Given as goal

abbrev pub invariant-loop-k : goal.invariant-loop-k
invariant-loop-k l = Noting l.initial.work l.set l.width (λ a. ltb a l.count) l.work l.k
