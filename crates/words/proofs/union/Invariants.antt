-- After k words the slice is the union of the first k words, and `grew` says whether they changed.
use Rattle.words.proofs.Unioned.{Joining}
use Rattle.words.proofs.union.Given as goal

abbrev pub invariant-loop-k : goal.invariant-loop-k
invariant-loop-k l = Joining l.initial.ws l.to l.from l.width l.ws l.grew l.k
