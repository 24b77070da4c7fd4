-- The first c words have become what they shall.
use Rattle.sure.specs.Clauses.SureArrays.{unmissed}
use Rattle.sure.proofs.Becoming.{Becoming}
use Rattle.sure.proofs.note_unmissed.Given as goal

abbrev pub invariant-loop-c : goal.invariant-loop-c
invariant-loop-c l = Becoming (unmissed l.initial.work l.layout.n) l.initial.work l.work l.layout.n l.c
