-- The first c words have become what they shall, and who asks no more waits.
use Rattle.sure.proofs.Becoming.{Opening}
use Rattle.sure.proofs.open_bodies.Given as goal

abbrev pub invariant-loop-c : goal.invariant-loop-c
invariant-loop-c l = Opening l.initial.work l.work l.layout.n l.c
