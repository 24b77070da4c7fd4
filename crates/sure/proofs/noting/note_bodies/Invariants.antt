-- The words of the first c statements are noted.
use Rattle.flow.specs.Format.{flow_of}
use Rattle.sure.proofs.Bodies.{BodiesUpTo}
use Rattle.sure.proofs.noting.note_bodies.Given as goal

abbrev pub invariant-loop-c : goal.invariant-loop-c
invariant-loop-c l = BodiesUpTo (flow_of l.file) l.initial.work l.work l.h.statements l.c l.found
