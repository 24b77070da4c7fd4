-- The RETURNs go where the calls before c make them go.
use Rattle.flow.specs.Format.{flow_of}
use Rattle.calls.proofs.Gathered.{Calling}
use Rattle.calls.proofs.returns.note_edges.Given as goal

abbrev pub invariant-loop-c : goal.invariant-loop-c
invariant-loop-c l = Calling (flow_of l.file) l.initial.work l.work l.h.statements l.c
