-- The handler's body and the calls below c have their summaries, and no body is open.
use Rattle.words.specs.Clauses.Row.{Words}
use Rattle.flow.specs.Format.{flow_of}
use Rattle.calls.proofs.Summaries.{SummedBelow}
use Rattle.calls.proofs.summary.summarize_each.Given as goal

abbrev pub invariant-loop-c : goal.invariant-loop-c
invariant-loop-c l = SummedBelow (flow_of l.file) l.initial.work l.work l.n l.c × Words l.work
