-- The measure of the calls: twice the number of unentered bodies, and one more for a call, since a body is opened between.
use Rattle.std.proofs.Common.{◌-◌, ◌+◌, ◌*◌}
use Rattle.flow.specs.Format.{flow_of, statements_of}
use Rattle.calls.proofs.BodySummary.{BodyLoop}
use Rattle.calls.proofs.CallSummary.{CallLoop}
use Rattle.calls.proofs.Summaries.{unentered_count}
use Rattle.calls.proofs.summary.+call_summary_sub_effect.Given as goal

abbrev pub decreases-call_summary : goal.decreases-call_summary
decreases-call_summary l = 2 * unentered_count l.work.now (statements_of l.file.now) + 1

abbrev pub decreases-sub_effect : goal.decreases-sub_effect
decreases-sub_effect l = 2 * unentered_count l.work.now (statements_of l.file.now)

abbrev pub invariant-call_summary-loop-k : goal.invariant-call_summary-loop-k
invariant-call_summary-loop-k l = CallLoop (flow_of l.file) l.initial.work l.work (statements_of l.file) l.c.0 l.opaque l.k

abbrev pub invariant-sub_effect-loop-i : goal.invariant-sub_effect-loop-i
invariant-sub_effect-loop-i l = BodyLoop (flow_of l.file) l.initial.work l.work (statements_of l.file) l.e.0 l.opaque l.from

abbrev pub decreases-sub_effect-loop-i : goal.decreases-sub_effect-loop-i
decreases-sub_effect-loop-i l = statements_of l.file - l.from
