-- The names in the sets are live, and a statement that does not wait satisfies its equation. What is left to do is the statements that wait and the bits that no
-- live-out word has yet.
use Rattle.std.specs.Prelude.{◌+◌}
use Rattle.flow.specs.Format.{flow_of}
use Rattle.live.specs.Clauses.Spread.{missing}
use Rattle.live.specs.Clauses.LiveNames.{Begun}
use Rattle.live.proofs.live_names.Given as goal

abbrev pub invariant-loop-queue : goal.invariant-loop-queue
invariant-loop-queue l = Begun (flow_of l.file) l.layout.n l.fn.work l.work l.fn.live_in l.live_in l.fn.live_out l.live_out l.queue

abbrev pub decreases-loop-queue : goal.decreases-loop-queue
decreases-loop-queue l = l.queue.len + missing l.live_out l.layout.n
