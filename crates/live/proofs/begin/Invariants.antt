-- The statements from i on are noted and settled, and those that changed wait.
use Rattle.flow.specs.Format.{flow_of}
use Rattle.live.proofs.Beginning.{Beginning}
use Rattle.live.proofs.begin.Given as goal

abbrev pub invariant-loop-i : goal.invariant-loop-i
invariant-loop-i l = Beginning (flow_of l.file) l.layout.n l.fn.work l.work l.fn.live_in l.live_in l.fn.live_out l.live_out l.queue l.i
