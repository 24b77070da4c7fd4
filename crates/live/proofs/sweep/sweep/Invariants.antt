-- The statements from i on are settled, and `changed` says whether a live-in word differs.
use Rattle.flow.specs.Format.{flow_of}
use Rattle.live.proofs.Sweeps.{Sweep}
use Rattle.live.proofs.sweep.sweep.Given as goal

abbrev pub invariant-loop-i : goal.invariant-loop-i
invariant-loop-i l = Sweep (flow_of l.file) l.n l.initial.live_in l.live_in l.initial.live_out l.live_out l.changed l.i
