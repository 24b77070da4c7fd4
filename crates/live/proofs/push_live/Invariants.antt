-- The members below `from` have the set, and the words from there on are as they were.
use Rattle.std.specs.Prelude.{◌-◌}
use Rattle.live.proofs.Pushing.{Pushing}
use Rattle.live.proofs.push_live.Given as goal

abbrev pub invariant-loop-i : goal.invariant-loop-i
invariant-loop-i l = Pushing l.initial.work l.work l.initial.live_out l.live_out l.layout.n l.initial.queue l.queue l.row l.live l.from

abbrev pub decreases-loop-i : goal.decreases-loop-i
decreases-loop-i l = l.layout.n - l.from
