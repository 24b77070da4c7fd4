-- The RETURNs before the place where the search goes on have their leaders.
use Rattle.std.specs.Prelude.{◌-◌, ◌≤◌}
use Rattle.flow.specs.Format.{flow_of}
use Rattle.calls.proofs.Leading.{Leading}
use Rattle.calls.proofs.leaders.note_leaders.Given as goal

abbrev pub invariant-loop-r : goal.invariant-loop-r
invariant-loop-r l = Leading (flow_of l.file) l.initial.work l.work l.layout.n l.from × (l.from ≤ l.layout.n)

abbrev pub decreases-loop-r : goal.decreases-loop-r
decreases-loop-r l = l.layout.n - l.from
