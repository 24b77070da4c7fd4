-- The names in the live-in words are live.
use Rattle.std.specs.Prelude.{true}
use Rattle.flow.specs.Format.{flow_of}
use Rattle.live.specs.Clauses.Sweeping.{Swept}
use Rattle.live.proofs.sweep.sweeps.Given as goal

abbrev pub invariant-loop : goal.invariant-loop
invariant-loop l = Swept (flow_of l.file) l.n l.fn.live_in l.live_in l.fn.live_out l.live_out true
