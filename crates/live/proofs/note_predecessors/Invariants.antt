-- `live::note_predecessors` meets its contract. The invariant: after k successors the statement's column holds the first k, and the rest is as it was.
-- Assumes nothing.
use Rattle.flow.specs.Format.{flow_of}
use Rattle.theory.specs.Body.{successors}
use Rattle.live.proofs.Noting.{Noting}
use Rattle.live.proofs.note_predecessors.Given as goal

abbrev pub invariant-loop-k : goal.invariant-loop-k
invariant-loop-k l = Noting (successors (flow_of l.file) l.i.0) l.initial.work l.work l.layout.n l.i.0 l.k
