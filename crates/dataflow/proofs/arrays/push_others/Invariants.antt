-- The row went along the slots of the successors before k, and those from there on are left.
use Rattle.flow.specs.Format.{flow_of}
use Rattle.calls.specs.Clauses.Slots.{present, other_slots}
use Rattle.calls.proofs.Found.{left_from}
use Rattle.dataflow.specs.Clauses.Sent.{edge_row}
use Rattle.dataflow.proofs.Sending.{Sending}
use Rattle.dataflow.proofs.arrays.push_others.Given as goal

abbrev pub invariant-loop-k : goal.invariant-loop-k
invariant-loop-k l =
    Sending (flow_of l.file) l.initial.work l.work l.layout.n l.layout.width (edge_row l.layout.n l.layout.width) l.initial.queue l.copy.stmt.0 (present (other_slots (flow_of l.file) l.copy.base l.copy.stmt.0 l.call.continuation.0)) l.queue (left_from l.k (other_slots (flow_of l.file) l.copy.base l.copy.stmt.0 l.call.continuation.0))
