-- The rows went along the slots of the lines before l, and those from there on are left.
use Rattle.flow.specs.Format.{flow_of}
use Rattle.calls.specs.Clauses.Slots.{present, line_slots}
use Rattle.calls.proofs.Found.{left_from}
use Rattle.dataflow.specs.Clauses.Sent.{edge_row}
use Rattle.dataflow.proofs.Sending.{Sending}
use Rattle.dataflow.proofs.arrays.push_each_line.Given as goal

abbrev pub invariant-loop-l : goal.invariant-loop-l
invariant-loop-l l =
    Sending (flow_of l.file) l.initial.work l.work l.h.statements l.width (edge_row l.h.statements l.width) l.initial.queue l.copy.stmt.0 (present (line_slots (flow_of l.file) l.copy.base l.copy.stmt.0 l.call.continuation.0)) l.queue (left_from l.l (line_slots (flow_of l.file) l.copy.base l.copy.stmt.0 l.call.continuation.0))
