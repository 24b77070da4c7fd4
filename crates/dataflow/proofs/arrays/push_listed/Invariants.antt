-- The row went to the successors before k, and those from there on are left.
use Rattle.flow.specs.Format.{flow_of}
use Rattle.calls.specs.Clauses.Slots.{present, listed_slots}
use Rattle.calls.proofs.Found.{left_from}
use Rattle.dataflow.proofs.Sending.{Sending}
use Rattle.dataflow.proofs.arrays.push_listed.Given as goal

abbrev pub invariant-loop-k : goal.invariant-loop-k
invariant-loop-k l =
    Sending (flow_of l.file) l.initial.work l.work l.layout.n l.layout.width (λ b. l.from) l.initial.queue l.copy.stmt.0 (present (listed_slots (flow_of l.file) l.fn.copy.base l.copy.stmt.0)) l.queue (left_from l.k (listed_slots (flow_of l.file) l.fn.copy.base l.copy.stmt.0))
