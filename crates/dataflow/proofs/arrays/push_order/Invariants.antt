-- The rows went along the edges of the order's entries before k, and those from there on are left.
use lib.ListN.{drop}
use Rattle.flow.specs.Format.{flow_of}
use Rattle.dataflow.specs.Clauses.Sent.{edge_row}
use Rattle.dataflow.proofs.Sending.{Sending}
use Rattle.dataflow.proofs.Ordered.{order_edges}
use Rattle.dataflow.proofs.arrays.push_order.Given as goal

abbrev pub invariant-loop-k : goal.invariant-loop-k
invariant-loop-k l =
    let edges = order_edges (flow_of l.file) l.fn.copy.base l.fn.copy.stmt.0 l.fn.call.continuation.0 in
    Sending (flow_of l.file) l.initial.work l.work l.layout.n l.layout.width (edge_row l.layout.n l.layout.width) l.initial.queue l.fn.copy.stmt.0 edges l.queue (drop l.k edges)
