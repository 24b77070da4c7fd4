-- `dataflow::arrays::push_lines` meets its contract: where a list of the order is noted, by the list; else line by line.
-- By the word of the call.
use Rattle.statements.proofs.Keeps.{ready-most}
use Rattle.dataflow.proofs.Ordered.{order-list}
use Rattle.dataflow.proofs.arrays.push_lines.Goals as goal

pub push_order-requires : goal.push_order-requires
push_order-requires c =
    let most = ready-most c.requires.1.ready in
    let order = c.in-Some.ensures in
    (c.requires.1.ready, c.requires.3, c.requires.4, order-list most order.0 order.1 order.2 (c.requires.5 c.if-call-gt1.true), c.requires.6)
