-- `note_orders` meets its contract. The invariant: the orders of the calls before c are noted, and the next list may stand where theirs end.
-- Assumes nothing.
use native.Mathlib.Omega.{arith}
use Rattle.flow.specs.Format.{flow_of}
use Rattle.statements.proofs.Keeps.{ready-most, indexed-keeps}
use Rattle.calls.specs.Clauses.Orders.{lists_end}
use Rattle.calls.proofs.Gathered.{summaries_kept}
use Rattle.calls.proofs.Ordering.{lists_from, lists_to, orders-none, orders-more, next-end, orders_keep}
use Rattle.calls.proofs.orders.note_orders.Goals as goal

pub invariant_of-layout : goal.invariant_of-layout
invariant_of-layout c = record { few = ready-most c.requires.0.ready }

pub loop-c-init : goal.loop-c-init
unfolding lists_end
loop-c-init c = (c.lists-at.ensures, orders-none)

pub note_order-at-requires : goal.note_order-at-requires
note_order-at-requires c =
    let f = flow_of c.args.file.now in
    let n = c.args.h.statements in
    let turn = c.loop-c in
    let kept = orders_keep turn.invariant.1 in (
      indexed-keeps c.requires.0 kept (omega arith),
      summaries_kept (omega arith) kept c.requires.1,
      c.loop-c-test.true,
      omega (arith, turn.invariant.0, lists_from f n turn.c),
      omega (arith, turn.invariant.0, lists_to f n turn.c),
    )

pub loop-c-preserved : goal.loop-c-preserved
loop-c-preserved c =
    let turn = c.loop-c in
    let below = c.loop-c-test.true in
    let noted = c.note_order-at.ensures in
    (next-end turn.invariant.1 turn.invariant.0 below noted, orders-more turn.invariant.1 turn.invariant.0 below noted)
