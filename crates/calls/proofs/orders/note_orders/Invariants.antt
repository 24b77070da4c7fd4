-- `note_orders` meets its contract. The invariant: the orders of the calls before c are noted, and the next list may stand where theirs end.
-- Assumes nothing.
use mathlib.Core.Path.{◌≡◌}
use Rattle.flow.specs.Format.{flow_of}
use Rattle.calls.specs.Clauses.Orders.{lists_end, OrdersNoted}
use Rattle.calls.proofs.orders.note_orders.Given as goal

abbrev pub invariant-loop-c : goal.invariant-loop-c
invariant-loop-c l = (l.at ≡ lists_end (flow_of l.file) l.h.statements l.c) × OrdersNoted (flow_of l.file) l.initial.work l.work l.h.statements l.c
