-- `list_lines` meets its contract. The invariant: the list is the order of what the lines before l enter, and has no more entries than there are such lines.
-- Assumes nothing.
use Prim.Native.Nat.{◌≤◌}
use mathlib.Core.List.{[]}
use lib.ListN.{take}
use Rattle.flow.specs.Format.{flow_of}
use Rattle.theory.specs.Body.{kind, call_lines}
use Rattle.calls.specs.Clauses.Orders.{firsts, Listing}
use Rattle.calls.proofs.Lines.{entered_by}
use Rattle.calls.proofs.orders.list_lines.Given as goal

abbrev pub invariant-loop-l : goal.invariant-loop-l
invariant-loop-l l =
    (l.k ≤ l.l) × Listing l.initial.work l.work l.h.statements l.at (firsts [] (entered_by (flow_of l.file) (take l.l (call_lines (kind (flow_of l.file) l.c.0))))) l.k
