-- `accept::table::pass_rows` meets its contract. The invariant: the first d numbers have sent what they hold.
-- The measure is what is left of them.
use Rattle.flow.specs.Format.{flow_of}
use Rattle.theory.specs.Accept.{Proposal}
use Rattle.statements.specs.Clauses.Layout.{queue_at}
use Rattle.statements.specs.Clauses.Ready.{Keeps}
use Rattle.solve.specs.Clauses.Layout.{area_end}
use Rattle.accept.specs.Clauses.Table.{Bytes, nothing, Passing}
use Rattle.accept.proofs.table.pass_rows.Given as goal

abbrev pub invariant-loop-d : goal.invariant-loop-d
invariant-loop-d l =
    Keeps (queue_at l.h.statements) (area_end l.h.statements l.width) l.initial.work l.work
    × ((t : Proposal) → Bytes (flow_of l.file) t → Passing (flow_of l.file) t l.initial.work l.h.statements l.width nothing 0 → Passing (flow_of l.file) t l.work l.h.statements l.width l.queue l.d)
