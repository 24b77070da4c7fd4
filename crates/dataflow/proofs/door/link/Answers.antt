-- The RETURNs' rows are noted, the words that this used are zeroed, and the other words of the solver are still zero. Assumes nothing.
use native.Mathlib.Omega.{arith}
use Prim.Native.Nat.{◌-◌}
use mathlib.Core.Path.{ap₂, ◌∙◌}
use Rattle.words.specs.Clauses.Change.{zeroed}
use Rattle.dataflow.proofs.Phases.{used-room, linked}
use Rattle.dataflow.proofs.door.link.Goals as goal

pub overflow_sub-edges_end : goal.overflow_sub-edges_end
overflow_sub-edges_end c = omega (arith, c.queue-queue.ensures, c.edges_end.ensures)

pub zero_row-requires : goal.zero_row-requires
zero_row-requires c =
    let p = c.requires in
    omega (arith, c.queue-queue.ensures, c.edges_end.ensures, c.note_edges.auto.work, used-room p.0.indexed.ready p.2)

pub returns : goal.returns
returns c =
    let p = c.requires in
    let noted = c.note_edges in
    linked p.0 p.1 p.2 noted.ensures.linked noted.ensures.keeps
    (c.zero_row.ensures ∙ ap₂ (λ q e. zeroed noted.new.work q (e - q)) c.queue-queue.ensures c.edges_end.ensures)
