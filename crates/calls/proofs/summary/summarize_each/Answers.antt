-- One call after the other gets its summary. In the end each state is that of the definitions. Assumes nothing.
use Rattle.statements.proofs.Keeps.{ready-size, ready_formed}
use Rattle.calls.proofs.Summaries.{below_since, below_next, summarized}
use Rattle.calls.proofs.summary.summarize_each.Goals as goal

pub loop-c-preserved : goal.loop-c-preserved
loop-c-preserved c =
    let again = rw (← c.requires.0.ready.count) at c.call_summary.ensures in
    (below_next c.loop-c.invariant.0 c.loop-c-test.true again, λ x. (c.type_inv.work x).fits)

pub returns-clause-summarized : goal.returns-clause-summarized
returns-clause-summarized c =
    let r = c.requires.0.ready in
    let p = below_since c.summarize_handler.ensures c.loop-c.invariant.0 in
    summarized (ready_formed r) (ready-size r) c.loop-c.invariant.1 c.requires.1 c.requires.2 p c.loop-c-test.false
