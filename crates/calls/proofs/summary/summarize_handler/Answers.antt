-- The header tells the flow's handler, and no body is open, so that calls need not lead from any to the handler's. Assumes nothing.
use Prim.Native.Nat.{ℕ}
use Rattle.flow.specs.Format.{flow_of}
use Rattle.statements.proofs.Keeps.{ready_formed, ready-size, located}
use Rattle.calls.proofs.Checked.{handler-at, handler-none}
use Rattle.calls.proofs.Summing.{onward-refl, handler-low}
use Rattle.calls.proofs.Summaries.{fresh-summing, leads_any, no_handler, handler-body}
use Rattle.calls.proofs.summary.summarize_handler.Goals as goal

pub sub_effect-requires : goal.sub_effect-requires
sub_effect-requires c =
    let f = flow_of c.args.file.now in
    let n : ℕ = c.args.h.statements in
    let e : ℕ = c.in-Some.e.0 in
    let r = c.requires.0.ready in (
      rw (← r.count) (located c.requires.0),
      rw (← r.count) (handler-low (ready_formed r) (ready-size r) e (handler-at c.requires.0 c.in-Some.e c.in-Some.is)),
      rw (← r.count) (fresh-summing c.requires.1 f),
      rw (← r.count) (leads_any c.requires.1 f (onward-refl c.args.work.now n n) e),
    )

pub returns-in-Some : goal.returns-in-Some
returns-in-Some c = handler-body (handler-at c.requires.0 c.in-Some.e c.in-Some.is) (rw (← c.requires.0.ready.count) at c.sub_effect.ensures)

pub returns-in_default : goal.returns-in_default
returns-in_default c = no_handler c.requires.1 (handler-none c.requires.0 c.in_default.is)
