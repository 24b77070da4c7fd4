-- Nothing at RETURN, the continuation of a call with one, else the successors. Assumes nothing.
use mathlib.Core.Path.{sym, ◌∙◌}
use Rattle.flow.specs.Format.{flow_of}
use Rattle.theory.specs.Body.{kind, continuation_of}
use Rattle.statements.proofs.Keeps.{ready_formed, ready-below}
use Rattle.statements.proofs.Told.{continues-to, continues_nowhere}
use Rattle.calls.proofs.Walking.{met-return, met_next}
use Rattle.calls.proofs.walk.meet_next.Goals as goal

pub returns-then-is_return : goal.returns-then-is_return
returns-then-is_return c = met-return (flow_of c.args.file.now) c.args.i.0 _ _ _ _ (sym c.is_return.ensures ∙ c.if-is_return.true)

pub meet-requires : goal.meet-requires
meet-requires c =
    let p = c.requires in
    let i = c.args.i.0 in
    let e = continues-to (continuation_of (kind (flow_of c.args.file.now) i)) c.in-Some.k (sym c.continuation.ensures ∙ c.in-Some.is) in
    (p.1, p.2, ready-below p.0 ((ready_formed p.0).continuation i _ e))

pub returns-in-Some : goal.returns-in-Some
returns-in-Some c =
    let f = flow_of c.args.file.now in
    let i = c.args.i.0 in
    met_next f i (sym c.is_return.ensures ∙ c.if-is_return.false) (continues-to (continuation_of (kind f i)) c.in-Some.k (sym c.continuation.ensures ∙ c.in-Some.is)) c.meet.ensures

pub returns-in-None : goal.returns-in-None
returns-in-None c =
    let f = flow_of c.args.file.now in
    let i = c.args.i.0 in
    met_next f i (sym c.is_return.ensures ∙ c.if-is_return.false) (continues_nowhere (continuation_of (kind f i)) (sym c.continuation.ensures ∙ c.in-None.is)) c.meet_successors.ensures
