-- `noting::note_statement` meets its contract: a RETURN waits; a call with a continuation is noted there and at the body that it asks, any other statement at its successors.
-- By cases, as the walk's next statements are defined. Assumes nothing.
use mathlib.Core.Path.{sym, ◌∙◌, ap₂, subst}
use native.Mathlib.Omega.{arith}
use Rattle.words.specs.Clauses.Change.{inserted}
use Rattle.flow.specs.Format.{flow_of}
use Rattle.statements.proofs.Keeps.{ready_formed, ready-below}
use Rattle.sure.specs.Clauses.Noting.{StatementNoted}
use Rattle.statements.proofs.StatementIn.{statement_in-some, statement_in-none}
use Rattle.sure.proofs.Bodies.{word_low}
use Rattle.sure.proofs.Statements.{follows-successors, follows-call, return-noted, statement-noted}
use Rattle.sure.proofs.noting.note_statement.Goals as goal

pub returns-then-is_return : goal.returns-then-is_return
returns-then-is_return c =
    let a = c.args in
    let p = c.requires in
    let ws = a.work.now in
    subst (λ z. StatementNoted (flow_of a.file.now) ws z a.layout.n a.i.0) (sym (c.insert.ensures.slice ∙ ap₂ (inserted ws) c.waiting.ensures c.mirrored.ensures))
    (return-noted p.1 p.2 p.4 (sym c.is_return.ensures ∙ c.if-is_return.true))

pub note_call-requires : goal.note_call-requires
note_call-requires c =
    let p = c.requires in
    let i = c.args.i.0 in
    let goes_on = statement_in-some _ _ (sym c.continuation.ensures ∙ c.in-Some.is) in
    (p.1, ready-below p.0 ((ready_formed p.0).continuation i _ goes_on), p.2, omega (arith, p.3 i p.2, word_low p.0 i), p.4)

pub returns-in-Some : goal.returns-in-Some
returns-in-Some c =
    let i = c.args.i.0 in
    let stays = sym c.is_return.ensures ∙ c.if-is_return.false in
    let goes_on = statement_in-some _ _ (sym c.continuation.ensures ∙ c.in-Some.is) in
    statement-noted stays (follows-call (flow_of c.args.file.now) i stays goes_on (c.requires.3 i c.requires.2)) c.note_call.ensures

pub returns-in-None : goal.returns-in-None
returns-in-None c =
    let stays = sym c.is_return.ensures ∙ c.if-is_return.false in
    let nowhere = statement_in-none _ (sym c.continuation.ensures ∙ c.in-None.is) in
    statement-noted stays (follows-successors (flow_of c.args.file.now) c.args.i.0 stays nowhere) c.note_successors.ensures
