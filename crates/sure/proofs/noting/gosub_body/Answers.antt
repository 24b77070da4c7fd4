-- `noting::gosub_body` meets its contract: nothing where the statement is no plain GOSUB or has no continuation, and else what its one line enters.
-- Assumes nothing.
use mathlib.Core.Path.{sym, ◌∙◌, ap}
use Rattle.flow.specs.Format.{flow_of}
use Rattle.flow.specs.Clauses.Answers.{statement_in}
use Rattle.sure.specs.Clauses.Noting.{body_of}
use Rattle.statements.proofs.StatementIn.{statement_in-some, statement_in-none}
use Rattle.sure.proofs.Bodies.{no_gosub, no_continuation, gosub-enters}
use Rattle.sure.proofs.noting.gosub_body.Goals as goal

pub returns-then-not-is_gosub : goal.returns-then-not-is_gosub
returns-then-not-is_gosub c =
    sym (ap (λ l. statement_in (body_of l)) (no_gosub (flow_of c.args.file.now) c.args.c.0 (sym c.is_gosub.ensures ∙ c.if-not-is_gosub.true)))

pub returns-in_err-continuation : goal.returns-in_err-continuation
returns-in_err-continuation c =
    let none = c.offset-p.ensures.continuation ∙ statement_in-none _ (sym c.continuation.ensures ∙ c.in_err-continuation.was) in
    c.from_residual.ensures ∙ sym (ap (λ l. statement_in (body_of l)) (no_continuation (flow_of c.args.file.now) c.args.c.0 none))

pub returns : goal.returns
returns c =
    let at = c.offset-p.ensures.continuation ∙ statement_in-some _ _ (sym c.continuation.ensures ∙ c.in_ok-continuation.was) in
    c.entered.ensures ∙ sym (ap statement_in (gosub-enters (flow_of c.args.file.now) c.args.c.0 (sym c.is_gosub.ensures ∙ c.if-not-is_gosub.false) at))
