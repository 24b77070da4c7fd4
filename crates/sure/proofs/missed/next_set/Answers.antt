-- `missed::next_set` meets its contract: everything at a RETURN, the set of the continuation of a call with one, else the union over the successors.
-- Assumes nothing.
use mathlib.Core.Path.{sym, ◌∙◌}
use Rattle.flow.specs.Format.{flow_of}
use Rattle.statements.proofs.Keeps.{ready_formed, ready-below}
use Rattle.statements.proofs.StatementIn.{statement_in-some, statement_in-none}
use Rattle.sure.proofs.Sets.{gathered-one, next-return, next_walk}
use Rattle.sure.proofs.missed.next_set.Goals as goal

pub returns-then-is_return : goal.returns-then-is_return
returns-then-is_return c = next-return (flow_of c.args.file.now) c.args.i.0 (sym c.is_return.ensures ∙ c.if-is_return.true)

pub set_of-requires : goal.set_of-requires
set_of-requires c =
    let r = c.requires.0 in
    (c.requires.1, ready-below r ((ready_formed r).continuation c.args.i.0 _ (statement_in-some _ _ (sym c.continuation.ensures ∙ c.in-Some.is))))

pub returns-in-Some : goal.returns-in-Some
returns-in-Some c =
    next_walk (flow_of c.args.file.now) c.args.i.0 (sym c.is_return.ensures ∙ c.if-is_return.false)
    (statement_in-some _ _ (sym c.continuation.ensures ∙ c.in-Some.is)) (gathered-one c.in-Some.k.0 c.set_of.ensures.0 c.set_of.ensures.1)

pub returns-in-None : goal.returns-in-None
returns-in-None c =
    next_walk (flow_of c.args.file.now) c.args.i.0 (sym c.is_return.ensures ∙ c.if-is_return.false)
    (statement_in-none _ (sym c.continuation.ensures ∙ c.in-None.is)) c.listed_set.ensures
