-- `noting::note_bodies` meets its contract: a body that is found is a statement, so that a word can name it.
-- Assumes nothing.
use mathlib.Core.Option.{some}
use mathlib.Core.Path.{◌≡◌, sym, ◌∙◌}
use native.Mathlib.Omega.{arith}
use Rattle.flow.specs.Format.{flow_of}
use Rattle.theory.specs.Sure.{gosub_body}
use Rattle.statements.proofs.Keeps.{ready-most}
use Rattle.sure.specs.Clauses.Noting.{body_of}
use Rattle.statements.proofs.StatementIn.{statement_in-some}
use Rattle.sure.proofs.Bodies.{body-low}
use Rattle.sure.proofs.noting.note_bodies.Goals as goal
use Rattle.sure.proofs.noting.note_bodies.Goals.{In-Some}

-- the body found
found-body : (c : In-Some) → body_of (gosub_body (flow_of c.args.file.now) c.loop-c.c) ≡ some c.in-Some.b.0
found-body c = statement_in-some _ _ (sym c.gosub_body.ensures ∙ c.in-Some.is)

pub invariant_of-layout : goal.invariant_of-layout
invariant_of-layout c = record { few = ready-most c.requires.0.ready }

pub body_word-requires : goal.body_word-requires
body_word-requires c =
    let ready = c.requires.0.ready in
    omega (arith, body-low ready c.loop-c.c (found-body (goal.at.body_word-requires c).In-Some), ready-most ready)
