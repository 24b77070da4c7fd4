-- `add_line` meets its contract: the line enters a body, which joins the row, or nothing.
-- By what a line adds. Assumes nothing.
use Prim.Native.Nat.{ℕ}
use mathlib.Core.List.{List}
use mathlib.Core.Path.{refl, sym, ◌∙◌, subst}
use lib.ListN.{get_or}
use Rattle.flow.specs.Flow.{enters}
use Rattle.flow.specs.Format.{flow_of}
use Rattle.theory.specs.Lists.{concat_map}
use Rattle.theory.specs.Body.{kind, call_lines}
use Rattle.statements.proofs.Keeps.{ready_formed, ready-below}
use Rattle.calls.specs.Clauses.Joins.{Adds, bodies_of}
use Rattle.statements.proofs.Told.{enters-at}
use Rattle.calls.proofs.Lines.{entered-line, adds_entered, adds_nothing}
use Rattle.calls.proofs.Gathered.{bodies-one}
use Rattle.statements.proofs.Keeps.{ready-most}
use Rattle.calls.proofs.rows.add_line.Goals as goal

pub invariant_of-layout : goal.invariant_of-layout
invariant_of-layout c = record { few = ready-most c.requires.0.ready }

pub add_body-requires : goal.add_body-requires
add_body-requires c =
    let a = c.args in
    let p = c.requires in
    let f = flow_of a.file.now in
    let ready = p.0.ready in
    let b = c.in-Some.b.0 in
    let e = enters-at _ _ (sym c.entered.ensures ∙ c.in-Some.is) in (
      ready,
      ready-below ready ((ready_formed ready).first (get_or (call_lines (kind f a.c.0)) a.l 0) b e),
      p.3,
      λ w. p.4 w b (entered-line f a.c.0 a.l b p.2 e),
    )

pub returns-in-Some : goal.returns-in-Some
returns-in-Some c =
    let a = c.args in
    let f = flow_of a.file.now in
    adds_entered (bodies_of f a.whole) (enters f (get_or (call_lines (kind f a.c.0)) a.l 0)) (sym c.entered.ensures ∙ c.in-Some.is)
    (subst (λ (xs : List ℕ). Adds a.to a.work.now c.add_body.new.work a.h.statements xs) (sym (bodies-one f a.whole c.in-Some.b.0)) c.add_body.ensures)

pub returns-in_default : goal.returns-in_default
unfolding concat_map
returns-in_default c =
    let a = c.args in
    let f = flow_of a.file.now in
    adds_nothing (bodies_of f a.whole) (enters f (get_or (call_lines (kind f a.c.0)) a.l 0)) (sym c.entered.ensures ∙ c.in_default.is) refl
