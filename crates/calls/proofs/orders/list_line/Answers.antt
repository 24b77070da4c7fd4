-- `list_line` meets its contract: the line enters a statement, which joins the list, or nothing.
-- By what the line enters. Assumes nothing.
use Prim.Native.Nat.{ℕ}
use mathlib.Core.Option.{Option}
use mathlib.Core.Path.{sym, ◌∙◌, subst}
use lib.ListN.{get_or}
use Rattle.flow.specs.Flow.{enters}
use Rattle.flow.specs.Format.{flow_of}
use Rattle.theory.specs.Lists.{option_list}
use Rattle.theory.specs.Body.{kind, call_lines}
use Rattle.statements.proofs.Keeps.{ready-most, ready_formed, ready-below}
use Rattle.calls.specs.Clauses.Orders.{firsts, Listing}
use Rattle.statements.proofs.Told.{enters-at, enters-nothing}
use Rattle.calls.proofs.orders.list_line.Goals as goal

pub invariant_of-list_statement : goal.invariant_of-list_statement
invariant_of-list_statement c = record { few = ready-most c.requires.0.ready }

pub list_statement-requires : goal.list_statement-requires
list_statement-requires c =
    let f = flow_of c.args.file.now in
    let ready = c.requires.0.ready in
    let b = c.in-Some.b.0 in
    let e = enters-at _ _ (sym c.entered.ensures ∙ c.in-Some.is) in
    (record { few = ready-most ready; room = ready.room }, ready-below ready ((ready_formed ready).first (get_or (call_lines (kind f c.args.c.0)) c.args.l 0) b e), c.requires.3)

pub returns-in-Some : goal.returns-in-Some
unfolding option_list
returns-in-Some c =
    let line = enters (flow_of c.args.file.now) (get_or (call_lines (kind (flow_of c.args.file.now) c.args.c.0)) c.args.l 0) in
    λ ws₀ xs l.
    subst (λ (o : Option ℕ). Listing ws₀ c.list_statement.new.work c.args.h.statements c.args.at (firsts xs (option_list o)) c.list_statement.result) (sym (enters-at line _ (sym c.entered.ensures ∙ c.in-Some.is)))
    (c.list_statement.ensures ws₀ xs l)

pub returns-in-None : goal.returns-in-None
unfolding option_list firsts
returns-in-None c =
    let line = enters (flow_of c.args.file.now) (get_or (call_lines (kind (flow_of c.args.file.now) c.args.c.0)) c.args.l 0) in
    λ ws₀ xs l.
    subst (λ (o : Option ℕ). Listing ws₀ c.args.work.now c.args.h.statements c.args.at (firsts xs (option_list o)) c.args.k) (sym (enters-nothing line (sym c.entered.ensures ∙ c.in-None.is))) l
