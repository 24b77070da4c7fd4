-- The slot of the line has an edge where the line enters a statement. By what the line enters.
use Prim.Native.Nat.{ℕ, ◌<◌}
use mathlib.Core.List.{List}
use mathlib.Core.Option.{Option, some}
use mathlib.Core.Path.{◌≡◌, sym, ap, ap₂, subst, ◌∙◌}
use native.Mathlib.Omega.{arith}
use lib.Dec.{eqb}
use lib.ListN.{get_or}
use Rattle.flow.specs.declared.Base.TheVariants.{N}
use Rattle.flow.specs.Flow.{enters}
use Rattle.flow.specs.Format.{flow_of}
use Rattle.theory.specs.Lists.{option_list}
use Rattle.theory.specs.Body.{kind, call_lines}
use Rattle.theory.specs.Doubled.{at}
use Rattle.statements.specs.Clauses.Ready.{Ready}
use Rattle.statements.proofs.Keeps.{ready-most, ready-size, ready_formed, ready-below}
use Rattle.calls.specs.Clauses.Slots.{edge_to, if_entered}
use Rattle.statements.proofs.Told.{enters-at, enters-nothing}
use Rattle.calls.proofs.Found.{same_number}
use Rattle.solve.specs.Clauses.Pushed.{Source}
use Rattle.solve.proofs.Room.{nodes-room}
use Rattle.dataflow.specs.Clauses.Sent.{edge_row, Sent}
use Rattle.dataflow.proofs.Sending.{sent-none, sent-edge, source_of, sources_call, copy-below, back_below}
use Rattle.dataflow.proofs.arrays.push_line.Goals as goal

-- a statement that a line enters is one of the n
below : {s ws : List ℕ} {n : ℕ} (l : ℕ) {b : ℕ} → Ready s ws n → enters (flow_of s) l ≡ some b → b < n
below l r e = ready-below r ((ready_formed r).first l _ e)

pub node-t-requires : goal.node-t-requires
node-t-requires c = (ready-most c.requires.1.ready, below _ c.requires.1.ready (enters-at _ _ (sym c.line_entered.ensures ∙ c.in-Some.is)))

pub node-requires : goal.node-requires
node-requires c = (ready-most c.requires.1.ready, back_below c.requires.1.ready c.requires.4)

pub push-requires : goal.push-requires
push-requires c =
    let n = c.args.h.statements in
    let ready = c.requires.1.ready in (
      nodes-room ready (omega (arith, c.requires.3)) c.requires.0,
      omega (arith, copy-below n N (below _ c.requires.1.ready (enters-at _ _ (sym c.line_entered.ensures ∙ c.in-Some.is))), c.node-t.ensures),
      subst (Source n c.args.width) (sym c.call_row-from.ensures) (source_of n c.args.width (edge_row n c.args.width) (sources_call n c.args.width) (eqb c.node-t.result.0 c.node.result.0)),
      c.requires.6,
    )

pub returns-in-Some : goal.returns-in-Some
unfolding option_list
returns-in-Some c =
    let f = flow_of c.args.file.now in
    let n = c.args.h.statements in
    let b = c.args.copy.base in
    let k = c.args.call.continuation.0 in
    let e = c.in-Some.b.0 in
    subst (λ (o : Option ℕ). Sent f c.args.work.now c.push.new.work n c.args.width (edge_row n c.args.width) c.args.queue c.args.copy.stmt.0 (option_list (if_entered (at b k) o)) c.push.result) (sym (enters-at _ _ (sym c.line_entered.ensures ∙ c.in-Some.is)))
    (sent-edge (edge_to (at b k) (at N e)) (ready-size c.requires.1.ready) (sources_call n c.args.width)
    (c.call_row-from.ensures ∙ ap (edge_row n c.args.width) (ap₂ eqb c.node-t.ensures c.node.ensures ∙ same_number b e k (back_below c.requires.1.ready c.requires.4))) c.node-t.ensures c.push.ensures)

pub returns-in-None : goal.returns-in-None
unfolding option_list
returns-in-None c =
    let f = flow_of c.args.file.now in
    let n = c.args.h.statements in
    subst (λ (o : Option ℕ). Sent f c.args.work.now c.args.work.now n c.args.width (edge_row n c.args.width) c.args.queue c.args.copy.stmt.0 (option_list (if_entered (at c.args.copy.base c.args.call.continuation.0) o)) c.args.queue)
    (sym (enters-nothing (enters f (get_or (call_lines (kind f c.args.copy.stmt.0)) c.args.l 0)) (sym c.line_entered.ensures ∙ c.in-None.is))) sent-none
