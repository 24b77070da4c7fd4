-- What is sent along the three parts of a call's edges, one after the other, is sent along all of them. By the slots of a call.
use Prim.Native.Nat.{ℕ}
use mathlib.Core.Bool.{true}
use mathlib.Core.List.{List, [], ◌∷◌, ◌++◌}
use mathlib.Core.Option.{some}
use mathlib.Core.Path.{◌≡◌, sym, ap, subst, ◌∙◌}
use native.Mathlib.Omega.{arith}
use Rattle.flow.specs.declared.Base.{Base}
use Rattle.flow.specs.Flow.{Flow, size}
use Rattle.flow.specs.Format.{flow_of}
use Rattle.theory.specs.Lists.{concat_map, option_list}
use Rattle.theory.specs.Doubled.{Node, Edge, at, number_in}
use Rattle.theory.proofs.Edges.{node-same}
use Rattle.statements.proofs.Keeps.{keeps-trans, ready-most, ready-size}
use Rattle.calls.specs.Clauses.Slots.{edge_to, line_slots, other_slots, call_slots, present}
use Rattle.calls.proofs.Slots.{present-append}
use Rattle.solve.specs.declared.Queue.{Queue}
use Rattle.solve.specs.Clauses.Layout.{back_row}
use Rattle.solve.specs.Clauses.Pushed.{Source, Pushed}
use Rattle.solve.proofs.Room.{nodes-room}
use Rattle.dataflow.specs.Clauses.Sent.{edge_row, Sent}
use Rattle.dataflow.proofs.Kept.{ready_stays, call_stays}
use Rattle.dataflow.proofs.Sending.{sent-edge, sent-append, source_of, sources_call, copy-below, back_below}
use Rattle.dataflow.proofs.arrays.push_call.Goals as goal

pub node-requires : goal.node-requires
node-requires c = (ready-most c.requires.1.ready, back_below c.requires.1.ready c.requires.4)

pub push-queue-requires : goal.push-queue-requires
push-queue-requires c =
    let n = c.args.h.statements in
    let ready = c.requires.1.ready in
    let sent = c.push_lines-entered.ensures in
    let size = sent.keeps.size in
    let room = nodes-room ready (omega (arith, c.requires.3)) c.requires.0 in (
      omega arith,
      omega (arith, copy-below n c.args.copy.base (back_below c.requires.1.ready c.requires.4), c.node.ensures),
      subst (Source n c.args.width) (sym c.back_row-back.ensures) (source_of n c.args.width (edge_row n c.args.width) (sources_call n c.args.width) true),
      (_, sent.waits c.requires.6.0 c.requires.6.1),
    )

-- what is sent to the continuation
back-sent : (f : Flow) {ws vs : List ℕ} {n w row t : ℕ} {queue r : Queue} (i : ℕ) (v : Node) → size f ≡ n → row ≡ back_row n w → t ≡ number_in n v
    → Pushed ws vs n w queue row t r → Sent f ws vs n w (edge_row n w) queue i (edge_to v v ∷ []) r
back-sent f {n = n} {w = w} i v z e d p = sent-edge (edge_to v v) z (sources_call n w) (e ∙ sym (ap (edge_row n w) (node-same v))) d p

pub push_others-requires : goal.push_others-requires
push_others-requires c =
    let lines = c.push_lines-entered.ensures in
    let back = back-sent (flow_of c.args.file.now) c.args.copy.stmt.0 (at c.args.copy.base c.args.call.continuation.0) (ready-size c.requires.1.ready) c.back_row-back.ensures c.node.ensures c.push-queue.ensures in
    let keeps = keeps-trans lines.keeps back.keeps in
    (ready_stays keeps c.requires.1.ready, c.requires.2, c.requires.3, call_stays keeps (ready-size c.requires.1.ready) c.requires.3 c.requires.4, (_, back.waits _ (lines.waits c.requires.6.0 c.requires.6.1)))

-- the edges of a call, part by part
parts : (f : Flow) (b : Base) (i k : ℕ) → present (call_slots f b i k) ≡ present (line_slots f b i k) ++ (edge_to (at b k) (at b k) ∷ present (other_slots f b i k))
unfolding call_slots present concat_map option_list
parts f b i k = present-append (line_slots f b i k) (some (edge_to (at b k) (at b k)) ∷ other_slots f b i k)

pub returns : goal.returns
returns c =
    let f = flow_of c.args.file.now in
    let n = c.args.h.statements in
    subst (λ (xs : List Edge). Sent f c.args.work.now c.push_others.new.work n c.args.width (edge_row n c.args.width) c.args.first c.args.copy.stmt.0 xs c.push_others.result)
    (sym (parts f c.args.copy.base c.args.copy.stmt.0 c.args.call.continuation.0))
    (sent-append c.push_lines-entered.ensures (sent-append (back-sent (flow_of c.args.file.now) c.args.copy.stmt.0 (at c.args.copy.base c.args.call.continuation.0) (ready-size c.requires.1.ready) c.back_row-back.ensures c.node.ensures c.push-queue.ensures) c.push_others.ensures))
