-- The slot of the successor has an edge where it is not left out. By what is left out.
use Prim.Native.Nat.{ℕ, ◌<◌}
use mathlib.Core.Bool.{Bool, cond, not, ◌||◌}
use mathlib.Core.List.{List}
use mathlib.Core.Option.{Option, none, some}
use mathlib.Core.Path.{◌≡◌, sym, ap, subst, ◌∙◌}
use native.Mathlib.Omega.{arith}
use lib.Dec.{eqb}
use Rattle.flow.specs.declared.Base.{Base}
use Rattle.words.specs.Clauses.Row.{has}
use Rattle.flow.specs.Flow.{Flow, size}
use Rattle.flow.specs.Format.{flow_of}
use Rattle.theory.specs.Lists.{elem, option_list}
use Rattle.theory.specs.Body.{entered}
use Rattle.theory.specs.Doubled.{Edge, at}
use Rattle.statements.proofs.Keeps.{ready-size}
use Rattle.calls.specs.declared.edges.Call.{Call}
use Rattle.calls.specs.Clauses.Class.{CallOf}
use Rattle.calls.specs.Clauses.Slots.{edge_to}
use Rattle.calls.proofs.Found.{not_back, left-out-is}
use Rattle.dataflow.specs.Clauses.Sent.{edge_row, Sent}
use Rattle.dataflow.proofs.Sending.{sent-none, sent-edge, sources_call}
use Rattle.dataflow.proofs.arrays.push_other.Goals as goal

-- the successor is left out where the test says so
left : {f : Flow} {i : ℕ} {x : Call} (ws : List ℕ) (j : ℕ) {t : Bool} → CallOf f ws i x → j < size f → t ≡ (eqb j x.continuation.0 || eqb (has ws x.row j) 1) → (elem j (entered f i) || eqb j x.continuation.0) ≡ t
left {f} ws j c low e = sym (e ∙ left-out-is f ws j c low)

-- the slot, by what the test says
slot_of : Flow → Base → ℕ → ℕ → Bool → Option Edge
slot_of f b k j t = cond (not t) (some (edge_to (at b k) (at b j))) none

pub returns-then-left_out : goal.returns-then-left_out
unfolding slot_of option_list
returns-then-left_out c =
    let n = c.args.layout.n in
    let f = flow_of c.args.file.now in
    subst (λ (t : Bool). Sent f c.args.work.now c.args.work.now n c.args.layout.width (edge_row n c.args.layout.width) c.args.queue c.args.copy.stmt.0 (option_list (slot_of f c.args.copy.base c.args.call.continuation.0 c.args.j.0 t)) c.args.queue)
    (sym (left c.args.work.now c.args.j.0 c.requires.2 (omega (arith, c.requires.3, ready-size c.requires.0)) c.left_out.ensures ∙ c.if-left_out.true)) sent-none

pub returns : goal.returns
unfolding slot_of option_list
returns c =
    let n = c.args.layout.n in
    let f = flow_of c.args.file.now in
    let b = c.args.copy.base in
    let k = c.args.call.continuation.0 in
    let j = c.args.j.0 in
    let out = left c.args.work.now c.args.j.0 c.requires.2 (omega (arith, c.requires.3, ready-size c.requires.0)) c.left_out.ensures ∙ c.if-left_out.false in
    subst (λ (t : Bool). Sent f c.args.work.now c.push.new.work n c.args.layout.width (edge_row n c.args.layout.width) c.args.queue c.args.copy.stmt.0 (option_list (slot_of f b k j t)) c.push.result) (sym out)
    (sent-edge (edge_to (at b k) (at b j)) (ready-size c.requires.0) (sources_call n c.args.layout.width) (c.out_row.ensures ∙ sym (ap (edge_row n c.args.layout.width) (not_back b (elem j (entered f c.args.copy.stmt.0)) j k out))) c.node.ensures c.push.ensures)
