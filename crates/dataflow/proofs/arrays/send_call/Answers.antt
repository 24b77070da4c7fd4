-- The rows of the call's edges are made, and pushed along them. What is pushed is what the doubled graph's edges bring.
use mathlib.Core.List.{List}
use mathlib.Core.Option.{Option, some}
use Prim.Native.Nat.{ℕ, ◌+◌, ◌/◌, ◌<◌, ◌≤◌}
use mathlib.Core.Path.{◌≡◌, refl, sym, ap, subst, ◌∙◌}
use native.Mathlib.Omega.{arith}
use borrow.Author.Tests.{lt-ltb}
use lib.Dec.{ltb}
use lib.ListN.{length}
use Rattle.flow.specs.Flow.{size}
use Rattle.flow.specs.Format.{flow_of}
use Rattle.theory.specs.Body.{kind, call_lines, continuation_of}
use Rattle.theory.specs.Doubled.{Node, Edge}
use Rattle.theory.proofs.Lists.{and-true}
use Rattle.statements.specs.Clauses.Layout.{queue_at}
use Rattle.statements.specs.Clauses.Ready.{Ready, Keeps}
use Rattle.statements.proofs.Keeps.{keeps_widen, ready-size, ready_formed}
use Rattle.calls.specs.Clauses.Class.{transparent_call}
use Rattle.calls.specs.Clauses.Slots.{present}
use Rattle.calls.proofs.Classes.{slots-call, call_says}
use Rattle.solve.specs.Clauses.Layout.{set_row, mask_row_at}
use Rattle.dataflow.specs.Clauses.Transfer.{enters_again}
use Rattle.dataflow.specs.Clauses.Sent.{edge_row, Sent}
use Rattle.dataflow.proofs.Kept.{indexed_stays, linked-stays, call_stays}
use Rattle.dataflow.proofs.Sharing.{goes_sent}
use Rattle.dataflow.proofs.Sends.{again-is, beside_waits, beside_shared, sends}
use Rattle.dataflow.proofs.Headers.{narrow}
use Rattle.dataflow.proofs.arrays.send_call.Goals as goal

-- a continuation is a statement, and so it has its place in a row

continuation-in : {s ws : List ℕ} {n : ℕ} (i : ℕ) {k : ℕ} → Ready s ws n → continuation_of (kind (flow_of s) i) ≡ some k → k < size (flow_of s)
continuation-in i r e = (ready_formed r).continuation i _ e

in_row : (row : ℕ) {m k size : ℕ} → k < m → row + (m + 63) / 64 ≤ size → row + k / 64 < size
in_row row l r = omega arith

pub enters_again-again-requires : goal.enters_again-again-requires
enters_again-again-requires c = let call = c.call_of-call.ensures in in_row c.call_of-call.result.row (continuation-in c.args.copy.stmt.0 c.requires.1.ready call.continues) call.room

pub call_rows-requires : goal.call_rows-requires
call_rows-requires c = (c.requires.0, c.requires.1, c.requires.2, c.requires.3, c.requires.4, c.requires.5, ap (λ (v : Node). v.stmt) c.requires.6, c.requires.7, c.requires.8, c.enters_again-again.ensures ∙ again-is c.args.copy.base c.call_of-call.ensures (continuation-in c.args.copy.stmt.0 c.requires.1.ready c.call_of-call.ensures.continues) ∙ ap (λ (v : Node). enters_again (flow_of c.args.file.now) v.base c.args.copy.stmt.0) c.requires.6)

-- while the rows are made, only words behind the queue are written
beside : (n w : ℕ) {ws vs : List ℕ} → Keeps (set_row n) (mask_row_at n w 0) ws vs → Keeps (queue_at n) (mask_row_at n w 0) ws vs
beside n w k = keeps_widen (omega arith) (omega arith) k

pub push_call-requires : goal.push_call-requires
push_call-requires c =
    let rows = c.call_rows in
    let keeps = beside c.args.h.statements c.args.width rows.ensures.keeps in
    let linked = linked-stays keeps c.requires.2 in
    let call = call_stays keeps (ready-size c.requires.1.ready) c.requires.7 c.call_of-call.ensures in
    let f = flow_of c.args.file.now in
    let i = c.args.copy.stmt.0 in (
      narrow c.requires.1 c.requires.0,
      indexed_stays keeps c.requires.1,
      c.requires.5,
      c.requires.7,
      call,
      λ many. linked.orders i c.requires.7 (and-true (transparent_call f i) (ltb 1 (length (call_lines (kind f i)))) c.requires.8 (lt-ltb 1 (length (call_lines (kind f i))) (omega (arith, call.lines)))),
      (_, beside_waits c.args.work.now rows.new.work c.args.h.statements c.args.width rows.ensures.keeps c.requires.10.1),
    )

pub returns : goal.returns
returns c =
    let f = flow_of c.args.file.now in
    let n = c.args.h.statements in
    let says = call_says f c.args.copy.stmt.0 c.requires.8 in
    let rows = c.call_rows in
    let shared = beside_shared c.args.work.now rows.new.work n c.args.width rows.ensures.keeps c.requires.9 in
    sends c.requires.6 refl rows.ensures
    (goes_sent shared
    (subst (λ (xs : List (Option Edge)). Sent f rows.new.work c.push_call.new.work n c.args.width (edge_row n c.args.width) c.args.first c.args.copy.stmt.0 (present xs) c.push_call.result)
    (sym (slots-call f c.args.copy.base c.args.copy.stmt.0 c.call_of-call.result.continuation.0 c.call_of-call.ensures.continues says.2)) c.push_call.ensures))
