-- The row goes to one continuation more, or the continuation holds it and waits; the rows of RETURNs stay. Assumes nothing.
use Prim.Native.Nat.{ℕ, ◌+◌, ◌*◌, ◌<◌, zero-le}
use mathlib.Core.Bool.{Bool, cond}
use mathlib.Core.List.{List}
use mathlib.Core.Path.{◌≡◌, refl, sym, ap, subst, ◌∙◌}
use native.Mathlib.Nat.{zero-add}
use native.Mathlib.Omega.{arith}
use lib.Bits.{bit_or}
use Rattle.words.specs.Clauses.Row.{has}
use Rattle.words.proofs.Found.{found-some, next-some}
use Rattle.flow.specs.declared.Base.TheVariants.{Zero}
use Rattle.flow.specs.Format.{flow_of}
use Rattle.theory.specs.Doubled.{at, plain}
use Rattle.statements.specs.Clauses.Layout.{row_at}
use Rattle.statements.proofs.Keeps.{ready-most, ready-size}
use Rattle.calls.proofs.Checked.{row_room}
use Rattle.calls.proofs.Found.{member-here}
use Rattle.solve.specs.declared.Queue.{Queue}
use Rattle.solve.specs.Clauses.Rows.{mask_at}
use Rattle.solve.specs.Clauses.Waiting.{Enqueued}
use Rattle.solve.specs.Clauses.Pushed.{masks_at, Pushed}
use Rattle.dataflow.proofs.Kept.{linked-stays}
use Rattle.dataflow.proofs.Members.{next-return, last-return}
use Rattle.dataflow.proofs.Sending.{sending_none, sending_skip, sending_on, sending_all, sent-edge, sources_one, held-joined, places, waiting}
use Rattle.dataflow.proofs.Sharing.{hold_on}
use Rattle.dataflow.proofs.arrays.push_members.Goals as goal
use Rattle.dataflow.proofs.arrays.push_members.Goals.{then-held, else-held}

-- a continuation holds the row already
held : {vs us : List ℕ} {n w from k t : ℕ} {queue r : Queue} → t ≡ 0 + k → k < n
    → ((a : ℕ) → a < 64 * w → bit_or (masks_at vs n w k a) (mask_at vs w from a) ≡ masks_at vs n w k a) → Enqueued vs us n w queue t r → Pushed vs us n w queue from t r
held {vs = vs} {n = n} {w = w} {from = from} {k = k} {t = t} e low holds x =
    let is : t ≡ k = e ∙ zero-add k in
    held-joined (omega arith)
    (subst (λ (d : ℕ). (a : ℕ) → a < 64 * w → bit_or (masks_at vs n w d a) (mask_at vs w from a) ≡ masks_at vs n w d a) (sym is) holds)
    x

pub loop-k-init : goal.loop-k-init
loop-k-init c = record { low = zero-le; sending = sending_none }

pub next-requires : goal.next-requires
next-requires c =
    let size = c.loop-k.invariant.sending.sent.keeps.size in
    omega (arith, c.row-row.ensures, row_room c.requires.0 c.requires.3)

pub node-t-requires : goal.node-t-requires
node-t-requires c = (c.args.layout.few, (found-some c.in-Some.ensures).1)

pub join-queue-requires : goal.join-queue-requires
join-queue-requires c =
    let place = places c.loop-k.invariant.sending c.requires.0 c.args.layout.narrow Zero (found-some c.in-Some.ensures).1 c.node-t.ensures in
    (place.0, place.1, waiting c.loop-k.invariant.sending c.requires.6)

pub push-queue-requires : goal.push-queue-requires
push-queue-requires c =
    let place = places c.loop-k.invariant.sending c.requires.0 c.args.layout.narrow Zero (found-some c.in-Some.ensures).1 c.node-t.ensures in
    (place.0, place.1, c.requires.4, waiting c.loop-k.invariant.sending c.requires.6)

pub overflow_add-start : goal.overflow_add-start
overflow_add-start c =
    let high = (found-some c.in-Some.ensures).1 in
    omega (arith, ready-most c.requires.0)

pub loop-k-smaller : goal.loop-k-smaller
loop-k-smaller c =
    let next = next-some c.loop-k.work c.row-row.result c.loop-k.start c.args.layout.n c.loop-k.invariant.low c.in-Some.ensures in
    omega (arith, next.0.low, next.1)

pub loop-k-preserved : goal.loop-k-preserved
loop-k-preserved c =
    let a = c.args in
    let k = c.in-Some.k in
    let s = c.loop-k.invariant.sending in
    let size = ready-size c.requires.0 in
    let next = next-return (linked-stays s.sent.keeps c.requires.1) size c.requires.2 c.requires.3 c.loop-k.invariant.low c.row-row.ensures c.in-Some.ensures in
    let one : has a.work.now (row_at a.layout.n a.i.0) k ≡ 1 = c.requires.1.returns a.i.0 k c.requires.3 next.high c.requires.2 ∙ ap (λ (t : Bool). cond t 1 0) next.member in
    let step : Pushed c.loop-k.work c.if-held.work a.layout.n a.layout.width c.loop-k.queue a.from c.node-t.result.0 c.if-held.queue =
    elim c.if-held.branch [
      | then-held w ↦ rw (w.work-is, w.queue-is) (held c.node-t.ensures next.high (λ b m. hold_on s.sent a.i.0 (c.requires.5 w.if-held.true) k b next.high one m) w.join-queue.ensures)
      | else-held w ↦ rw (w.work-is, w.queue-is) w.push-queue.ensures
    ] in
    record {
      low = omega (arith, next.high);
      sending = sending_on (sending_skip s next.passed) (member-here (flow_of a.file.now) a.i.0 k (omega (arith, size, next.high)) next.member)
          (sent-edge (plain (at Zero k)) size (sources_one a.layout.n a.layout.width a.from c.requires.4) refl c.node-t.ensures step);
    }

pub returns : goal.returns
returns c =
    let sent = c.loop-k.invariant.sending.sent in
    sending_all c.loop-k.invariant.sending (last-return (linked-stays sent.keeps c.requires.1) (ready-size c.requires.0) c.requires.2 c.requires.3 c.loop-k.invariant.low c.row-row.ensures c.in_default.ensures)
