-- The row goes along the slot of one successor more, and what was sent keeps what the next one asks for. Assumes nothing.
use Prim.Native.Nat.{ℕ}
use mathlib.Core.Path.{subst}
use native.Mathlib.Omega.{arith}
use Rattle.flow.specs.Format.{flow_of}
use Rattle.theory.specs.Lists.{option_list}
use Rattle.statements.proofs.Keeps.{ready-size}
use Rattle.calls.specs.Clauses.Slots.{other_slot}
use Rattle.calls.proofs.Checked.{successor-below}
use Rattle.calls.proofs.Found.{other-slot, other-end}
use Rattle.dataflow.specs.Clauses.Sent.{edge_row, Sent}
use Rattle.dataflow.proofs.Kept.{ready_stays, call_stays}
use Rattle.dataflow.proofs.Sending.{sending_none, sending_on, sending_all}
use Rattle.dataflow.proofs.arrays.push_others.Goals as goal

pub loop-k-init : goal.loop-k-init
loop-k-init c = sending_none

pub push_other-queue-requires : goal.push_other-queue-requires
push_other-queue-requires c =
    let sent = c.loop-k.invariant.sent in (
      ready_stays sent.keeps c.requires.0,
      c.requires.2,
      call_stays sent.keeps (ready-size c.requires.0) c.requires.2 c.requires.3,
      omega (arith, ready-size c.requires.0, c.successor_at-j.ensures, successor-below c.requires.0.fit c.args.copy.stmt.0 c.loop-k.k (omega (arith, c.requires.3.successors, c.loop-k-test.true))),
      (_, sent.waits c.requires.4.0 c.requires.4.1),
    )

pub loop-k-preserved : goal.loop-k-preserved
loop-k-preserved c =
    let f = flow_of c.args.file.now in
    let b = c.args.copy.base in
    let i = c.args.copy.stmt.0 in
    let k = c.args.call.continuation.0 in
    sending_on c.loop-k.invariant (other-slot f b i k c.loop-k.k (omega (arith, c.requires.3.successors, c.loop-k-test.true)))
    (subst (λ (j : ℕ). Sent f c.loop-k.work c.push_other-queue.new.work c.args.layout.n c.args.layout.width (edge_row c.args.layout.n c.args.layout.width) c.loop-k.queue i (option_list (other_slot f b i k j)) c.push_other-queue.result) c.successor_at-j.ensures c.push_other-queue.ensures)

pub returns : goal.returns
returns c = sending_all c.loop-k.invariant (other-end (flow_of c.args.file.now) c.args.copy.base c.args.copy.stmt.0 c.args.call.continuation.0 c.loop-k.k (omega (arith, c.requires.3.successors, c.loop-k-test.false)))
