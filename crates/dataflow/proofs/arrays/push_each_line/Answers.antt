-- The row goes along the slot of one line more, and what was sent keeps what the next line asks for. Assumes nothing.
use native.Mathlib.Omega.{arith}
use Rattle.flow.specs.Format.{flow_of}
use Rattle.statements.proofs.Keeps.{ready-size}
use Rattle.calls.proofs.Found.{line-slot, line-end}
use Rattle.dataflow.proofs.Kept.{indexed_stays, call_stays}
use Rattle.dataflow.proofs.Sending.{sending_none, sending_on, sending_all}
use Rattle.dataflow.proofs.arrays.push_each_line.Goals as goal

pub loop-l-init : goal.loop-l-init
loop-l-init c = sending_none

pub push_line-queue-requires : goal.push_line-queue-requires
push_line-queue-requires c =
    let sent = c.loop-l.invariant.sent in
    (c.requires.0, indexed_stays sent.keeps c.requires.1, c.requires.2, c.requires.3, call_stays sent.keeps (ready-size c.requires.1.ready) c.requires.3 c.requires.4, c.loop-l-test.true, (_, sent.waits c.requires.5.0 c.requires.5.1))

pub loop-l-preserved : goal.loop-l-preserved
loop-l-preserved c =
    sending_on c.loop-l.invariant (line-slot (flow_of c.args.file.now) c.args.copy.base c.args.copy.stmt.0 c.args.call.continuation.0 c.loop-l.l (omega (arith, c.requires.4.lines, c.loop-l-test.true))) c.push_line-queue.ensures

pub returns : goal.returns
returns c = sending_all c.loop-l.invariant (line-end (flow_of c.args.file.now) c.args.copy.base c.args.copy.stmt.0 c.args.call.continuation.0 c.loop-l.l (omega (arith, c.requires.4.lines, c.loop-l-test.false)))
