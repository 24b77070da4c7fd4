-- The last sweep begins with the words of the worklist zeroed, and handles one statement after the other. Assumes nothing.
use native.Mathlib.Omega.{arith}
use Rattle.solve.proofs.Room.{bare-room}
use Rattle.live.proofs.Sweeps.{noted-start}
use Rattle.live.proofs.Beginning.{beginning_none, beginning_start, beginning_more}
use Rattle.live.proofs.begin.Goals as goal

pub clear-requires : goal.clear-requires
clear-requires c = let ready = c.requires.0.ready in (omega (arith, bare-room ready c.requires.0.some))

pub loop-i-init : goal.loop-i-init
loop-i-init c =
    beginning_none c.args.work.now c.args.layout.n (omega (arith, bare-room c.requires.0.ready c.requires.0.some)) c.clear.ensures c.requires.0.some c.requires.1

pub loop-i-preserved : goal.loop-i-preserved
loop-i-preserved c =
    let inv = c.loop-i.invariant in
    let noted = c.note_predecessors.ensures in
    beginning_more (noted-start (beginning_start c.requires.0 inv) noted) inv (omega arith) noted c.settle_or_wait-queue.ensures
