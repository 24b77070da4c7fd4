-- `settle` meets its contract: the record at the noted place lists the statement's successors and names, and the two words follow from them.
-- Assumes nothing.
use native.Mathlib.Omega.{arith}
use Rattle.statements.proofs.Names.{target_in}
use Rattle.live.proofs.Sweeping.{settled_by}
use Rattle.live.proofs.sweep.settle.Goals as goal

pub live_after-after-requires : goal.live_after-after-requires
live_after-after-requires c =
    let l = c.offset-p.ensures.successors in (
      c.offset-p.ensures.fit,
      λ k b. omega (arith, l.at k 0 (omega (arith, l.count)), target_in c.requires.0.ready c.args.i.0 k (omega (arith, l.count)), c.requires.0.in_room),
    )

pub returns : goal.returns
returns c =
    let a = c.args in
    settled_by a.live_in.now a.live_out.now c.offset-p.ensures c.live_after-after.ensures c.read.ensures c.written.ensures c.difference.ensures
