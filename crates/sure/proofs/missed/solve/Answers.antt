-- `missed::solve` meets its contract: a visit takes one statement out of those that wait, and when none waits, the sets are those of the walks.
-- Assumes nothing.
use native.Mathlib.Omega.{arith}
use Rattle.sure.proofs.Kept.{only-ready, only-room, only-bodies, only-firsts}
use Rattle.sure.proofs.Solution.{solving-first, solving-more, solved}
use Rattle.sure.proofs.missed.solve.Goals as goal

pub loop-k-init : goal.loop-k-init
loop-k-init c = solving-first

pub visit-requires : goal.visit-requires
visit-requires c =
    let only = c.loop-k.invariant.only in
    let start = c.requires in
    (only-ready only start.0, only-room only start.1, omega arith, only-bodies only start.2, only-firsts only start.3)

pub loop-k-preserved : goal.loop-k-preserved
loop-k-preserved c = solving-more c.loop-k.invariant c.visit.ensures (omega arith)

pub returns : goal.returns
returns c = solved c.loop-k.invariant c.waiting.ensures c.in_default.ensures
