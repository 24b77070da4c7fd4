-- `live_after` meets its contract. The invariant: after k successors the set is the union of theirs.
-- Assumes nothing.
use mathlib.Core.Path.{refl}
use native.Mathlib.Numerals.{add-one}
use native.Mathlib.Omega.{arith}
use Rattle.theory.specs.Queue.{union_below}
use Rattle.live.proofs.sweep.live_after.Goals as goal

pub loop-k-init : goal.loop-k-init
unfolding union_below
loop-k-init c = (omega arith, refl)

pub loop-k-preserved : goal.loop-k-preserved
unfolding union_below
loop-k-preserved c = (omega arith, rw add-one (cc))
