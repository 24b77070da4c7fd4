-- A sweep settles one statement after the other, from the last to the first. Assumes nothing.
use native.Mathlib.Omega.{arith}
use Rattle.statements.proofs.Keeps.{keeps-refl}
use Rattle.live.proofs.Sweeps.{start_keeps, sweep_none, sweep_more}
use Rattle.live.proofs.sweep.sweep.Goals as goal

pub loop-i-init : goal.loop-i-init
loop-i-init c = sweep_none c.requires.1

pub loop-i-preserved : goal.loop-i-preserved
loop-i-preserved c =
    let inv = c.loop-i.invariant in
    sweep_more (start_keeps c.requires.0 keeps-refl inv.in_area inv.out_area) inv (omega arith) c.settle-changed.ensures
