-- The sets begin empty, and each sweep keeps that the names in them are live. Assumes nothing.
use Rattle.live.proofs.Sweeps.{swept_zero}
use Rattle.live.proofs.sweep.sweeps.Goals as goal

pub loop-init : goal.loop-init
loop-init c = swept_zero c.requires.in_room c.zero_row.ensures
