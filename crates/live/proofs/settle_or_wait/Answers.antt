-- `live::settle_or_wait` meets its contract: a statement whose live-in changed joins the back.
-- Assumes nothing.
use native.Mathlib.Omega.{arith}
use Rattle.solve.proofs.Room.{bare-room}
use Rattle.live.proofs.settle_or_wait.Goals as goal

pub enqueue-requires : goal.enqueue-requires
enqueue-requires c =
    (omega (arith, bare-room c.requires.0.ready c.requires.0.some), omega (arith, c.requires.1), c.requires.2)
