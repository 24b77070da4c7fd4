-- `next_walked` meets its contract: the next member of the row of e.
-- Assumes nothing.
use native.Mathlib.Omega.{arith}
use Rattle.calls.proofs.Checked.{row_room, ready-again}
use Rattle.calls.proofs.summary.next_walked.Goals as goal

pub next-requires : goal.next-requires
next-requires c =
    let e = c.layout_of-layout.ensures in
    omega (arith, c.row.ensures, row_room (ready-again e c.requires.0) {i = c.args.e.0} (rw e c.requires.1))
