-- `solve::ring::take` meets its contract: the front's word is a number below 2 n, whose state says that it waits no more and is else as it was.
-- Assumes nothing.
use native.Mathlib.Nat.{le_of_lt}
use native.Mathlib.Omega.{arith}
use Rattle.solve.proofs.Room.{row_fits, node-below}
use Rattle.solve.proofs.Waiting.{front_below, taken}
use Rattle.solve.proofs.ring.take.Goals as goal

pub state-at-requires : goal.state-at-requires
state-at-requires c = (rw c.queue.ensures (front_below c.requires.2.0 c.requires.2.1 c.requires.1))

pub offset_bounds-work-at : goal.offset_bounds-work-at
offset_bounds-work-at c =
    let below = front_below c.requires.2.0 c.requires.2.1 c.requires.1 in
    let at = rw c.queue.ensures at c.state-at.ensures in
    omega (arith, node-below c.args.layout.few c.args.layout.narrow (le_of_lt below))

pub bounds-work-at : goal.bounds-work-at
bounds-work-at c =
    let below = front_below c.requires.2.0 c.requires.2.1 c.requires.1 in
    let at = rw c.queue.ensures at c.state-at.ensures in
    omega (arith, row_fits c.args.layout.n c.args.layout.width below, c.requires.0)

pub offset_bounds-work-at-2 : goal.offset_bounds-work-at-2
offset_bounds-work-at-2 c =
    let below = front_below c.requires.2.0 c.requires.2.1 c.requires.1 in
    let at = rw c.queue.ensures at c.state-at.ensures in
    omega (arith, node-below c.args.layout.few c.args.layout.narrow (le_of_lt below))

pub bounds-work-at-2 : goal.bounds-work-at-2
bounds-work-at-2 c =
    let below = front_below c.requires.2.0 c.requires.2.1 c.requires.1 in
    let at = rw c.queue.ensures at c.state-at.ensures in
    omega (arith, row_fits c.args.layout.n c.args.layout.width below, c.requires.0)

pub returns : goal.returns
returns c = taken c.requires.0 (front_below c.requires.2.0 c.requires.2.1 c.requires.1) c.queue.ensures c.state-at.ensures c.taken.ensures
