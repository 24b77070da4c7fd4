-- `live::visit` meets its contract: the front is a statement, its live-in is the transfer of its live-out, and pushing that keeps the invariant.
-- Assumes nothing.
use Prim.Native.Nat.{◌*◌, ◌<◌}
use mathlib.Core.Path.{◌∙◌, ap, ap₂}
use native.Mathlib.Omega.{arith}
use lib.Bits.{bit_or}
use Rattle.std.proofs.Common.{Fits, w64}
use Rattle.words.specs.Clauses.Change.{without}
use Rattle.statements.specs.Clauses.Ready.{Ready}
use Rattle.statements.proofs.Keeps.{ready-most}
use Rattle.solve.proofs.Room.{bare-room}
use Rattle.live.proofs.Visits.{rest-ready, taken_small, taken_held, visited}
use Rattle.live.proofs.visit.Goals as goal
use Rattle.live.proofs.visit.Goals.{After-take-j}

-- the front is a statement, and taking it changes no noted place
front : (c : After-take-j) → Ready c.args.file.now c.take-j.new.work c.args.layout.n × (c.take-j.result.0 < c.args.layout.n)
front c = (rest-ready c.requires.0 c.take-j.ensures.kept, taken_small c.requires.4 c.requires.5 c.take-j.ensures)

-- so its place in the live sets fits
place : (c : After-take-j) → Fits w64 (c.take-j.result.0 * 8)
place c = let small = (front c).1 in omega (arith, ready-most c.requires.0)

pub take-j-requires : goal.take-j-requires
take-j-requires c =
    let waits = c.requires.4.1 in
    (omega (arith, bare-room c.requires.0 (omega (arith, waits.front))), c.requires.5, (c.requires.4.0, waits))

pub rest-queue-requires : goal.rest-queue-requires
rest-queue-requires c = (c.requires.5, c.requires.4.1.front)

pub read-reads-requires : goal.read-reads-requires
read-reads-requires c = front (goal.at.read-reads-requires c).After-take-j

pub written-writes-requires : goal.written-writes-requires
written-writes-requires c = front (goal.at.written-writes-requires c).After-take-j

pub offset_bounds-live_out-at : goal.offset_bounds-live_out-at
offset_bounds-live_out-at c = place (goal.at.offset_bounds-live_out-at c).After-take-j

pub bounds-live_out-at : goal.bounds-live_out-at
bounds-live_out-at c = let small = (front (goal.at.bounds-live_out-at c).After-take-j).1 in omega (arith, c.requires.2)

pub offset_bounds-live_in-at : goal.offset_bounds-live_in-at
offset_bounds-live_in-at c = place (goal.at.offset_bounds-live_in-at c).After-take-j

pub bounds-live_in-at : goal.bounds-live_in-at
bounds-live_in-at c = let small = (front (goal.at.bounds-live_in-at c).After-take-j).1 in omega (arith, c.requires.1)

pub push_live-requires : goal.push_live-requires
push_live-requires c =
    let take = c.take-j in
    let size = take.ensures.kept.size in (
      omega (arith, bare-room c.requires.0 (omega (arith, c.requires.4.1.front))),
      c.requires.2,
      (front (goal.at.push_live-requires c).After-take-j).1,
      taken_held c.requires.4 c.requires.5 take.ensures c.rest-queue.result c.rest-queue.ensures,
    )

pub returns : goal.returns
returns c =
    visited c.requires.0 c.requires.1 c.requires.3 c.requires.4 c.requires.5 c.take-j.ensures c.rest-queue.ensures
    (ap₂ bit_or c.read-reads.ensures (c.difference.ensures ∙ ap (without _) c.written-writes.ensures))
    c.push_live.ensures
