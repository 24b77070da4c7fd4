-- The set goes to one predecessor after the other. Assumes nothing.
use native.Mathlib.Omega.{arith}
use borrow.Author.Rules.{rules}
use Rattle.words.proofs.Found.{found-some, next-some}
use Rattle.live.proofs.Facts.{row_room}
use Rattle.live.proofs.Pushing.{pushing_none, pushing_more, pushing_all}
use Rattle.live.proofs.push_live.Goals as goal

pub loop-i-init : goal.loop-i-init
loop-i-init c = pushing_none

pub next-requires : goal.next-requires
next-requires c = row_room c.row-row.ensures c.requires.2 (omega (arith, c.requires.0, c.loop-i.auto.work))

pub push_to-queue-requires : goal.push_to-queue-requires
push_to-queue-requires c = let found = found-some c.in-Some.ensures in search rules

pub overflow_add-from : goal.overflow_add-from
overflow_add-from c = omega (arith, (found-some c.in-Some.ensures).1)

pub loop-i-smaller : goal.loop-i-smaller
loop-i-smaller c =
    let found = next-some _ _ _ _ c.loop-i.invariant.low c.in-Some.ensures in
    omega (arith, found.0.low, found.1)

pub loop-i-preserved : goal.loop-i-preserved
loop-i-preserved c = pushing_more c.loop-i.invariant c.requires.2 c.row-row.ensures c.in-Some.ensures c.push_to-queue.ensures

pub returns : goal.returns
returns c = pushing_all c.loop-i.invariant c.requires.2 c.row-row.ensures c.in_default.ensures
