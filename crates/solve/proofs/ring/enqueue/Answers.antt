-- `solve::ring::enqueue` meets its contract: the place behind the last is free, and the length grows by one where the number did not wait.
-- Assumes nothing.
use Prim.Native.Nat.{ℕ, ◌*◌, ◌-◌, ◌%◌, ◌<◌}
use mathlib.Core.Bool.{Bool, true, false, not}
use mathlib.Core.Path.{◌≡◌, sym}
use mir.Val.{bool_byte}
use native.Mathlib.Omega.{arith}
use borrow.Author.Tests.{eqb-true, eqb-false}
use lib.Dec.{eqb}
use lib.ListN.{get_or}
use Rattle.statements.proofs.WorkArea.{queue-below}
use Rattle.solve.specs.Clauses.Waiting.{ring_words}
use Rattle.solve.proofs.Room.{row_from}
use Rattle.solve.proofs.Waiting.{few, slot_in, enqueued}
use Rattle.solve.proofs.ring.enqueue.Goals as goal

-- the free place
place : (c : goal.After-wrap) → c.wrap.result < ring_words c.args.layout.n
place c = rw c.wrap.ensures (slot_in c.requires.2.1 c.requires.1)

-- one more waits where the number did not
not-waiting : (old : ℕ) {k : ℕ} {b : Bool} → b ≡ eqb (old % 2) 1 → k ≡ bool_byte (not b) → k ≡ 1 - old % 2
not-waiting old {b = true} e h = omega (arith, h, eqb-true (old % 2) 1 (sym e))
not-waiting old {b = false} e h = omega (arith, h, eqb-false (old % 2) 1 (sym e))

pub overflow_add-queue : goal.overflow_add-queue
overflow_add-queue c = omega (arith, few c.requires.2.1 c.requires.1, c.requires.2.1.front, c.args.layout.few)

pub overflow_add-work : goal.overflow_add-work
overflow_add-work c = omega (arith, place c, c.queue.ensures, queue-below c.args.layout.few)

pub offset_bounds-work-queue : goal.offset_bounds-work-queue
offset_bounds-work-queue c = omega (arith, place c, c.queue.ensures, queue-below c.args.layout.few)

pub bounds-work-queue : goal.bounds-work-queue
bounds-work-queue c = omega (arith, place c, c.queue.ensures, c.requires.0, row_from c.args.layout.n c.args.layout.width (2 * c.args.layout.n))

pub overflow_add-result : goal.overflow_add-result
overflow_add-result c = let new = not-waiting (get_or c.args.work.now c.state-at.result 0) c.is_waiting.ensures c.from.ensures in omega (arith, few c.requires.2.1 c.requires.1, c.args.layout.few, new)

pub returns : goal.returns
returns c = enqueued c.args.grew c.requires.2 c.requires.1 c.requires.0 c.state-at.ensures c.queue.ensures c.wrap.ensures c.joined.ensures (not-waiting _ c.is_waiting.ensures c.from.ensures)
