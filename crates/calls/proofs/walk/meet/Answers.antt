-- A statement that is new in the row goes on the stack, which has room for it. Assumes nothing.
use Prim.Native.Nat.{◌+◌, ◌/◌, ◌<◌, ℕ}
use native.Mathlib.Omega.{arith}
use lib.ListN.{length}
use Rattle.statements.specs.Clauses.Layout.{row_at}
use Rattle.statements.proofs.WorkArea.{queue-below}
use Rattle.calls.proofs.Walking.{in_row, meet_old, meet_room, meet_new}
use Rattle.calls.specs.Clauses.Walking.{Stack}
use mathlib.Core.List.{List}
use mathlib.Core.Path.{◌≡◌}
use Rattle.calls.proofs.walk.meet.Goals as goal

-- i has its word in the row
inside : {ws : List ℕ} {n e i top row : ℕ} → Stack ws n e top → e < n → i < n → row ≡ row_at n e → row + i / 64 < length ws
inside s l m place = omega (arith, place, in_row s l m)

pub contains-requires : goal.contains-requires
contains-requires c = inside c.requires.0 c.requires.1 c.requires.2 c.row-row.ensures

pub returns-then-contains : goal.returns-then-contains
returns-then-contains c = meet_old c.requires.0 c.requires.1 c.requires.2 c.row-row.ensures c.contains.ensures c.if-contains.true

pub insert-requires : goal.insert-requires
insert-requires c = inside c.requires.0 c.requires.1 c.requires.2 c.row-row.ensures

pub overflow_add-work : goal.overflow_add-work
overflow_add-work c =
    let p = c.requires in
    omega (arith, meet_room p.0 p.1 p.2 c.row-row.ensures c.contains.ensures c.if-contains.false, queue-below p.0.area.few, p.0.area.few, c.queue.ensures)

pub offset_bounds-work-queue : goal.offset_bounds-work-queue
offset_bounds-work-queue c =
    let p = c.requires in
    omega (arith, meet_room p.0 p.1 p.2 c.row-row.ensures c.contains.ensures c.if-contains.false, queue-below p.0.area.few, p.0.area.few, c.queue.ensures)

pub bounds-work-queue : goal.bounds-work-queue
bounds-work-queue c =
    let p = c.requires in
    omega (arith, meet_room p.0 p.1 p.2 c.row-row.ensures c.contains.ensures c.if-contains.false, queue-below p.0.area.few, p.0.area.room, c.queue.ensures, c.insert.auto.ws)

pub overflow_add-result : goal.overflow_add-result
overflow_add-result c =
    let p = c.requires in
    omega (arith, meet_room p.0 p.1 p.2 c.row-row.ensures c.contains.ensures c.if-contains.false, queue-below p.0.area.few, p.0.area.few)

pub returns : goal.returns
returns c = meet_new c.requires.0 c.requires.1 c.requires.2 c.row-row.ensures c.contains.ensures c.if-contains.false c.insert.ensures c.queue.ensures
