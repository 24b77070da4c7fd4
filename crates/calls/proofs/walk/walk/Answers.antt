-- A turn takes the top off the stack, and goes on from it. Assumes nothing.
use Prim.Native.Nat.{ℕ, suc, ◌+◌, ◌-◌, zero-le}
use mathlib.Core.Path.{◌≡◌, ap, subst}
use native.Mathlib.Omega.{arith}
use lib.ListN.{get_or}
use Rattle.flow.specs.Format.{flow_of}
use Rattle.statements.specs.Clauses.Ready.{Ready}
use Rattle.statements.proofs.Keeps.{ready-keeps, ready-most}
use Rattle.calls.specs.Clauses.Walking.{Stack}
use Rattle.calls.proofs.Checked.{ready-next}
use Rattle.calls.proofs.Walking.{Walking, only_keeps, only-trans, walking_first, walking_next, left-falls, walking_end, stack-fits, stack_less}
use mathlib.Core.List.{List}
use Rattle.calls.proofs.walk.walk.Goals as goal

empty-stack : {s ws : List ℕ} {n e : ℕ} → Ready s ws n → Stack ws n e 0
empty-stack r = record { area = record { few = ready-most r; room = r.room }; high = zero-le }

pub meet-top-requires : goal.meet-top-requires
meet-top-requires c = (empty-stack c.requires.0, c.requires.1, c.requires.1)

pub loop-top-init : goal.loop-top-init
loop-top-init c = walking_first (empty-stack c.requires.0) c.requires.1 c.requires.2 c.meet-top.ensures

pub overflow_add-i : goal.overflow_add-i
overflow_add-i c = omega (arith, stack-fits c.loop-top.invariant.stack, ready-most c.requires.0, c.queue.ensures)

pub offset_bounds-work-queue : goal.offset_bounds-work-queue
offset_bounds-work-queue c = omega (arith, stack-fits c.loop-top.invariant.stack, ready-most c.requires.0, c.queue.ensures)

pub bounds-work-queue : goal.bounds-work-queue
bounds-work-queue c = omega (arith, stack-fits c.loop-top.invariant.stack, c.requires.0.room, c.loop-top.auto.work, c.queue.ensures)

pub meet_next-top-requires : goal.meet_next-top-requires
meet_next-top-requires c =
    let inv = c.loop-top.invariant in
    let low = c.loop-top.top - 1 in
    let one_more : c.loop-top.top ≡ suc low = omega arith in (
      ready-keeps c.requires.0 (only_keeps (only-trans c.meet-top.ensures.only inv.only)) (omega arith),
      stack_less one_more inv.stack,
      c.requires.1,
      rw c.queue.ensures ((inv.entries low (omega arith)).statement),
    )

pub loop-top-smaller : goal.loop-top-smaller
loop-top-smaller c =
    let low = c.loop-top.top - 1 in
    let one_more : c.loop-top.top ≡ suc low = omega arith in
    left-falls c.requires.1 (ready-next c.requires.0) one_more (ap (λ x. get_or c.loop-top.work (x + low) 0) c.queue.ensures) c.loop-top.invariant c.meet_next-top.ensures

pub loop-top-preserved : goal.loop-top-preserved
loop-top-preserved c =
    let low = c.loop-top.top - 1 in
    let one_more : c.loop-top.top ≡ suc low = omega arith in
    walking_next c.requires.1 (ready-next c.requires.0) one_more (ap (λ x. get_or c.loop-top.work (x + low) 0) c.queue.ensures) c.loop-top.invariant c.meet_next-top.ensures

pub returns : goal.returns
returns c =
    let a = c.args in
    let done : c.loop-top.top ≡ 0 = omega arith in
    walking_end c.requires.1 (ready-next c.requires.0) c.meet-top.ensures.only
    (subst (λ (t : ℕ). Walking (flow_of a.file.now) c.meet-top.new.work c.loop-top.work a.layout.n a.e.0 t) done c.loop-top.invariant)
