-- One group more stands before the others. By the laws of sets that were gathered.
use Prim.Native.Nat.{ℕ, ◌+◌, ◌-◌, ◌*◌, ◌/◌}
use mathlib.Core.Path.{◌≡◌, subst, ◌∙◌}
use native.Mathlib.Omega.{arith}
use lib.ListN.{length}
use Rattle.accept.specs.Clauses.Rows.{SetsOf}
use Rattle.accept.proofs.Gathering.{le-last, sets_last, sets-before}
use Rattle.accept.proofs.rows.sets_of.Goals as goal

pub loop-g-init : goal.loop-g-init
loop-g-init c =
    let s = c.args.s.now in
    (omega arith, sets_last s (λ a l. omega (arith, c.type_inv.s a)) (length s / 8) (length s - 8 * (length s / 8)) c.short_word-last.result c.gather-none.result c.gather-auto.result c.gather-dimmed.result (omega arith) (omega arith) (c.short_word-last.ensures ∙ le-last s (length s / 8) (omega arith)) c.gather-none.ensures c.gather-auto.ensures c.gather-dimmed.ensures)

pub loop-g-preserved : goal.loop-g-preserved
loop-g-preserved c =
    let s = c.args.s.now in
    let x = c.loop-g in
    let next : 8 * x.g ≡ 8 * (x.g - 1 + 1) = omega arith in
    (omega (arith, x.invariant.0), sets-before s (λ a l. omega (arith, c.type_inv.s a)) (x.g - 1) c.u64_at-eight.result x.none x.auto' x.dimmed c.gather.result c.gather-in-loop-g.result c.gather-in-loop-g-2.result (omega (arith, x.invariant.0)) (subst (λ (y : ℕ). SetsOf s y x.none x.auto' x.dimmed) next x.invariant.1) c.u64_at-eight.ensures c.gather.ensures c.gather-in-loop-g.ensures c.gather-in-loop-g-2.ensures)
