-- `accept::table::is_filled` meets its contract. The invariant: the masks of the arrays of the first k words are zero.
-- The measure is what is left of the width.
use Prim.Native.Nat.{ℕ, ◌+◌, ◌*◌}
use mathlib.Core.Bool.{not}
use mathlib.Core.Path.{sym, ap, ◌∙◌}
use lib.Dec.{eqb}
use Rattle.theory.specs.Lists.{all_below}
use Rattle.solve.specs.Clauses.Rows.{mask_at}
use Rattle.accept.proofs.Filled.{zero_more, zero-all, some_word}
use native.Mathlib.Omega.{arith}
use Rattle.accept.proofs.table.is_filled.Goals as goal

pub returns-then-work-row-ne0 : goal.returns-then-work-row-ne0
returns-then-work-row-ne0 c =
    let a = c.args in
    let k = c.loop-k.k in
    let row = c.mask_row-row in
    let known = c.shared_slice_known-in-loop-k-3-1.given in
    sym (some_word a.work.now a.layout.width row.result k (omega arith) (omega (arith, known (row.result + k))) (omega (arith, known (row.result + a.layout.width + k))) (omega (arith, known (row.result + 2 * a.layout.width + k))) c.if-work-row-ne0.true
    ) ∙ ap (λ (x : ℕ). not (all_below (64 * a.layout.width) (λ b. eqb (mask_at a.work.now a.layout.width x b) 0))) row.ensures

pub loop-k-preserved : goal.loop-k-preserved
loop-k-preserved c =
    let a = c.args in
    let x = c.loop-k in
    (omega arith, zero_more a.work.now a.layout.width c.mask_row-row.result x.k c.if-work-row-ne0.false x.invariant.1)

pub returns : goal.returns
returns c =
    let a = c.args in
    let row = c.mask_row-row in
    sym (zero-all a.work.now a.layout.width row.result (λ b l. c.loop-k.invariant.1 b (omega arith))) ∙ ap (λ (x : ℕ). not (all_below (64 * a.layout.width) (λ b. eqb (mask_at a.work.now a.layout.width x b) 0))) row.ensures
