-- `note_unmissed` meets its contract: the word at hand is as it was at first. Assumes nothing.
use Prim.Native.Nat.{ℕ, ◌+◌}
use mathlib.Core.Path.{ap, ◌∙◌}
use native.Mathlib.Nat.{le_refl}
use native.Mathlib.Omega.{arith}
use lib.ListN.{get_or}
use Rattle.statements.specs.Clauses.Layout.{sure_at}
use Rattle.statements.proofs.WorkArea.{row_from}
use Rattle.sure.specs.Clauses.SureArrays.{unmissed}
use Rattle.sure.proofs.Becoming.{becoming_set, unmissed-stays}
use Rattle.sure.proofs.note_unmissed.Goals as goal

pub loop-c-preserved : goal.loop-c-preserved
loop-c-preserved c =
    let n : ℕ = c.args.layout.n in
    let inv = c.loop-c.invariant in
    let k : ℕ = c.loop-c.c in
    let low = row_from n n in
    let place = ap (λ z. z + k) c.sure.ensures in
    let word = ap (λ z. get_or c.loop-c.work z 0) place ∙ inv.high k (le_refl _) (omega arith) in
    becoming_set inv place (omega arith) (omega (arith, c.requires.0, inv.size))
    (c.unmissed.ensures ∙ ap (unmissed c.loop-c.work n) word ∙ unmissed-stays inv (get_or c.args.work.now (sure_at n + k) 0) (c.requires.1 k (omega arith)))
