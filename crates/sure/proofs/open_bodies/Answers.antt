-- `open_bodies` meets its contract: a word that becomes another is written, and its statement waits.
-- Assumes nothing.
use Prim.Native.Nat.{ℕ, ◌+◌, ◌<◌}
use mathlib.Core.Path.{sym, ap, ◌∙◌, subst}
use native.Mathlib.Nat.{le_refl}
use native.Mathlib.Omega.{arith}
use lib.ListN.{get_or}
use Rattle.statements.specs.Clauses.Layout.{sure_at}
use Rattle.sure.specs.Clauses.SureArrays.{opened}
use Rattle.sure.proofs.Becoming.{Opening, opening_same, opening_set, opened-stays}
use Rattle.sure.proofs.open_bodies.Goals as goal
use Rattle.sure.proofs.open_bodies.Goals.{then-still-word, else-still-word}

pub loop-c-preserved : goal.loop-c-preserved
loop-c-preserved c =
    let n : ℕ = c.args.layout.n in
    let inv = c.loop-c.invariant in
    let k : ℕ = c.loop-c.c in
    let small : k < n = omega arith in
    let place = ap (λ z. z + k) c.sure.ensures in
    let word = ap (λ z. get_or c.loop-c.work z 0) place ∙ inv.become.high k (le_refl _) small in
    let still = c.still_asked-still.ensures ∙ ap (opened c.loop-c.work n) word ∙ opened-stays inv.become (get_or c.args.work.now (sure_at n + k) 0) (c.requires.1 k small) in
    elim c.if-still-word.branch [
      | then-still-word w ↦
          subst (λ z. Opening c.args.work.now z n (k + 1)) (sym (w.work-is ∙ w.insert.ensures.slice))
          (opening_set inv small place w.waiting.ensures w.mirrored.ensures c.requires.0 still)
      | else-still-word w ↦
          subst (λ z. Opening c.args.work.now z n (k + 1)) (sym w.work-is)
          (opening_same inv small (sym (ap (λ z. get_or c.loop-c.work z 0) place) ∙ sym w.if-still-word.false ∙ still))
    ]
