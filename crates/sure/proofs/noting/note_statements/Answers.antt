-- `noting::note_statements` meets its contract: all words of the phase are zero at first.
-- Assumes nothing.
use Prim.Native.Nat.{◌+◌}
use mathlib.Core.Path.{◌∙◌}
use native.Mathlib.Omega.{arith}
use Rattle.statements.specs.Clauses.Layout.{sure_at}
use Rattle.statements.proofs.Keeps.{keeps-trans, ready-keeps}
use Rattle.sure.proofs.Statements.{zero-keeps, none-noted, all_noted}
use Rattle.sure.proofs.noting.note_statements.Goals as goal

pub loop-i-init : goal.loop-i-init
loop-i-init c = none-noted c.args.work.now c.args.layout.n c.lists.ensures c.zero_row.ensures c.requires.1

pub note_statement-requires : goal.note_statement-requires
note_statement-requires c =
    let p = c.requires in
    let inv = c.loop-i.invariant in
    let kept = keeps-trans (zero-keeps c.args.work.now c.args.layout.n c.lists.ensures c.zero_row.ensures) inv.kept in
    (ready-keeps p.0 kept (omega arith), omega (arith, p.1, kept.size), omega arith, λ k l. kept.below (sure_at c.args.layout.n + k) (omega arith) ∙ p.2 k l, inv.words)

pub returns : goal.returns
returns c = all_noted (zero-keeps c.args.work.now c.args.layout.n c.lists.ensures c.zero_row.ensures) c.loop-i.invariant (omega arith)
