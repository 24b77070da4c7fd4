-- `certain::early` meets its contract. The invariant: what the first i statements read too early.
-- Assumes nothing.
use mathlib.Core.Path.{sym, ◌∙◌, ap}
use native.Mathlib.Omega.{arith}
use Rattle.words.specs.Clauses.Change.{without}
use Rattle.certain.proofs.Covering.{early_none, early_more}
use Rattle.certain.proofs.early.Goals as goal

pub loop-i-init : goal.loop-i-init
loop-i-init c = early_none

pub set-at-requires : goal.set-at-requires
set-at-requires c = (omega arith)

pub loop-i-preserved : goal.loop-i-preserved
loop-i-preserved c =
    early_more c.requires.0 c.requires.1 (λ x. (c.type_inv.work x).fits) c.loop-i-test.true c.loop-i.invariant c.set-at.ensures c.difference-before.ensures
    (c.difference-names.ensures ∙ ap (λ z. without z c.difference-before.result) (c.read.ensures ∙ sym c.offset-p.ensures.read))
