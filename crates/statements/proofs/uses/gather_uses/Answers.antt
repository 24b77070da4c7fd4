-- `gather_uses` meets its contract: a statement more adds what it writes and reads. Assumes nothing.
use mathlib.Core.Path.{sym, ◌∙◌}
use Rattle.statements.proofs.UsedNames.{gathered_none, gathered-more}
use Rattle.statements.proofs.uses.gather_uses.Goals as goal

pub loop-i-init : goal.loop-i-init
loop-i-init c = gathered_none

pub loop-i-preserved : goal.loop-i-preserved
loop-i-preserved c = gathered-more c.loop-i.invariant (c.offset-p.ensures.written ∙ sym c.written-written.ensures) (c.offset-p.ensures.read ∙ sym c.read-read.ensures)
