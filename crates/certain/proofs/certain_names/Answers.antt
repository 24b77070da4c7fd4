-- `certain::certain_names` meets its contract: where no name is both written and read, the written ones; else the written ones that no statement reads too early.
-- Assumes nothing.
use mathlib.Core.Path.{◌∙◌}
use Rattle.certain.proofs.Covering.{apart, without_early}
use Rattle.certain.proofs.certain_names.Goals as goal

pub returns-then-all-eq0 : goal.returns-then-all-eq0
returns-then-all-eq0 c = apart c.requires.ready c.requires.no_handler c.gather_uses-all.ensures c.if-all-eq0.true

pub returns : goal.returns
returns c = c.difference.ensures ∙ without_early c.requires.ready c.requires.no_handler c.gather_uses-all.ensures c.early.ensures
