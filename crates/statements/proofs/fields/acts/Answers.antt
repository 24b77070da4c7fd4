-- `acts` meets its contract: the word at i has the mark where the statement acts.
-- Assumes nothing.
use Rattle.statements.proofs.ByNumber.{noted_acts}
use Rattle.statements.proofs.fields.acts.Goals as goal

pub returns : goal.returns
returns c = noted_acts c.requires.0 c.requires.1 c.from.ensures
