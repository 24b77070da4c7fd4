-- `offset` meets its contract: the word at i has the place below the mark.
-- Assumes nothing.
use Rattle.statements.proofs.ByNumber.{noted_record}
use Rattle.statements.proofs.fields.offset.Goals as goal

pub returns : goal.returns
returns c = noted_record c.requires.0 c.requires.1 c.from.ensures
