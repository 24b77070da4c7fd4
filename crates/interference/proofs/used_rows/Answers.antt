-- `used_rows` meets its contract: with a handler, the pairs of names that are used are those that interfere.
-- Assumes nothing.
use Rattle.interference.proofs.Interfering.{used_rows}
use Rattle.interference.proofs.used_rows.Goals as goal

pub returns : goal.returns
returns c = used_rows c.requires.0 c.zero_row.ensures c.requires.1.1 c.add_used.ensures
