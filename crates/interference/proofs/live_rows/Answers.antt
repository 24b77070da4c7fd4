-- `live_rows` meets its contract: the pairs of all statements in words that held none are the pairs that interfere.
-- Assumes nothing.
use Rattle.interference.proofs.Interfering.{live_rows}
use Rattle.interference.proofs.live_rows.Goals as goal

pub returns : goal.returns
returns c = live_rows c.requires.0 c.zero_row.ensures c.requires.2 c.add_statements.ensures
