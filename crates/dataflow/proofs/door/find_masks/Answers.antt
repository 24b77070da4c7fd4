-- `find_masks` meets its contract: with an opaque handler every mask holds all states, else each phase starts from what the one before it left.
-- Assumes nothing.
use mathlib.Core.Path.{sym, ◌∙◌}
use Rattle.dataflow.proofs.Phases.{unvisited}
use Rattle.dataflow.proofs.door.find_masks.Goals as goal

pub returns-then-opaque_handler : goal.returns-then-opaque_handler
returns-then-opaque_handler c = unvisited c.requires.0.indexed c.requires.2 (sym c.opaque_handler.ensures ∙ c.if-opaque_handler.true) c.write_any.ensures
