-- `words::difference` meets its contract: the definition is the code's own operators.
-- Assumes nothing.
use mathlib.Core.Path.{refl}
use Rattle.words.specs.Clauses.Change.{without}
use Rattle.words.proofs.difference.Goals as goal

pub returns : goal.returns
unfolding without
returns c = refl
