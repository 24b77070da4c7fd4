-- `words::contains` meets its contract: the shifted word's lowest bit is the bit that `has` names.
-- Assumes nothing.
use mathlib.Core.Path.{refl}
use Rattle.words.specs.Clauses.Row.{bit, has}
use Rattle.words.proofs.contains.Goals as goal

pub returns : goal.returns
unfolding has bit
returns c = refl
