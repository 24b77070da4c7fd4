-- `words::union_word` meets its contract: the slice is the one store, and the answer compares the two words.
-- Assumes nothing.
use mathlib.Core.Path.{refl}
use Rattle.words.specs.Clauses.Change.{joined}
use Rattle.words.proofs.union_word.Goals as goal

pub returns : goal.returns
unfolding joined
returns c = record { slice = refl; grew = refl }
