-- `certain::begin` meets its contract: all words of the call are zero, and then the entry has every element and waits.
-- Assumes nothing.
use Prim.Native.Nat.{◌+◌, ◌*◌}
use mathlib.Core.Path.{ap}
use Rattle.certain.proofs.Solution.{begun}
use Rattle.certain.proofs.begin.Goals as goal

pub returns : goal.returns
returns c =
    begun c.args.work.now c.args.layout.n c.requires.1 c.requires.0 (ap (λ z. 2 * c.args.layout.n + z) c.row_words.ensures) c.zero_row.ensures c.push.ensures
