-- `add_used` meets its contract: the words of the names that are written and read have the names that are used.
-- Assumes nothing.
use native.Mathlib.Nat.{lt_of_lt_of_le}
use lib.Pow.{pow_mono}
use Rattle.interference.proofs.Interfering.{used-lt, noted-used}
use Rattle.interference.proofs.add_used.Goals as goal

pub add_clique-requires : goal.add_clique-requires
add_clique-requires c =
    lt_of_lt_of_le (used-lt c.requires.ready c.gather_uses-all.ensures) (pow_mono c.requires.room)

pub returns : goal.returns
returns c = noted-used c.requires.ready c.gather_uses-all.ensures c.add_clique.ensures
