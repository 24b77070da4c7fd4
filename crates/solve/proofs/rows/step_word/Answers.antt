-- `solve::rows::step_word` meets its contract: the three words are read before one is written, and each is what the step of the chosen arrays makes of them.
-- By the laws of sets that step together.
use mathlib.Core.Path.{refl}
use Rattle.solve.proofs.Stepping.{word-masks}
use Rattle.solve.proofs.rows.step_word.Goals as goal

pub returns : goal.returns
returns c =
    record {
      none = c.choose.result;
      auto = c.choose-2.result;
      dimmed = c.choose-3.result;
      slice = refl;
      masks = word-masks c.holders.ensures c.holders-2.ensures c.holders-3.ensures
          c.choose.ensures c.choose-2.ensures c.choose-3.ensures;
    }
