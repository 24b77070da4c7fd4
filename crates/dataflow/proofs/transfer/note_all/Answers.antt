-- One word more is noted. Assumes nothing.
use Rattle.dataflow.proofs.Sets.{noting_more}
use borrow.Author.Rules.{rules}
use Rattle.dataflow.proofs.transfer.note_all.Goals as goal

pub loop-k-preserved : goal.loop-k-preserved
loop-k-preserved c = noting_more c.below_word.result c.loop-k.invariant (search rules) (search rules) c.below_word.ensures
