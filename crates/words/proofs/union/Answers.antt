-- `words::union` meets its contract, of three words by the function for them. Assumes nothing.
use borrow.Author.Rules.{rules}
use Rattle.words.proofs.Unioned.{joining_none, joining_more}
use Rattle.words.proofs.union.Goals as goal

pub loop-k-init : goal.loop-k-init
loop-k-init c = joining_none _ _ _ _

pub loop-k-preserved : goal.loop-k-preserved
loop-k-preserved c = joining_more c.loop-k.invariant (search rules) (search rules) c.union_word-grew.ensures
