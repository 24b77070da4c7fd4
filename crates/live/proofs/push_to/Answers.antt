-- `live::push_to` meets its contract: a word that grew has its statement wait; one that did not is as it was.
-- Assumes nothing.
use Rattle.live.proofs.Spread.{pushed_waits, pushed_same}
use borrow.Author.Rules.{rules}
use Rattle.live.proofs.push_to.Goals as goal

pub returns-then-union_word : goal.returns-then-union_word
returns-then-union_word c =
    pushed_waits c.union_word.ensures c.requires.2 c.requires.1 c.if-union_word.true (λ x. search rules) c.ranges.live.fits
    c.enqueue.ensures

pub returns : goal.returns
returns c =
    pushed_same c.union_word.ensures c.requires.2 c.requires.1 c.if-union_word.false
