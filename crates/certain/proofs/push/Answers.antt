-- `certain::push` meets its contract: a set that grew has its statement wait; one that did not is as it was.
-- Assumes nothing.
use Rattle.statements.proofs.WorkArea.{member-word}
use Rattle.certain.proofs.Pushing.{pushed_waits, pushed_same}
use borrow.Author.Rules.{rules}
use Rattle.certain.proofs.push.Goals as goal

pub insert-requires : goal.insert-requires
insert-requires c = let word = member-word c.requires.1 in search rules

pub returns-then-union_pair : goal.returns-then-union_pair
returns-then-union_pair c =
    pushed_waits c.requires.1 c.requires.0 c.set.ensures c.union_pair.ensures (λ x. search rules) c.ranges.names.fits c.ranges.reached.fits c.if-union_pair.true c.waiting.ensures c.insert.ensures

pub returns-else-union_pair : goal.returns-else-union_pair
returns-else-union_pair c = pushed_same c.requires.1 c.requires.0 c.set.ensures c.union_pair.ensures c.if-union_pair.false
