-- `row_words` meets its contract: the quotient is the definition's.
-- Assumes nothing.
use borrow.Author.Rules.{rules}
use Rattle.statements.specs.Clauses.Layout.{row_words}
use Rattle.statements.proofs.layout.Layout.row_words.Goals as goal

pub returns : goal.returns
unfolding row_words
returns c = search rules
