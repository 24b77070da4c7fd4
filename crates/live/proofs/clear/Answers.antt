-- `live::clear` meets its contract: the words of the matrix, and from the queue to those of the numbers that wait, are zeroed.
-- Assumes nothing.
use native.Mathlib.Omega.{arith}
use Rattle.statements.proofs.WorkArea.{row_from}
use Rattle.live.proofs.clear.Goals as goal

pub overflow_sub-lists : goal.overflow_sub-lists
overflow_sub-lists c = let n = c.args.layout.n in omega (arith, c.matrix-matrix.ensures, c.lists.ensures, row_from n n)

pub zero_row-requires : goal.zero_row-requires
zero_row-requires c = omega (arith, c.matrix-matrix.ensures, c.lists.ensures, row_from c.args.layout.n c.args.layout.n, c.requires)
