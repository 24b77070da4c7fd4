-- `edges_end` meets its contract: the row of RETURNs and its words.
-- Assumes nothing.
use native.Mathlib.Omega.{arith}
use Rattle.statements.proofs.WorkArea.{queue-below, row-words-le}
use Rattle.dataflow.proofs.door.edges_end.Goals as goal

pub overflow_add-result : goal.overflow_add-result
overflow_add-result c =
    let n = c.args.layout.n in
    omega (arith, c.returns_row.ensures, c.row_words.ensures, queue-below c.args.layout.few, row-words-le n)
