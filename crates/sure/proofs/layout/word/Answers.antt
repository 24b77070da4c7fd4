-- `layout::word` meets its contract: the lists stand below 39 × n, so that the sum is not too large.
-- Assumes nothing.
use native.Mathlib.Nat.{le_refl}
use native.Mathlib.Omega.{arith}
use Rattle.statements.proofs.WorkArea.{row_below}
use Rattle.sure.proofs.layout.word.Goals as goal

pub overflow_add-result : goal.overflow_add-result
overflow_add-result c = omega (arith, row_below c.args.layout.few (le_refl c.args.layout.n))
