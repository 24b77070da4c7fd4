-- `part` meets its contract: the queue stands below 48 × n, so that the sum is not too large (`queue-below`).
-- Assumes nothing.
use native.Mathlib.Nat.{mul-le-mul_right}
use native.Mathlib.Omega.{arith}
use Rattle.statements.proofs.WorkArea.{queue-below}
use Rattle.statements.proofs.layout.Layout.part.Goals as goal

pub overflow_add-result : goal.overflow_add-result
overflow_add-result c =
    omega (arith, queue-below c.args.self.few, mul-le-mul_right c.args.self.n c.requires)
