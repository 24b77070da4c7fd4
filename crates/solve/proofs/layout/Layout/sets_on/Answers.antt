-- `sets_on` meets its contract: the sums are not too large, since the queue stands below 48 × n (`queue-below`).
-- Assumes nothing.
use native.Mathlib.Nat.{mul-le-mul_right}
use native.Mathlib.Omega.{arith}
use Rattle.statements.proofs.WorkArea.{queue-below}
use Rattle.solve.proofs.layout.Layout.sets_on.Goals as goal

pub overflow_add-result : goal.overflow_add-result
overflow_add-result c = omega (arith, queue-below c.args.self.few, mul-le-mul_right c.args.self.width c.requires)
