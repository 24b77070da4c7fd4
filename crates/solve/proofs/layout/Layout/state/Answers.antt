-- `state` meets its contract: the place is not too large (`node-below`).
-- Assumes nothing.
use native.Mathlib.Nat.{le_of_lt}
use native.Mathlib.Omega.{arith}
use Rattle.solve.proofs.Room.{node-below}
use Rattle.solve.proofs.layout.Layout.state.Goals as goal

pub overflow_add-result : goal.overflow_add-result
overflow_add-result c = omega (arith, node-below c.args.self.few c.args.self.narrow (le_of_lt c.requires))
