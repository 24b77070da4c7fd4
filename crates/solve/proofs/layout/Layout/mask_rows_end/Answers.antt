-- `mask_rows_end` meets its contract: no place is too large (`node-below`).
-- Assumes nothing.
use native.Mathlib.Omega.{arith}
use Rattle.solve.proofs.Room.{node-below}
use Rattle.solve.proofs.layout.Layout.mask_rows_end.Goals as goal

pub overflow_add-result-2 : goal.overflow_add-result-2
overflow_add-result-2 c = omega (arith, node-below c.args.self.few c.args.self.narrow c.requires)
