-- `sent_rows_end` meets its contract: no place is too large (`end_below`).
-- Assumes nothing.
use native.Mathlib.Omega.{arith}
use Rattle.solve.proofs.Room.{end_below}
use Rattle.solve.proofs.layout.Layout.sent_rows_end.Goals as goal

pub overflow_add-result : goal.overflow_add-result
overflow_add-result c = omega (arith, end_below c.args.self.few c.args.self.narrow c.requires)
