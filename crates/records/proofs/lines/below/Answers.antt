-- `below` meets its contract: of two numbers of 16 bits, 65535 and the line less the number reach 65536 just where the number is below the line.
-- By the two cases of the test. Assumes nothing.
use Prim.Native.Nat.{◌<◌}
use native.Mathlib.Omega.{arith}
use Rattle.flow.proofs.Numbers.{le_at-lt}
use Rattle.records.proofs.lines.below.Goals as goal

-- what two bytes hold
small : (c : goal.After-u16_at) → c.u16_at.result < 65536
small c = let a = c.args in omega (arith, le_at-lt 2 a.file.now a.at c.type_inv.file)

pub overflow_sub-result : goal.overflow_sub-result
overflow_sub-result c = omega (arith, small c)
