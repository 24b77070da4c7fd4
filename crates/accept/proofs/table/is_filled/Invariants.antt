-- `accept::table::is_filled` meets its contract. The invariant: the masks of the arrays of the first k words are zero.
-- The measure is what is left of the width.
use Prim.Native.Nat.{ℕ, ◌-◌, ◌*◌, ◌≤◌, ◌<◌}
use mathlib.Core.Path.{◌≡◌}
use Rattle.solve.specs.Clauses.Rows.{mask_at}
use Rattle.accept.proofs.table.is_filled.Given as goal

abbrev pub invariant-loop-k : goal.invariant-loop-k
invariant-loop-k l = (l.k ≤ l.layout.width) × ((a : ℕ) → a < 64 * l.k → mask_at l.work l.layout.width l.row a ≡ 0)

abbrev pub decreases-loop-k : goal.decreases-loop-k
decreases-loop-k l = l.layout.width - l.k
