-- `accept::table::all_settled` meets its contract. The invariant: the first d numbers are settled.
-- The measure is what is left of them.
use Prim.Native.Nat.{ℕ, ◌-◌, ◌*◌, ◌≤◌, ◌<◌}
use mathlib.Core.Path.{◌≡◌}
use Rattle.solve.specs.Clauses.Layout.{settled_in}
use Rattle.accept.proofs.table.all_settled.Given as goal

abbrev pub invariant-loop-d : goal.invariant-loop-d
invariant-loop-d l = (l.d ≤ 2 * l.layout.n) × ((x : ℕ) → x < l.d → settled_in l.work l.layout.n l.layout.width x ≡ 1)

abbrev pub decreases-loop-d : goal.decreases-loop-d
decreases-loop-d l = 2 * l.layout.n - l.d
