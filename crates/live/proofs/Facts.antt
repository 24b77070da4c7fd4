-- A row of the matrix fits into the work area. By the laws of the layout.
use Prim.Native.Nat.{ℕ, ◌+◌, ◌/◌, ◌<◌, ◌≤◌}
use mathlib.Core.Path.{◌≡◌}
use native.Mathlib.Omega.{arith}
use Rattle.statements.specs.Clauses.Layout.{row_words, row_at, lists_at}
use Rattle.statements.proofs.WorkArea.{row_fits}
use Rattle.solve.specs.Clauses.Layout.{nodes_end}

-- a row of the matrix, for those who read its words
pub row_room : {n j row size : ℕ} → row ≡ row_at n j → j < n → nodes_end n 0 ≤ size → row + (n + 63) / 64 ≤ size
unfolding row_words
row_room {n} {j} {row} e l fits = let in-matrix : row_at n j + (n + 63) / 64 ≤ lists_at n = row_fits n l in omega arith
