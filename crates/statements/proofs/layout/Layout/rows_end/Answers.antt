-- `rows_end` meets its contract: a row is at most 32 words, so that no product is too large (`row_below`).
-- Assumes nothing.
use mathlib.Core.Path.{◌≡◌, ap}
use Prim.Native.Nat.{◌*◌}
use native.Mathlib.Omega.{arith}
use Rattle.statements.specs.Clauses.Layout.{row_words, rows_end}
use Rattle.statements.proofs.WorkArea.{row_below}
use Rattle.statements.proofs.layout.Layout.rows_end.Goals as goal

product : (c : goal.After-row_words) → c.row_words.result * c.args.k ≡ row_words c.args.self.n * c.args.k
product c = ap (λ w. w * c.args.k) c.row_words.ensures

pub overflow_mul-result : goal.overflow_mul-result
unfolding rows_end
overflow_mul-result c = let start = c in omega (arith, product c, row_below start.args.self.few start.requires)

pub overflow_add-result : goal.overflow_add-result
unfolding rows_end
overflow_add-result c = let start = c in omega (arith, product c, c.matrix.ensures, row_below start.args.self.few start.requires)

pub returns : goal.returns
unfolding rows_end
returns c = omega (arith, product c, c.matrix.ensures)
