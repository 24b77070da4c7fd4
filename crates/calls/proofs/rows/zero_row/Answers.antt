-- `zero_row` meets its contract: the row is zeroed, and no other word.
-- By the laws of zeroed rows. Assumes nothing.
use Prim.Native.Nat.{ℕ, ◌+◌}
use mathlib.Core.List.{List}
use mathlib.Core.Path.{◌≡◌, sym, ap, ◌∙◌, subst}
use native.Mathlib.Omega.{arith}
use Rattle.words.specs.Clauses.Row.{has}
use Rattle.words.specs.Clauses.Change.{zeroed}
use Rattle.words.proofs.Zeroed.{zeroed-has}
use Rattle.statements.specs.Clauses.Layout.{row_words}
use Rattle.statements.specs.Clauses.Ready.{Keeps}
use Rattle.statements.proofs.WorkArea.{row-holds}
use Rattle.statements.proofs.Keeps.{keeps-zeroed}
use Rattle.calls.proofs.rows.zero_row.Goals as goal

pub returns : goal.returns
returns c =
    let ws = c.args.work.now in
    let n = c.args.layout.n in
    let to = c.args.to in
    let slice : c.zero_row.new.ws ≡ zeroed ws to (row_words n) = c.zero_row.ensures ∙ ap (zeroed ws to) c.row_words.ensures in (
      λ j l. ap (λ (vs : List ℕ). has vs to j) slice ∙ zeroed-has ws to (row_words n) c.requires j (omega (arith, row-holds n)),
      subst (λ (vs : List ℕ). Keeps to (to + row_words n) ws vs) (sym slice) (keeps-zeroed ws to (row_words n) (omega arith) (omega arith)),
    )
