-- `clear_row` meets its contract: the row of a RETURN is zeroed, and that of any other statement stays.
-- By the laws of `Notes`. Assumes nothing.
use Prim.Native.Nat.{ℕ, ◌+◌}
use mathlib.Core.Path.{sym, ◌∙◌, subst}
use native.Mathlib.Omega.{arith}
use Rattle.theory.specs.Lists.{elem}
use Rattle.statements.specs.Clauses.Layout.{row_words}
use Rattle.statements.specs.Clauses.Ready.{Keeps}
use Rattle.statements.proofs.WorkArea.{row_fits}
use Rattle.statements.proofs.Keeps.{ready-room}
use Rattle.calls.specs.Clauses.Held.{Empty}
use Rattle.calls.proofs.CallRows.{notes_row}
use Rattle.calls.proofs.rows.clear_row.Goals as goal

pub row-requires : goal.row-requires
row-requires c = let p = c.requires in (p.1)

pub zero_row-requires : goal.zero_row-requires
zero_row-requires c =
    let p = c.requires in
    (omega (arith, c.row.ensures, row_fits _ p.1, ready-room p.0 (omega arith)))

pub returns-then-is_return : goal.returns-then-is_return
unfolding elem
returns-then-is_return c =
    let a = c.args in
    let zeroed = c.zero_row in
    let e = c.row.ensures in
    let is = sym c.is_return.ensures ∙ c.if-is_return.true in
    notes_row c.requires.1 is (subst (λ (x : ℕ). Keeps x (x + row_words a.layout.n) a.work.now zeroed.new.work) e zeroed.ensures.1)
    (subst (λ (x : ℕ). Empty zeroed.new.work a.layout.n x) e zeroed.ensures.0)
