-- `note_return` meets its contract: a RETURN joins the row, and any other statement adds nothing.
-- By the laws of `Adds`. Assumes nothing.
use Prim.Native.Nat.{ℕ}
use mathlib.Core.Path.{sym, ◌∙◌, subst}
use native.Mathlib.Omega.{arith}
use Rattle.words.specs.Clauses.Change.{Inserted}
use Rattle.statements.proofs.WorkArea.{member-word}
use Rattle.calls.proofs.Joined.{adds_none, adds_insert}
use Rattle.calls.proofs.ReturnSet.{returns-room}
use Rattle.calls.proofs.returns.note_return.Goals as goal

pub insert-requires : goal.insert-requires
insert-requires c =
    omega (arith, returns-room c.args.layout.n c.requires.0, member-word c.requires.1, c.returns_row.ensures)

pub returns-then-is_return : goal.returns-then-is_return
returns-then-is_return c =
    let a = c.args in
    let i = c.insert in
    rw (sym c.is_return.ensures ∙ c.if-is_return.true)
    (adds_insert (subst (λ (b : ℕ). Inserted a.work.now i.new.ws b a.r.0 i.result) c.returns_row.ensures i.ensures) c.requires.1 (returns-room a.layout.n c.requires.0))

pub returns-else-is_return : goal.returns-else-is_return
returns-else-is_return c = rw (sym c.is_return.ensures ∙ c.if-is_return.false) adds_none
