-- `list_statement` meets its contract: where the row of entered statements has b, the list has it too; else it becomes the last entry.
-- By what a statement does to the list (`listing-again`, `listing-more`). Assumes nothing.
use Prim.Native.Nat.{ℕ}
use mathlib.Core.Path.{ap, subst}
use native.Mathlib.Omega.{arith}
use lib.ListN.{length}
use Rattle.words.specs.Clauses.Change.{Inserted}
use Rattle.words.proofs.Inserted.{length_inserted}
use Rattle.statements.proofs.WorkArea.{member-word, area-fits, queue-below}
use Rattle.calls.proofs.Listing.{entered-room, listing-more, listing-again}
use Rattle.calls.proofs.orders.list_statement.Goals as goal

pub insert-requires : goal.insert-requires
insert-requires c = omega (arith, c.entered_row.ensures, entered-room c.requires.0 (omega (arith, c.requires.1)), member-word c.requires.1)

pub put-requires : goal.put-requires
put-requires c =
    (omega (arith, c.requires.2, c.requires.0.room, area-fits (omega (arith, c.requires.1)) c.requires.0.few, ap length c.insert.ensures.slice, length_inserted c.args.work.now c.entered_row.result c.args.b.0), omega (arith, c.requires.1, c.requires.0.few))

pub overflow_add-result : goal.overflow_add-result
overflow_add-result c = omega (arith, c.requires.2, queue-below c.requires.0.few, c.requires.0.few)

pub returns-then-insert : goal.returns-then-insert
returns-then-insert c =
    λ ws₀ xs l. listing-more l c.requires.1 (subst (λ (x : ℕ). Inserted c.args.work.now c.insert.new.ws x c.args.b.0 c.insert.result) c.entered_row.ensures c.insert.ensures) c.if-insert.true c.put.ensures c.requires.2 (entered-room c.requires.0 (omega (arith, c.requires.1)))

pub returns : goal.returns
returns c =
    λ ws₀ xs l. listing-again l c.requires.1 (subst (λ (x : ℕ). Inserted c.args.work.now c.insert.new.ws x c.args.b.0 c.insert.result) c.entered_row.ensures c.insert.ensures) c.if-insert.false
