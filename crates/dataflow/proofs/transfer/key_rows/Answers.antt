-- `dataflow::transfer::key_rows` meets its contract: each row steps in place, and the other stays.
-- Assumes nothing.
use Prim.Native.Nat.{ℕ}
use mathlib.Core.List.{List}
use mathlib.Core.Path.{subst}
use Rattle.masks.specs.declared.Effect.TheVariants.{Touched}
use Rattle.solve.specs.Clauses.Layout.{key_at}
use Rattle.solve.specs.Clauses.Rows.{RowIs, mask_at, step_where, member}
use Rattle.dataflow.proofs.Sends.{key-stepped}
use Rattle.dataflow.proofs.transfer.key_rows.Goals as goal

pub returns : goal.returns
returns c =
    let n : ℕ = c.args.layout.n in
    let w : ℕ = c.args.layout.width in
    let ws : List ℕ = c.args.work.now in
    let us : List ℕ = c.step_key.new.work in
    let vs : List ℕ = c.step_key-2.new.work in
    key-stepped ws us vs n w
    (subst (λ (row : ℕ). RowIs ws us w row (step_where (member ws (key_at n w)) Touched (mask_at ws w row))) c.out_row-out.ensures c.step_key.ensures)
    (subst (λ (row : ℕ). RowIs us vs w row (step_where (member us (key_at n w)) Touched (mask_at us w row))) c.back_row-back.ensures c.step_key-2.ensures)
