-- Where there is a handler the row is joined to that of n + the handler, and else nothing is written. Assumes nothing.
use Prim.Native.Nat.{ℕ}
use mathlib.Core.Path.{refl, subst}
use Rattle.solve.specs.Clauses.Layout.{mask_row_at}
use Rattle.solve.specs.Clauses.Pushed.{Grown}
use Rattle.dataflow.specs.Clauses.Sent.{KeyGrown}
use Rattle.dataflow.proofs.Headers.{handler-number}
use Rattle.calls.proofs.Checked.{handler-at, handler-none}
use Rattle.dataflow.proofs.arrays.grow_key.Goals as goal

pub returns-in-Some : goal.returns-in-Some
returns-in-Some c =
    let a = c.args in
    KeyGrown.keyed (handler-at c.requires.1 c.in-Some.e c.in-Some.is)
    (subst (λ (t : ℕ). Grown a.work.now c.grow.new.work a.h.statements a.width (mask_row_at a.h.statements a.width a.d.0) t) (handler-number c.requires.1 c.in-Some.e.0 c.node.ensures)
    (subst (λ (from : ℕ). Grown a.work.now c.grow.new.work a.h.statements a.width from c.node.result.0) c.mask_row.ensures c.grow.ensures))

pub returns-in_default : goal.returns-in_default
returns-in_default c = KeyGrown.unkeyed (handler-none c.requires.1 c.in_default.is) refl
