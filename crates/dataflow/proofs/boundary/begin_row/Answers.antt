-- The arrays are reset, and step where there is a handler. By what the masks at the entry are.
use Prim.Native.Nat.{ℕ}
use mathlib.Core.List.{List}
use mathlib.Core.Path.{refl}
use Rattle.flow.specs.Format.{flow_of}
use Rattle.dataflow.proofs.Sets.{steps-at}
use Rattle.dataflow.proofs.Kept.{key-stays, key_says}
use Rattle.dataflow.proofs.Running.{reset-keeps, begun_unkeyed, begun_keyed}
use Rattle.dataflow.proofs.Headers.{arrays_told, handled, unhandled}
use Rattle.dataflow.proofs.boundary.begin_row.Goals as goal

pub returns-else-is_some : goal.returns-else-is_some
returns-else-is_some c =
    let entered = steps-at c.set_row.ensures refl c.out_row.ensures c.reset_row.ensures in
    begun_unkeyed (flow_of c.args.file.now) c.args.h.statements c.args.width c.args.row c.args.work.now c.reset_row.new.work (arrays_told c.requires.1) c.requires.4 c.requires.5 c.requires.6 entered
    (unhandled c.requires.1 c.if-is_some.ensures)

pub returns-then-is_some : goal.returns-then-is_some
returns-then-is_some c =
    let n : ℕ = c.args.h.statements in
    let w : ℕ = c.args.width in
    let ws : List ℕ = c.args.work.now in
    let us : List ℕ = c.reset_row.new.work in
    let f = flow_of c.args.file.now in
    let count = arrays_told c.requires.1 in
    let entered = steps-at c.set_row.ensures refl c.out_row.ensures c.reset_row.ensures in
    begun_keyed f n w c.args.row ws us count c.requires.4 c.requires.5 c.requires.6 entered c.step_key.ensures
    (key_says (key-stays (reset-keeps f n w c.args.row ws us count c.requires.4 c.requires.5 c.requires.6 entered) c.requires.2) (handled c.requires.1 c.if-is_some.ensures).1)
