-- The rows by the statement alone, and where there is a handler with its touched step. Assumes nothing.
use Prim.Native.Nat.{ℕ, ◌*◌}
use native.Mathlib.Nat.{le_refl}
use native.Mathlib.Omega.{arith}
use Rattle.statements.proofs.Keeps.{keeps_widen}
use Rattle.solve.proofs.Room.{key-room, row_from, row_first, nodes-within}
use Rattle.dataflow.proofs.Kept.{key-stays, key_says}
use Rattle.dataflow.proofs.Sends.{prepared_keyed, prepared_unkeyed}
use Rattle.dataflow.proofs.Headers.{narrow, handled, unhandled}
use Rattle.dataflow.proofs.transfer.call_rows.Goals as goal

pub key_rows-requires : goal.key_rows-requires
key_rows-requires c =
    let at = c.requires.7 in
    let width = narrow c.requires.1 c.requires.0 in
    (omega (arith, key-room c.requires.1.ready (omega arith) width, c.own_rows.ensures.keeps.size))

pub returns-then-is_some : goal.returns-then-is_some
returns-then-is_some c =
    let n : ℕ = c.args.h.statements in
    let w : ℕ = c.args.width in
    let low = row_from n w (2 * n) in
    let end = nodes-within n w in
    prepared_keyed c.own_rows.ensures c.key_rows.ensures
    (key_says (key-stays (keeps_widen (le_refl _) (omega (arith, row_first n w)) c.own_rows.ensures.keeps) c.requires.3) (handled c.requires.1 c.if-is_some.ensures).1)

pub returns-else-is_some : goal.returns-else-is_some
returns-else-is_some c = prepared_unkeyed (unhandled c.requires.1 c.if-is_some.ensures) c.own_rows.ensures
