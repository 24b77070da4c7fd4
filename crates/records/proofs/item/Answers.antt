-- `item` meets its contract: only a DIM has items, and they lie within its record (`item-fits`), each with a flag of 0 or 1 (`item_in`).
-- Assumes nothing.
use native.Mathlib.Omega.{arith}
use Prim.Native.Nat.{ℕ, ◌≤◌}
use mathlib.Core.Bool.{cond}
use mathlib.Core.Path.{◌≡◌}
use lib.Dec.{eqb}
use Rattle.std.proofs.lemmas.Bool.Decides.{nat_tests}
use Rattle.records.proofs.KindData.{item-fits}
use Rattle.records.proofs.Values.{item_in}
use Rattle.records.proofs.item.Goals as goal

flagged : {x n : ℕ} → x ≡ n → n ≤ 1 → cond (eqb x 1) 1 0 ≡ n
flagged e h = grind (arith, nat_tests)

pub overflow_add-at : goal.overflow_add-at
overflow_add-at c = omega (arith, item-fits c.requires.0 c.args.k c.requires.1)

pub overflow_mul-at : goal.overflow_mul-at
overflow_mul-at c = omega (arith, item-fits c.requires.0 c.args.k c.requires.1)

pub overflow_add-at-2 : goal.overflow_add-at-2
overflow_add-at-2 c = omega (arith, item-fits c.requires.0 c.args.k c.requires.1)

pub u8_at-requires : goal.u8_at-requires
u8_at-requires c = omega (arith, item-fits c.requires.0 c.args.k c.requires.1)

pub overflow_add-at-3 : goal.overflow_add-at-3
overflow_add-at-3 c = omega (arith, item-fits c.requires.0 c.args.k c.requires.1)

pub u8_at-requires-2 : goal.u8_at-requires-2
u8_at-requires-2 c = omega (arith, item-fits c.requires.0 c.args.k c.requires.1)

pub returns : goal.returns
returns c = (cc, flagged (cc) (item_in c.requires.0 c.args.k c.requires.1).1)
