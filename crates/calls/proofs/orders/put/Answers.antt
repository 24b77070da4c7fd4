-- `put` meets its contract: the word has the number above those that it had (`put` of Entries). Assumes nothing.
use Prim.Native.Nat.{◌+◌, ◌/◌, ◌%◌}
use native.Mathlib.Omega.{arith}
use lib.ListN.{get_or}
use Rattle.calls.proofs.Entries.{packed-fits, put}
use Rattle.calls.proofs.orders.put.Goals as goal

pub overflow_add-work : goal.overflow_add-work
overflow_add-work c = omega (arith, packed-fits (get_or c.args.work.now (c.args.at + c.args.k / 5) 0) c.args.b.0 c.requires.1 (c.args.k % 5) (omega arith))

pub returns : goal.returns
returns c = put c.args.work.now c.args.at c.args.k c.args.b.0 c.requires.1 c.requires.0
