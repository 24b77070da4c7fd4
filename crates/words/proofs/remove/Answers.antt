-- `words::remove` meets its contract: the shifted 1 is the power of two, whose bit is taken from the word.
-- Assumes nothing.
use mathlib.Core.Path.{◌≡◌, ap, ◌∙◌}
use Prim.Native.Nat.{◌+◌, ◌*◌, ◌/◌, ◌%◌, ◌^◌}
use native.Mathlib.Omega.{arith}
use lib.ListN.{get_or, set}
use Rattle.words.specs.Clauses.Change.{removed, without}
use Rattle.words.proofs.Bit.{one_shl}
use Rattle.words.proofs.remove.Goals as goal

pub returns : goal.returns
unfolding removed
returns c =
    let a = c.args in
    let one : 1 * 2 ^ (a.i % 64) % 2 ^ 64 ≡ 2 ^ (a.i % 64) = one_shl (a.i % 64) (omega arith) in
    ap (set a.ws.now (a.base + a.i / 64)) (c.difference.ensures ∙ ap (without (get_or a.ws.now (a.base + a.i / 64) 0)) one)
