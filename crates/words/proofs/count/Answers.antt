-- The ones of a word are the sum of its bits. Assumes nothing.
use mathlib.Core.Path.{refl}
use Prim.Native.Nat.{◌+◌}
use native.Mathlib.Omega.{arith}
use lib.Count.{ones-le}
use Rattle.words.specs.Clauses.Row.{tally, members}
use Rattle.words.proofs.Row.{members-le, members-suc}
use Rattle.words.proofs.count.Goals as goal

pub loop-k-init : goal.loop-k-init
unfolding members tally
loop-k-init c = refl

pub overflow_add-n-in-loop-k : goal.overflow_add-n-in-loop-k
overflow_add-n-in-loop-k c =
    let word = c.type_inv.ws (c.args.base + c.loop-k.k) in
    omega (arith, ones-le 64 _ word.fits, members-le c.args.ws.now c.args.base c.loop-k.k)

pub loop-k-preserved : goal.loop-k-preserved
loop-k-preserved c =
    let word = c.type_inv.ws (c.args.base + c.loop-k.k) in
    let more = members-suc c.args.ws.now c.args.base c.loop-k.k word.fits in
    omega (arith, more)
