-- One byte more is joined (`union_more`).
use mathlib.Core.Path.{refl}
use lib.ListN.{get_or}
use Rattle.theory.specs.Queue.{union_below}
use Rattle.accept.proofs.Filled.{union_more}
use Rattle.accept.proofs.bytes.join_bytes.Goals as goal

pub loop-x-init : goal.loop-x-init
unfolding union_below
loop-x-init c = refl

pub loop-x-preserved : goal.loop-x-preserved
loop-x-preserved c = union_more c.loop-x.x-index (λ k. get_or c.args.s.now k 0) c.loop-x.invariant
