-- One byte more is asked (`below_more`).
use mathlib.Core.Path.{refl}
use lib.Dec.{eqb}
use lib.ListN.{get_or}
use Rattle.theory.specs.Lists.{all_below}
use Rattle.theory.specs.Masks.{any_state}
use Rattle.accept.proofs.Filled.{below_more}
use Rattle.accept.proofs.bytes.all_any.Goals as goal

pub loop-x-init : goal.loop-x-init
unfolding all_below
loop-x-init c = refl

pub loop-x-preserved : goal.loop-x-preserved
loop-x-preserved c = below_more c.loop-x.x-index (λ k. eqb (get_or c.args.s.now k 0) any_state) c.loop-x.all c.loop-x.invariant
