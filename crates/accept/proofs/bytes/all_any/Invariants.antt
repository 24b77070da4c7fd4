-- What is said so far is of the bytes passed.
use mathlib.Core.Path.{◌≡◌}
use lib.Dec.{eqb}
use lib.ListN.{get_or}
use Rattle.theory.specs.Lists.{all_below}
use Rattle.theory.specs.Masks.{any_state}
use Rattle.accept.proofs.bytes.all_any.Given as goal

abbrev pub invariant-loop-x : goal.invariant-loop-x
invariant-loop-x l = l.all ≡ all_below l.x-index (λ k. eqb (get_or l.s k 0) any_state)
