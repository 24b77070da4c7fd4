-- The union so far is that of the bytes passed.
use mathlib.Core.Path.{◌≡◌}
use lib.ListN.{get_or}
use Rattle.theory.specs.Queue.{union_below}
use Rattle.accept.proofs.bytes.join_bytes.Given as goal

abbrev pub invariant-loop-x : goal.invariant-loop-x
invariant-loop-x l = l.all ≡ union_below l.x-index (λ k. get_or l.s k 0)
