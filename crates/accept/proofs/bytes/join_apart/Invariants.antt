-- The union so far is that of the pairs passed.
use mathlib.Core.Path.{◌≡◌}
use lib.Bits.{bit_xor}
use lib.ListN.{get_or, length}
use Rattle.theory.specs.Queue.{union_below}
use Rattle.accept.proofs.bytes.join_apart.Given as goal

abbrev pub invariant-loop-x : goal.invariant-loop-x
invariant-loop-x l = l.all ≡ union_below (length l.yielded) (λ k. bit_xor (get_or l.a k 0) (get_or l.b k 0))
