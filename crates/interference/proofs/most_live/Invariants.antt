-- The most ones of the first i words.
use Rattle.std.specs.Prelude.{◌≡◌, get_or}
use Rattle.std.specs.Int.Count.{ones}
use Rattle.theory.specs.Lists.{max_below}
use Rattle.interference.proofs.most_live.Given as goal

abbrev pub invariant-loop-i : goal.invariant-loop-i
invariant-loop-i l = l.most ≡ max_below l.i (λ k. ones (get_or l.live_in k 0))
