-- `live_after` meets its contract. The invariant: after k successors the set is the union of theirs.
-- Assumes nothing.
use Prim.Native.Nat.{◌≤◌}
use mathlib.Core.Path.{◌≡◌}
use lib.ListN.{get_or}
use Rattle.flow.specs.Format.{successor_at}
use Rattle.theory.specs.Queue.{union_below}
use Rattle.live.proofs.sweep.live_after.Given as goal

abbrev pub invariant-loop-k : goal.invariant-loop-k
invariant-loop-k l = (l.k ≤ l.count) × (l.live ≡ union_below l.k (λ m. get_or l.live_in (successor_at l.file l.p m) 0))
