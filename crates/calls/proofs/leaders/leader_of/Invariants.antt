-- `leader_of` meets its contract: a row with the same words holds the same statements, and a RETURN leads itself where no other does.
-- The measure is what is left of the statements before it. Assumes nothing.
use Prim.Native.Nat.{◌-◌, ◌≤◌}
use Rattle.calls.proofs.leaders.leader_of.Given as goal

abbrev pub invariant-loop-l : goal.invariant-loop-l
invariant-loop-l l = l.from ≤ l.r.0

abbrev pub decreases-loop-l : goal.decreases-loop-l
decreases-loop-l l = l.r.0 - l.from
