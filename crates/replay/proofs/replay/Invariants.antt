use Rattle.std.proofs.Common.{◌≤◌, ◌+◌, length}
use Rattle.replay.proofs.replay.Given as goal

abbrev pub invariant-loop-reader : goal.invariant-loop-reader
invariant-loop-reader l = (l.cases + length l.reader.rest.now ≤ length l.stored) × (l.different ≤ l.cases)

abbrev pub decreases-loop-reader : goal.decreases-loop-reader
decreases-loop-reader l = length l.reader.rest.now
