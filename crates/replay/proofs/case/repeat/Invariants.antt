use Rattle.std.proofs.Common.{◌≤◌, length}
use Rattle.replay.proofs.case.repeat.Given as goal

abbrev pub invariant-loop : goal.invariant-loop
invariant-loop l = l.size ≤ length l.file

abbrev pub invariant-loop-byte : goal.invariant-loop-byte
invariant-loop-byte l = l.size ≤ length l.file
