use Rattle.std.proofs.Common.{◌≤◌, length}
use Rattle.replay.proofs.case.read_file.Given as goal

abbrev pub invariant-loop-reader : goal.invariant-loop-reader
invariant-loop-reader l = (length l.reader.rest.now ≤ length l.fn.reader.rest.now) × (l.size ≤ length l.file)

abbrev pub decreases-loop-reader : goal.decreases-loop-reader
decreases-loop-reader l = length l.reader.rest.now
