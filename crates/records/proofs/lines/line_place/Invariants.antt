-- p is the place of a record, and the line's rank among the records asked lies from it to len records on. The measure is how many records are left between.
use Rattle.std.specs.Prelude.{◌≡◌, ℕ, ◌+◌, ◌≤◌}
use Rattle.flow.specs.Format.{line_count, line_place}
use Rattle.records.proofs.LineSearch.{Between}
use Rattle.records.proofs.lines.line_place.Given as goal

abbrev pub invariant-loop-len : goal.invariant-loop-len
invariant-loop-len l = (k : ℕ) × (l.at ≡ line_place l.file k) × (k + l.n ≤ line_count l.file) × Between l.file k (k + l.n) l.line l.p l.len

abbrev pub decreases-loop-len : goal.decreases-loop-len
decreases-loop-len l = l.len
