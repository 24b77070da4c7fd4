-- The words are those of the arrays from group g on.
use Rattle.std.specs.Prelude.{◌*◌, ◌≤◌, length}
use Rattle.accept.specs.Clauses.Rows.{SetsOf}
use Rattle.accept.proofs.rows.sets_of.Given as goal

abbrev pub invariant-loop-g : goal.invariant-loop-g
invariant-loop-g l = (8 * l.g ≤ length l.s) × SetsOf l.s (8 * l.g) l.none l.auto' l.dimmed
