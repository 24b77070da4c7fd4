use Rattle.std.proofs.Common.{◌≡◌, ◌++◌}
use Rattle.theory.specs.Lists.{concat_map, up_to}
use Rattle.listing.specs.Clauses.Room.{areas_line}
use Rattle.listing.proofs.lines.statements.Given as goal

abbrev pub invariant-loop-i : goal.invariant-loop-i
invariant-loop-i l = l.text.buffer.items ≡ l.fn.text.buffer.items ++ concat_map (areas_line l.file l.areas) (up_to l.i)
