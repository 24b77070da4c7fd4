-- n is the members of the first k words.
use mathlib.Core.Path.{◌≡◌}
use Rattle.words.specs.Clauses.Row.{members}
use Rattle.words.proofs.count.Given as goal

abbrev pub invariant-loop-k : goal.invariant-loop-k
invariant-loop-k l = l.n ≡ members l.ws l.base l.k
