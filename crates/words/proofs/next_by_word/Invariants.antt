-- The next member from the first word on is the next one from word k on.
use mathlib.Core.Path.{◌≡◌}
use Prim.Native.Nat.{◌*◌, min}
use Rattle.words.specs.Clauses.Row.{next_member}
use Rattle.words.proofs.next_by_word.Given as goal

abbrev pub invariant-loop-k : goal.invariant-loop-k
invariant-loop-k l = next_member l.ws l.base (min (64 * l.first) l.bound) l.bound ≡ next_member l.ws l.base (min (64 * l.k) l.bound) l.bound
