-- `certain::push_listed` meets its contract. The invariant: the words went to the first k successors.
-- Assumes nothing.
use mathlib.Core.List.{[], ◌∷◌}
use mathlib.Core.Path.{◌≡◌}
use Rattle.words.specs.Clauses.Row.{has}
use Rattle.flow.specs.Format.{flow_of}
use Rattle.theory.specs.Body.{successors}
use Rattle.certain.proofs.Pushing.{PushedTo}
use Rattle.certain.proofs.push_listed.Given as goal

abbrev pub invariant-loop-k : goal.invariant-loop-k
invariant-loop-k l = PushedTo (successors (flow_of l.file) l.i.0) l.initial.work l.work l.layout.n l.k (λ x. has (l.names ∷ l.reached ∷ []) 0 x ≡ 1)
