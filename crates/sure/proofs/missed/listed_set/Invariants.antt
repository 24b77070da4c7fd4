-- The words have what the sets of the first k successors have.
use mathlib.Core.List.{[], ◌∷◌}
use lib.ListN.{take}
use Rattle.flow.specs.Format.{flow_of}
use Rattle.theory.specs.Body.{successors}
use Rattle.sure.specs.Clauses.Missing.{Gathered}
use Rattle.sure.proofs.missed.listed_set.Given as goal

abbrev pub invariant-loop-k : goal.invariant-loop-k
invariant-loop-k l = Gathered l.work l.layout.n (take l.k (successors (flow_of l.file) l.i.0)) (l.missed ∷ l.returns ∷ [])
