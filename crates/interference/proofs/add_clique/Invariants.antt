-- The words of the names that are left are as they were, and all others are done. As many turns are left as names.
use Rattle.words.specs.Clauses.Row.{bit, tally}
use Rattle.interference.proofs.LowestFirst.{Adding}
use Rattle.interference.proofs.add_clique.Given as goal

abbrev pub invariant-loop-rest : goal.invariant-loop-rest
invariant-loop-rest l = Adding l.initial.rows l.rows l.set l.rest

abbrev pub decreases-loop-rest : goal.decreases-loop-rest
decreases-loop-rest l = tally (bit l.rest) 64
