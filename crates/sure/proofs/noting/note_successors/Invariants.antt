-- The statement is noted at its first k successors.
use lib.ListN.{take}
use Rattle.flow.specs.Format.{flow_of}
use Rattle.theory.specs.Body.{successors}
use Rattle.sure.specs.Clauses.Noting.{NotesFollower}
use Rattle.sure.proofs.noting.note_successors.Given as goal

abbrev pub invariant-loop-k : goal.invariant-loop-k
invariant-loop-k l = NotesFollower l.initial.work l.work l.layout.n l.i.0 (take l.k (successors (flow_of l.file) l.i.0))
