-- The first k words are noted.
use Rattle.flow.specs.Format.{tabulate, reference_count, reference_at}
use Rattle.theory.specs.Lists.{elem}
use Rattle.dataflow.proofs.Sets.{Noting}
use Rattle.dataflow.proofs.transfer.note_references.Given as goal

abbrev pub invariant-loop-k : goal.invariant-loop-k
invariant-loop-k l = Noting l.initial.work l.set l.width (λ a. elem a (tabulate (reference_count l.file l.p) (reference_at l.file l.p))) l.work l.k
