-- The arrays of the first k items with dimensions are noted.
use Rattle.flow.specs.Format.{tabulate, item_at}
use Rattle.records.specs.Clauses.Fields.{item_count}
use Rattle.theory.specs.Doubled.{dims}
use Rattle.dataflow.proofs.Sets.{Gathering}
use Rattle.dataflow.proofs.transfer.note_items.Given as goal

abbrev pub invariant-loop-k : goal.invariant-loop-k
invariant-loop-k l = Gathering dims (tabulate (item_count l.file l.p) (item_at l.file l.p)) l.initial.work l.set l.width l.work l.k
