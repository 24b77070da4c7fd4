-- The row went to the continuations before `start`. The measure is how many statements are left.
use Rattle.std.specs.Prelude.{ℕ, List, ◌-◌, ◌≤◌}
use Rattle.flow.specs.declared.Base.TheVariants.{Zero}
use Rattle.flow.specs.Flow.{Flow}
use Rattle.flow.specs.Format.{flow_of}
use Rattle.calls.specs.Clauses.Slots.{present, return_slots}
use Rattle.calls.proofs.Found.{left_from}
use Rattle.solve.specs.declared.Queue.{Queue}
use Rattle.dataflow.proofs.Sending.{Sending}
use Rattle.dataflow.proofs.arrays.push_members.Given as goal

pub record Going (f : Flow) (ws vs : List ℕ) (n w from : ℕ) (first : Queue) (i : ℕ) (queue : Queue) (start : ℕ) : Type 0 where
  pub low : start ≤ n
  pub sending : Sending f ws vs n w (λ b. from) first i (present (return_slots f Zero i)) queue (left_from start (return_slots f Zero i))

abbrev pub invariant-loop-k : goal.invariant-loop-k
invariant-loop-k l = Going (flow_of l.file) l.initial.work l.work l.layout.n l.layout.width l.from l.initial.queue l.fn.i.0 l.queue l.start

abbrev pub decreases-loop-k : goal.decreases-loop-k
decreases-loop-k l = l.layout.n - l.start
