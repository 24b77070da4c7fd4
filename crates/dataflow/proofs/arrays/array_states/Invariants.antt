-- `dataflow::arrays::array_states` meets its contract. The invariant: the area is a state that the queue rule comes to, after so many visits.
-- The measure is what is left of Term 1's bound.
use Prim.Native.Nat.{◌-◌}
use Rattle.flow.specs.Format.{flow_of}
use Rattle.theory.specs.Doubled.{doubled}
use Rattle.theory.specs.Queue.{visit_bound}
use Rattle.dataflow.proofs.Running.{Running}
use Rattle.dataflow.proofs.arrays.array_states.Given as goal

abbrev pub invariant-loop-queue : goal.invariant-loop-queue
invariant-loop-queue l = Running (flow_of l.file) l.h.statements l.width l.initial.work l.work l.queue l.visits

abbrev pub decreases-loop-queue : goal.decreases-loop-queue
decreases-loop-queue l = visit_bound (doubled (flow_of l.file)) - l.visits
