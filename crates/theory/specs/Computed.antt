-- The queue rule as a computation, for the table of cases: as many visits as term 1's bound allows, or as there are before nothing waits. No promise
-- rests on it; it is proved to leave what the rule's course leaves when it is over, after as many visits.
use Rattle.std.specs.Prelude.{ℕ, zero, suc, ◌+◌, cond, List, [], ◌∷◌}
use Rattle.flow.specs.Flow.{Flow}
use Rattle.theory.specs.Key.{opaque_handler}
use Rattle.theory.specs.Queue.{Graph, Solver, visit, initial, visit_bound}
use Rattle.theory.specs.Doubled.{doubled}
use Rattle.theory.specs.Masks.{any_state, mask_left}

-- the visits so far, and the state that they lead to
pub record Progress : Type 0 where
  pub count : ℕ
  pub state : Solver

abbrev pub progress : ℕ → Solver → Progress
progress k st = record { count = k; state = st }

unfoldable pub visit_front : Graph → Progress → List ℕ → Progress
visit_front g x [] = x
visit_front g x (d ∷ w) = progress (x.count + 1) (visit g x.state d w)

-- so many visits, or as many as there are before nothing waits
unfoldable pub visit_times : ℕ → Graph → Progress → Progress
visit_times zero g x = x
visit_times (suc k) g x = visit_times k g (visit_front g x x.state.waiting)

-- what the queue rule leaves, and after how many visits
unfoldable pub solved : Graph → Progress
solved g = visit_times (visit_bound g) g (progress 0 (initial g))

-- masks and visits of a flow; where the handler's body is opaque all masks are 7, with 0 visits

unfoldable pub mask_of : Flow → ℕ → ℕ → ℕ
mask_of f i a = cond (opaque_handler f) any_state (mask_left f (solved (doubled f)).state i a)

unfoldable pub visits_of : Flow → ℕ
visits_of f = cond (opaque_handler f) 0 (solved (doubled f)).count

-- and our own masks by doubled number
unfoldable pub own_mask : Flow → ℕ → ℕ → ℕ
own_mask f d a = cond (opaque_handler f) any_state ((solved (doubled f)).state.masks d a)
