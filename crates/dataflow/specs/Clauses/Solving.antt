-- The work area as a state of the queue rule: what waits, for each number the union of what was pushed to it, which is what a visit of it would pull now,
-- and whether the number is settled: visited, and a visit would not change its masks.
use Rattle.std.specs.Prelude.{ℕ, ◌+◌, ◌*◌, ◌<◌, ◌≤◌, cond, not, ◌&&◌, List, ◌∷◌, ◌≡◌, length, get_or}
use Rattle.flow.specs.Flow.{Flow}
use Rattle.theory.specs.Doubled.{boundary, doubled}
use Rattle.theory.specs.Queue.{Solver, Course, Over, pulled, changed, visit}
use Rattle.statements.specs.Clauses.Layout.{queue_at}
use Rattle.statements.specs.Clauses.Ready.{Keeps}
use Rattle.solve.specs.declared.Queue.{Queue}
use Rattle.solve.specs.Clauses.Layout.{set_row, settled_in, area_end, mask_row_at}
use Rattle.solve.specs.Clauses.Rows.{mask_at}
use Rattle.solve.specs.Clauses.Waiting.{Waits}
use Rattle.solve.specs.Clauses.Pushed.{masks_at}
use Rattle.dataflow.specs.Clauses.Sent.{masks_below, Shared}

pub record Solving (f : Flow) (ws : List ℕ) (n w : ℕ) (queue : Queue) (st : Solver) : Type 0 where
  pub waits : Waits ws n w queue st.waiting
  pub masks : (d a : ℕ) → d < 2 * n → a < 64 * w → masks_at ws n w d a ≡ masks_below f.arrays (pulled (doubled f) st d) a
  pub shared : Shared f ws n w
  pub settled : (d : ℕ) → d < 2 * n → settled_in ws n w d ≡ cond (st.visited d && not (changed (doubled f) st d)) 1 0

-- a state that the rule comes to, with its work area
pub record Underway (f : Flow) (ws : List ℕ) (n w : ℕ) (queue : Queue) : Type 0 where
  pub count : ℕ
  pub state : Solver
  pub course : Course (doubled f) count state
  pub solving : Solving f ws n w queue state

-- the front of the queue is visited
pub record VisitsFront (f : Flow) (ws vs : List ℕ) (n w : ℕ) (queue r : Queue) (u : Underway f ws n w queue) : Type 0 where
  pub front : ℕ
  pub behind : List ℕ
  pub waiting : u.state.waiting ≡ front ∷ behind
  pub solving : Solving f vs n w r (visit (doubled f) u.state front behind)

-- the words from the queue on are zero
abbrev pub Unused : List ℕ → ℕ → ℕ → Type 0
Unused ws n w = (x : ℕ) → queue_at n ≤ x → x < area_end n w → get_or ws x 0 ≡ 0

-- the masks of d are those of the entry; besides them only the set at hand is written
pub record Begun (f : Flow) (ws vs : List ℕ) (n w d : ℕ) : Type 0 where
  pub masks : (a : ℕ) → a < 64 * w → masks_at vs n w d a ≡ masks_below f.arrays (boundary f) a
  pub size : length vs ≡ length ws
  pub elsewhere : (x : ℕ) → (set_row n ≤ x → x < set_row n + w → ⊥) → (mask_row_at n w d ≤ x → x < mask_row_at n w d + 3 * w → ⊥) → get_or vs x 0 ≡ get_or ws x 0

-- the masks of the row are those at the entry; besides them only the set at hand is written
pub record RowBegun (f : Flow) (ws vs : List ℕ) (n w row : ℕ) : Type 0 where
  pub masks : (a : ℕ) → a < 64 * w → mask_at vs w row a ≡ masks_below f.arrays (boundary f) a
  pub size : length vs ≡ length ws
  pub elsewhere : (x : ℕ) → (set_row n ≤ x → x < set_row n + w → ⊥) → (row ≤ x → x < row + 3 * w → ⊥) → get_or vs x 0 ≡ get_or ws x 0

-- from an area that is zero from the queue on: the queue rule's course is over after so many visits, and every number has the masks that it leaves
pub record RuleResult (f : Flow) (ws vs : List ℕ) (n w visits : ℕ) : Type 0 where
  pub left : Solver
  pub over : Over (doubled f) visits left
  pub masks : (d a : ℕ) → d < 2 * n → a < f.arrays → masks_at vs n w d a ≡ left.masks d a
  pub keeps : Keeps (queue_at n) (area_end n w) ws vs
