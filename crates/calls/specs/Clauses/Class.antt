-- A call that is not opaque, and what its edges are made from, read once: where it goes on, its counts, and the place of its row.
use Rattle.std.specs.Prelude.{ℕ, ◌+◌, ◌/◌, ◌≤◌, ◌<◌, Bool, true, false, cond, List, ◌≡◌, length}
use mathlib.Core.Option.{some}
use Rattle.words.specs.Clauses.Row.{has}
use Rattle.flow.specs.Flow.{Flow, size}
use Rattle.theory.specs.Lists.{elem}
use Rattle.theory.specs.Body.{kind, successors, call_lines, continuation_of, entered}
use Rattle.statements.specs.Clauses.Layout.{row_at}
use Rattle.calls.specs.declared.edges.Call.{Call}
use Rattle.calls.specs.Clauses.Slots.{by_kind}

unfoldable pub transparent_call : Flow → ℕ → Bool
transparent_call f i = by_kind f i false false (λ k. true) (continuation_of (kind f i))

-- x says of the call i where it goes on and its counts, and its row holds the statements that the call enters
pub record CallOf (f : Flow) (ws : List ℕ) (i : ℕ) (x : Call) : Type 0 where
  pub continues : continuation_of (kind f i) ≡ some x.continuation.0
  pub lines : x.lines ≡ length (call_lines (kind f i))
  pub successors : x.successors ≡ length (successors f i)
  pub place : x.row ≡ row_at (size f) i
  pub room : x.row + (size f + 63) / 64 ≤ length ws
  pub entered : (j : ℕ) → j < size f → has ws x.row j ≡ cond (elem j (entered f i)) 1 0
