-- The predecessors of the listed graph in the matrix: row j has i exactly when j is a successor of i. The statements are noted one by one, so
-- column i is the rows' bits of statement i.
use Rattle.std.specs.Prelude.{ℕ, ◌<◌, List, ◌≢◌, ◌≡◌}
use Rattle.words.specs.Clauses.Row.{has}
use Rattle.flow.specs.Flow.{Flow}
use Rattle.theory.specs.Lists as lists
use Rattle.theory.specs.Body.{successors}
use Rattle.theory.specs.Live.{bit_of}
use Rattle.statements.specs.Clauses.Layout.{row_at, matrix_at, queue_at}
use Rattle.statements.specs.Clauses.Ready.{Keeps}

-- column i holds a list of statements
abbrev pub Column : List ℕ → ℕ → ℕ → List ℕ → Type 0
Column ws n i l = (j : ℕ) → j < n → has ws (row_at n j) i ≡ bit_of (lists.elem j l)

-- statement i is noted in the rows of its successors
pub record Noted (f : Flow) (ws vs : List ℕ) (n i : ℕ) : Type 0 where
  pub column : Column vs n i (successors f i)
  pub others : (j k : ℕ) → j < n → k < n → k ≢ i → has vs (row_at n j) k ≡ has ws (row_at n j) k
  pub kept : Keeps (matrix_at n) (queue_at n) ws vs

-- every statement is noted
abbrev pub Predecessors : Flow → List ℕ → ℕ → Type 0
Predecessors f ws n = (i : ℕ) → i < n → Column ws n i (successors f i)
