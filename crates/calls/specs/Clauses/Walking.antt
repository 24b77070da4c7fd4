-- The body walk of e while it is made: row e holds what was met, and the first words of the queue are a stack of what has yet to be gone on from.
-- No statement is put on the stack twice, so that the stack is never higher than the number of statements in the row.
use Rattle.std.specs.Prelude.{ℕ, ◌+◌, ◌<◌, ◌≤◌, List, ◌⊎◌, ◌≡◌, get_or}
use Rattle.words.specs.Clauses.Row.{has, tally}
use Rattle.theory.specs.Lists.{In}
use Rattle.statements.specs.Clauses.Layout.{row_at, queue_at}
use Rattle.calls.specs.Clauses.Held.{Area, OnlyRow}

-- how many statements row e holds
unfoldable pub met : List ℕ → ℕ → ℕ → ℕ
met ws n e = tally (has ws (row_at n e)) n

-- the stack of height top has room for one more whenever row e has
pub record Stack (ws : List ℕ) (n e top : ℕ) : Type 0 where
  pub area : Area ws n
  pub high : top ≤ met ws n e

-- statement i is on the stack of height top
pub record Stacked (ws : List ℕ) (n top i : ℕ) : Type 0 where
  pub place : ℕ
  pub within : place < top
  pub is : get_or ws (queue_at n + place) 0 ≡ i

-- an entry of the stack is a statement in row e
pub record Entry (ws : List ℕ) (n e place : ℕ) : Type 0 where
  pub statement : get_or ws (queue_at n + place) 0 < n
  pub member : has ws (row_at n e) (get_or ws (queue_at n + place) 0) ≡ 1

-- the statements of l were put into row e; those that are new there stand on the stack, above what stood there
pub record Met (ws vs : List ℕ) (n e top height : ℕ) (l : List ℕ) : Type 0 where
  pub only : OnlyRow ws vs n e
  pub higher : top ≤ height
  pub under : (k : ℕ) → k < top → get_or vs (queue_at n + k) 0 ≡ get_or ws (queue_at n + k) 0
  pub pushed : (k : ℕ) → top ≤ k → k < height → Entry vs n e k
  pub still : (j : ℕ) → j < n → has ws (row_at n e) j ≡ 1 → has vs (row_at n e) j ≡ 1
  pub new : (j : ℕ) → j < n → has vs (row_at n e) j ≡ 1 → (has ws (row_at n e) j ≡ 1) ⊎ (In j l × Stacked vs n height j)
  pub low : (j : ℕ) → In j l → j < n
  pub all : (j : ℕ) → In j l → has vs (row_at n e) j ≡ 1
  pub count : met vs n e + top ≡ met ws n e + height
