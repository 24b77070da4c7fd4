-- What the phases leave in the work area of a flow of n statements: the walk of a body in its row, the summary of each call, then the
-- continuations that each RETURN goes to in its row, and the statements that each transparent call enters in its own.
use Rattle.std.specs.Prelude.{ℕ, ◌+◌, ◌<◌, ◌≤◌, true, false, cond, List, ◌≡◌, length, get_or}
use mathlib.Core.Option.{none, some}
use Rattle.words.specs.Clauses.Row.{has}
use Rattle.flow.specs.Flow.{Flow, size}
use Rattle.flow.specs.Limits.{max_statements, work_words}
use Rattle.theory.specs.Lists as lists
use Rattle.theory.specs.Lists.{In, any, up_to}
use Rattle.theory.specs.Body as theory
use Rattle.theory.specs.Body.{kind, continuation_of, is_return, callees, entered, Walks, touches, opaque_call, call_touches}
use Rattle.theory.specs.Sure.{sure}
use Rattle.theory.specs.Doubled.{returns_to}
use Rattle.statements.specs.Clauses.Layout.{sure_at, calls_at, call_touched_at, bodies_at, touched_at, matrix_at, row_at, row_words, queue_at, entered_row_at}
use Rattle.statements.specs.Clauses.Ready.{MembersWord}
use Rattle.calls.specs.Clauses.Orders.{several, OrderOf}

-- the work area of n statements
pub record Area (ws : List ℕ) (n : ℕ) : Type 0 where
  pub few : n ≤ max_statements
  pub room : work_words n ≤ length ws

-- the states of a body and of a call
abbrev pub unentered : ℕ
unentered = 0

abbrev pub opened : ℕ
opened = 1

abbrev pub transparent : ℕ
transparent = 2

abbrev pub opaque : ℕ
opaque = 3

-- a row of n statements that holds none

abbrev pub Empty : List ℕ → ℕ → ℕ → Type 0
Empty ws n base = (i : ℕ) → i < n → has ws base i ≡ 0

abbrev pub EmptyRow : List ℕ → ℕ → ℕ → Type 0
EmptyRow ws n e = Empty ws n (row_at n e)

-- row e holds exactly the statements that the body walk from e meets
pub record WalkRow (f : Flow) (ws : List ℕ) (n e : ℕ) : Type 0 where
  pub sound : (i : ℕ) → i < n → has ws (row_at n e) i ≡ 1 → Walks f e i
  pub complete : (i : ℕ) → Walks f e i → has ws (row_at n e) i ≡ 1

-- of the words, only those of row e and of the queue may be others
pub record OnlyRow (ws vs : List ℕ) (n e : ℕ) : Type 0 where
  pub size : length vs ≡ length ws
  pub below : (x : ℕ) → x < row_at n e → get_or vs x 0 ≡ get_or ws x 0
  pub between : (x : ℕ) → row_at n e + row_words n ≤ x → x < queue_at n → get_or vs x 0 ≡ get_or ws x 0
  pub above : (x : ℕ) → entered_row_at n ≤ x → get_or vs x 0 ≡ get_or ws x 0

-- the walk of e is in its row; the queue's words were used, and every other word is as it was
pub record Walked (f : Flow) (ws vs : List ℕ) (n e : ℕ) : Type 0 where
  pub row : WalkRow f vs n e
  pub only : OnlyRow ws vs n e

-- no call and no body has a summary yet
pub record NoSummaries (ws : List ℕ) (n : ℕ) : Type 0 where
  pub words : (x : ℕ) → calls_at n ≤ x → x < matrix_at n → get_or ws x 0 ≡ 0

-- the summary of each call with a continuation; any other statement has none
pub record CallSummaries (f : Flow) (ws : List ℕ) (n : ℕ) : Type 0 where
  pub ordinary : (c : ℕ) → c < n → continuation_of (kind f c) ≡ none → get_or ws (calls_at n + c) 0 ≡ unentered
  pub call : (c k : ℕ) → c < n → continuation_of (kind f c) ≡ some k → get_or ws (calls_at n + c) 0 ≡ cond (opaque_call f c) opaque transparent
  pub touched : (c : ℕ) → c < n → get_or ws (calls_at n + c) 0 ≡ transparent → MembersWord (get_or ws (call_touched_at n + c) 0) (call_touches f c)
  pub sure : (c : ℕ) → c < n → get_or ws (calls_at n + c) 0 ≡ transparent → MembersWord (get_or ws (sure_at n + c) 0) (sure f c)

-- the summary of the handler's body, if there is a handler
pub record HandlerSummary (f : Flow) (ws : List ℕ) (n : ℕ) : Type 0 where
  pub body : (e : ℕ) → f.handler ≡ some e → get_or ws (bodies_at n + e) 0 ≡ cond (theory.opaque f e) opaque transparent
  pub touched : (e : ℕ) → f.handler ≡ some e → theory.opaque f e ≡ false → MembersWord (get_or ws (touched_at n + e) 0) (touches f e)

-- the summaries, and the walks of the bodies that the calls enter
pub record Summarized (f : Flow) (ws : List ℕ) (n : ℕ) : Type 0 where
  pub calls : CallSummaries f ws n
  pub handler : HandlerSummary f ws n
  pub walks : (c b : ℕ) → c < n → In b (callees f c) → is_return (kind f b) ≡ false → WalkRow f ws n b

-- l leads statement r: their rows are the same
pub record Leads (ws : List ℕ) (n r l : ℕ) : Type 0 where
  pub below : l < n
  pub same : (k : ℕ) → k < n → has ws (row_at n l) k ≡ has ws (row_at n r) k

-- each RETURN has a leader, in the word of its body
abbrev pub Leaders : Flow → List ℕ → ℕ → Type 0
Leaders f ws n = (r : ℕ) → r < n → is_return (kind f r) ≡ true → Leads ws n r (get_or ws (bodies_at n + r) 0)

-- what the edges are made from: the summaries, the statements that a transparent call enters, the continuations that each RETURN goes to, its leader, and the orders of calls
pub record Linked (f : Flow) (ws : List ℕ) (n : ℕ) : Type 0 where
  pub calls : CallSummaries f ws n
  pub bodies : (c j : ℕ) → c < n → j < n → get_or ws (calls_at n + c) 0 ≡ transparent → has ws (row_at n c) j ≡ cond (lists.elem j (entered f c)) 1 0
  pub returns : (r k : ℕ) → r < n → k < n → is_return (kind f r) ≡ true → has ws (row_at n r) k ≡ cond (any (returns_to f r k) (up_to (size f))) 1 0
  pub leaders : Leaders f ws n
  pub orders : (c : ℕ) → c < n → several f c ≡ true → OrderOf f ws n c
