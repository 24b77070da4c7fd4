-- What noting changes. Where RETURNs go: the rows of some RETURNs gain a continuation, and every other row and every word below the matrix stays; which
-- statements are RETURNs is noted first, as a row.
-- Which statements a call enters, or the bodies that it enters walk: a row gains them, and every other word stays.
-- And rows that become another set: that of each transparent call the statements that it enters, and first that of each RETURN none.
use Rattle.std.specs.Prelude.{ℕ, ◌+◌, ◌/◌, ◌%◌, ◌≤◌, ◌<◌, max, Bool, true, false, cond, ◌&&◌, List, [], ◌∷◌, ◌⊎◌, ◌≡◌, eqb, length, get_or}
use mathlib.Core.Option.{some}
use Rattle.words.specs.Clauses.Row.{bit, has}
use Rattle.flow.specs.Flow.{Flow}
use Rattle.theory.specs.Lists as lists
use Rattle.theory.specs.Lists.{In, any, concat_map}
use Rattle.theory.specs.Body.{kind, continuation_of, is_return, entered, walked, opaque_call}
use Rattle.statements.specs.Clauses.Layout.{calls_at, matrix_at, row_at, row_words, queue_at, entered_row_at, solver_at, returns_row_at}
use Rattle.statements.specs.Clauses.Ready.{Keeps}
use Rattle.calls.specs.Clauses.Held.{WalkRow, transparent, opaque}

-- vs is ws with k joined to the row of each RETURN r, for the r and k that pass the test; the words from hi on, too, are as they were
pub record Joins (f : Flow) (ws vs : List ℕ) (n hi : ℕ) (q : ℕ → ℕ → Bool) : Type 0 where
  pub kept : Keeps (matrix_at n) hi ws vs
  pub others : (e i : ℕ) → e < n → i < n → is_return (kind f e) ≡ false → has vs (row_at n e) i ≡ has ws (row_at n e) i
  pub joined : (r k : ℕ) → r < n → k < n → is_return (kind f r) ≡ true → has vs (row_at n r) k ≡ max (has ws (row_at n r) k) (cond (q r k) 1 0)

-- the RETURNs on the walks of the bodies bs go to k
abbrev pub from_bodies : Flow → List ℕ → ℕ → ℕ → ℕ → Bool
from_bodies f bs k s j = any (λ e. lists.elem s (walked f e)) bs && eqb j k

-- vs is ws with k joined to each row of the matrix that passes the test; the words from hi on, too, are as they were
pub record Gains (ws vs : List ℕ) (n hi : ℕ) (p : ℕ → Bool) (k : ℕ) : Type 0 where
  pub kept : Keeps (matrix_at n) hi ws vs
  pub rows : (r j : ℕ) → r < n → j < n → has vs (row_at n r) j ≡ max (has ws (row_at n r) j) (cond (p r && eqb j k) 1 0)

-- statement s is a bit of the word, which is word j of a row
abbrev pub in_word : ℕ → ℕ → ℕ → Bool
in_word word j s = eqb (s / 64) j && eqb (bit word (s % 64)) 1

-- statement s is in the row at `row`, and in the row of RETURNs
abbrev pub is_shared : List ℕ → ℕ → ℕ → ℕ → Bool
is_shared ws n row s = eqb (has ws row s) 1 && eqb (has ws (returns_row_at n) s) 1

-- the row at `row` stays while rows of RETURNs change: it lies above the matrix, or it is the row of a statement that is none
pub record Apart (ws : List ℕ) (n row : ℕ) : Type 0 where
  pub room : row + row_words n ≤ length ws
  pub place : (queue_at n ≤ row) ⊎ ((b : ℕ) × (b < n) × (row ≡ row_at n b) × (has ws (returns_row_at n) b ≡ 0))

-- the row at `row` of vs has what the walks of the bodies bs meet, and no more; vs is ws but for the row of entered statements
pub record Gathers (f : Flow) (ws vs : List ℕ) (n : ℕ) (bs : List ℕ) (row : ℕ) : Type 0 where
  pub kept : Keeps (entered_row_at n) (solver_at n) ws vs
  pub apart : Apart vs n row
  pub holds : (s : ℕ) → s < n → has vs row s ≡ cond (any (λ e. lists.elem s (walked f e)) bs) 1 0

-- the row of RETURNs has all of them and no more
pub record ReturnSet (f : Flow) (ws : List ℕ) (n : ℕ) : Type 0 where
  pub holds : (r : ℕ) → r < n → has ws (returns_row_at n) r ≡ cond (is_return (kind f r)) 1 0

-- what statement r adds to it
abbrev pub if_return : Flow → ℕ → List ℕ
if_return f r = cond (is_return (kind f r)) (r ∷ []) []

-- body e by itself, or whole, with the statements that it walks; and so of the bodies bs, one after the other

abbrev pub body_of : Flow → Bool → ℕ → List ℕ
body_of f false e = e ∷ []
body_of f true e = walked f e

abbrev pub bodies_of : Flow → Bool → List ℕ → List ℕ
bodies_of f whole bs = concat_map (body_of f whole) bs

-- the row of e holds its walk, unless e is a RETURN, whose walk is itself
abbrev pub BodyRow : Flow → List ℕ → ℕ → ℕ → Type 0
BodyRow f ws n e = is_return (kind f e) ≡ false → WalkRow f ws n e

abbrev pub BodyRows : Flow → List ℕ → ℕ → ℕ → Type 0
BodyRows f ws n c = (b : ℕ) → In b (entered f c) → BodyRow f ws n b

-- what the summary of statement c says, where it is a call with a continuation
pub record Summary (f : Flow) (ws : List ℕ) (n c : ℕ) : Type 0 where
  pub call : (k : ℕ) → continuation_of (kind f c) ≡ some k → get_or ws (calls_at n + c) 0 ≡ cond (opaque_call f c) opaque transparent
  pub bodies : (k : ℕ) → continuation_of (kind f c) ≡ some k → BodyRows f ws n c

-- a row that bodies may be joined to lies above the noted places, and above the matrix if walks are read from there
pub record Target (ws : List ℕ) (n to : ℕ) (whole : Bool) : Type 0 where
  pub low : calls_at n ≤ to
  pub high : to + row_words n ≤ length ws
  pub apart : whole ≡ true → queue_at n ≤ to

-- vs is ws with bs joined to the row at `to`
pub record Adds (to : ℕ) (ws vs : List ℕ) (n : ℕ) (bs : List ℕ) : Type 0 where
  pub kept : Keeps to (to + row_words n) ws vs
  pub joined : (j : ℕ) → j < n → has vs to j ≡ max (has ws to j) (cond (lists.elem j bs) 1 0)

-- vs is ws with its members in the row of each statement from lo to below hi of which P holds; every other row stays
pub record Notes (P : ℕ → Type 0) (members : ℕ → List ℕ) (ws vs : List ℕ) (n lo hi : ℕ) : Type 0 where
  pub kept : Keeps (matrix_at n) (solver_at n) ws vs
  pub noted : (c j : ℕ) → lo ≤ c → c < hi → j < n → P c → has vs (row_at n c) j ≡ cond (lists.elem j (members c)) 1 0
  pub others : (e j : ℕ) → e < n → j < n → (lo ≤ e → e < hi → P e → ⊥) → has vs (row_at n e) j ≡ has ws (row_at n e) j

-- in the row of each transparent call stand the statements that it enters
abbrev pub NotesCalls : Flow → List ℕ → List ℕ → ℕ → ℕ → ℕ → Type 0
NotesCalls f ws vs n lo hi = Notes (λ c. get_or ws (calls_at n + c) 0 ≡ transparent) (entered f) ws vs n lo hi

-- the row of each RETURN is empty
abbrev pub ClearsReturns : Flow → List ℕ → List ℕ → ℕ → ℕ → ℕ → Type 0
ClearsReturns f ws vs n lo hi = Notes (λ r. is_return (kind f r) ≡ true) (λ r. []) ws vs n lo hi
