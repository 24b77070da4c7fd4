-- What is noted of the statements: the body that a plain GOSUB asks, and the statements whose sets follow from that of another.
use Rattle.std.specs.Prelude.{ℕ, ◌+◌, ◌-◌, ◌%◌, ◌<◌, ◌≤◌, true, cond, List, [], ◌∷◌, ◌⊎◌, ◌≡◌, eqb, get_or}
use mathlib.Core.Option.{Option, none, some}
use Rattle.words.specs.Clauses.Row.{has}
use Rattle.flow.specs.Flow.{Flow}
use Rattle.theory.specs.Lists.{In}
use Rattle.theory.specs.Body.{kind, is_return, walk_next}
use Rattle.theory.specs.Sure.{gosub_body}
use Rattle.statements.specs.Clauses.Layout.{sure_at, matrix_at, lists_at, row_at}
use Rattle.statements.specs.Clauses.Ready.{Keeps}
use Rattle.sure.specs.Clauses.Layout.{first_at, waiting_at, words_end, mirror, more}

-- the first of a list of bodies, and one more than it

abbrev pub body_of : List ℕ → Option ℕ
body_of [] = none
body_of (b ∷ bs) = some b

abbrev pub body_word : List ℕ → ℕ
body_word [] = 0
body_word (b ∷ bs) = b + 1

-- the body that such a word names
abbrev pub asked : ℕ → List ℕ
asked w = cond (eqb w 0) [] ((w - 1) ∷ [])

-- the words of sure arrays say which body each statement asks
abbrev pub Asks : (ℕ → List ℕ) → List ℕ → ℕ → Type 0
Asks bodies ws n = (c : ℕ) → c < n → get_or ws (sure_at n + c) 0 ≡ body_word (bodies c)

-- the bodies of all plain GOSUBs are noted
pub record BodiesNoted (f : Flow) (ws vs : List ℕ) (n : ℕ) : Type 0 where
  pub asks : Asks (gosub_body f) vs n
  pub kept : Keeps (sure_at n) (sure_at n + n) ws vs

-- the set of statement k follows from that of statement j: a body walk goes on from k to j, or k asks j
abbrev pub FollowsFrom : Flow → (ℕ → List ℕ) → ℕ → ℕ → Type 0
FollowsFrom f bodies j k = In j (walk_next f k) ⊎ (body_word (bodies k) ≡ j + 1)

-- statement k is noted at statement j: as the first, or in the row of j
abbrev pub Noted : List ℕ → ℕ → ℕ → ℕ → Type 0
Noted ws n j k = (get_or ws (first_at n j) 0 % more ≡ k + 1) ⊎ ((more ≤ get_or ws (first_at n j) 0) × (has ws (row_at n j) (mirror n k) ≡ 1))

-- each word of a first follower is 0, or it has the number of a statement
abbrev pub Firsts : List ℕ → ℕ → Type 0
Firsts ws n = (j : ℕ) → j < n → (get_or ws (first_at n j) 0 ≡ 0) ⊎ ((0 < get_or ws (first_at n j) 0 % more) × (get_or ws (first_at n j) 0 % more ≤ n))

pub record Followers (f : Flow) (bodies : ℕ → List ℕ) (ws : List ℕ) (n : ℕ) : Type 0 where
  pub words : Firsts ws n
  pub noted : (j k : ℕ) → j < n → k < n → FollowsFrom f bodies j k → Noted ws n j k

-- a statement waits
abbrev pub Waits : List ℕ → ℕ → ℕ → Type 0
Waits ws n k = has ws (waiting_at n) (mirror n k) ≡ 1

-- the words of the sets are as they were
abbrev pub SetsStay : List ℕ → List ℕ → ℕ → Type 0
SetsStay ws vs n = (x : ℕ) → lists_at n ≤ x → x < first_at n 0 → get_or vs x 0 ≡ get_or ws x 0

-- statement i is noted at each statement of a list, and whatever was noted still is
pub record NotesFollower (ws vs : List ℕ) (n i : ℕ) (js : List ℕ) : Type 0 where
  pub words : Firsts vs n
  pub here : (j : ℕ) → In j js → Noted vs n j i
  pub stays : (j k : ℕ) → j < n → k < n → Noted ws n j k → Noted vs n j k
  pub sets : SetsStay ws vs n
  pub kept : Keeps (matrix_at n) (waiting_at n) ws vs

-- statement i is noted wherever it follows from; a RETURN waits
pub record StatementNoted (f : Flow) (ws vs : List ℕ) (n i : ℕ) : Type 0 where
  pub words : Firsts vs n
  pub here : (j : ℕ) → FollowsFrom f (gosub_body f) j i → Noted vs n j i
  pub stays : (j k : ℕ) → j < n → k < n → Noted ws n j k → Noted vs n j k
  pub returns : is_return (kind f i) ≡ true → Waits vs n i
  pub waits : (k : ℕ) → k < n → Waits ws n k → Waits vs n k
  pub sets : SetsStay ws vs n
  pub kept : Keeps (matrix_at n) (words_end n) ws vs

-- so are all statements; no set has anything
pub record StatementsNoted (f : Flow) (ws vs : List ℕ) (n : ℕ) : Type 0 where
  pub followers : Followers f (gosub_body f) vs n
  pub returns : (i : ℕ) → i < n → is_return (kind f i) ≡ true → Waits vs n i
  pub empty : (x : ℕ) → lists_at n ≤ x → x < first_at n 0 → get_or vs x 0 ≡ 0
  pub kept : Keeps (matrix_at n) (words_end n) ws vs
