-- Arrays that are missed go backward along body walks: the problem, the sets as words, and what each step of the worklist does. An element from 64 on is no array, so no statement refers to
-- it, and no body is asked for it: it is in the set of a statement exactly when a body walk from there comes to a RETURN.
use Rattle.std.specs.Prelude.{ℕ, ◌+◌, ◌*◌, ◌-◌, ◌<◌, ◌≤◌, true, false, List, ◌≡◌, get_or}
use Rattle.words.specs.Clauses.Row.{bit, has, members}
use Rattle.flow.specs.Flow.{Flow}
use Rattle.theory.specs.Lists as lists
use Rattle.theory.specs.Lists.{In}
use Rattle.theory.specs.Body.{kind, references, is_return, walk_next}
use Rattle.statements.specs.Clauses.Layout.{row_words, sure_at, lists_at}
use Rattle.statements.specs.Clauses.Ready.{Keeps}
use Rattle.solve.specs.Clauses.Sets.{Problem, Comes, Settling, Within}
use Rattle.sure.specs.Clauses.Layout.{set_at, first_at, waiting_at, words_end, elements}
use Rattle.sure.specs.Clauses.Noting.{body_word, Asks, Noted, Followers, Waits}

-- what statement j misses, a statement misses from which a body walk goes on to j, if it does not refer to it and the body that it asks misses it too
abbrev pub backward : Flow → (ℕ → List ℕ) → Problem
backward f bodies = record {
  edge = λ i j. In j (walk_next f i);
  starts = λ i x. (is_return (kind f i) ≡ true) × (lists.elem x (references f i) ≡ false);
  gives = λ j x. ⊥;
  passes = λ j x. Unit;
  takes = λ i x. lists.elem x (references f i) ≡ false;
  needs = λ i b x. (x < 64) × (body_word (bodies i) ≡ b + 1);
}

abbrev pub sets : List ℕ → ℕ → ℕ → ℕ → ℕ
sets ws n i x = has ws (set_at n i) x

abbrev pub Held : Flow → (ℕ → List ℕ) → List ℕ → ℕ → Type 0
Held f bodies ws n = Settling (backward f bodies) n elements (sets ws n) (Waits ws n)

-- the bodies asked are statements
abbrev pub Bodies : List ℕ → ℕ → Type 0
Bodies ws n = (c : ℕ) → c < n → get_or ws (sure_at n + c) 0 ≤ n

-- a RETURN asks no body
abbrev pub ReturnsAskNone : Flow → (ℕ → List ℕ) → ℕ → Type 0
ReturnsAskNone f bodies n = (i : ℕ) → i < n → is_return (kind f i) ≡ true → body_word (bodies i) ≡ 0

-- the row of two words has what the sets of some statements have
pub record Gathered (ws : List ℕ) (n : ℕ) (js row : List ℕ) : Type 0 where
  pub from : (x : ℕ) → x < elements → has row 0 x ≡ 1 → (j : ℕ) × In j js × (sets ws n j x ≡ 1)
  pub gets : (j x : ℕ) → In j js → x < elements → sets ws n j x ≡ 1 → has row 0 x ≡ 1

-- what comes to statement i before it takes anything away: everything at a RETURN, and else what the statements have that a body walk goes on to
pub record NextSet (f : Flow) (ws : List ℕ) (n i : ℕ) (row : List ℕ) : Type 0 where
  pub return : is_return (kind f i) ≡ true → (x : ℕ) → x < elements → has row 0 x ≡ 1
  pub next : is_return (kind f i) ≡ false → Gathered ws n (walk_next f i) row

-- the word w is the set of the arrays that statement i lets through
pub record LetThrough (f : Flow) (ws : List ℕ) (n i w : ℕ) : Type 0 where
  pub others : (x : ℕ) → x < 64 → bit w x ≡ 1 → lists.elem x (references f i) ≡ false
  pub asked : (x b : ℕ) → x < 64 → bit w x ≡ 1 → get_or ws (sure_at n + i) 0 ≡ b + 1 → sets ws n b x ≡ 1
  pub all : (x : ℕ) → x < 64 → lists.elem x (references f i) ≡ false → ((b : ℕ) → get_or ws (sure_at n + i) 0 ≡ b + 1 → sets ws n b x ≡ 1) → bit w x ≡ 1

-- whatever is noted at statement j waits
pub record Woken (ws vs : List ℕ) (n j : ℕ) : Type 0 where
  pub wakes : (k : ℕ) → k < n → Noted ws n j k → Waits vs n k
  pub stays : (k : ℕ) → k < n → Waits ws n k → Waits vs n k
  pub kept : Keeps (waiting_at n) (words_end n) ws vs

-- what may still be done: the bits that no set has yet, each of which may make all statements wait, and the statements that wait
unfoldable pub left : List ℕ → ℕ → ℕ
left ws n = (64 * (2 * n) - members ws (lists_at n) (2 * n)) * (64 * row_words n + 1) + members ws (waiting_at n) (row_words n)

-- the sets and the row of those that wait may change, and no other word
pub record OnlySets (ws vs : List ℕ) (n : ℕ) : Type 0 where
  pub firsts : (x : ℕ) → first_at n 0 ≤ x → x < waiting_at n → get_or vs x 0 ≡ get_or ws x 0
  pub kept : Keeps (lists_at n) (words_end n) ws vs

-- statement i is taken and settled
pub record Visited (f : Flow) (ws vs : List ℕ) (n i : ℕ) : Type 0 where
  pub held : (bodies : ℕ → List ℕ) → ReturnsAskNone f bodies n → Asks bodies ws n → Followers f bodies ws n → Within (backward f bodies) n → Held f bodies ws n → Held f bodies vs n
  pub falls : Waits ws n i → left vs n < left ws n
  pub only : OnlySets ws vs n

-- the sets are those of the walks
pub record Exact (f : Flow) (bodies : ℕ → List ℕ) (ws : List ℕ) (n : ℕ) : Type 0 where
  pub sound : (i x : ℕ) → i < n → x < elements → sets ws n i x ≡ 1 → Comes (backward f bodies) x i
  pub complete : (i x : ℕ) → i < n → x < elements → Comes (backward f bodies) x i → sets ws n i x ≡ 1

pub record Solved (f : Flow) (ws vs : List ℕ) (n : ℕ) : Type 0 where
  pub exact : (bodies : ℕ → List ℕ) → ReturnsAskNone f bodies n → Asks bodies ws n → Followers f bodies ws n → Within (backward f bodies) n → Held f bodies ws n → Exact f bodies vs n
  pub only : OnlySets ws vs n
