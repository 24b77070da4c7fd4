-- Names not yet written go forward along the listed edges: the problem, the sets as words, and what each step of the worklist does. An element from 64 on is no name, so nothing writes it: it
-- is in the set of a statement exactly when a walk reaches that.
use Rattle.std.specs.Prelude.{ℕ, ◌+◌, ◌*◌, ◌-◌, ◌<◌, ◌≤◌, false, List, ◌≡◌}
use Rattle.words.specs.Clauses.Row.{has, members}
use Rattle.flow.specs.Flow.{Flow}
use Rattle.theory.specs.Lists.{In}
use Rattle.theory.specs.Body.{successors}
use Rattle.theory.specs.Live.{writes}
use Rattle.theory.specs.Certain.{Unwritten}
use Rattle.statements.specs.Clauses.Layout.{row_words}
use Rattle.statements.specs.Clauses.Ready.{Keeps}
use Rattle.solve.specs.Clauses.Sets.{Problem, taking_all, Solving, Joins, Follows}
use Rattle.certain.specs.Clauses.Layout.{set_at, waiting_at, waiting_end, elements}

-- what leaves statement j comes to its successors; nothing is given on the way, and a write takes a name away
abbrev pub forward : Flow → Problem
forward f = taking_all (λ i j. In i (successors f j)) (λ i x. i ≡ f.entry) (λ j x. ⊥) (λ j x. writes f j x ≡ false)

abbrev pub sets : List ℕ → ℕ → ℕ → ℕ → ℕ
sets ws n i x = has ws (set_at n i) x

abbrev pub Waits : List ℕ → ℕ → ℕ → Type 0
Waits ws n k = has ws (waiting_at n) k ≡ 1

abbrev pub Held : Flow → List ℕ → ℕ → Type 0
Held f ws n = Solving (forward f) n elements (sets ws n) (Waits ws n)

-- what may still be done: the statements that wait, and the bits that no set has yet
unfoldable pub left : List ℕ → ℕ → ℕ
left ws n = members ws (waiting_at n) (row_words n) + (64 * (2 * n) - members ws n (2 * n))

-- elements are sent to some statements: their sets have them, whatever grew waits, and there is no more to do than before
pub record Spread (ws vs : List ℕ) (n : ℕ) (to sent : ℕ → Type 0) : Type 0 where
  pub joins : Joins n elements to sent (sets ws n) (sets vs n)
  pub follows : Follows n elements (sets ws n) (sets vs n) (Waits ws n) (Waits vs n)
  pub falls : left vs n ≤ left ws n
  pub kept : Keeps n (waiting_end n) ws vs

-- the words of a row to statement j, and to all successors of statement i

abbrev pub Pushed : List ℕ → List ℕ → ℕ → ℕ → List ℕ → Type 0
Pushed ws vs n j row = Spread ws vs n (λ i. i ≡ j) (λ x. has row 0 x ≡ 1)

abbrev pub PushedAll : Flow → List ℕ → List ℕ → ℕ → ℕ → List ℕ → Type 0
PushedAll f ws vs n i row = Spread ws vs n (λ j. In j (successors f i)) (λ x. has row 0 x ≡ 1)

-- statement i is taken and handled
pub record Visited (f : Flow) (ws vs : List ℕ) (n i : ℕ) : Type 0 where
  pub held : Held f ws n → Held f vs n
  pub falls : Waits ws n i → left vs n < left ws n
  pub kept : Keeps n (waiting_end n) ws vs

-- the entry has every element and waits; no other statement has any
pub record Begun (ws vs : List ℕ) (n entry : ℕ) : Type 0 where
  pub all : (x : ℕ) → x < elements → sets vs n entry x ≡ 1
  pub only : (i x : ℕ) → i < n → x < elements → sets vs n i x ≡ 1 → i ≡ entry
  pub waits : Waits vs n entry
  pub kept : Keeps n (waiting_end n) ws vs

-- the sets are those of the walks
pub record Solved (f : Flow) (ws vs : List ℕ) (n : ℕ) : Type 0 where
  pub sound : (i x : ℕ) → i < n → x < elements → sets vs n i x ≡ 1 → Unwritten f x i
  pub complete : (i x : ℕ) → i < n → x < elements → Unwritten f x i → sets vs n i x ≡ 1
  pub kept : Keeps n (waiting_end n) ws vs
