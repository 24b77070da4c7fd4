-- From the sets to the arrays that are sure for each call.
use Rattle.std.specs.Prelude.{ℕ, ◌+◌, ◌-◌, ◌^◌, ◌<◌, ◌≤◌, false, cond, List, ◌≢◌, ◌≡◌, eqb, length, get_or}
use Rattle.flow.specs.Flow.{Flow}
use Rattle.theory.specs.Body.{opaque_call}
use Rattle.theory.specs.Sure.{sure}
use Rattle.statements.specs.Clauses.Layout.{sure_at, calls_at, matrix_at, queue_at}
use Rattle.statements.specs.Clauses.Ready.{MembersWord}
use Rattle.sure.specs.Clauses.Layout.{set_at, waiting_at, words_end}
use Rattle.sure.specs.Clauses.Noting.{Waits}

-- a body that no walk leaves by a RETURN is asked no more: w is the word of who asks
abbrev pub opened : List ℕ → ℕ → ℕ → ℕ
opened ws n w = cond (eqb w 0) 0 (cond (eqb (get_or ws (set_at n (w - 1) + 1) 0) 0) 0 w)

-- the bits that the set of the body asked does not have
abbrev pub unmissed : List ℕ → ℕ → ℕ → ℕ
unmissed ws n w = cond (eqb w 0) 0 (2 ^ 64 - 1 - get_or ws (set_at n (w - 1)) 0)

-- the words of sure arrays become others, and so may the row of those that wait
pub record WordsBecome (become : ℕ → ℕ) (ws vs : List ℕ) (n : ℕ) : Type 0 where
  pub size : length vs ≡ length ws
  pub words : (c : ℕ) → c < n → get_or vs (sure_at n + c) 0 ≡ become (get_or ws (sure_at n + c) 0)
  pub elsewhere : (x : ℕ) → (sure_at n ≤ x → x < calls_at n → ⊥) → (waiting_at n ≤ x → x < words_end n → ⊥) → get_or vs x 0 ≡ get_or ws x 0

-- whoever asks no more waits
pub record Opened (ws vs : List ℕ) (n : ℕ) : Type 0 where
  pub become : WordsBecome (opened ws n) ws vs n
  pub wakes : (c : ℕ) → c < n → get_or vs (sure_at n + c) 0 ≢ get_or ws (sure_at n + c) 0 → Waits vs n c
  pub stays : (c : ℕ) → c < n → Waits ws n c → Waits vs n c

-- the arrays that are sure for each call that is not opaque
abbrev pub SureWords : Flow → List ℕ → ℕ → Type 0
SureWords f ws n = (c : ℕ) → c < n → opaque_call f c ≡ false → MembersWord (get_or ws (sure_at n + c) 0) (sure f c)

-- they are noted; besides, the matrix and the lists may change, and no other word
pub record SureNoted (f : Flow) (ws vs : List ℕ) (n : ℕ) : Type 0 where
  pub sure : SureWords f vs n
  pub size : length vs ≡ length ws
  pub below : (x : ℕ) → x < sure_at n → get_or vs x 0 ≡ get_or ws x 0
  pub between : (x : ℕ) → calls_at n ≤ x → x < matrix_at n → get_or vs x 0 ≡ get_or ws x 0
  pub above : (x : ℕ) → queue_at n ≤ x → get_or vs x 0 ≡ get_or ws x 0
