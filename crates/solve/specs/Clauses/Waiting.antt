-- The queue of waiting numbers: a ring of words in the work area that holds the list of those that wait, and for each number a state that says whether it does.
-- What joining the back and taking the front make of every list that the ring holds, and which words they write.
use Rattle.std.specs.Prelude.{ℕ, ◌+◌, ◌*◌, ◌-◌, ◌%◌, ◌<◌, ◌≤◌, Bool, cond, List, ◌∷◌, ◌≢◌, ◌≡◌, ltb, length, get_or, set}
use Rattle.theory.specs.Lists.{In, elem, Distinct}
use Rattle.theory.specs.Queue.{join}
use Rattle.statements.specs.Clauses.Layout.{queue_at, solver_at}
use Rattle.solve.specs.Clauses.Layout.{state_at, waits_in, settled_in}
use Rattle.solve.specs.declared.Queue.{Queue}

-- the place i of a ring, where i has gone past its end at most once
unfoldable pub wrapped : ℕ → ℕ → ℕ
wrapped capacity i = cond (ltb i capacity) i (i - capacity)

-- the words of the ring: more than numbers can wait, so that the place behind the last is always free
abbrev pub ring_words : ℕ → ℕ
ring_words n = 3 * n

-- the list l of numbers below 2 n waits, its front first
pub record Waits (ws : List ℕ) (n w : ℕ) (queue : Queue) (l : List ℕ) : Type 0 where
  pub count : queue.len ≡ length l
  pub front : queue.head < ring_words n
  pub slot : (k : ℕ) → k < length l → get_or ws (queue_at n + wrapped (ring_words n) (queue.head + k)) 0 ≡ get_or l k 0
  pub flag : (d : ℕ) → d < 2 * n → waits_in ws n w d ≡ cond (elem d l) 1 0
  pub below : (d : ℕ) → In d l → d < 2 * n
  pub distinct : Distinct l

-- only the ring is written, and in the states whether a number waits
pub record KeepsRest (n w : ℕ) (ws vs : List ℕ) : Type 0 where
  pub size : length vs ≡ length ws
  pub below : (x : ℕ) → x < queue_at n → get_or vs x 0 ≡ get_or ws x 0
  pub above : (x : ℕ) → solver_at n ≤ x → ((d : ℕ) → d < 2 * n → x ≢ state_at n w d) → get_or vs x 0 ≡ get_or ws x 0
  pub settled : (d : ℕ) → d < 2 * n → settled_in vs n w d ≡ settled_in ws n w d

pub record Enqueued (ws vs : List ℕ) (n w : ℕ) (queue : Queue) (d : ℕ) (r : Queue) : Type 0 where
  pub waits : (l : List ℕ) → Waits ws n w queue l → Waits vs n w r (join l d)
  pub kept : KeepsRest n w ws vs

-- the state of a number that joins the back: it waits, and is settled no more if its masks grew
abbrev pub joins : Bool → ℕ → ℕ
joins grew old = cond grew 1 (old + (1 - old % 2))

-- d is settled no more if its masks grew
abbrev pub unsettled : Bool → List ℕ → ℕ → ℕ → ℕ → List ℕ
unsettled grew ws n w d = cond grew (set ws (state_at n w d) (waits_in ws n w d)) ws

-- the ring behind the front
abbrev pub rest_of : ℕ → Queue → Queue
rest_of n queue = record { head = wrapped (ring_words n) (queue.head + 1); len = queue.len - 1 }

pub record Taken (ws vs : List ℕ) (n w : ℕ) (queue : Queue) (d : ℕ) : Type 0 where
  pub front : (x : ℕ) (l : List ℕ) → Waits ws n w queue (x ∷ l) → d ≡ x
  pub waits : (x : ℕ) (l : List ℕ) → Waits ws n w queue (x ∷ l) → Waits vs n w (rest_of n queue) l
  pub kept : KeepsRest n w ws vs
