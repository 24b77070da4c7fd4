-- What holds of the live sets while statements wait: every name in a set is live, and a statement that does not wait satisfies document 01's equation and has
-- handed its live-in on to its predecessors. A sweep that has come down to statement lo says so of the statements from lo on, and the worklist of all.
use Rattle.std.specs.Prelude.{ℕ, ◌+◌, ◌<◌, ◌≤◌, true, false, List, ◌⊎◌, ◌≡◌, get_or}
use Rattle.std.specs.Int.Bits.{bit_or}
use Rattle.words.specs.Clauses.Row.{bit}
use Rattle.words.specs.Clauses.Change.{without}
use Rattle.flow.specs.Flow.{Flow, statement}
use Rattle.theory.specs.Lists.{In}
use Rattle.theory.specs.Body.{successors}
use Rattle.theory.specs.Live.{reads, writes, LiveIn, LiveOut}
use Rattle.statements.specs.Clauses.Ready.{Keeps}
use Rattle.solve.specs.declared.Queue.{Queue}
use Rattle.solve.specs.Clauses.Sets.{Problem, taking_all}
use Rattle.solve.specs.Clauses.Waiting.{Waits, KeepsRest}
use Rattle.live.specs.Clauses.Spread.{missing}

-- what leaves statement j comes to its predecessors' live-out: the names that it reads, and those of its own live-out that it does not write
abbrev pub backward : Flow → Problem
backward f = taking_all (λ i j. In j (successors f i)) (λ i x. ⊥) (λ j x. reads f j x ≡ true) (λ j x. writes f j x ≡ false)

-- live-in of statement j, from a live-out
abbrev pub transfer : Flow → ℕ → ℕ → ℕ
transfer f j after = bit_or (statement f j).read (without after (statement f j).written)

-- the names in the live-in words are live
abbrev pub Sound : Flow → ℕ → List ℕ → Type 0
Sound f n ins = (i x : ℕ) → i < n → bit (get_or ins i 0) x ≡ 1 → LiveIn f x i

pub record HandedOn (f : Flow) (lo n : ℕ) (ins outs : List ℕ) (j : ℕ) : Type 0 where
  pub equation : lo ≤ j → get_or ins j 0 ≡ transfer f j (get_or outs j 0)
  pub carried : (i x : ℕ) → lo ≤ i → i < n → In j (successors f i) → bit (get_or ins j 0) x ≡ 1 → bit (get_or outs i 0) x ≡ 1

pub record Solving (f : Flow) (lo n : ℕ) (ins outs w : List ℕ) : Type 0 where
  pub small : (k : ℕ) → In k w → k < n
  pub sound_in : Sound f n ins
  pub sound_out : (i x : ℕ) → lo ≤ i → i < n → bit (get_or outs i 0) x ≡ 1 → LiveOut f x i
  pub handed_on : (j : ℕ) → j < n → In j w ⊎ HandedOn f lo n ins outs j

-- the queue holds numbers for which all this holds
abbrev pub Held : Flow → ℕ → ℕ → List ℕ → List ℕ → List ℕ → Queue → Type 0
Held f lo n ws ins outs q = (w : List ℕ) × Waits ws n 0 q w × Solving f lo n ins outs w

-- one statement is taken and handled
pub record Visited (f : Flow) (n : ℕ) (ws vs ins ins' outs outs' : List ℕ) (q r : Queue) : Type 0 where
  pub held : Held f 0 n vs ins' outs' r
  pub falls : r.len + missing outs' n < q.len + missing outs n
  pub kept : KeepsRest n 0 ws vs
  pub in_area : Keeps 0 n ins ins'
  pub out_area : Keeps 0 n outs outs'
