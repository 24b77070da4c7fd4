-- What is live at a statement's start is joined to the live-out sets of its predecessors, in the words of the solver's law, and whatever grew waits.
-- What may still be done is the numbers that wait and the bits that no word has yet: it does not grow.
use Rattle.std.specs.Prelude.{ℕ, ◌+◌, ◌*◌, ◌-◌, ◌<◌, ◌≤◌, List, ◌⊎◌, ◌≡◌, length, get_or}
use Rattle.words.specs.Clauses.Row.{bit, has, members}
use Rattle.theory.specs.Lists.{In}
use Rattle.statements.specs.Clauses.Layout.{row_at}
use Rattle.statements.specs.Clauses.Ready.{Keeps}
use Rattle.solve.specs.declared.Queue.{Queue}
use Rattle.solve.specs.Clauses.Sets as law
use Rattle.solve.specs.Clauses.Waiting.{Waits, KeepsRest}

-- a set of names is a word
abbrev pub sets : List ℕ → ℕ → ℕ → ℕ
sets ws i x = bit (get_or ws i 0) x

-- the bits that the first n words do not have
unfoldable pub missing : List ℕ → ℕ → ℕ
missing ws n = 64 * n - members ws 0 n

-- from the waiting numbers w and the words before to the waiting numbers v and the words after
pub record Follows (n : ℕ) (before after w v : List ℕ) : Type 0 where
  pub follows : (elements : ℕ) → law.Follows n elements (sets before) (sets after) (λ k. In k w) (λ k. In k v)
  pub comes : (k : ℕ) → In k v → In k w ⊎ (k < n)
  pub falls : length v + missing after n ≤ length w + missing before n

-- the set `live` is sent to some statements: it is joined to their words, and for every list that the queue held before there is one that it holds after
pub record Spread (ws vs before after : List ℕ) (n : ℕ) (q r : Queue) (to : ℕ → Type 0) (live : ℕ) : Type 0 where
  pub joins : (elements : ℕ) → law.Joins n elements to (λ x. bit live x ≡ 1) (sets before) (sets after)
  pub waits : (w : List ℕ) → Waits ws n 0 q w → (v : List ℕ) × Waits vs n 0 r v × Follows n before after w v
  pub area : Keeps 0 n before after
  pub kept : KeepsRest n 0 ws vs

-- to statement i, and to the members of row j

abbrev pub PushedTo : List ℕ → List ℕ → List ℕ → List ℕ → ℕ → Queue → Queue → ℕ → ℕ → Type 0
PushedTo ws vs before after n q r i live = Spread ws vs before after n q r (λ k. k ≡ i) live

abbrev pub PushedLive : List ℕ → List ℕ → List ℕ → List ℕ → ℕ → Queue → Queue → ℕ → ℕ → Type 0
PushedLive ws vs before after n q r j live = Spread ws vs before after n q r (λ k. (k < n) × (has ws (row_at n j) k ≡ 1)) live
