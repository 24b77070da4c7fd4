-- What the words of the names are found from, the live sets of all statements as words, and what they are: the words of the definition, with every other word as it was.
use Rattle.std.specs.Prelude.{ℕ, ◌<◌, ◌≤◌, List, ◌⊎◌, ◌≡◌, length, get_or}
use Rattle.std.specs.Int.Bits.{bit_or}
use Rattle.flow.specs.Flow.{Flow, statement}
use Rattle.flow.specs.Format.{flow_of}
use Rattle.theory.specs.Live.{live_in_word, live_out_word}
use Rattle.theory.specs.Interference.{Used, interference_word}
use Rattle.statements.specs.Clauses.Ready.{Ready, Keeps}
use Rattle.interference.specs.Clauses.Clique.{Both, Pairs}

-- the first n words are what f gives
pub record WordsOf (n : ℕ) (f : ℕ → ℕ) (ws : List ℕ) : Type 0 where
  pub room : n ≤ length ws
  pub word : (i : ℕ) → i < n → get_or ws i 0 ≡ f i

-- the file is fit and its records noted, and there is a word for each name
pub record RowsRoom (s ws rows : List ℕ) (n : ℕ) : Type 0 where
  pub ready : Ready s ws n
  pub room : (flow_of s).names ≤ length rows

-- and the number of names is known
pub record RowsStart (s ws rows : List ℕ) (names n : ℕ) : Type 0 where
  pub rows_room : RowsRoom s ws rows n
  pub names_is : names ≡ (flow_of s).names

-- the live sets of a flow
pub record LiveSets (f : Flow) (n : ℕ) (ins outs : List ℕ) : Type 0 where
  pub live_in : WordsOf n (live_in_word f) ins
  pub live_out : WordsOf n (live_out_word f) outs

-- what is live after a statement, and what it writes
abbrev pub after_word : Flow → ℕ → ℕ
after_word f i = bit_or (live_out_word f i) (statement f i).written

-- two names are together at the start or at the end of one of the first k statements
abbrev pub Seen : Flow → ℕ → ℕ → ℕ → Type 0
Seen f k x y = (i : ℕ) × (i < k) × (Both (live_in_word f i) x y ⊎ Both (after_word f i) x y)

abbrev pub BothUsed : Flow → ℕ → ℕ → Type 0
BothUsed f x y = Used f x × Used f y

-- the pairs of different names that P has are noted in words that held none, and all other words are as they were
pub record Noted (f : Flow) (P : ℕ → ℕ → Type 0) (rows rows' : List ℕ) : Type 0 where
  pub pairs : Pairs rows f.names (λ x y. ⊥) → Pairs rows' f.names P
  pub kept : Keeps 0 f.names rows rows'

pub record Rows (f : Flow) (rows rows' : List ℕ) : Type 0 where
  pub word : (x : ℕ) → x < f.names → get_or rows' x 0 ≡ interference_word f x
  pub kept : Keeps 0 f.names rows rows'
