-- The bytes of a proposal as rows of masks, each three sets of arrays. Assumes nothing.
use Rattle.std.specs.Prelude.{ℕ, ◌+◌, ◌-◌, ◌*◌, ◌<◌, ◌≤◌, cond, List, ◌≡◌, ltb, length, get_or}
use Rattle.words.specs.Clauses.Row.{bit}
use Rattle.statements.specs.Clauses.Layout.{set_words}
use Rattle.statements.specs.Clauses.Ready.{Keeps}
use Rattle.solve.specs.Clauses.Layout.{mask_row_at, mask_rows_end, nodes_end, waits_in, settled_in}
use Rattle.solve.specs.Clauses.Pushed.{masks_at}
use Rattle.dataflow.specs.Clauses.Sent.{masks_below}

-- the lowest bits of the eight bytes of a word, side by side
pub record Gathered (word r : ℕ) : Type 0 where
  pub low : (j : ℕ) → j < 8 → bit r j ≡ bit word (8 * j)
  pub high : (j : ℕ) → 8 ≤ j → bit r j ≡ 0

-- of the arrays whose bytes these are, bit j of r says of array from + j whether its mask has the state of bit t
abbrev pub SetOf : List ℕ → ℕ → ℕ → ℕ → Type 0
SetOf s t from r = (j : ℕ) → from + j < 64 → bit r j ≡ cond (ltb (from + j) (length s)) (bit (get_or s (from + j) 0) t) 0

-- so do the words of the three sets
pub record SetsOf (s : List ℕ) (from none auto dimmed : ℕ) : Type 0 where
  pub none_is : SetOf s 0 from none
  pub auto_is : SetOf s 1 from auto
  pub dimmed_is : SetOf s 2 from dimmed

-- the masks of the doubled number d in the proposal
abbrev pub row_of : List ℕ → ℕ → ℕ → ℕ → ℕ
row_of s arrays d a = get_or s (d * arrays + a) 0

-- the words of the numbers from d on are zero
abbrev pub Unloaded : List ℕ → ℕ → ℕ → ℕ → Type 0
Unloaded ws n w d = (x : ℕ) → mask_row_at n w d ≤ x → x < nodes_end n w → get_or ws x 0 ≡ 0

-- and the number before d, if there is one, has the masks of its row
pub record LoadedBefore (s ws : List ℕ) (n w arrays d : ℕ) : Type 0 where
  pub unloaded : Unloaded ws n w d
  pub before : (a : ℕ) → 0 < d → a < 64 * w → masks_at ws n w (d - 1) a ≡ masks_below arrays (row_of s arrays (d - 1)) a

-- the first k numbers have the masks of their rows, and are settled; whether they wait is as it was
pub record Loaded (s ws vs : List ℕ) (n arrays k : ℕ) : Type 0 where
  pub masks : (d a : ℕ) → d < k → a < 64 * set_words arrays → masks_at vs n (set_words arrays) d a ≡ masks_below arrays (row_of s arrays d) a
  pub settled : (d : ℕ) → d < k → settled_in vs n (set_words arrays) d ≡ 1
  pub waits : (d : ℕ) → d < k → waits_in vs n (set_words arrays) d ≡ waits_in ws n (set_words arrays) d
  pub keeps : Keeps (mask_row_at n (set_words arrays) 0) (mask_rows_end n (set_words arrays) k) ws vs
