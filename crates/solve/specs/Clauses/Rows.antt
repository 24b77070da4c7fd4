-- Rows of masks, each three sets of arrays of w words, NONE first, then AUTO, then DIMMED: the mask of an array, what a row of the slice becomes where nothing else
-- changes, and masks of which some arrays take an effect. Assumes nothing.
use Rattle.std.specs.Prelude.{ℕ, ◌+◌, ◌*◌, ◌<◌, ◌≤◌, Bool, cond, List, ◌⊎◌, ◌≡◌, eqb, get_or, set}
use Rattle.words.specs.Clauses.Row.{bit, has}
use Rattle.masks.specs.declared.Effect.{Effect}
use Rattle.masks.specs.Step.{step_of}
use Rattle.masks.specs.Clauses.Sets.{mask_of}
use Rattle.statements.specs.Clauses.Ready.{Keeps}

-- the mask of array a: the states whose set has it
unfoldable pub mask_at : List ℕ → ℕ → ℕ → ℕ → ℕ
mask_at ws w row a = mask_of (has ws row a) (has ws (row + w) a) (has ws (row + 2 * w) a)

-- vs is ws with the masks m in the row at `row`
pub record RowIs (ws vs : List ℕ) (w row : ℕ) (m : ℕ → ℕ) : Type 0 where
  pub keeps : Keeps row (row + 3 * w) ws vs
  pub masks : (a : ℕ) → a < 64 * w → mask_at vs w row a ≡ m a

-- two rows lie apart, or they are one
abbrev pub Beside : ℕ → ℕ → ℕ → Type 0
Beside w to from = ((to + 3 * w ≤ from) ⊎ (from + 3 * w ≤ to)) ⊎ (to ≡ from)

-- a set of w words lies before the row, or behind it
abbrev pub Aside : ℕ → ℕ → ℕ → Type 0
Aside w set to = (set + w ≤ to) ⊎ (to + 3 * w ≤ set)

-- the arrays that pass the test take the effect
unfoldable pub step_where : (ℕ → Bool) → Effect → (ℕ → ℕ) → ℕ → ℕ
step_where p e m a = cond (p a) (step_of e (m a)) (m a)

-- a is a member of the set at word `set`
unfoldable pub member : List ℕ → ℕ → ℕ → Bool
member ws set a = eqb (has ws set a) 1

-- vs is ws with the words x, y, z as word k of the three sets of the row at `row`
abbrev pub words_set : List ℕ → ℕ → ℕ → ℕ → ℕ → ℕ → ℕ → List ℕ
words_set ws w row k x y z = set (set (set ws (row + k) x) (row + w + k) y) (row + 2 * w + k) z

-- word k of the row at `to` is that of the row at `from` once the arrays of the word `chosen` have taken the effect
pub record WordStepped (ws vs : List ℕ) (w to from k chosen : ℕ) (e : Effect) : Type 0 where
  pub none : ℕ
  pub auto : ℕ
  pub dimmed : ℕ
  pub slice : vs ≡ words_set ws w to k none auto dimmed
  pub masks : (j : ℕ) → j < 64 → let m : ℕ = mask_of (bit (get_or ws (from + k) 0) j) (bit (get_or ws (from + w + k) 0) j) (bit (get_or ws (from + 2 * w + k) 0) j) in
      mask_of (bit none j) (bit auto j) (bit dimmed j) ≡ cond (eqb (bit chosen j) 1) (step_of e m) m
