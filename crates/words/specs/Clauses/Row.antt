-- A set of numbers is a row of 64-bit words: number i is a member of the row at `base` when bit i % 64 of word base + i / 64 is 1.
-- What a row has, how many, and which comes next. Assumes nothing.
use Rattle.std.specs.Prelude.{ℕ, zero, suc, ◌+◌, ◌-◌, ◌*◌, ◌/◌, ◌%◌, ◌^◌, ◌≤◌, ◌<◌, ◌≡◌, cond, Option, Some, None, List, eqb, ltb, get_or}

-- bit k of n, 0 or 1
unfoldable pub bit : ℕ → ℕ → ℕ
bit n k = n / 2 ^ k % 2

-- 1 if i is a member of the row at base, else 0
unfoldable pub has : List ℕ → ℕ → ℕ → ℕ
has ws base i = bit (get_or ws (base + i / 64) 0) (i % 64)

-- every element is a word
abbrev pub Words : List ℕ → Type 0
Words ws = (x : ℕ) → get_or ws x 0 < 2 ^ 64

-- f 0 + .. + f (n - 1)
unfoldable pub tally : (ℕ → ℕ) → ℕ → ℕ
tally f zero = 0
tally f (suc n) = tally f n + f n

-- how many members a row of `width` words has
unfoldable pub members : List ℕ → ℕ → ℕ → ℕ
members ws base width = tally (has ws base) (64 * width)

-- the first member among the d numbers from i on, or i + d
unfoldable pub seek : List ℕ → ℕ → ℕ → ℕ → ℕ
seek ws base i zero = i
seek ws base i (suc d) = cond (eqb (has ws base i) 1) i (seek ws base (i + 1) d)

-- the first member at or after `from` and below `bound`, or `bound`
unfoldable pub next_member : List ℕ → ℕ → ℕ → ℕ → ℕ
next_member ws base from bound = seek ws base from (bound - from)

-- m where it is below the bound, else none
unfoldable pub found_below : ℕ → ℕ → Option ℕ
found_below m bound = cond (ltb m bound) (Some m) None

-- a member of the row below `bound`, or none if there is none
abbrev pub SomeMember : List ℕ → ℕ → ℕ → Option ℕ → Type 0
SomeMember ws base bound (Some i) = (i < bound) × (has ws base i ≡ 1)
SomeMember ws base bound None = (j : ℕ) → j < bound → has ws base j ≡ 0

-- r is the first member of the row from `from` on and below `bound`, or `bound`
pub record First (ws : List ℕ) (base from bound r : ℕ) : Type 0 where
  pub low : from ≤ r
  pub high : r ≤ bound
  pub none : (j : ℕ) → from ≤ j → j < r → has ws base j ≡ 0
  pub member : r < bound → has ws base r ≡ 1
