-- Which bytes of a proposal are masks. Assumes nothing.
use Rattle.std.specs.Prelude.{ℕ, ◌<◌, ◌≤◌, List, length, get_or, Option, MatchOption}

-- r is the first of the first `count` bytes that is over 7, or `count`
pub record FirstOver (s : List ℕ) (count r : ℕ) : Type 0 where
  pub high : r ≤ count
  pub before : (j : ℕ) → j < r → get_or s j 0 < 8
  pub over : r < count → 8 ≤ get_or s r 0

-- the first of the first `count` bytes that is over 7, or none is
abbrev pub Over : List ℕ → ℕ → Option ℕ → Type 0
Over s count r = MatchOption r (FirstOver s count count) (λ k. FirstOver s count k × (k < count))

-- the first `count` bytes are there, and are masks
pub record Masks (s : List ℕ) (count : ℕ) : Type 0 where
  pub room : count ≤ length s
  pub below : (j : ℕ) → j < count → get_or s j 0 < 8
