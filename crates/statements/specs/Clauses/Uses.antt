-- The names that some statement writes, and those that some statement reads, each as a word.
use Rattle.std.specs.Prelude.{ℕ, ◌<◌, Bool, true, ◌≡◌}
use Rattle.words.specs.Clauses.Row.{bit}
use Rattle.flow.specs.Flow.{Flow}
use Rattle.theory.specs.Live.{reads, writes}

-- the word of the names that one of the first n statements uses, by a test of a statement and a name
pub record UsedWord (uses : ℕ → ℕ → Bool) (n word : ℕ) : Type 0 where
  pub user : (x : ℕ) → bit word x ≡ 1 → (k : ℕ) × (k < n) × (uses k x ≡ true)
  pub all : (x k : ℕ) → k < n → uses k x ≡ true → bit word x ≡ 1

pub record Gathered (f : Flow) (n w r : ℕ) : Type 0 where
  pub written : UsedWord (writes f) n w
  pub read : UsedWord (reads f) n r
