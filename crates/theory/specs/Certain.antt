-- Request E1, "Names certainly written": a name is certain when some statement writes it and every statement that reads it is reached and has a write of it
-- earlier on each walk from the entry, over the listed graph. With a handler (request E3) no name is.
use Rattle.std.specs.Prelude.{ℕ, ◌<◌, Bool, true, false, not, ◌&&◌, ◌||◌, ◌≡◌}
use mathlib.Core.Option.{none}
use Rattle.flow.specs.Flow.{Flow, size}
use Rattle.theory.specs.Lists.{In, any, elem, up_to, all_below}
use Rattle.theory.specs.Reach.{Reach, reached}
use Rattle.theory.specs.Body.{successors}
use Rattle.theory.specs.Key.{on_handler}
use Rattle.theory.specs.Live.{reads, writes, unwritten, names_word}

-- a listed walk from the entry to a statement
abbrev pub Reached : Flow → ℕ → Type 0
Reached f i = Reach (successors f) f.entry i

-- a listed walk from the entry to a statement, with no write of x at a statement before it
pub data Unwritten (f : Flow) (x : ℕ) : ℕ → Type 0 where
  entry : Unwritten f x f.entry
  on : {i j : ℕ} → Unwritten f x i → writes f i x ≡ false → In j (successors f i) → Unwritten f x j

-- the statement that writes the name need not be reached; one that reads it must be
pub record Certain (f : Flow) (x : ℕ) : Type 0 where
  pub no_handler : f.handler ≡ none
  pub writer : (i : ℕ) × (i < size f) × (writes f i x ≡ true)
  pub readers : (i : ℕ) → i < size f → reads f i x ≡ true → Reached f i × (Unwritten f x i → ⊥)

-- the tests of the two walks

unfoldable pub reached_at : Flow → ℕ → Bool
reached_at f i = elem i (reached (successors f) (size f) f.entry)

unfoldable pub unwritten_at : Flow → ℕ → ℕ → Bool
unwritten_at f x i = elem i (reached (unwritten f x) (size f) f.entry)

unfoldable pub certain : Flow → ℕ → Bool
certain f x =
    on_handler f.handler true (λ h. false)
    && (any (λ i. writes f i x) (up_to (size f))
    && all_below (size f) (λ i. not (reads f i x) || (reached_at f i && not (unwritten_at f x i))))

-- the answer: bit x is name x
unfoldable pub certain_word : Flow → ℕ
certain_word f = names_word f (certain f)
