-- Request E5, "Names that get in each other's way": two different names interfere exactly when both are live at the start of some statement, or both are in its live-out together with its
-- writes. With a handler, all names read or written anywhere interfere. How many names are live at once is the size of the largest live-in set, 0 for n 0.
use Rattle.std.specs.Prelude.{ℕ, ◌<◌, Bool, true, not, ◌&&◌, ◌||◌, ◌≡◌, eqb}
use mathlib.Core.Option.{some}
use Rattle.flow.specs.Flow.{Flow, size}
use Rattle.theory.specs.Lists.{any, up_to, sum_below, max_below}
use Rattle.theory.specs.Key.{on_handler}
use Rattle.theory.specs.Live.{reads, writes, LiveIn, LiveOut, is_live_in, is_live_out, bit_of, names_word}

-- live-out together with the writes
pub data After (f : Flow) (x i : ℕ) : Type 0 where
  live : LiveOut f x i → After f x i
  written : writes f i x ≡ true → After f x i

-- read or written anywhere
pub data Used (f : Flow) (x : ℕ) : Type 0 where
  read : {i : ℕ} → i < size f → reads f i x ≡ true → Used f x
  written : {i : ℕ} → i < size f → writes f i x ≡ true → Used f x

pub data Together (f : Flow) (x y : ℕ) : Type 0 where
  at_start : {i : ℕ} → i < size f → LiveIn f x i → LiveIn f y i → Together f x y
  at_end : {i : ℕ} → i < size f → After f x i → After f y i → Together f x y
  by_handler : {h : ℕ} → f.handler ≡ some h → Used f x → Used f y → Together f x y

pub record Interferes (f : Flow) (x y : ℕ) : Type 0 where
  pub different : x ≡ y → ⊥
  pub together : Together f x y

-- the tests

unfoldable pub after : Flow → ℕ → ℕ → Bool
after f x i = is_live_out f x i || writes f i x

unfoldable pub used : Flow → ℕ → Bool
used f x = any (λ i. reads f i x || writes f i x) (up_to (size f))

-- both names at the start of a statement, or both at its end
unfoldable pub together_at : Flow → ℕ → ℕ → ℕ → Bool
together_at f x y i = (is_live_in f x i && is_live_in f y i) || (after f x i && after f y i)

-- with a handler, whatever is together somewhere is used too
unfoldable pub together : Flow → ℕ → ℕ → Bool
together f x y = on_handler f.handler (any (together_at f x y) (up_to (size f))) (λ h. used f x && used f y)

unfoldable pub interferes : Flow → ℕ → ℕ → Bool
interferes f x y = not (eqb x y) && together f x y

-- the word of a name: bit y is name y
unfoldable pub interference_word : Flow → ℕ → ℕ
interference_word f x = names_word f (interferes f x)

-- the size of a live-in set
unfoldable pub live_count : Flow → ℕ → ℕ
live_count f i = sum_below f.names (λ x. bit_of (is_live_in f x i))

-- how many names are live at once
unfoldable pub most_live : Flow → ℕ
most_live f = max_below (size f) (live_count f)
