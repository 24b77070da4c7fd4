-- Live names, by walks over the listed graph: a name is live at a statement's start exactly when a walk from there reads it before any write. Document
-- 01's equations follow (live-in is reads together with live-out less writes); alone they have other solutions, as a self loop with no read shows.
use Rattle.std.specs.Prelude.{ℕ, ◌*◌, ◌/◌, ◌%◌, ◌^◌, ◌<◌, Bool, true, false, cond, not, ◌&&◌, ◌||◌, List, [], ◌≡◌, eqb}
use Rattle.flow.specs.Flow.{Flow, size, statement}
use Rattle.theory.specs.Lists.{In, any, sum_below}
use Rattle.theory.specs.Reach.{reached}
use Rattle.theory.specs.Body.{successors}

-- bit x of a set of names
abbrev pub member : ℕ → ℕ → Bool
member w x = eqb (w / 2 ^ x % 2) 1

abbrev pub reads : Flow → ℕ → ℕ → Bool
reads f i x = member (statement f i).read x

abbrev pub writes : Flow → ℕ → ℕ → Bool
writes f i x = member (statement f i).written x

pub data LiveIn (f : Flow) (x : ℕ) : ℕ → Type 0 where
  now : {i : ℕ} → reads f i x ≡ true → LiveIn f x i
  later : {i j : ℕ} → writes f i x ≡ false → In j (successors f i) → LiveIn f x j → LiveIn f x i

-- a name is live after a statement when it is live at a successor's start
pub data LiveOut (f : Flow) (x i : ℕ) : Type 0 where
  at_successor : {j : ℕ} → In j (successors f i) → LiveIn f x j → LiveOut f x i

-- the statements that a walk may go on to while it looks for a read of x
unfoldable pub unwritten : Flow → ℕ → ℕ → List ℕ
unwritten f x i = cond (writes f i x) [] (successors f i)

unfoldable pub is_live_in : Flow → ℕ → ℕ → Bool
is_live_in f x i = any (λ j. reads f j x) (reached (unwritten f x) (size f) i)

unfoldable pub is_live_out : Flow → ℕ → ℕ → Bool
is_live_out f x i = any (is_live_in f x) (successors f i)

-- Document 01's equations: live-in is reads together with (live-out less writes); live-out is the union of successors' live-in
pub record Equations (f : Flow) (before after : ℕ → ℕ → Bool) : Type 0 where
  pub live_in : (x i : ℕ) → i < size f → before x i ≡ (reads f i x || (after x i && not (writes f i x)))
  pub live_out : (x i : ℕ) → i < size f → after x i ≡ any (before x) (successors f i)

abbrev pub bit_of : Bool → ℕ
bit_of b = cond b 1 0

-- a set of names as a word: bit x is name x, below the number of names
unfoldable pub names_word : Flow → (ℕ → Bool) → ℕ
names_word f p = sum_below f.names (λ x. bit_of (p x) * 2 ^ x)

unfoldable pub live_in_word : Flow → ℕ → ℕ
live_in_word f i = names_word f (λ x. is_live_in f x i)

unfoldable pub live_out_word : Flow → ℕ → ℕ
live_out_word f i = names_word f (λ x. is_live_out f x i)
