-- What is noted in a list: the words from base on are the values, the others are as they were, and the length stays. And the word of a place and a flag goes back to them.
-- By induction on the number of values, and by the cases of the flag.
use Prim.Native.Nat.{ℕ, zero, suc, ◌+◌, ◌%◌, ◌^◌, ◌≤◌, ◌<◌}
use native.Mathlib.Omega.{arith}
use native.Mathlib.Nat.{eq-or-lt_of_le, le_of_suc-le-suc}
use mathlib.Core.Bool.{Bool, true, false}
use mathlib.Core.List.{List}
use mathlib.Core.Logic.{⊎_elim}
use mathlib.Core.Path.{◌≡◌, refl, ◌∙◌}
use borrow.Author.Tests.{le-leb, lt-leb}
use lib.ListN.{length, get_or, length-set}
use lib.Seq.{get_or-set_same, get_or-set_other}
use Rattle.words.specs.Clauses.Change.{noted}
use Rattle.records.specs.Clauses.Fields.{word_of, noted_of}

module _ (ws : List ℕ) (base : ℕ) (f : ℕ → ℕ) where
  pub length-noted : (k : ℕ) → length (noted ws base k f) ≡ length ws
  unfolding noted
  length-noted zero = refl
  length-noted (suc k) = length-set (noted ws base k f) (base + k) (f k) ∙ length-noted k

  pub noted-at : (k i d : ℕ) → i < k → base + k ≤ length ws → get_or (noted ws base k f) (base + i) d ≡ f i
  unfolding noted
  noted-at zero i d l m = absurd (omega arith)
  noted-at (suc k) i d l m =
      ⊎_elim
      (λ e. rw e (get_or-set_same (noted ws base k f) (base + k) (f k) d (omega (arith, length-noted k))))
      (λ b. get_or-set_other (noted ws base k f) (base + k) (base + i) (f k) d (λ e. omega arith) ∙ noted-at k i d b (omega arith))
      (eq-or-lt_of_le (le_of_suc-le-suc l))

  pub noted_other : (k j d : ℕ) → ((i : ℕ) → i < k → j ≡ base + i → ⊥) → get_or (noted ws base k f) j d ≡ get_or ws j d
  unfolding noted
  noted_other zero j d n = refl
  noted_other (suc k) j d n =
      get_or-set_other (noted ws base k f) (base + k) j (f k) d (n k (omega arith)) ∙ noted_other k j d (λ i l. n i (omega arith))

pub goes_back : (p : ℕ) (b : Bool) → p < 2 ^ 32 → noted_of (word_of (record { place = p; acts = b })) ≡ record { place = p; acts = b }
goes_back p true h =
    let place : (p + 2 ^ 32) % 2 ^ 32 ≡ p = omega arith in
    rw (place, le-leb (2 ^ 32) (p + 2 ^ 32) (omega arith))
goes_back p false h =
    let place : p % 2 ^ 32 ≡ p = omega arith in
    rw (place, lt-leb (2 ^ 32) p h)
