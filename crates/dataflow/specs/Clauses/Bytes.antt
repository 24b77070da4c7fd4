-- The masks written as bytes: those of both copies of a statement joined, array by array, one statement after the other.
-- Assumes nothing.
use Rattle.std.specs.Prelude.{ℕ, zero, suc, ◌+◌, ◌-◌, ◌*◌, ◌<◌, ◌≤◌, Bool, true, false, List, ◌≡◌, length, get_or}
use Rattle.std.specs.Int.Bits.{bit_or}
use Rattle.words.specs.Clauses.Byte.{byte_of}
use Rattle.words.specs.Clauses.Row.{bit}
use Rattle.words.specs.Clauses.Change.{noted}
use Rattle.masks.specs.Clauses.Sets.{mask_of}
use Rattle.flow.specs.Limits.{max_statements}
use Rattle.statements.specs.Clauses.Layout.{set_words, max_width}
use Rattle.solve.specs.Clauses.Layout.{mask_row_at, area_end}
use Rattle.solve.specs.Clauses.Rows.{mask_at}

-- the mask of array j of those that a word of each set stands for
abbrev pub mask_in : ℕ → ℕ → ℕ → ℕ → ℕ
mask_in none auto dimmed j = mask_of (bit none j) (bit auto j) (bit dimmed j)

-- the bytes of r are the masks of the first eight
abbrev pub EightMasks : ℕ → ℕ → ℕ → ℕ → Type 0
EightMasks none auto dimmed r = (j : ℕ) → j < 8 → byte_of r j ≡ mask_in none auto dimmed j

-- word k of the rows at x and y, joined
abbrev pub joined_word : List ℕ → ℕ → ℕ → ℕ → ℕ
joined_word ws x y k = bit_or (get_or ws (x + k) 0) (get_or ws (y + k) 0)

-- the mask of array a in the rows at x and y, joined, where a set has w words
abbrev pub joined_mask : List ℕ → ℕ → ℕ → ℕ → ℕ → ℕ
joined_mask ws w x y a = bit_or (mask_at ws w x a) (mask_at ws w y a)

-- both in the two rows of statement i
unfoldable pub both_words : List ℕ → ℕ → ℕ → ℕ → ℕ → ℕ
both_words ws n w i = joined_word ws (mask_row_at n w i) (mask_row_at n w (n + i))

unfoldable pub both_copies : List ℕ → ℕ → ℕ → ℕ → ℕ → ℕ
both_copies ws n w i = joined_mask ws w (mask_row_at n w i) (mask_row_at n w (n + i))

-- the rows of all n statements lie within ws
pub record RowsHeld (ws : List ℕ) (n w : ℕ) : Type 0 where
  pub most : n ≤ max_statements
  pub narrow : w ≤ max_width
  pub room : area_end n w ≤ length ws

-- statements i and j have the same sets, joined over both copies
abbrev pub SameSets : List ℕ → ℕ → ℕ → ℕ → ℕ → Type 0
SameSets ws n w i j = (k : ℕ) → k < 3 * w → both_words ws n w i k ≡ both_words ws n w j k

-- r says whether it is so
abbrev pub Says : Bool → Type 0 → Type 0
Says true t = t
Says false t = t → ⊥

-- the masks of the statement before i, if there is one, stand in their row
abbrev pub RowBefore : List ℕ → List ℕ → ℕ → ℕ → ℕ → Type 0
RowBefore masks ws n arrays i = (a : ℕ) → 0 < i → a < arrays → get_or masks ((i - 1) * arrays + a) 0 ≡ both_copies ws n (set_words arrays) (i - 1) a

-- k rows of w elements from the start on
unfoldable pub noted_rows : List ℕ → ℕ → (ℕ → ℕ → ℕ) → ℕ → List ℕ
noted_rows ws w f zero = ws
noted_rows ws w f (suc k) = noted (noted_rows ws w f k) (k * w) w (f k)
