-- What the slice is after a change, every word of it, and whether the row grew.
-- A change of a row writes its words one after the other, the lowest first. Assumes nothing.
use Rattle.std.specs.Prelude.{ℕ, zero, suc, ◌+◌, ◌-◌, ◌/◌, ◌%◌, ◌^◌, ◌<◌, ◌≡◌, Bool, false, cond, ◌||◌, not, List, ◌≢◌, eqb, get_or, set}
use Rattle.std.specs.Int.Bits.{bit_and, bit_or}
use Rattle.words.specs.Clauses.Row.{bit, has}

-- the word at `at` joined with bits
unfoldable pub joined : List ℕ → ℕ → ℕ → List ℕ
joined ws at bits = set ws at (bit_or (get_or ws at 0) bits)

-- vs is ws with bits joined to the word at `at`; r says whether it grew
pub record Joined (ws vs : List ℕ) (at bits : ℕ) (r : Bool) : Type 0 where
  pub slice : vs ≡ joined ws at bits
  pub grew : r ≡ not (eqb (bit_or (get_or ws at 0) bits) (get_or ws at 0))

-- vs is ws with two words joined to those from `at` on; r says whether one of them grew
pub record PairJoined (ws vs : List ℕ) (at low high : ℕ) (r : Bool) : Type 0 where
  pub slice : vs ≡ joined (joined ws at low) (at + 1) high
  pub grew : r ≡ (not (eqb (bit_or (get_or ws at 0) low) (get_or ws at 0)) || not (eqb (bit_or (get_or ws (at + 1) 0) high) (get_or ws (at + 1) 0)))

unfoldable pub inserted : List ℕ → ℕ → ℕ → List ℕ
inserted ws base i = joined ws (base + i / 64) (2 ^ (i % 64))

-- vs is ws with i in the row at base; r says whether it was not there before
pub record Inserted (ws vs : List ℕ) (base i : ℕ) (r : Bool) : Type 0 where
  pub slice : vs ≡ inserted ws base i
  pub fresh : r ≡ eqb (has ws base i) 0

-- the bits of a that are not in b, both words
unfoldable pub without : ℕ → ℕ → ℕ
without a b = bit_and a (2 ^ 64 - 1 - b)

-- i is no member any more
unfoldable pub removed : List ℕ → ℕ → ℕ → List ℕ
removed ws base i = set ws (base + i / 64) (without (get_or ws (base + i / 64) 0) (2 ^ (i % 64)))

-- word base + k becomes f of the slice so far and k, for each k below the width in turn
unfoldable pub rewritten : (List ℕ → ℕ → ℕ) → List ℕ → ℕ → ℕ → List ℕ
rewritten f ws base zero = ws
rewritten f ws base (suc k) = set (rewritten f ws base k) (base + k) (f (rewritten f ws base k) k)

unfoldable pub unioned : List ℕ → ℕ → ℕ → ℕ → List ℕ
unioned ws to from width = rewritten (λ vs k. bit_or (get_or vs (to + k) 0) (get_or vs (from + k) 0)) ws to width

-- no word of the row at `from` is written before it is read: so it is where the rows are one, are apart, or `to` is the lower
abbrev pub ReadFirst : ℕ → ℕ → ℕ → Type 0
ReadFirst to from width = (j k : ℕ) → j < k → k < width → from + k ≢ to + j

-- some word of the row at base is another in vs than in ws
unfoldable pub differs : List ℕ → List ℕ → ℕ → ℕ → Bool
differs ws vs base zero = false
differs ws vs base (suc k) = differs ws vs base k || not (eqb (get_or vs (base + k) 0) (get_or ws (base + k) 0))

-- vs is ws with the row at `from` joined to the row at `to`; r says whether that row grew
pub record Unioned (ws vs : List ℕ) (to from width : ℕ) (r : Bool) : Type 0 where
  pub slice : vs ≡ unioned ws to from width
  pub grew : r ≡ differs ws vs to width

unfoldable pub zeroed : List ℕ → ℕ → ℕ → List ℕ
zeroed ws base width = rewritten (λ vs k. 0) ws base width

-- the bits of the word r are those of b where the set has them, and else those of a
pub record Chosen (chosen b a r : ℕ) : Type 0 where
  pub member : (j : ℕ) → bit r j ≡ cond (eqb (bit chosen j) 1) (bit b j) (bit a j)

-- ws with f 0, f 1, .. of k elements at base, base + 1, ..
unfoldable pub noted : List ℕ → ℕ → ℕ → (ℕ → ℕ) → List ℕ
noted ws base zero f = ws
noted ws base (suc k) f = set (noted ws base k f) (base + k) (f k)
