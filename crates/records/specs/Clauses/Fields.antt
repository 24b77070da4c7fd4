-- The fields of a statement's record that was found fit, where Format does not give them by one position: the data of its kind, its references as
-- a set, the part of the file that the record is, and what the second pass notes of the records.
use Rattle.std.specs.Prelude.{ℕ, zero, suc, ◌+◌, ◌-◌, ◌*◌, ◌/◌, ◌%◌, ◌^◌, ◌≤◌, ◌<◌, Bool, cond, ◌||◌, List, ◌≡◌, length, get_or, take, drop, eqb, ltb, leb}
use mathlib.Core.Option.{Option, none}
use Rattle.std.specs.Int.Bits.{bit_or}
use Rattle.records.specs.declared.offsets.Noted.{Noted}
use Rattle.flow.specs.Format.{kind_at, kind_clr, kind_run, kind_dim, kind_gosub, kind_on_gosub, reference_count, data_place, data_count, elements_end, continuation_at, record_end, record_place, line_number, u16_at}

-- the record at p, as that part of the file
abbrev pub record_part : List ℕ → ℕ → List ℕ
record_part s p = take (record_end s p - p) (drop p s)

-- the items of a DIM
unfoldable pub item_count : List ℕ → ℕ → ℕ
item_count s p = cond (eqb (kind_at s p) kind_dim) (data_count s p) 0

-- the statement does something to masks: CLR, RUN, a DIM that has items, or any with references
unfoldable pub acts_at : List ℕ → ℕ → Bool
acts_at s p = (eqb (kind_at s p) kind_clr || eqb (kind_at s p) kind_run) || (ltb 0 (item_count s p) || ltb 0 (reference_count s p))

-- a place and whether a statement does something to masks, as a word: the place, to which 2 ^ 32 is added if it does; and what such a word was made from

abbrev pub word_of : Noted → ℕ
word_of noted = cond noted.acts (noted.place + 2 ^ 32) noted.place

abbrev pub noted_of : ℕ → Noted
noted_of word = record { place = word % 2 ^ 32; acts = leb (2 ^ 32) word }

-- what is noted of the record at p, and of statement i

unfoldable pub word_at : List ℕ → ℕ → ℕ
word_at s p = word_of (record { place = p; acts = acts_at s p })

abbrev pub noted_word : List ℕ → ℕ → ℕ
noted_word s i = word_at s (record_place s i)

-- the lines of a call, of which GOSUB has one, and where it goes on

unfoldable pub call_line_count : List ℕ → ℕ → ℕ
call_line_count s p = cond (eqb (kind_at s p) kind_gosub) 1 (cond (eqb (kind_at s p) kind_on_gosub) (data_count s p) 0)

abbrev pub call_lines_place : List ℕ → ℕ → ℕ
call_lines_place s p = cond (eqb (kind_at s p) kind_gosub) (data_place s p) (data_place s p + 1)

unfoldable pub call_line_at : List ℕ → ℕ → ℕ → ℕ
call_line_at s p k = u16_at s (call_lines_place s p + 2 * k)

unfoldable pub continuation_in : List ℕ → ℕ → Option ℕ
continuation_in s p =
    cond (eqb (kind_at s p) kind_gosub) (continuation_at s (data_place s p + 2))
    (cond (eqb (kind_at s p) kind_on_gosub) (continuation_at s (elements_end s p)) none)

-- of the file's FL records from `first` to below `end`, those below r have lines below l, and the others have not
pub record LineRank (s : List ℕ) (first end l r : ℕ) : Type 0 where
  pub from : first ≤ r
  pub all : r ≤ end
  pub below : (j : ℕ) → first ≤ j → j < r → line_number s j < l
  pub above : (j : ℕ) → r ≤ j → j < end → l ≤ line_number s j

-- the part, of n, that a line falls into
abbrev pub part_of : ℕ → ℕ → ℕ
part_of n l = l * n / 65536

-- the word of part k says where its records stand among the first r FL records: from its lower 16 bits to below its upper ones, and both ends are of the part; it is 0 where there are none
pub record LinePart (s : List ℕ) (n r k word : ℕ) : Type 0 where
  pub some : word % 65536 ≤ word / 65536
  pub all : word / 65536 ≤ r
  pub holds : (j : ℕ) → j < r → part_of n (line_number s j) ≡ k → (word % 65536 ≤ j) × (j < word / 65536)
  pub ends : 0 < word → (part_of n (line_number s (word % 65536)) ≡ k) × (part_of n (line_number s (word / 65536 - 1)) ≡ k)

abbrev pub LineParts : List ℕ → List ℕ → ℕ → ℕ → ℕ → Type 0
LineParts s ws base n r = (k : ℕ) → k < n → LinePart s n r k (get_or ws (base + k) 0)

-- they are noted, and nothing else is written
pub record PartsNoted (s ws vs : List ℕ) (base n r : ℕ) : Type 0 where
  pub size : length vs ≡ length ws
  pub below : (x : ℕ) → x < base → get_or vs x 0 ≡ get_or ws x 0
  pub above : (x : ℕ) → base + n ≤ x → get_or vs x 0 ≡ get_or ws x 0
  pub parts : LineParts s vs base n r

-- Sets of arrays as words: array a is bit a % 64 of word a / 64

abbrev pub bit_in : ℕ → ℕ → ℕ
bit_in w a = cond (eqb (a / 64) w) (2 ^ (a % 64)) 0

-- word w of the set f 0, f 1, .. of k elements
unfoldable pub set_word : ℕ → (ℕ → ℕ) → ℕ → ℕ
set_word zero f w = 0
set_word (suc k) f w = bit_or (set_word k f w) (bit_in w (f k))
