-- A set of two words: its elements are those of its words, a row of two full words has all, and two words joined to it are joined element by element; a pair that grew has more members.
-- By the words of a row and the laws of one word joined. Assumes nothing.
use Prim.Native.Nat.{ℕ, ◌+◌, ◌-◌, ◌*◌, ◌/◌, ◌^◌, ◌<◌, ◌≤◌, max}
use mathlib.Core.Bool.{Bool, true, false, not, ◌||◌, true≢false}
use mathlib.Core.List.{List, [], ◌∷◌}
use mathlib.Core.Logic.{◌≢◌}
use mathlib.Core.Path.{◌≡◌, refl, sym, ◌∙◌, ap, ap₂, subst}
use native.Mathlib.Decide.{dec_lt}
use native.Mathlib.Omega.{arith}
use lib.Bits.{bit_or}
use lib.Dec.{eqb}
use lib.ListN.{length, get_or}
use Rattle.words.specs.Clauses.Row.{Words, bit, has, members}
use Rattle.words.specs.Clauses.Change.{Joined, PairJoined, joined}
use Rattle.words.proofs.Bit.{bit_of_zero, bit_not, bit-or}
use Rattle.words.proofs.Row.{has_word, has-cong}
use Rattle.words.proofs.Inserted.{length-joined, joined_word, joined-other, words-joined}
use Rattle.words.proofs.Joined.{not-grown, grew-members}

-- the two words of a set, element by element

pub set-low : (ws : List ℕ) (at x : ℕ) → x < 64 → has ws at x ≡ bit (get_or ws at 0) x
set-low ws at x l = ap (has ws at) (sym (zero-add_x x)) ∙ has_word ws at 0 x l ∙ ap (λ z. bit (get_or ws z 0) x) (add-zero-at at)
  where
    zero-add_x : (x : ℕ) → 64 * 0 + x ≡ x
    zero-add_x x = omega arith

    add-zero-at : (at : ℕ) → at + 0 ≡ at
    add-zero-at at = omega arith

pub set-high : (ws : List ℕ) (at x : ℕ) → x < 64 → has ws at (64 + x) ≡ bit (get_or ws (at + 1) 0) x
set-high ws at x l = has_word ws at 1 x l

-- an element is one of the first word or of the second
pub pair-cases : (P : ℕ → Type 0) → ((x : ℕ) → x < 64 → P x) → ((x : ℕ) → x < 64 → P (64 + x)) → (x : ℕ) → x < 128 → P x
pair-cases P low high x m = go (dec_lt x 64)
  where
    go : Dec (x < 64) → P x
    go (yes l) = low x l
    go (no l) =
        let place : 64 + (x - 64) ≡ x = omega (arith, l) in
        subst P place (high (x - 64) (omega arith))

-- a row of two words

pub row_low : (a b x : ℕ) → x < 64 → has (a ∷ b ∷ []) 0 x ≡ bit a x
row_low a b x l = set-low (a ∷ b ∷ []) 0 x l

pub row-high : (a b x : ℕ) → x < 64 → has (a ∷ b ∷ []) 0 (64 + x) ≡ bit b x
row-high a b x l = set-high (a ∷ b ∷ []) 0 x l

-- that of a set
pub row_of : (ws : List ℕ) (at x : ℕ) → x < 128 → has (get_or ws at 0 ∷ get_or ws (at + 1) 0 ∷ []) 0 x ≡ has ws at x
row_of ws at =
    pair-cases (λ x. has (get_or ws at 0 ∷ get_or ws (at + 1) 0 ∷ []) 0 x ≡ has ws at x) (λ x l. row_low _ _ x l ∙ sym (set-low ws at x l)) (λ x l. row-high _ _ x l ∙ sym (set-high ws at x l))

-- nothing, everything, and what either has

pub empty-row : (x : ℕ) → x < 128 → has (0 ∷ 0 ∷ []) 0 x ≡ 0
empty-row = pair-cases (λ x. has (0 ∷ 0 ∷ []) 0 x ≡ 0) (λ x l. row_low 0 0 x l ∙ bit_of_zero x) (λ x l. row-high 0 0 x l ∙ bit_of_zero x)

pub all_ones : (k : ℕ) → k < 64 → bit 18446744073709551615 k ≡ 1
all_ones k l = bit_not 64 0 k (omega arith) l ∙ omega (arith, bit_of_zero k)

pub full_row : (x : ℕ) → x < 128 → has (18446744073709551615 ∷ 18446744073709551615 ∷ []) 0 x ≡ 1
full_row =
    pair-cases (λ x. has (18446744073709551615 ∷ 18446744073709551615 ∷ []) 0 x ≡ 1) (λ x l. row_low _ _ x l ∙ all_ones x l) (λ x l. row-high _ _ x l ∙ all_ones x l)

pub either_row : (a b c d x : ℕ) → x < 128 → has (bit_or a c ∷ bit_or b d ∷ []) 0 x ≡ max (has (a ∷ b ∷ []) 0 x) (has (c ∷ d ∷ []) 0 x)
either_row a b c d =
    pair-cases (λ x. has (bit_or a c ∷ bit_or b d ∷ []) 0 x ≡ max (has (a ∷ b ∷ []) 0 x) (has (c ∷ d ∷ []) 0 x))
    (λ x l. row_low _ _ x l ∙ bit-or a c x ∙ ap₂ max (sym (row_low a b x l)) (sym (row_low c d x l)))
    (λ x l. row-high _ _ x l ∙ bit-or b d x ∙ ap₂ max (sym (row-high a b x l)) (sym (row-high c d x l)))

-- Two words joined

module _ {ws vs : List ℕ} {at low high : ℕ} {r : Bool} (p : PairJoined ws vs at low high r) (room : at + 2 ≤ length ws) where
  -- one after the other

  abbrev middle : List ℕ
  middle = joined ws at low

  abbrev first : Bool
  first = not (eqb (bit_or (get_or ws at 0) low) (get_or ws at 0))

  abbrev second : Bool
  second = not (eqb (bit_or (get_or ws (at + 1) 0) high) (get_or ws (at + 1) 0))

  one : Joined ws middle at low first
  one = record { slice = refl; grew = refl }

  two : Joined middle vs (at + 1) high second
  two = record { slice = p.slice; grew = ap (λ z. not (eqb (bit_or z high) z)) (sym (joined-other ws at low (at + 1) (λ e. omega arith))) }

  middle-length : length middle ≡ length ws
  middle-length = length-joined ws at low

  -- every other word stays

  pub pair-length : length vs ≡ length ws
  pair-length = ap length p.slice ∙ length-joined middle (at + 1) high ∙ middle-length

  pub pair-other : (x : ℕ) → x ≢ at → x ≢ at + 1 → get_or vs x 0 ≡ get_or ws x 0
  pair-other x d e = ap (λ z. get_or z x 0) p.slice ∙ joined-other middle (at + 1) high x e ∙ joined-other ws at low x d

  pub pair_else : (base x : ℕ) → base + x / 64 ≢ at → base + x / 64 ≢ at + 1 → has vs base x ≡ has ws base x
  pair_else base x d e = has-cong vs ws base x (pair-other (base + x / 64) d e)

  -- the pair has what either had

  low_word : get_or vs at 0 ≡ bit_or (get_or ws at 0) low
  low_word = ap (λ z. get_or z at 0) p.slice ∙ joined-other middle (at + 1) high at (λ e. omega arith) ∙ joined_word ws at low (omega arith)

  high_word : get_or vs (at + 1) 0 ≡ bit_or (get_or ws (at + 1) 0) high
  high_word =
      ap (λ z. get_or z (at + 1) 0) p.slice ∙ joined_word middle (at + 1) high (omega (arith, middle-length))
      ∙ ap (λ z. bit_or z high) (joined-other ws at low (at + 1) (λ e. omega arith))

  pub pair-here : (x : ℕ) → x < 128 → has vs at x ≡ max (has ws at x) (has (low ∷ high ∷ []) 0 x)
  pair-here x m =
      sym (row_of vs at x m) ∙ ap₂ (λ (y z : ℕ). has (y ∷ z ∷ []) 0 x) low_word high_word ∙ either_row (get_or ws at 0) (get_or ws (at + 1) 0) low high x m
      ∙ ap (λ z. max z (has (low ∷ high ∷ []) 0 x)) (row_of ws at x m)

  -- neither word grew
  pub pair_same : r ≡ false → vs ≡ ws
  pair_same e = go first second refl refl (sym p.grew ∙ e)
    where
      go : (a b : Bool) → first ≡ a → second ≡ b → (a || b) ≡ false → vs ≡ ws
      go true b q t e = absurd (true≢false e)
      go false true q t e = absurd (true≢false e)
      go false false q t e = not-grown two t ∙ not-grown one q

  -- one of them grew: a run of words that has the pair has more members
  pub pair-grew : Words ws → low < 2 ^ 64 → high < 2 ^ 64 → (base width : ℕ) → base ≤ at → at + 2 ≤ base + width → base + width ≤ length ws → r ≡ true
      → members ws base width < members vs base width
  pair-grew words fits fits' base width l h inside e = go first second refl refl (sym p.grew ∙ e)
    where
      grew-one : first ≡ true → members ws base width < members middle base width
      grew-one = grew-members one words fits base width l (omega arith) inside

      grew_two : second ≡ true → members middle base width < members vs base width
      grew_two = grew-members two (words-joined ws at low words fits) fits' base width (omega arith) (omega arith) (omega (arith, middle-length))

      go : (a b : Bool) → first ≡ a → second ≡ b → (a || b) ≡ true → members ws base width < members vs base width
      go true true q t e = omega (arith, grew-one q, grew_two t)
      go true false q t e = subst (λ z. members ws base width < members z base width) (sym (not-grown two t)) (grew-one q)
      go false true q t e = subst (λ z. members z base width < members vs base width) (not-grown one q) (grew_two t)
      go false false q t e = absurd (true≢false (sym e))
