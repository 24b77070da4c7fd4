-- What a row has goes by its words, its members are the ones of its words, and one word written leaves a slice of words.
-- By the bits of a word, over any width and place of the row. Assumes nothing.
use mathlib.Core.Path.{◌≡◌, sym, ap, ap₂, ◌∙◌, subst}
use mathlib.Core.List.{List}
use Prim.Native.Nat.{ℕ, ◌+◌, ◌*◌, ◌/◌, ◌%◌, ◌^◌, ◌≤◌, ◌<◌, min}
use native.Mathlib.Decide.{dec_lt, ℕ_discrete}
use native.Mathlib.Omega.{arith}
use lib.Bits.{bit_and}
use lib.ListN.{length, get_or, set}
use lib.Count.{ones}
use lib.Seq.{get_or-set_same, get_or-set_other, set_out}
use Rattle.words.specs.Clauses.Row.{bit, has, Words, tally, members}
use Rattle.words.proofs.Bit.{bit-lt, bit-and}
use Rattle.words.proofs.Tally.{tally-cong, tally-le, tally-add, ones-tally}

pub has-lt : (ws : List ℕ) (base i : ℕ) → has ws base i < 2
unfolding has
has-lt ws base i = bit-lt (get_or ws (base + i / 64) 0) (i % 64)

-- a row has what its words have
pub has-cong : (ws vs : List ℕ) (base i : ℕ) → get_or ws (base + i / 64) 0 ≡ get_or vs (base + i / 64) 0 → has ws base i ≡ has vs base i
unfolding has
has-cong ws vs base i e = ap (λ (w : ℕ). bit w (i % 64)) e

pub members-cong : (ws vs : List ℕ) (base width : ℕ) → ((k : ℕ) → k < width → get_or ws (base + k) 0 ≡ get_or vs (base + k) 0) → members ws base width ≡ members vs base width
unfolding members
members-cong ws vs base width h = tally-cong (has ws base) (has vs base) (64 * width) (λ i l. has-cong ws vs base i (h (i / 64) (omega arith)))

pub members-le : (ws : List ℕ) (base width : ℕ) → members ws base width ≤ 64 * width
unfolding members
members-le ws base width = tally-le (has ws base) (64 * width) (λ i l. omega (arith, has-lt ws base i))

-- number j of word k
pub has_word : (ws : List ℕ) (base k j : ℕ) → j < 64 → has ws base (64 * k + j) ≡ bit (get_or ws (base + k) 0) j
unfolding has
has_word ws base k j l =
    let word : (64 * k + j) / 64 ≡ k = omega arith in
    let place : (64 * k + j) % 64 ≡ j = omega arith in
    ap₂ (λ (x y : ℕ). bit (get_or ws (base + x) 0) y) word place

-- what two rows share, by their words
pub has_both : (ws : List ℕ) (a b i : ℕ) → bit (bit_and (get_or ws (a + i / 64) 0) (get_or ws (b + i / 64) 0)) (i % 64) ≡ min (has ws a i) (has ws b i)
unfolding has
has_both ws a b i = bit-and (get_or ws (a + i / 64) 0) (get_or ws (b + i / 64) 0) (i % 64)

-- one word more counts its ones
pub members-suc : (ws : List ℕ) (base k : ℕ) → get_or ws (base + k) 0 < 2 ^ 64 → members ws base (k + 1) ≡ members ws base k + ones (get_or ws (base + k) 0)
unfolding members
members-suc ws base k h =
    let more : 64 * (k + 1) ≡ 64 * k + 64 = omega arith in
    ap (tally (has ws base)) more ∙ tally-add (has ws base) (64 * k) 64
    ∙ ap (λ (x : ℕ). tally (has ws base) (64 * k) + x)
    (tally-cong (λ j. has ws base (64 * k + j)) (bit (get_or ws (base + k) 0)) 64 (λ j l. has_word ws base k j l)
    ∙ sym (ones-tally 64 (get_or ws (base + k) 0) h))

pub words-set : (ws : List ℕ) (at v : ℕ) → Words ws → v < 2 ^ 64 → Words (set ws at v)
words-set ws at v w h x = in_place (ℕ_discrete x at) (dec_lt at (length ws))
  where
    in_place : Dec (x ≡ at) → Dec (at < length ws) → get_or (set ws at v) x 0 < 2 ^ 64
    in_place (yes e) (yes l) = subst (λ (y : ℕ). y < 2 ^ 64) (sym (ap (λ (y : ℕ). get_or (set ws at v) y 0) e ∙ get_or-set_same ws at v 0 l)) h
    in_place (yes e) (no l) = subst (λ (vs : List ℕ). get_or vs x 0 < 2 ^ 64) (sym (set_out ws at v (omega (arith, l)))) (w x)
    in_place (no d) l = subst (λ (y : ℕ). y < 2 ^ 64) (sym (get_or-set_other ws at x v 0 d)) (w x)
