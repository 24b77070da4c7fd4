-- A word joined with bits: what the rows then have, and that a row in which a word grew has a member more.
-- By the bits of a union. Assumes nothing.
use Prim.Native.Nat.{ℕ, ◌+◌, ◌-◌, ◌*◌, ◌/◌, ◌%◌, ◌^◌, ◌<◌, ◌≤◌, max}
use mathlib.Core.Bool.{Bool, true, false}
use mathlib.Core.List.{List}
use mathlib.Core.Logic.{◌≢◌}
use mathlib.Core.Path.{◌≡◌, refl, sym, ◌∙◌, ap, subst}
use native.Mathlib.Decide.{ℕ_discrete}
use native.Mathlib.Nat.{le_of_eq}
use native.Mathlib.Omega.{arith}
use borrow.Author.Tests.{eqb-true, eqb-false, not-true, not-false}
use lib.Bits.{bit_or}
use lib.ListN.{length, get_or, set}
use lib.Seq.{set-get_or}
use Rattle.words.specs.Clauses.Row.{Words, bit, has, members}
use Rattle.words.specs.Clauses.Change.{Joined, joined, differs}
use Rattle.words.proofs.Bit.{bit-or}
use Rattle.words.proofs.Row.{has-cong}
use Rattle.words.proofs.Rewritten.{differs_false, differs-members}
use Rattle.words.proofs.Inserted.{joined_word, joined-other, words-joined}

-- a number whose word is joined, and one whose word is not

pub join-has : (ws : List ℕ) (at bits base i : ℕ) → at < length ws → base + i / 64 ≡ at → has (joined ws at bits) base i ≡ max (has ws base i) (bit bits (i % 64))
unfolding has
join-has ws at bits base i l e = rw e (ap (λ w. bit w (i % 64)) (joined_word ws at bits l) ∙ bit-or (get_or ws at 0) bits (i % 64))

pub join_else : (ws : List ℕ) (at bits base i : ℕ) → base + i / 64 ≢ at → has (joined ws at bits) base i ≡ has ws base i
join_else ws at bits base i d = has-cong (joined ws at bits) ws base i (joined-other ws at bits (base + i / 64) d)

-- a word that did not grow
pub not-grown : {ws vs : List ℕ} {at bits : ℕ} {r : Bool} → Joined ws vs at bits r → r ≡ false → vs ≡ ws
unfolding joined
not-grown {ws} {vs} {at} {bits} j e =
    let same : bit_or (get_or ws at 0) bits ≡ get_or ws at 0 = eqb-true _ _ (not-false _ (sym j.grew ∙ e)) in
    j.slice ∙ ap (set ws at) same ∙ set-get_or ws at 0

-- a word of the row at base that grew

module _ {ws vs : List ℕ} {at bits : ℕ} {r : Bool} (j : Joined ws vs at bits r) (words : Words ws) (fits : bits < 2 ^ 64) (base width : ℕ) (low : base ≤ at) (high : at < base + width)
    (room : base + width ≤ length ws) where
  more_bits : (m : ℕ) → m < 64 * width → has ws base m ≤ has (joined ws at bits) base m
  more_bits m b = go (ℕ_discrete (base + m / 64) at)
    where
      go : Dec (base + m / 64 ≡ at) → has ws base m ≤ has (joined ws at bits) base m
      go (yes e) = let joins = join-has ws at bits base m (omega arith) e in omega arith
      go (no d) = le_of_eq (sym (join_else ws at bits base m d))

  grew-differs : r ≡ true → differs ws (joined ws at bits) base width ≡ true
  grew-differs e = go (differs ws (joined ws at bits) base width) refl
    where
      go : (b : Bool) → differs ws (joined ws at bits) base width ≡ b → b ≡ true
      go true d = refl
      go false d =
          let place : base + (at - base) ≡ at = omega arith in
          let same : get_or (joined ws at bits) at 0 ≡ get_or ws at 0 = subst (λ z. get_or (joined ws at bits) z 0 ≡ get_or ws z 0) place (differs_false ws (joined ws at bits) base width d (at - base) (omega arith)) in
          absurd (eqb-false (bit_or (get_or ws at 0) bits) (get_or ws at 0) (not-true _ (sym j.grew ∙ e)) (sym (joined_word ws at bits (omega arith)) ∙ same))

  pub grew-members : r ≡ true → members ws base width < members vs base width
  grew-members e =
      subst (λ z. members ws base width < members z base width) (sym j.slice)
      (differs-members ws (joined ws at bits) base width words (words-joined ws at bits words fits) more_bits (grew-differs e))
