-- The union of a row into another: each word, the words outside, what the row then has, and that a row that grew has more members.
-- A word of `from` that is read before it is written is the one of the slice at first. Assumes nothing.
use mathlib.Core.Path.{◌≡◌, refl, sym, ap, ap₂, ◌∙◌, subst}
use mathlib.Core.Bool.{Bool, true, false, not, ◌||◌}
use mathlib.Core.List.{List}
use mathlib.Core.Logic.{◌≢◌}
use Prim.Native.Nat.{ℕ, ◌+◌, ◌*◌, ◌/◌, ◌%◌, ◌≤◌, ◌<◌, zero-le, max}
use native.Mathlib.Numerals.{add-one}
use native.Mathlib.Omega.{arith}
use lib.Bits.{bit_or, or_lt}
use lib.ListN.{length, get_or}
use lib.Dec.{eqb}
use Rattle.words.specs.Clauses.Row.{bit, has, Words, members}
use Rattle.words.specs.Clauses.Change.{joined, Joined, Unioned, rewritten, unioned, ReadFirst, differs}
use Rattle.words.proofs.Bit.{bit-or}
use Rattle.words.proofs.Tally.{tally-cong, tally-mono}
use Rattle.words.proofs.Inserted.{length-joined, joined_word, joined-other}
use Rattle.words.proofs.Rewritten.{length-rewritten, rewritten-other, rewritten-word, words-rewritten, differs-cong, rewritten-same, differs-members}

module _ (ws : List ℕ) (to from width : ℕ) where
  pub length-unioned : length (unioned ws to from width) ≡ length ws
  unfolding unioned
  length-unioned = length-rewritten _ ws to width

  pub words-unioned : Words ws → Words (unioned ws to from width)
  unfolding unioned
  words-unioned w = words-rewritten _ ws to width w (λ vs k h. or_lt 64 (get_or vs (to + k) 0) (get_or vs (from + k) 0) (h (to + k)) (h (from + k)))

  -- a word that is not in the row at `to` stays
  pub unioned-other : (x : ℕ) → ((k : ℕ) → k < width → x ≢ to + k) → get_or (unioned ws to from width) x 0 ≡ get_or ws x 0
  unfolding unioned
  unioned-other x h = rewritten-other _ ws to width x h

  -- where the row does not differ, nothing changed
  unioned-same : differs ws (unioned ws to from width) to width ≡ false → unioned ws to from width ≡ ws
  unfolding unioned
  unioned-same e = rewritten-same _ ws to width e

  module _ (fits : to + width ≤ length ws) (apart : ReadFirst to from width) where
    pub unioned-word : (k : ℕ) → k < width → get_or (unioned ws to from width) (to + k) 0 ≡ bit_or (get_or ws (to + k) 0) (get_or ws (from + k) 0)
    unfolding unioned
    unioned-word k l =
        rewritten-word _ ws to width k fits l
        ∙ ap₂ bit_or (rewritten-other _ ws to k (to + k) (λ j lt. omega arith)) (rewritten-other _ ws to k (from + k) (λ j lt. apart j k lt l))

    -- the row has what either row had
    pub unioned-has : (i : ℕ) → i < 64 * width → has (unioned ws to from width) to i ≡ max (has ws to i) (has ws from i)
    unfolding has
    unioned-has i l =
        ap (λ (w : ℕ). bit w (i % 64)) (unioned-word (i / 64) (omega arith))
        ∙ bit-or (get_or ws (to + i / 64) 0) (get_or ws (from + i / 64) 0) (i % 64)

    grows : (i : ℕ) → i < 64 * width → has ws to i ≤ has (unioned ws to from width) to i
    grows i l = omega (arith, unioned-has i l)

    pub unioned-members : members ws to width ≤ members (unioned ws to from width) to width
    unfolding members
    unioned-members = tally-mono (has ws to) (has (unioned ws to from width) to) (64 * width) grows

    -- where it differs, it has more members
    unioned-grew : Words ws → differs ws (unioned ws to from width) to width ≡ true → members ws to width < members (unioned ws to from width) to width
    unioned-grew w e = differs-members ws (unioned ws to from width) to width w (words-unioned w) grows e

    -- a row that has all that the other has stays
    pub unioned-within : Words ws → ((i : ℕ) → i < 64 * width → has ws from i ≤ has ws to i) → unioned ws to from width ≡ ws
    unfolding members
    unioned-within w h = at (differs ws (unioned ws to from width) to width) refl
      where
        same : members (unioned ws to from width) to width ≡ members ws to width
        same =
            tally-cong (has (unioned ws to from width) to) (has ws to) (64 * width) (λ i l. omega (arith, unioned-has i l, h i l))

        at : (b : Bool) → differs ws (unioned ws to from width) to width ≡ b → unioned ws to from width ≡ ws
        at true e = absurd (omega (arith, same, unioned-grew w e))
        at false e = unioned-same e

-- a union that did not grow changed nothing
pub union_same : {ws vs : List ℕ} {to from width : ℕ} {r : Bool} → Unioned ws vs to from width r → r ≡ false → vs ≡ ws
union_same {ws} {vs} {to} {from} {width} u e =
    u.slice ∙ unioned-same ws to from width (sym (ap (λ (us : List ℕ). differs ws us to width) u.slice) ∙ sym u.grew ∙ e)

-- a union that grew has more members
pub union_grew : {ws vs : List ℕ} {to from width : ℕ} {r : Bool} → Unioned ws vs to from width r → to + width ≤ length ws → ReadFirst to from width → Words ws
    → r ≡ true → members ws to width < members vs to width
union_grew {ws} {vs} {to} {from} {width} u fits apart w e =
    subst (λ (us : List ℕ). members ws to width < members us to width) (sym u.slice)
    (unioned-grew ws to from width fits apart w (sym (ap (λ (us : List ℕ). differs ws us to width) u.slice) ∙ sym u.grew ∙ e))

-- how far the union of rows has come after k words
pub record Joining (ws₀ : List ℕ) (to from width : ℕ) (ws : List ℕ) (grew : Bool) (k : ℕ) : Type 0 where
  pub below : k ≤ width
  pub slice : ws ≡ unioned ws₀ to from k
  pub long : length ws ≡ length ws₀
  pub grown : grew ≡ differs ws₀ ws to k

pub joining_none : (ws : List ℕ) (to from width : ℕ) → Joining ws to from width ws false 0
unfolding unioned rewritten differs
joining_none ws to from width = record { below = zero-le; slice = refl; long = refl; grown = refl }

pub joining_more : {ws₀ ws vs : List ℕ} {to from width k : ℕ} {grew r : Bool} → Joining ws₀ to from width ws grew k → to + width ≤ length ws₀ → k < width
    → Joined ws vs (to + k) (get_or ws (from + k) 0) r → Joining ws₀ to from width vs (grew || r) (k + 1)
unfolding unioned rewritten differs joined
joining_more {ws₀} {ws} {vs} {to} {from} {width} {k} {grew} {r} s fits l j =
    let bits : ℕ = get_or ws (from + k) 0 in
    let inside : to + k < length ws = omega (arith, s.long) in
    let was : get_or ws (to + k) 0 ≡ get_or ws₀ (to + k) 0 = ap (λ (us : List ℕ). get_or us (to + k) 0) s.slice ∙ unioned-other ws₀ to from k (to + k) (λ i lt. omega arith) in
    let is : get_or vs (to + k) 0 ≡ bit_or (get_or ws (to + k) 0) bits = ap (λ (us : List ℕ). get_or us (to + k) 0) j.slice ∙ joined_word ws (to + k) bits inside in
    let before : differs ws₀ ws to k ≡ differs ws₀ vs to k =
    differs-cong ws₀ ws vs to k (λ i lt. sym (ap (λ (us : List ℕ). get_or us (to + i) 0) j.slice ∙ joined-other ws (to + k) bits (to + i) (omega arith))) in
    record {
      below = omega arith;
      slice = j.slice ∙ ap (λ (us : List ℕ). joined us (to + k) (get_or us (from + k) 0)) s.slice ∙ ap (unioned ws₀ to from) (sym (add-one k));
      long = ap length j.slice ∙ length-joined ws (to + k) bits ∙ s.long;
      grown = ap₂ ◌||◌ (s.grown ∙ before) (j.grew ∙ ap₂ (λ (x y : ℕ). not (eqb x y)) (sym is) was) ∙ ap (differs ws₀ vs to) (sym (add-one k));
    }
