-- Words of a row written one after the other, the lowest first: each word, the words outside, and what it means that the row differs.
-- By induction on the words of the row. Assumes nothing.
use mathlib.Core.Path.{◌≡◌, refl, sym, ap₂, ◌∙◌, subst}
use mathlib.Core.Bool.{Bool, true, false, not, ◌||◌, true≢false}
use mathlib.Core.List.{List}
use mathlib.Core.Logic.{◌≢◌}
use Prim.Native.Nat.{ℕ, zero, suc, ◌+◌, ◌-◌, ◌*◌, ◌^◌, ◌≤◌, ◌<◌}
use native.Mathlib.Nat.{not-suc-le-zero, le_refl}
use native.Mathlib.Decide.{dec_lt, ℕ_discrete}
use native.Mathlib.Omega.{arith}
use borrow.Author.Tests.{eq-eqb, eqb-true, not-false}
use lib.ListN.{length, get_or, set, length-set}
use lib.Dec.{eqb}
use lib.Seq.{get_or-set_same, get_or-set_other, ext_get_or}
use Rattle.words.specs.Clauses.Row.{has, Words, members}
use Rattle.words.specs.Clauses.Change.{rewritten, differs}
use Rattle.words.proofs.Bit.{bits_below}
use Rattle.words.proofs.Tally.{tally-mono, tally-eq}
use Rattle.words.proofs.Row.{has_word, words-set}

pub length-rewritten : (f : List ℕ → ℕ → ℕ) (ws : List ℕ) (base width : ℕ) → length (rewritten f ws base width) ≡ length ws
unfolding rewritten
length-rewritten f ws base zero = refl
length-rewritten f ws base (suc k) = length-set (rewritten f ws base k) (base + k) (f (rewritten f ws base k) k) ∙ length-rewritten f ws base k

-- a word that is not in the row stays
pub rewritten-other : (f : List ℕ → ℕ → ℕ) (ws : List ℕ) (base width x : ℕ) → ((k : ℕ) → k < width → x ≢ base + k) → get_or (rewritten f ws base width) x 0 ≡ get_or ws x 0
unfolding rewritten
rewritten-other f ws base zero x h = refl
rewritten-other f ws base (suc w) x h =
    get_or-set_other (rewritten f ws base w) (base + w) x (f (rewritten f ws base w) w) 0 (h w (le_refl (suc w)))
    ∙ rewritten-other f ws base w x (λ k l. h k (omega arith))

-- word k of the row is what was written for it
pub rewritten-word : (f : List ℕ → ℕ → ℕ) (ws : List ℕ) (base width k : ℕ) → base + width ≤ length ws → k < width
    → get_or (rewritten f ws base width) (base + k) 0 ≡ f (rewritten f ws base k) k
unfolding rewritten
rewritten-word f ws base zero k h l = absurd (not-suc-le-zero l)
rewritten-word f ws base (suc w) k h l = at (rewritten-word f ws base w k) (ℕ_discrete k w)
  where
    at : (base + w ≤ length ws → k < w → get_or (rewritten f ws base w) (base + k) 0 ≡ f (rewritten f ws base k) k)
        → Dec (k ≡ w) → get_or (set (rewritten f ws base w) (base + w) (f (rewritten f ws base w) w)) (base + k) 0 ≡ f (rewritten f ws base k) k
    at rest (yes e) = rw e (get_or-set_same (rewritten f ws base w) (base + w) (f (rewritten f ws base w) w) 0 (omega (arith, length-rewritten f ws base w)))
    at rest (no d) =
        get_or-set_other (rewritten f ws base w) (base + w) (base + k) (f (rewritten f ws base w) w) 0 (omega (arith, d))
        ∙ rest (omega arith) (omega (arith, d))

pub words-rewritten : (f : List ℕ → ℕ → ℕ) (ws : List ℕ) (base width : ℕ) → Words ws → ((vs : List ℕ) (k : ℕ) → Words vs → f vs k < 2 ^ 64)
    → Words (rewritten f ws base width)
unfolding rewritten
words-rewritten f ws base zero w h = w
words-rewritten f ws base (suc k) w h =
    words-set (rewritten f ws base k) (base + k) (f (rewritten f ws base k) k) (words-rewritten f ws base k w h)
    (h (rewritten f ws base k) k (words-rewritten f ws base k w h))

-- it goes by the row's words alone
pub differs-cong : (ws vs us : List ℕ) (base width : ℕ) → ((k : ℕ) → k < width → get_or vs (base + k) 0 ≡ get_or us (base + k) 0)
    → differs ws vs base width ≡ differs ws us base width
unfolding differs
differs-cong ws vs us base zero h = refl
differs-cong ws vs us base (suc w) h =
    ap₂ (λ (a : Bool) (x : ℕ). a || not (eqb x (get_or ws (base + w) 0)))
    (differs-cong ws vs us base w (λ k l. h k (omega arith))) (h w (le_refl (suc w)))

pub differs_self : (ws : List ℕ) (base width : ℕ) → differs ws ws base width ≡ false
unfolding differs
differs_self ws base zero = refl
differs_self ws base (suc w) = rw (differs_self ws base w, eq-eqb (get_or ws (base + w) 0) (get_or ws (base + w) 0) refl)

or-false-left : (a b : Bool) → (a || b) ≡ false → a ≡ false
or-false-left true b e = e
or-false-left false b e = refl

or-false-right : (a b : Bool) → (a || b) ≡ false → b ≡ false
or-false-right true b e = absurd (true≢false e)
or-false-right false b e = e

pub differs_false : (ws vs : List ℕ) (base width : ℕ) → differs ws vs base width ≡ false → (k : ℕ) → k < width → get_or vs (base + k) 0 ≡ get_or ws (base + k) 0
unfolding differs
differs_false ws vs base zero e k l = absurd (not-suc-le-zero l)
differs_false ws vs base (suc w) e k l = at (differs_false ws vs base w (or-false-left (differs ws vs base w) _ e)) (ℕ_discrete k w)
  where
    at : ((j : ℕ) → j < w → get_or vs (base + j) 0 ≡ get_or ws (base + j) 0) → Dec (k ≡ w) → get_or vs (base + k) 0 ≡ get_or ws (base + k) 0
    at rest (yes p) = rw p (eqb-true (get_or vs (base + w) 0) (get_or ws (base + w) 0) (not-false _ (or-false-right (differs ws vs base w) _ e)))
    at rest (no d) = rest k (omega (arith, d))

-- a slice of which only a row was written, and the row has not changed, is as it was
pub rewritten-same : (f : List ℕ → ℕ → ℕ) (ws : List ℕ) (base width : ℕ) → differs ws (rewritten f ws base width) base width ≡ false → rewritten f ws base width ≡ ws
rewritten-same f ws base width e = ext_get_or 0 (rewritten f ws base width) ws (length-rewritten f ws base width) (λ x l. at x (dec_lt x base) (dec_lt x (base + width)))
  where
    at : (x : ℕ) → Dec (x < base) → Dec (x < base + width) → get_or (rewritten f ws base width) x 0 ≡ get_or ws x 0
    at x (yes a) b = rewritten-other f ws base width x (λ k l. omega arith)
    at x (no a) (no b) = rewritten-other f ws base width x (λ k l. omega (arith, b))
    at x (no a) (yes b) =
        let place : base + (x - base) ≡ x = omega (arith, a) in
        subst (λ (y : ℕ). get_or (rewritten f ws base width) y 0 ≡ get_or ws y 0) place
        (differs_false ws (rewritten f ws base width) base width e (x - base) (omega (arith, a)))

-- a row that lost nothing and changed has more members
pub differs-members : (ws vs : List ℕ) (base width : ℕ) → Words ws → Words vs → ((i : ℕ) → i < 64 * width → has ws base i ≤ has vs base i)
    → differs ws vs base width ≡ true → members ws base width < members vs base width
unfolding members
differs-members ws vs base width ww wv h e = at (dec_lt (members ws base width) (members vs base width))
  where
    mono : members ws base width ≤ members vs base width
    mono = tally-mono (has ws base) (has vs base) (64 * width) h

    at : Dec (members ws base width < members vs base width) → members ws base width < members vs base width
    at (yes l) = l
    at (no l) =
        let same : (i : ℕ) → i < 64 * width → has ws base i ≡ has vs base i = tally-eq (has ws base) (has vs base) (64 * width) h (omega (arith, mono, l)) in
        let word : (k : ℕ) → k < width → get_or vs (base + k) 0 ≡ get_or ws (base + k) 0 =
        λ k lt. sym (bits_below 64 (get_or ws (base + k) 0) (get_or vs (base + k) 0) (ww (base + k)) (wv (base + k))
        (λ j l. sym (has_word ws base k j l) ∙ same (64 * k + j) (omega arith) ∙ has_word vs base k j l)) in
        absurd (true≢false (sym e ∙ differs-cong ws vs ws base width word ∙ differs_self ws base width))
