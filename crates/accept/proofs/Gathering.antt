-- A word that is made of bytes has their bits eight apart, and `gather` puts the lowest bit of each side by side: place j of the result takes from the eight shifts by multiples of 7 the one that brings bit 8 j. So the word of a set is
-- made eight arrays at a time. By the laws of bits, and a test of the mask of ones that antt computes.
use Prim.Native.Nat.{ℕ, zero, suc, ◌+◌, ◌-◌, ◌*◌, ◌/◌, ◌%◌, ◌^◌, ◌≤◌, ◌<◌, min, max}
use mathlib.Core.Bool.{Bool, cond}
use mathlib.Core.List.{List}
use mathlib.Core.Path.{◌≡◌, refl, sym, ap, ap₂, subst, ◌∙◌}
use native.Mathlib.Decide.{dec_lt, ℕ_discrete}
use native.Mathlib.Nat.{add-zero, zero-add, le_refl, mul-suc, pow-suc, div-one}
use native.Mathlib.Numerals.{add-one}
use native.Mathlib.Omega.{arith}
use borrow.Author.Tests.{eq-eqb, ne_eqb, lt-ltb, le-ltb}
use lib.Bits.{bit_and, bit_or}
use lib.Dec.{eqb, ltb, eqb→eq, lit<}
use lib.ListN.{length, get_or}
use Rattle.std.specs.List.{between}
use Rattle.std.proofs.lemmas.List.Edits.{length-between, get_or-between}
use Rattle.words.specs.Clauses.Row.{bit}
use Rattle.words.proofs.Bit.{bit-lt, bit-shr, bit-or, bit-and, bit-mod, bit_high, bit_of_zero}
use Rattle.masks.proofs.Finite.{every_below, at-below}
use Rattle.flow.specs.Format.{le_at}
use Rattle.accept.specs.Clauses.Rows.{Gathered, SetOf, SetsOf}

-- the same test for a number and one more

ltb_suc : (j k : ℕ) → ltb (suc j) (suc k) ≡ ltb j k
ltb_suc j k = go (dec_lt j k)
  where
    go : Dec (j < k) → ltb (suc j) (suc k) ≡ ltb j k
    go (yes l) = lt-ltb (suc j) (suc k) (omega arith) ∙ sym (lt-ltb j k l)
    go (no l) = le-ltb (suc j) (suc k) (omega (arith, l)) ∙ sym (le-ltb j k (omega (arith, l)))

-- bit t of byte j of a number of k bytes
pub le-bit : (s : List ℕ) (k at j t : ℕ) → ((a : ℕ) → a < k → get_or s (at + a) 0 < 256) → t < 8 → bit (le_at k s at) (t + 8 * j) ≡ cond (ltb j k) (bit (get_or s (at + j) 0) t) 0
unfolding le_at
le-bit s zero at j t h l = bit_of_zero (t + 8 * j) ∙ sym (ap (λ b. cond b (bit (get_or s (at + j) 0) t) 0) (le-ltb j 0 (omega arith)))
le-bit s (suc k) at zero t h l =
    let first : get_or s at 0 < 256 = subst (λ (x : ℕ). get_or s x 0 < 256) (omega arith) (h 0 (omega arith)) in
    let low : le_at (suc k) s at % 256 ≡ get_or s at 0 = omega arith in
    let here : t + 8 * 0 ≡ t = omega arith in
    ap (bit (le_at (suc k) s at)) here ∙ sym (bit-mod 8 (le_at (suc k) s at) t l) ∙ ap (λ (x : ℕ). bit x t) low
    ∙ sym (ap₂ (λ (b : Bool) (x : ℕ). cond b (bit (get_or s x 0) t) 0) (lt-ltb 0 (suc k) (omega arith)) (omega arith))
le-bit s (suc k) at (suc j) t h l =
    let first : get_or s at 0 < 256 = subst (λ (x : ℕ). get_or s x 0 < 256) (omega arith) (h 0 (omega arith)) in
    let rest : le_at (suc k) s at / 2 ^ 8 ≡ le_at k s (at + 1) = omega arith in
    let place : t + 8 * suc j ≡ 8 + (t + 8 * j) = omega (arith, mul-suc 8 j) in
    let next : at + 1 + j ≡ at + suc j = omega (arith, add-one j) in
    ap (bit (le_at (suc k) s at)) place ∙ sym (bit-shr (le_at (suc k) s at) 8 (t + 8 * j)) ∙ ap (λ (x : ℕ). bit x (t + 8 * j)) rest
    ∙ le-bit s k (at + 1) j t (λ a m. subst (λ (x : ℕ). get_or s x 0 < 256) (omega (arith, add-one a)) (h (suc a) (omega arith))) l
    ∙ ap₂ (λ (b : Bool) (x : ℕ). cond b (bit (get_or s x 0) t) 0) (sym (ltb_suc j k)) next

-- a number of k bytes goes by its bytes, wherever they stand
pub le-same : (k : ℕ) (q s : List ℕ) (i at : ℕ) → ((j : ℕ) → j < k → get_or q (i + j) 0 ≡ get_or s (at + j) 0) → le_at k q i ≡ le_at k s at
unfolding le_at
le-same zero q s i at same = refl
le-same (suc k) q s i at same =
    let near : (j : ℕ) → i + suc j ≡ i + 1 + j = λ j. omega (arith, add-one j) in
    let there : (j : ℕ) → at + suc j ≡ at + 1 + j = λ j. omega (arith, add-one j) in
    let first : get_or q i 0 ≡ get_or s at 0 = sym (ap (λ (x : ℕ). get_or q x 0) (add-zero i)) ∙ same 0 (omega arith) ∙ ap (λ (x : ℕ). get_or s x 0) (add-zero at) in
    let rest : le_at k q (i + 1) ≡ le_at k s (at + 1) =
    le-same k q s (i + 1) (at + 1) (λ j l. sym (ap (λ (x : ℕ). get_or q x 0) (near j)) ∙ same (suc j) (omega arith) ∙ ap (λ (x : ℕ). get_or s x 0) (there j)) in
    omega arith

-- a number of w bytes is below 256 ^ w
pub le-small : (w : ℕ) (s : List ℕ) (at : ℕ) → ((a : ℕ) → a < w → get_or s (at + a) 0 < 256) → le_at w s at < 256 ^ w
unfolding le_at
le-small zero s at h = omega arith
le-small (suc w) s at h =
    let first : get_or s at 0 < 256 = subst (λ (x : ℕ). get_or s x 0 < 256) (omega arith) (h 0 (omega arith)) in
    omega (arith, first, le-small w s (at + 1) (λ a l. subst (λ (x : ℕ). get_or s x 0 < 256) (omega (arith, add-one a)) (h (suc a) (omega arith))), pow-suc 256 w)

-- the bytes from group g on
pub le-last : (s : List ℕ) (g : ℕ) → 8 * g ≤ length s → let q : List ℕ = between (8 * g) (length s) s in le_at (length q) q 0 ≡ le_at (length s - 8 * g) s (8 * g)
le-last s g l =
    let q : List ℕ = between (8 * g) (length s) s in
    let size : length q ≡ length s - 8 * g = length-between s (8 * g) (length s) (le_refl (length s)) in
    le-same (length q) q s 0 (8 * g) (λ j m. get_or-between s (8 * g) (length s) (0 + j) 0 (omega arith) ∙ ap (λ (x : ℕ). get_or s (8 * g + x) 0) (zero-add j))
    ∙ ap (λ (n : ℕ). le_at n s (8 * g)) size

-- a one in each byte
abbrev pub ones : ℕ
ones = 72340172838076673

-- of the shift by 7 m, place j is bit 8 j where m is j, and else 0
picked : (word m j : ℕ) → m < 8 → j < 8 → bit (bit_and word ones) (7 * m + j) ≡ cond (eqb m j) (bit word (8 * j)) 0
unfolding bit
picked word m j l b = bit-and word ones (7 * m + j) ∙ ap (min (bit word (7 * m + j))) mask ∙ go (ℕ_discrete m j)
  where
    mask : bit ones (7 * m + j) ≡ cond (eqb m j) 1 0
    mask =
        eqb→eq _ _ (at-below 8 (λ j. eqb (bit ones (7 * m + j)) (cond (eqb m j) 1 0)) (at-below 8 (λ m. every_below 8 (λ j. eqb (bit ones (7 * m + j)) (cond (eqb m j) 1 0))) tt m l) j b)

    go : Dec (m ≡ j) → min (bit word (7 * m + j)) (cond (eqb m j) 1 0) ≡ cond (eqb m j) (bit word (8 * j)) 0
    go (yes e) =
        let place : 7 * m + j ≡ 8 * j = omega arith in
        let most = bit-lt word (7 * m + j) in
        ap (λ (c : Bool). min (bit word (7 * m + j)) (cond c 1 0)) (eq-eqb m j e) ∙ omega arith ∙ ap (bit word) place ∙ sym (ap (λ (c : Bool). cond c (bit word (8 * j)) 0) (eq-eqb m j e))
    go (no e) = ap (λ (c : Bool). min (bit word (7 * m + j)) (cond c 1 0)) (ne_eqb m j e) ∙ omega arith ∙ sym (ap (λ (c : Bool). cond c (bit word (8 * j)) 0) (ne_eqb m j e))

abbrev pairs : ℕ → ℕ
pairs x = bit_or x (x / 2 ^ 7)

abbrev fours : ℕ → ℕ
fours x = bit_or (pairs x) (pairs x / 2 ^ 14)

abbrev pub gathered : ℕ → ℕ
gathered x = bit_or (fours x) (fours x / 2 ^ 28) % 256

-- the largest of eight
abbrev most : (ℕ → ℕ) → ℕ
most f = max (max (max (f 0) (f 1)) (max (f 2) (f 3))) (max (max (f 4) (f 5)) (max (f 6) (f 7)))

-- what comes to place j of the shifts
eight : (x j : ℕ) → j < 8 → bit (gathered x) j ≡ most (λ m. bit x (7 * m + j))
eight x j l =
    bit-mod 8 (bit_or (fours x) (fours x / 2 ^ 28)) j l ∙ bit-or (fours x) (fours x / 2 ^ 28) j
    ∙ ap₂ max (four j) (bit-shr (fours x) 28 j ∙ four (28 + j))
    ∙ ap₂ max
    (ap₂ max (ap₂ max (same 0 j (omega arith)) (same 1 (7 + j) (omega arith))) (ap₂ max (same 2 (14 + j) (omega arith)) (same 3 (7 + (14 + j)) (omega arith))))
    (ap₂ max (ap₂ max (same 4 (28 + j) (omega arith)) (same 5 (7 + (28 + j)) (omega arith))) (ap₂ max (same 6 (14 + (28 + j)) (omega arith)) (same 7 (7 + (14 + (28 + j))) (omega arith))))
  where
    pair : (k : ℕ) → bit (pairs x) k ≡ max (bit x k) (bit x (7 + k))
    pair k = bit-or x (x / 2 ^ 7) k ∙ ap (max (bit x k)) (bit-shr x 7 k)

    four : (k : ℕ) → bit (fours x) k ≡ max (max (bit x k) (bit x (7 + k))) (max (bit x (14 + k)) (bit x (7 + (14 + k))))
    four k = bit-or (pairs x) (pairs x / 2 ^ 14) k ∙ ap₂ max (pair k) (bit-shr (pairs x) 14 k ∙ pair (14 + k))

    same : (m k : ℕ) → k ≡ 7 * m + j → bit x k ≡ bit x (7 * m + j)
    same m k e = ap (bit x) e

-- one of the eight alone
only : (v j : ℕ) → v < 2 → j < 8 → most (λ m. cond (eqb m j) v 0) ≡ v
only v j h l =
    eqb→eq _ _ (at-below 8 (λ j. eqb (most (λ m. cond (eqb m j) v 0)) v) (at-below 2 (λ v. every_below 8 (λ j. eqb (most (λ m. cond (eqb m j) v 0)) v)) tt v h) j l)

pub gathers : (word : ℕ) → Gathered word (gathered (bit_and word ones))
gathers word = record {
  low = λ j l.
      let p : (m : ℕ) → m < 8 → bit (bit_and word ones) (7 * m + j) ≡ cond (eqb m j) (bit word (8 * j)) 0 = λ m k. picked word m j k l in
      eight (bit_and word ones) j l
      ∙ ap₂ max (ap₂ max (ap₂ max (p 0 (lit< tt)) (p 1 (lit< tt))) (ap₂ max (p 2 (lit< tt)) (p 3 (lit< tt)))) (ap₂ max (ap₂ max (p 4 (lit< tt)) (p 5 (lit< tt))) (ap₂ max (p 6 (lit< tt)) (p 7 (lit< tt))))
      ∙ only (bit word (8 * j)) j (bit-lt word (8 * j)) l;
  high = λ j l. bit_high {n = gathered (bit_and word ones)} {j = 8} j (omega arith) l;
}

-- The word of a set, eight arrays at a time

module _ (s : List ℕ) (t : ℕ) (small : t < 8) (bytes : (a : ℕ) → a < length s → get_or s a 0 < 256) where
  -- the last group, which is short: its word, moved to the state's bit and gathered
  set_last : (g r word : ℕ) → length s ≡ 8 * g + r → r < 8 → Gathered (le_at r s (8 * g) / 2 ^ t) word → SetOf s t (8 * g) word
  set_last g r word e b h j l = go (dec_lt j 8)
    where
      go : Dec (j < 8) → bit word j ≡ cond (ltb (8 * g + j) (length s)) (bit (get_or s (8 * g + j) 0) t) 0
      go (yes m) =
          h.low j m ∙ bit-shr (le_at r s (8 * g)) t (8 * j)
          ∙ le-bit s r (8 * g) j t (λ a c. bytes (8 * g + a) (omega arith)) small
          ∙ ap (λ (c : Bool). cond c (bit (get_or s (8 * g + j) 0) t) 0) (within (dec_lt j r))
        where
          within : Dec (j < r) → ltb j r ≡ ltb (8 * g + j) (length s)
          within (yes c) = lt-ltb j r c ∙ sym (lt-ltb (8 * g + j) (length s) (omega arith))
          within (no c) = le-ltb j r (omega (arith, c)) ∙ sym (le-ltb (8 * g + j) (length s) (omega (arith, c)))
      go (no m) =
          h.high j (omega (arith, m)) ∙ sym (ap (λ (c : Bool). cond c (bit (get_or s (8 * g + j) 0) t) 0) (le-ltb (8 * g + j) (length s) (omega (arith, m))))

  -- the eight arrays before
  set_before : (g old new : ℕ) → 8 * g + 8 ≤ length s → SetOf s t (8 * (g + 1)) old → Gathered (le_at 8 s (8 * g) / 2 ^ t) new
      → SetOf s t (8 * g) (bit_or (old * 2 ^ 8 % 2 ^ 64) new)
  set_before g old new room later h j l = bit-or (old * 2 ^ 8 % 2 ^ 64) new j ∙ go (dec_lt j 8)
    where
      moved : bit (old * 2 ^ 8 % 2 ^ 64) j ≡ bit (old * 2 ^ 8) j
      moved = bit-mod 64 (old * 2 ^ 8) j (omega arith)

      go : Dec (j < 8) → max (bit (old * 2 ^ 8 % 2 ^ 64) j) (bit new j) ≡ cond (ltb (8 * g + j) (length s)) (bit (get_or s (8 * g + j) 0) t) 0
      go (yes m) =
          let none : bit (old * 2 ^ 8) j ≡ 0 = sym (bit-mod 8 (old * 2 ^ 8) j m) ∙ ap (λ (x : ℕ). bit x j) (omega arith) ∙ bit_of_zero j in
          let own : bit new j ≡ cond (ltb j 8) (bit (get_or s (8 * g + j) 0) t) 0 =
          h.low j m ∙ bit-shr (le_at 8 s (8 * g)) t (8 * j)
          ∙ le-bit s 8 (8 * g) j t (λ a c. bytes (8 * g + a) (omega arith)) small in
          let here : cond (ltb j 8) (bit (get_or s (8 * g + j) 0) t) 0 ≡ cond (ltb (8 * g + j) (length s)) (bit (get_or s (8 * g + j) 0) t) 0 =
          ap (λ (c : Bool). cond c (bit (get_or s (8 * g + j) 0) t) 0) (lt-ltb j 8 m ∙ sym (lt-ltb (8 * g + j) (length s) (omega arith))) in
          omega (arith, moved, none, own, here)
      go (no m) =
          let k : ℕ = j - 8 in
          let place : j ≡ 8 + k = omega (arith, m) in
          let old_bit : bit (old * 2 ^ 8) j ≡ bit old k = ap (bit (old * 2 ^ 8)) place ∙ sym (bit-shr (old * 2 ^ 8) 8 k) ∙ ap (λ (x : ℕ). bit x k) (omega arith) in
          let group : 8 * (g + 1) + k ≡ 8 * g + j = omega (arith, m) in
          let was : bit old k ≡ cond (ltb (8 * g + j) (length s)) (bit (get_or s (8 * g + j) 0) t) 0 =
          later k (omega (arith, m)) ∙ ap (λ (x : ℕ). cond (ltb x (length s)) (bit (get_or s x 0) t) 0) group in
          let none : bit new j ≡ 0 = h.high j (omega (arith, m)) in
          omega (arith, moved, old_bit, was, none)

-- all three sets at once

module _ (s : List ℕ) (bytes : (a : ℕ) → a < length s → get_or s a 0 < 256) where
  pub sets_last : (g r word none auto dimmed : ℕ) → length s ≡ 8 * g + r → r < 8 → word ≡ le_at r s (8 * g) → Gathered word none → Gathered (word / 2 ^ 1) auto → Gathered (word / 2 ^ 2) dimmed
      → SetsOf s (8 * g) none auto dimmed
  sets_last g r word none auto dimmed e l is x y z = record {
    none_is = set_last s 0 (lit< tt) bytes g r none e l (subst (λ (v : ℕ). Gathered (v / 2 ^ 0) none) is (subst (λ (v : ℕ). Gathered v none) (sym (div-one word)) x));
    auto_is = set_last s 1 (lit< tt) bytes g r auto e l (subst (λ (v : ℕ). Gathered (v / 2 ^ 1) auto) is y);
    dimmed_is = set_last s 2 (lit< tt) bytes g r dimmed e l (subst (λ (v : ℕ). Gathered (v / 2 ^ 2) dimmed) is z);
  }

  pub sets-before : (g word none auto dimmed x y z : ℕ) → 8 * g + 8 ≤ length s → SetsOf s (8 * (g + 1)) none auto dimmed → word ≡ le_at 8 s (8 * g)
      → Gathered word x → Gathered (word / 2 ^ 1) y → Gathered (word / 2 ^ 2) z
      → SetsOf s (8 * g) (bit_or (none * 2 ^ 8 % 2 ^ 64) x) (bit_or (auto * 2 ^ 8 % 2 ^ 64) y) (bit_or (dimmed * 2 ^ 8 % 2 ^ 64) z)
  sets-before g word none auto dimmed x y z room h is p q r = record {
    none_is = set_before s 0 (lit< tt) bytes g none x room h.none_is (subst (λ (v : ℕ). Gathered (v / 2 ^ 0) x) is (subst (λ (v : ℕ). Gathered v x) (sym (div-one word)) p));
    auto_is = set_before s 1 (lit< tt) bytes g auto y room h.auto_is (subst (λ (v : ℕ). Gathered (v / 2 ^ 1) y) is q);
    dimmed_is = set_before s 2 (lit< tt) bytes g dimmed z room h.dimmed_is (subst (λ (v : ℕ). Gathered (v / 2 ^ 2) z) is r);
  }
