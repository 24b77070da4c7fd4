-- A set of names as a word: bit x of `names_word` is the test at x, the word is below 2 ^ names, and no other word below that has these bits.
-- By induction on the number of names: the top name is the top bit. Assumes nothing.
use Prim.Native.Nat.{ℕ, zero, suc, ◌+◌, ◌*◌, ◌-◌, ◌/◌, ◌%◌, ◌^◌, ◌<◌}
use mathlib.Core.Bool.{Bool, true, false}
use mathlib.Core.Path.{◌≡◌, refl, sym, ◌∙◌, ap, subst}
use native.Mathlib.Nat.{two-pow-succ, pow-succ', add-mul-div_right, div-eq_of_lt, div-lt_iff_lt-mul, add-mul-mod_self_right, mod-lt, mod-add-div', mul_assoc, zero-add, zero-div}
use native.Mathlib.Omega.{arith}
use lib.Dec.{eqb}
use lib.Pow.{pow_pos, pow-add}
use borrow.Author.Tests.{eqb-true, eqb-false}
use Rattle.flow.specs.Flow.{Flow, size}
use Rattle.theory.specs.Lists.{sum_below}
use Rattle.theory.specs.Clauses.WellFormed.{WellFormed}
use Rattle.theory.specs.Live.{member, LiveIn, LiveOut, bit_of, names_word, is_live_in, is_live_out, live_in_word, live_out_word}
use Rattle.theory.proofs.Live.{is_live_in-sound, is_live_in-complete, is_live_out-sound, is_live_out-complete}

-- the word of the names below k
word_below : ℕ → (ℕ → Bool) → ℕ
word_below k p = sum_below k (λ x. bit_of (p x) * 2 ^ x)

word_lt : (k : ℕ) (p : ℕ → Bool) → word_below k p < 2 ^ k
unfolding word_below sum_below
word_lt zero p = omega arith
word_lt (suc k) p = go (p k) (word_lt k p)
  where
    go : (b : Bool) → word_below k p < 2 ^ k → word_below k p + bit_of b * 2 ^ k < 2 ^ suc k
    go true l = omega (arith, two-pow-succ k)
    go false l = omega (arith, two-pow-succ k)

-- a bit below the top bit does not see it
bit-under : (w b k x : ℕ) → x < k → (w + b * 2 ^ k) / 2 ^ x % 2 ≡ w / 2 ^ x % 2
bit-under w b k x l =
    let d : ℕ = k - suc x in
    let sum : k ≡ d + suc x = omega arith in
    let power : b * 2 ^ k ≡ b * 2 ^ d * 2 * 2 ^ x = ap (λ z. b * 2 ^ z) sum ∙ rw (pow-add 2 d (suc x), pow-succ' 2 x) (simp mul_assoc) in
    ap (λ z. (w + z) / 2 ^ x % 2) power
    ∙ ap (λ z. z % 2) (add-mul-div_right w (b * 2 ^ d * 2) (pow_pos x))
    ∙ add-mul-mod_self_right (w / 2 ^ x) (b * 2 ^ d) 2

bit_top : (w k : ℕ) (b : Bool) → w < 2 ^ k → (w + bit_of b * 2 ^ k) / 2 ^ k % 2 ≡ bit_of b
bit_top w k b l = ap (λ z. z % 2) (add-mul-div_right w (bit_of b) (pow_pos k) ∙ rw (div-eq_of_lt l) (zero-add (bit_of b))) ∙ small b
  where
    small : (b : Bool) → bit_of b % 2 ≡ bit_of b
    small true = refl
    small false = refl

one_bit : (b : Bool) → eqb (bit_of b) 1 ≡ b
one_bit true = refl
one_bit false = refl

word-member : (k : ℕ) (p : ℕ → Bool) (x : ℕ) → x < k → member (word_below k p) x ≡ p x
unfolding word_below sum_below
word-member zero p x l = absurd (omega arith)
word-member (suc k) p x l = go (eqb x k) refl (word-member k p x)
  where
    go : (b : Bool) → eqb x k ≡ b → (x < k → member (word_below k p) x ≡ p x) → member (word_below k p + bit_of (p k) * 2 ^ k) x ≡ p x
    go true e ih =
        subst (λ z. member (word_below k p + bit_of (p k) * 2 ^ k) z ≡ p z) (sym (eqb-true x k e))
        (ap (λ z. eqb z 1) (bit_top (word_below k p) k (p k) (word_lt k p)) ∙ one_bit (p k))
    go false e ih =
        let d : x ≡ k → ⊥ = eqb-false x k e in
        let under : x < k = omega arith in
        ap (λ z. eqb z 1) (bit-under (word_below k p) (bit_of (p k)) k x under) ∙ ih under

-- a number below two is the bit that its test says
top_bit : (w : ℕ) (b : Bool) → w < 2 → eqb (w % 2) 1 ≡ b → w ≡ bit_of b
top_bit w true l e = let o : w % 2 ≡ 1 = eqb-true (w % 2) 1 e in omega arith
top_bit w false l e = let z : w % 2 ≡ 1 → ⊥ = eqb-false (w % 2) 1 e in omega arith

word_unique : (k : ℕ) (p : ℕ → Bool) (w : ℕ) → w < 2 ^ k → ((x : ℕ) → x < k → member w x ≡ p x) → w ≡ word_below k p
unfolding word_below sum_below
word_unique zero p w l h = omega arith
word_unique (suc k) p w l h =
    let parts : w % 2 ^ k + w / 2 ^ k * 2 ^ k ≡ w = mod-add-div' w (2 ^ k) in
    let low : w % 2 ^ k ≡ word_below k p =
    word_unique k p (w % 2 ^ k) (mod-lt w (pow_pos k))
    (λ x x<k. ap (λ z. eqb z 1) (sym (bit-under (w % 2 ^ k) (w / 2 ^ k) k x x<k) ∙ ap (λ z. z / 2 ^ x % 2) parts) ∙ h x (omega arith)) in
    let top : w / 2 ^ k ≡ bit_of (p k) =
    top_bit (w / 2 ^ k) (p k) ((div-lt_iff_lt-mul (pow_pos k)).1 (omega (arith, two-pow-succ k))) (h k (omega arith)) in
    sym parts ∙ ap (λ z. z + w / 2 ^ k * 2 ^ k) low ∙ ap (λ z. word_below k p + z * 2 ^ k) top

module _ (f : Flow) (p : ℕ → Bool) where
  pub names_word-lt : names_word f p < 2 ^ f.names
  unfolding names_word word_below
  names_word-lt = word_lt f.names p

  pub names_word-member : (x : ℕ) → x < f.names → member (names_word f p) x ≡ p x
  unfolding names_word word_below
  names_word-member = word-member f.names p

  -- so a word below 2 ^ names with these bits is that word
  pub names_word_unique : (w : ℕ) → w < 2 ^ f.names → ((x : ℕ) → x < f.names → member w x ≡ p x) → w ≡ names_word f p
  unfolding names_word word_below
  names_word_unique = word_unique f.names p

-- a word without names
pub names_word-empty : (f : Flow) (p : ℕ → Bool) → ((x : ℕ) → p x ≡ false) → names_word f p ≡ 0
names_word-empty f p h = sym (names_word_unique f p 0 (pow_pos f.names) (λ x l. absent x ∙ sym (h x)))
  where
    absent : (x : ℕ) → member 0 x ≡ false
    absent x = simp zero-div

pub live_in_word-member : (f : Flow) (i x : ℕ) → x < f.names → member (live_in_word f i) x ≡ is_live_in f x i
unfolding live_in_word
live_in_word-member f i = names_word-member f (λ x. is_live_in f x i)

pub live_in_word-lt : (f : Flow) (i : ℕ) → live_in_word f i < 2 ^ f.names
unfolding live_in_word
live_in_word-lt f i = names_word-lt f (λ x. is_live_in f x i)

pub live_out_word-member : (f : Flow) (i x : ℕ) → x < f.names → member (live_out_word f i) x ≡ is_live_out f x i
unfolding live_out_word
live_out_word-member f i = names_word-member f (λ x. is_live_out f x i)

pub live_out_word-lt : (f : Flow) (i : ℕ) → live_out_word f i < 2 ^ f.names
unfolding live_out_word
live_out_word-lt f i = names_word-lt f (λ x. is_live_out f x i)

-- Live sets by walks: a bit is set exactly when the name is live

pub live_in_word-sound : (f : Flow) (i x : ℕ) → x < f.names → member (live_in_word f i) x ≡ true → LiveIn f x i
live_in_word-sound f i x l h = is_live_in-sound f x i (sym (live_in_word-member f i x l) ∙ h)

pub live_in_word-complete : {f : Flow} → WellFormed f → {i x : ℕ} → i < size f → x < f.names → LiveIn f x i → member (live_in_word f i) x ≡ true
live_in_word-complete {f} w {i} {x} k l h = live_in_word-member f i x l ∙ is_live_in-complete w k h

pub live_out_word-sound : (f : Flow) (i x : ℕ) → x < f.names → member (live_out_word f i) x ≡ true → LiveOut f x i
live_out_word-sound f i x l h = is_live_out-sound f x i (sym (live_out_word-member f i x l) ∙ h)

pub live_out_word-complete : {f : Flow} → WellFormed f → {i x : ℕ} → x < f.names → LiveOut f x i → member (live_out_word f i) x ≡ true
live_out_word-complete {f} w {i} {x} l h = live_out_word-member f i x l ∙ is_live_out-complete w h
