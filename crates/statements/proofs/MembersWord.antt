-- The references of a statement as words of a set: bit a of word w is 1 when array 64 w + a is among them.
-- By induction on the number of elements; each joins one bit.
use Prim.Native.Nat.{ℕ, zero, suc, ◌+◌, ◌*◌, ◌/◌, ◌%◌, ◌^◌, ◌<◌, max}
use native.Mathlib.Decide.{ℕ_discrete}
use native.Mathlib.Nat.{zero-add}
use native.Mathlib.Omega.{arith}
use mathlib.Core.Bool.{Bool, true, false, cond, ◌||◌}
use mathlib.Core.Path.{◌≡◌, refl, sym, ap, ap₂, ◌∙◌}
use borrow.Author.Tests.{eq-eqb, ne_eqb, eqb-true}
use lib.Bits.{or_lt}
use lib.Dec.{eqb}
use lib.Pow.{pow_pos, pow-lt}
use Rattle.words.specs.Clauses.Row.{bit}
use Rattle.words.proofs.Bit.{bit_of_zero, bit-or, bit-pow-same, bit-pow-other}
use Rattle.flow.specs.Format.{tabulate}
use Rattle.records.specs.Clauses.Fields.{bit_in, set_word}
use Rattle.theory.specs.Lists.{elem}
use Rattle.theory.proofs.Lists.{elem-one-more}
use Rattle.statements.specs.Clauses.Ready.{MembersWord}

bit_in_lt : (w x : ℕ) → bit_in w x < 2 ^ 64
bit_in_lt w x = go (eqb (x / 64) w)
  where
    go : (low : Bool) → cond low (2 ^ (x % 64)) 0 < 2 ^ 64
    go true = pow-lt {j = 64} (omega arith)
    go false = pow_pos 64

bit_in_lem : (w a x : ℕ) → a < 64 → bit (bit_in w x) a ≡ cond (eqb (64 * w + a) x) 1 0
bit_in_lem w a x l = go (ℕ_discrete (64 * w + a) x)
  where
    other : (64 * w + a ≡ x → ⊥) → (low : Bool) → eqb (x / 64) w ≡ low → bit (cond low (2 ^ (x % 64)) 0) a ≡ 0
    other d true e = let low : x / 64 ≡ w = eqb-true (x / 64) w e in bit-pow-other (x % 64) a (omega (arith, d))
    other d false e = bit_of_zero a

    go : Dec (64 * w + a ≡ x) → bit (bit_in w x) a ≡ cond (eqb (64 * w + a) x) 1 0
    go (yes e) =
        let low : x / 64 ≡ w = omega arith in
        let place : a ≡ x % 64 = omega arith in
        rw (eq-eqb (64 * w + a) x e, eq-eqb (x / 64) w low) (ap (bit (2 ^ (x % 64))) place ∙ bit-pow-same (x % 64))
    go (no d) = rw (ne_eqb (64 * w + a) x d) (other d (eqb (x / 64) w) refl)

max-or : (b c : Bool) → max (cond b 1 0) (cond c 1 0) ≡ cond (b || c) 1 0
max-or true true = refl
max-or true false = refl
max-or false true = refl
max-or false false = refl

module _ (f : ℕ → ℕ) where
  word_lt : (n w : ℕ) → set_word n f w < 2 ^ 64
  unfolding set_word
  word_lt zero w = pow_pos 64
  word_lt (suc n) w = or_lt 64 (set_word n f w) (bit_in w (f n)) (word_lt n w) (bit_in_lt w (f n))

  -- bit a of word w is number 64 w + a
  pub word-bit : (n w a : ℕ) → a < 64 → bit (set_word n f w) a ≡ cond (elem (64 * w + a) (tabulate n f)) 1 0
  unfolding set_word tabulate elem
  word-bit zero w a l = bit_of_zero a
  word-bit (suc n) w a l =
      bit-or (set_word n f w) (bit_in w (f n)) a ∙ ap₂ max (word-bit n w a l) (bit_in_lem w a (f n) l)
      ∙ max-or (elem (64 * w + a) (tabulate n f)) (eqb (64 * w + a) (f n))
      ∙ ap (λ t. cond t 1 0) (sym (elem-one-more (tabulate n f) (f n) (64 * w + a)))

  pub members-word : (n : ℕ) → MembersWord (set_word n f 0) (λ a. elem a (tabulate n f))
  members-word n = record {
    word = word_lt n 0;
    member = λ a l. word-bit n 0 a l ∙ ap (λ (b : ℕ). cond (elem b (tabulate n f)) 1 0) (zero-add a);
  }
