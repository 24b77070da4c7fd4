-- Sets of names as words: a member is a bit, a union has what either has, and a word whose bits end at k is below 2 ^ k. Of a fit file: its sets of names are words, successors
-- are statements, and no statement writes or refers to a number from 64 on. By the laws of bits and the checks that the file passed.
use Prim.Native.Nat.{ℕ, ◌-◌, ◌/◌, ◌%◌, ◌^◌, ◌<◌, ◌≤◌, min}
use mathlib.Core.Bool.{true, false}
use mathlib.Core.List.{List}
use mathlib.Core.Logic.{◌⊎◌, inl, inr}
use mathlib.Core.Path.{◌≡◌, sym, ◌∙◌, subst}
use native.Mathlib.Decide.{dec_lt, ℕ_discrete}
use native.Mathlib.Nat.{lt_of_lt_of_le, mod-lt}
use native.Mathlib.Omega.{arith}
use borrow.Author.Tests.{eqb-true, eq-eqb, ne_eqb, eqb-false}
use lib.Bits.{bit_or}
use lib.ListN.{length, get_or}
use lib.Pow.{pow_pos, pow_mono}
use Rattle.words.specs.Clauses.Row.{bit}
use Rattle.words.specs.Clauses.Change.{without}
use Rattle.words.proofs.Bit.{bit-lt, bit-or, bit-without, bit-mod, bit_high, bits_ext}
use Rattle.flow.specs.Flow.{Flow, statement}
use Rattle.flow.specs.Format.{flow_of, names_of}
use Rattle.records.proofs.Files.{limited}
use Rattle.theory.specs.Lists.{In, elem}
use Rattle.theory.specs.Body.{successors, references}
use Rattle.theory.specs.Live.{member, reads, writes}
use Rattle.theory.proofs.Lists.{not_so, elem-In, get_or-In}
use Rattle.statements.specs.Clauses.Ready.{Ready}
use Rattle.statements.proofs.Keeps.{ready_formed, ready-below}
use Rattle.statements.proofs.WellFormed.{arrays-is, statement_in}

-- a member is a bit
pub member-bit : (w x : ℕ) → member w x ≡ true → bit w x ≡ 1
unfolding bit
member-bit w x e = eqb-true _ _ e

pub bit-member : (w x : ℕ) → bit w x ≡ 1 → member w x ≡ true
unfolding bit
bit-member w x e = eq-eqb _ _ e

pub no_member : (w x : ℕ) → bit w x ≡ 0 → member w x ≡ false
unfolding bit
no_member w x e = ne_eqb (w / 2 ^ x % 2) 1 (λ (d : w / 2 ^ x % 2 ≡ 1). omega arith)

pub not-member : (w x : ℕ) → member w x ≡ false → bit w x ≡ 0
unfolding bit
not-member w x e = let d : w / 2 ^ x % 2 ≡ 1 → ⊥ = eqb-false (w / 2 ^ x % 2) 1 e in omega arith

-- unions

pub or-first : (a b x : ℕ) → bit a x ≡ 1 → bit (bit_or a b) x ≡ 1
or-first a b x e = omega (arith, bit-or a b x, bit-lt b x)

pub or-second : (a b x : ℕ) → bit b x ≡ 1 → bit (bit_or a b) x ≡ 1
or-second a b x e = omega (arith, bit-or a b x, bit-lt a x)

pub or_either : (a b x : ℕ) → bit (bit_or a b) x ≡ 1 → (bit a x ≡ 1) ⊎ (bit b x ≡ 1)
or_either a b x e = go (ℕ_discrete (bit a x) 1)
  where
    go : Dec (bit a x ≡ 1) → (bit a x ≡ 1) ⊎ (bit b x ≡ 1)
    go (yes d) = inl d
    go (no d) = inr (omega (arith, bit-or a b x, bit-lt a x, bit-lt b x, d))

-- the names of a set that statement j does not write

module _ (f : Flow) (j a x : ℕ) (word : a < 2 ^ 64) (written : (statement f j).written < 2 ^ 64) where
  pub kept-cases : bit (without a (statement f j).written) x ≡ 1 → (writes f j x ≡ false) × (bit a x ≡ 1)
  kept-cases e =
      let both : min (bit a x) (1 - bit (statement f j).written x) ≡ 1 = sym (bit-without a (statement f j).written x word written) ∙ e in
      (no_member (statement f j).written x (omega (arith, bit-lt (statement f j).written x)), omega (arith, bit-lt a x))

  pub kept-bit : writes f j x ≡ false → bit a x ≡ 1 → bit (without a (statement f j).written) x ≡ 1
  kept-bit e d = bit-without a (statement f j).written x word written ∙ omega (arith, not-member (statement f j).written x e)

-- a word below a power has no bit from it on, and a word without these bits is below it
pub bit_below : (w k x : ℕ) → w < 2 ^ k → bit w x ≡ 1 → x < k
bit_below w k x l e = go (dec_lt x k)
  where
    go : Dec (x < k) → x < k
    go (yes m) = m
    go (no m) = absurd (omega (arith, bit_high {n = w} {j = k} x l (omega (arith, m))))

pub word_below : (w k : ℕ) → ((x : ℕ) → bit w x ≡ 1 → x < k) → w < 2 ^ k
word_below w k h = subst (λ z. z < 2 ^ k) (sym (bits_ext w (w % 2 ^ k) (λ x. same x (dec_lt x k)))) (mod-lt w (pow_pos k))
  where
    same : (x : ℕ) → Dec (x < k) → bit w x ≡ bit (w % 2 ^ k) x
    same x (yes l) = sym (bit-mod k w x l)
    same x (no l) =
        let high = bit_high {n = w % 2 ^ k} {j = k} x (mod-lt w (pow_pos k)) (omega (arith, l)) in
        let none : bit w x ≡ 0 = zero_or x (ℕ_discrete (bit w x) 1) l in
        omega arith
      where
        zero_or : (x : ℕ) → Dec (bit w x ≡ 1) → (x < k → ⊥) → bit w x ≡ 0
        zero_or x (yes e) l = absurd (l (h x e))
        zero_or x (no e) l = omega (arith, e, bit-lt w x)

module _ {s ws : List ℕ} {n : ℕ} (r : Ready s ws n) where
  pub successor_in : (i j : ℕ) → In j (successors (flow_of s) i) → j < n
  successor_in i j m = ready-below r ((ready_formed r).successor i j m)

  pub target_in : (i k : ℕ) → k < length (successors (flow_of s) i) → get_or (successors (flow_of s) i) k 0 < n
  target_in i k l = successor_in i _ (get_or-In (successors (flow_of s) i) k 0 l)

  pub written-word : (i : ℕ) → (statement (flow_of s) i).written < 2 ^ 64
  written-word i = lt_of_lt_of_le (statement_in r.fit i).written (pow_mono (limited r.fit).names)

  pub read_word : (i : ℕ) → (statement (flow_of s) i).read < 2 ^ 64
  read_word i = lt_of_lt_of_le (statement_in r.fit i).read (pow_mono (limited r.fit).names)

  -- a name that is read or written is below their number

  pub read_name : (i x : ℕ) → reads (flow_of s) i x ≡ true → x < names_of s
  read_name i x e = bit_below (statement (flow_of s) i).read (names_of s) x (statement_in r.fit i).read (member-bit (statement (flow_of s) i).read x e)

  pub written_name : (i x : ℕ) → writes (flow_of s) i x ≡ true → x < names_of s
  written_name i x e = bit_below (statement (flow_of s) i).written (names_of s) x (statement_in r.fit i).written (member-bit (statement (flow_of s) i).written x e)

  pub names-word : {x : ℕ} → x < names_of s → x < 64
  names-word l = omega (arith, (limited r.fit).names)

  -- a number from 64 on is no name
  pub no_name : (i x : ℕ) → 64 ≤ x → writes (flow_of s) i x ≡ false
  no_name i x l = no_member (statement (flow_of s) i).written x (bit_high x (written-word i) l)

  -- nor an array
  pub no_array : (i x : ℕ) → 64 ≤ x → elem x (references (flow_of s) i) ≡ false
  no_array i x l =
      not_so (elem x (references (flow_of s) i))
      (λ e. let small = (ready_formed r).reference i x (elem-In x (references (flow_of s) i) e) in omega (arith, arrays-is s, (limited r.fit).arrays))
