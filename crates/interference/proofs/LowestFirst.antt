-- The clique of a set is added name by name, the lowest first: the words of the names that are left are as they were, and all others are done. By the laws of the lowest bit.
-- Assumes nothing.
use Prim.Native.Nat.{ℕ, ◌^◌, ◌<◌}
use mathlib.Core.Bool.{Bool, cond}
use mathlib.Core.List.{List}
use mathlib.Core.Logic.{◌≢◌}
use mathlib.Core.Path.{◌≡◌, refl, sym, ap, ◌∙◌}
use native.Mathlib.Decide.{ℕ_discrete}
use native.Mathlib.Omega.{arith}
use borrow.Author.Tests.{eq-eqb, ne_eqb}
use lib.Bits.{bit_or}
use lib.Count.{count_trailing_zeros}
use lib.ListN.{length, get_or, length-set}
use Rattle.words.specs.Clauses.Row.{bit}
use Rattle.words.specs.Clauses.Change.{Joined, joined, without}
use Rattle.words.proofs.Bit.{bit_of_zero}
use Rattle.words.proofs.Lowest.{lowest-one, lowest_off, lowest-other}
use Rattle.words.proofs.Inserted.{joined_word, joined-other}
use Rattle.statements.proofs.Names.{bit_below}
use Rattle.interference.specs.Clauses.Clique.{clique_word, CliqueAdded}

pub record Adding (rows₀ rows : List ℕ) (names rest : ℕ) : Type 0 where
  pub word64 : rest < 2 ^ 64
  pub size : length rows ≡ length rows₀
  pub left : (x : ℕ) → bit rest x ≡ 1 → bit names x ≡ 1
  pub waiting : (x : ℕ) → bit rest x ≡ 1 → get_or rows x 0 ≡ get_or rows₀ x 0
  pub done : (x : ℕ) → bit rest x ≡ 0 → get_or rows x 0 ≡ clique_word rows₀ names x

-- the word of a name that the set has, and of one that it has not

pub clique_member : (rows : List ℕ) (names x : ℕ) → bit names x ≡ 1 → clique_word rows names x ≡ bit_or (get_or rows x 0) (without names (2 ^ x))
unfolding clique_word
clique_member rows names x e = ap (λ b. cond b (bit_or (get_or rows x 0) (without names (2 ^ x))) (get_or rows x 0)) (eq-eqb (bit names x) 1 e)

pub clique_other : (rows : List ℕ) (names x : ℕ) → bit names x ≡ 0 → clique_word rows names x ≡ get_or rows x 0
unfolding clique_word
clique_other rows names x e = ap (λ b. cond b (bit_or (get_or rows x 0) (without names (2 ^ x))) (get_or rows x 0)) (ne_eqb (bit names x) 1 (λ d. omega arith))

pub adding_all : {rows : List ℕ} {names : ℕ} → names < 2 ^ 64 → Adding rows rows names names
adding_all {rows} {names} h = record { word64 = h; size = refl; left = λ x e. e; waiting = λ x e. refl; done = λ x e. sym (clique_other rows names x e) }

module _ {rows₀ rows : List ℕ} {names rest : ℕ} (m : Adding rows₀ rows names rest) (some : 0 < rest) where
  -- the lowest name that is left
  abbrev pub lowest : ℕ
  lowest = count_trailing_zeros 64 rest

  pub lowest-room : names < 2 ^ length rows₀ → lowest < length rows
  lowest-room small =
      let low = bit_below names (length rows₀) lowest small (m.left lowest (lowest-one rest m.word64 some)) in
      omega (arith, m.size)

  pub adding_on : {vs : List ℕ} {r : Bool} → names < 2 ^ length rows₀ → Joined rows vs lowest (without names (2 ^ lowest)) r → without rest (2 ^ lowest) < 2 ^ 64
      → Adding rows₀ vs names (without rest (2 ^ lowest))
  unfolding joined
  adding_on {vs} small j fits = record {
    word64 = fits;
    size = ap length j.slice ∙ simp length-set m.size;
    left = λ x e. m.left x (was x e);
    waiting = λ x e. other x (apart x e) ∙ m.waiting x (was x e);
    done = λ x e. now-done x e (ℕ_discrete x lowest);
  }
    where
      apart : (x : ℕ) → bit (without rest (2 ^ lowest)) x ≡ 1 → x ≢ lowest
      apart x e d = let off = lowest_off rest m.word64 some in let same : bit (without rest (2 ^ lowest)) x ≡ bit (without rest (2 ^ lowest)) lowest = ap (bit (without rest (2 ^ lowest))) d in omega arith

      was : (x : ℕ) → bit (without rest (2 ^ lowest)) x ≡ 1 → bit rest x ≡ 1
      was x e = sym (lowest-other rest m.word64 some x (apart x e)) ∙ e

      other : (x : ℕ) → x ≢ lowest → get_or vs x 0 ≡ get_or rows x 0
      other x d = ap (λ (l : List ℕ). get_or l x 0) j.slice ∙ joined-other rows lowest (without names (2 ^ lowest)) x d

      here : get_or vs lowest 0 ≡ clique_word rows₀ names lowest
      here =
          let one = lowest-one rest m.word64 some in
          ap (λ (l : List ℕ). get_or l lowest 0) j.slice
          ∙ joined_word rows lowest (without names (2 ^ lowest)) (lowest-room small)
          ∙ ap (λ z. bit_or z (without names (2 ^ lowest))) (m.waiting lowest one)
          ∙ sym (clique_member rows₀ names lowest (m.left lowest one))

      now-done : (x : ℕ) → bit (without rest (2 ^ lowest)) x ≡ 0 → Dec (x ≡ lowest) → get_or vs x 0 ≡ clique_word rows₀ names x
      now-done x e (yes d) = rw d here
      now-done x e (no d) = other x d ∙ m.done x (sym (lowest-other rest m.word64 some x d) ∙ e)

pub all_added : {rows₀ rows : List ℕ} {names rest : ℕ} → Adding rows₀ rows names rest → rest ≡ 0 → CliqueAdded rows₀ rows names
all_added {rest = rest} m z = record { size = m.size; word = λ x. m.done x (ap (λ w. bit w x) z ∙ bit_of_zero x) }
