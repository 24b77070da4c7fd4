-- Which pairs the words hold after a clique was added, and after one clique and another: those of the sets so far. A set within the last one adds none. By the bits of a union and of a difference.
-- Assumes nothing.
use Prim.Native.Nat.{ℕ, ◌-◌, ◌^◌, ◌<◌, ◌≤◌, min, max}
use mathlib.Core.List.{List}
use mathlib.Core.Logic.{◌⊎◌, inl, inr, ⊎_elim}
use mathlib.Core.Path.{◌≡◌, sym, ap, ◌∙◌, subst}
use native.Mathlib.Decide.{ℕ_discrete}
use native.Mathlib.Nat.{lt_of_lt_of_le}
use native.Mathlib.Omega.{arith}
use lib.ListN.{get_or}
use lib.Pow.{pow-lt, pow_mono}
use Rattle.words.specs.Clauses.Row.{bit}
use Rattle.words.specs.Clauses.Change.{without}
use Rattle.words.proofs.Bit.{bit-lt, bit-or, bit_high, bit_of_zero, bit-without, bit-pow-same, bit-pow-other}
use Rattle.statements.specs.Clauses.Ready.{Keeps}
use Rattle.statements.proofs.Keeps.{keeps-refl, keeps-trans}
use Rattle.statements.proofs.Names.{bit_below}
use Rattle.interference.specs.Clauses.Clique.{CliqueAdded, NewCliqueAdded, Both, Pairs}
use Rattle.interference.proofs.LowestFirst.{clique_member, clique_other}

-- the same pairs said otherwise
pub pairs_as : {rows : List ℕ} {k : ℕ} {P Q : ℕ → ℕ → Type 0} → ((x y : ℕ) → P x y → Q x y) → ((x y : ℕ) → Q x y → P x y) → Pairs rows k P → Pairs rows k Q
pairs_as to from p = record { sound = λ x y l e. let t = p.sound x y l e in (t.0, to x y t.1); complete = λ x y l d q. p.complete x y l d (from x y q) }

-- words that hold nothing
pub pairs-none : {rows : List ℕ} {k : ℕ} → ((x : ℕ) → x < k → get_or rows x 0 ≡ 0) → Pairs rows k (λ x y. ⊥)
pairs-none {rows} zero = record {
  sound = λ x y l e. let none : bit (get_or rows x 0) y ≡ 0 = ap (λ w. bit w y) (zero x l) ∙ bit_of_zero y in absurd (omega arith);
  complete = λ x y l d b. absurd b;
}

-- one set

module _ {rows vs : List ℕ} {names : ℕ} (small : names < 2 ^ 64) (m : CliqueAdded rows vs names) where
  -- a name's word where the set has the name
  member_bits : (x y : ℕ) → bit names x ≡ 1 → bit (get_or vs x 0) y ≡ max (bit (get_or rows x 0) y) (min (bit names y) (1 - bit (2 ^ x) y))
  member_bits x y e =
      ap (λ w. bit w y) (m.word x ∙ clique_member rows names x e)
      ∙ bit-or (get_or rows x 0) (without names (2 ^ x)) y
      ∙ ap (max (bit (get_or rows x 0) y)) (bit-without names (2 ^ x) y small (pow-lt {j = 64} (bit_below names 64 x small e)))

  other_bits : (x y : ℕ) → bit names x ≡ 0 → bit (get_or vs x 0) y ≡ bit (get_or rows x 0) y
  other_bits x y e = ap (λ w. bit w y) (m.word x ∙ clique_other rows names x e)

  -- a bit of the set is 1 or 0
  by_bit : {A : Type 0} (x : ℕ) → (bit names x ≡ 1 → A) → (bit names x ≡ 0 → A) → A
  by_bit {A} x one none = go (ℕ_discrete (bit names x) 1)
    where
      go : Dec (bit names x ≡ 1) → A
      go (yes e) = one e
      go (no e) = none (omega (arith, bit-lt names x, e))

  grown : (x y : ℕ) → bit (get_or rows x 0) y ≡ 1 → bit (get_or vs x 0) y ≡ 1
  grown x y e = by_bit x (λ h. omega (arith, member_bits x y h, bit-lt names y)) (λ h. other_bits x y h ∙ e)

  pub pairs_added : {k : ℕ} {P : ℕ → ℕ → Type 0} → Pairs rows k P → Pairs vs k (λ x y. P x y ⊎ Both names x y)
  pairs_added {k} {P} p = record {
    sound = λ x y l e. by_bit x (λ h. found x y l e h (ℕ_discrete (bit (get_or rows x 0) y) 1)) (λ h. before x y l (sym (other_bits x y h) ∙ e));
    complete = λ x y l d t. ⊎_elim (λ q. grown x y (p.complete x y l d q)) (λ b. both x y d b) t;
  }
    where
      before : (x y : ℕ) → x < k → bit (get_or rows x 0) y ≡ 1 → (x ≡ y → ⊥) × (P x y ⊎ Both names x y)
      before x y l e = let t = p.sound x y l e in (t.0, inl t.1)

      found : (x y : ℕ) → x < k → bit (get_or vs x 0) y ≡ 1 → bit names x ≡ 1 → Dec (bit (get_or rows x 0) y ≡ 1) → (x ≡ y → ⊥) × (P x y ⊎ Both names x y)
      found x y l e h (yes d) = before x y l d
      found x y l e h (no d) =
          let bits = member_bits x y h in
          let new : min (bit names y) (1 - bit (2 ^ x) y) ≡ 1 = omega (arith, bit-lt (get_or rows x 0) y, d) in (
            λ q. let self : bit (2 ^ x) y ≡ 1 = ap (bit (2 ^ x)) (sym q) ∙ bit-pow-same x in omega arith,
            inr (h, omega (arith, bit-lt names y)),
          )

      both : (x y : ℕ) → (x ≡ y → ⊥) → Both names x y → bit (get_or vs x 0) y ≡ 1
      both x y d b = omega (arith, member_bits x y b.0, b.1, bit-pow-other x y (λ q. d (sym q)), bit-lt (get_or rows x 0) y)

  -- only the words of names change
  pub added_keeps : {k : ℕ} → names < 2 ^ k → Keeps 0 k rows vs
  added_keeps {k} l = record {
    size = m.size;
    below = λ x b. absurd (omega arith);
    above = λ x b. m.word x ∙ clique_other rows names x (bit_high {n = names} {j = k} x l b);
  }

-- one set after the other: the pairs so far, and those of the last set among them

pub record Going (k : ℕ) (P : ℕ → ℕ → Type 0) (rows₀ rows : List ℕ) (last : ℕ) : Type 0 where
  pub pairs : Pairs rows₀ k (λ x y. ⊥) → Pairs rows k P
  pub last_added : (x y : ℕ) → Both last x y → P x y
  pub kept : Keeps 0 k rows₀ rows

pub going_none : {k : ℕ} {P : ℕ → ℕ → Type 0} {rows : List ℕ} → ((x y : ℕ) → P x y → ⊥) → Going k P rows rows 0
going_none none = record {
  pairs = λ p. pairs_as (λ x y b. absurd b) none p;
  last_added = λ x y b. absurd (omega (arith, b.0, bit_of_zero x));
  kept = keeps-refl;
}

pub going_as : {k : ℕ} {P Q : ℕ → ℕ → Type 0} {rows₀ rows : List ℕ} {last : ℕ} → ((x y : ℕ) → P x y → Q x y) → ((x y : ℕ) → Q x y → P x y) → Going k P rows₀ rows last → Going k Q rows₀ rows last
going_as to from g = record { pairs = λ z. pairs_as to from (g.pairs z); last_added = λ x y b. to x y (g.last_added x y b); kept = g.kept }

-- the clique of a set within the last one is there
within-last : {last names : ℕ} → names < 2 ^ 64 → last < 2 ^ 64 → without names last ≡ 0 → (x : ℕ) → bit names x ≡ 1 → bit last x ≡ 1
within-last {last} {names} fits word none x e =
    let out : min (bit names x) (1 - bit last x) ≡ 0 = sym (bit-without names last x fits word) ∙ ap (λ w. bit w x) none ∙ bit_of_zero x in
    omega (arith, bit-lt last x)

pub going_new : {k : ℕ} {P : ℕ → ℕ → Type 0} {rows₀ rows vs : List ℕ} {last names r : ℕ} → Going k P rows₀ rows last → k ≤ 64 → names < 2 ^ k → last < 2 ^ 64 → NewCliqueAdded rows vs last names r
    → Going k (λ x y. P x y ⊎ Both names x y) rows₀ vs r
going_new {k} {P} {rows₀} {rows} {vs} {last} {names} {r} g most small word added = go added
  where
    fits : names < 2 ^ 64
    fits = lt_of_lt_of_le small (pow_mono most)

    in_last : without names last ≡ 0 → (x y : ℕ) → Both names x y → P x y
    in_last none x y b = g.last_added x y (within-last fits word none x b.0, within-last fits word none y b.1)

    go : NewCliqueAdded rows vs last names r → Going k (λ x y. P x y ⊎ Both names x y) rows₀ vs r
    go (NewCliqueAdded.within same l none) =
        subst (λ (z : List ℕ). Going k (λ x y. P x y ⊎ Both names x y) rows₀ z r) (sym same)
        (subst (λ z. Going k (λ x y. P x y ⊎ Both names x y) rows₀ rows z) (sym l) (going_as (λ x y q. inl q) (λ x y t. ⊎_elim (λ q. q) (in_last none x y) t) g))
    go (NewCliqueAdded.new m e) =
        subst (λ z. Going k (λ x y. P x y ⊎ Both names x y) rows₀ vs z) (sym e) (record {
          pairs = λ z. pairs_added fits m (g.pairs z);
          last_added = λ x y b. inr b;
          kept = keeps-trans g.kept (added_keeps fits m small);
        })
