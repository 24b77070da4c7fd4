-- The parts that the lines fall into: a line's part is one of them, the noting of one record keeps what their words say, and a line stands among the records of its part.
-- By the cases whether a part was met before.
use Prim.Native.Nat.{ℕ, ◌+◌, ◌*◌, ◌/◌, ◌%◌, ◌≤◌, ◌<◌}
use native.Mathlib.Omega.{arith}
use native.Mathlib.Decide.{ℕ_discrete}
use native.Mathlib.Nat.{mul-le-mul_right, eq-or-lt_of_le}
use mathlib.Core.Bool.{Bool, true, false, cond}
use mathlib.Core.List.{List}
use mathlib.Core.Logic.{⊎_elim}
use mathlib.Core.Path.{◌≡◌, refl, sym, ap, subst, ◌∙◌}
use borrow.Author.Tests.{ltb-true, ltb-false}
use lib.Dec.{ltb}
use lib.ListN.{length, get_or, set, length-set}
use lib.Seq.{get_or-set_same, get_or-set_other}
use mir.Syntax.{w8}
use mir.Val.{Fits}
use Rattle.flow.specs.Format.{line_count, line_place, line_number}
use Rattle.flow.specs.Clauses.Answers.{FitFile}
use Rattle.flow.proofs.Numbers.{le_at-lt}
use Rattle.records.specs.Clauses.Fields.{part_of, LinePart, PartsNoted}
use Rattle.records.proofs.Files.{limited}
use Rattle.records.proofs.LineSearch.{lines_end}

-- no part has records before any is met
pub part_none : (s : List ℕ) (n k word : ℕ) → word ≡ 0 → LinePart s n 0 k word
part_none s n k word e = record { some = omega arith; all = omega arith; holds = λ j l q. absurd (omega arith); ends = λ l. absurd (omega arith) }

-- the part of a line of 16 bits
pub part_below : (n l : ℕ) → 0 < n → l < 65536 → part_of n l < n
part_below n l some h = let most : l * n ≤ 65535 * n = mul-le-mul_right n (omega arith) in omega arith

pub lines-few : {s : List ℕ} → FitFile s → line_count s < 65535
lines-few h = omega (arith, lines_end h, (limited h).file)

pub line_small : (s : List ℕ) (k : ℕ) → ((i : ℕ) → Fits w8 (get_or s i 0)) → line_number s k < 65536
line_small s k bytes = le_at-lt 2 s (line_place s k + 2) bytes

-- the first record of a part in which record r is met, where its records were those from `first` to below `end`
abbrev pub first_met : ℕ → ℕ → ℕ → ℕ
first_met first end r = cond (ltb first end) first r

-- what the word of a part becomes when record r is met in it
abbrev pub met_word : ℕ → ℕ → ℕ
met_word r word = first_met (word % 65536) (word / 65536) r + 65536 * (r + 1)

pub first_small : (first end r : ℕ) → first < 65536 → r < 65536 → first_met first end r < 65536
first_small first end r f h = go (ltb first end)
  where
    go : (t : Bool) → cond t first r < 65536
    go true = f
    go false = h

-- put together from its ends
pub met_made : (word r : ℕ) {first end first' end' made : ℕ} → (first ≡ word % 65536) × (end ≡ word / 65536) → (first' ≡ first_met first end r) × (end' ≡ r + 1)
    → made ≡ first' + 65536 * end' → made ≡ met_word r word
met_made word r was is made = rw (was.0, was.1) at (rw (is.0, is.1) at made)

module _ {s : List ℕ} {n r k word : ℕ} (p : LinePart s n r k word) where
  part_met : r < 65535 → part_of n (line_number s r) ≡ k → LinePart s n (r + 1) k (met_word r word)
  part_met few here = go (ltb (word % 65536) (word / 65536)) refl
    where
      at : (x : ℕ) → x ≡ r → part_of n (line_number s x) ≡ k
      at x e = ap (λ (y : ℕ). part_of n (line_number s y)) e ∙ here

      go : (t : Bool) → ltb (word % 65536) (word / 65536) ≡ t → LinePart s n (r + 1) k (cond t (word % 65536) r + 65536 * (r + 1))
      go true e = let some = ltb-true (word % 65536) (word / 65536) e in let all = p.all in record {
        some = omega arith;
        all = omega arith;
        holds = λ j l q.
            ⊎_elim (λ m. (omega arith, omega arith)) (λ m. let from = (p.holds j m q).0 in (omega arith, omega arith)) (eq-or-lt_of_le (let h : j ≤ r = omega arith in h));
        ends = λ l. (
          ap (λ (y : ℕ). part_of n (line_number s y)) (let same : (word % 65536 + 65536 * (r + 1)) % 65536 ≡ word % 65536 = omega arith in same) ∙ (p.ends (omega arith)).0,
          at _ (omega arith),
        );
      }
      go false e = record {
        some = omega arith;
        all = omega arith;
        holds = λ j l q. let none = ltb-false (word % 65536) (word / 65536) e in
            ⊎_elim (λ m. (omega arith, omega arith)) (λ m. let met = p.holds j m q in absurd (omega (arith, met.0, met.1))) (eq-or-lt_of_le (let h : j ≤ r = omega arith in h));
        ends = λ l. (at _ (omega arith), at _ (omega arith));
      }

  part_else : (part_of n (line_number s r) ≡ k → ⊥) → LinePart s n (r + 1) k word
  part_else other = record {
    some = p.some;
    all = let all = p.all in omega arith;
    holds = λ j l q.
        ⊎_elim (λ m. absurd (other (subst (λ (i : ℕ). part_of n (line_number s i) ≡ k) m q))) (λ m. p.holds j m q) (eq-or-lt_of_le (let h : j ≤ r = omega arith in h));
    ends = p.ends;
  }

pub parts-met : {s ws vs : List ℕ} {base n r at : ℕ} → PartsNoted s ws vs base n r → r < 65535 → base + n ≤ length ws → part_of n (line_number s r) < n
    → at ≡ base + part_of n (line_number s r) → PartsNoted s ws (set vs at (met_word r (get_or vs at 0))) base n (r + 1)
parts-met {s} {ws} {vs} {base} {n} {r} {at} p few room part e = record {
  size = length-set vs at _ ∙ p.size;
  below = λ x l. get_or-set_other vs at x _ 0 (λ q. omega arith) ∙ p.below x l;
  above = λ x l. get_or-set_other vs at x _ 0 (λ q. omega arith) ∙ p.above x l;
  parts = λ k l. go k l (ℕ_discrete k (part_of n (line_number s r)));
}
  where
    new : ℕ
    new = met_word r (get_or vs at 0)

    go : (k : ℕ) → k < n → Dec (k ≡ part_of n (line_number s r)) → LinePart s n (r + 1) k (get_or (set vs at new) (base + k) 0)
    go k l (yes q) =
        let here : base + k ≡ at = omega arith in
        let inside : at < length vs = let size = p.size in omega arith in
        subst (λ (w : ℕ). LinePart s n (r + 1) k w) (sym (ap (λ (x : ℕ). get_or (set vs at new) x 0) here ∙ get_or-set_same vs at new 0 inside))
        (part_met (subst (λ (x : ℕ). LinePart s n r k (get_or vs x 0)) here (p.parts k l)) few (sym q))
    go k l (no q) =
        subst (λ (w : ℕ). LinePart s n (r + 1) k w) (sym (get_or-set_other vs at (base + k) new 0 (λ h. q (omega arith))))
        (part_else (p.parts k l) (λ h. q (sym h)))
