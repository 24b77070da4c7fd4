-- The values of a fit record are in range: its successors and continuation are statements, its arrays are arrays and its references rise,
-- its names are names. By the checks of each of the record's parts, which all hold.
use Prim.Native.Nat.{ℕ, ◌+◌, ◌^◌, ◌≤◌, ◌<◌}
use native.Mathlib.Omega.{arith}
use mathlib.Core.Bool.{Bool, true, false, cond, not, ◌||◌}
use mathlib.Core.List.{List, [], ◌∷◌, ◌++◌}
use mathlib.Core.Option.{some}
use mathlib.Core.Path.{◌≡◌, refl, sym, ap, ◌∙◌}
use lib.Dec.{eqb, ltb}
use borrow.Author.Tests.{leb-true, ltb-true, eqb-true, eq-eqb}
use Rattle.flow.specs.Limits.{max_kind, no_continuation}
use Rattle.flow.specs.Format.{verdict, fit, each, present, start_checks, successor_checks, reference_count_checks, reference_checks, name_checks, item_checks, line_checks, continuation_checks, dim_checks, gosub_checks, on_gosub_checks, data_checks, successor_count, successor_at, reference_count, reference_at, data_place, data_count, elements_end, kind_at, continuation_at, continuation_from, continuation_fits, written_at, read_at, item_at, statements_of, arrays_of, names_of, u16_at, by_data}
use Rattle.flow.specs.Clauses.Answers.{FitRecord}
use Rattle.records.specs.Clauses.Fields.{item_count, continuation_in}
use Rattle.records.proofs.Rising.{Rising, rising, rises_at, or-second}
use Rattle.flow.proofs.Verdicts.{all_hold, fit-right, fit_at}
use Rattle.flow.proofs.Records.{parts}
use Rattle.records.proofs.KindData.{continuation-none}
use Rattle.records.proofs.KindNumber.{Number, number, dim, gosub, on_gosub, other}

pub record InRange (s : List ℕ) (p : ℕ) : Type 0 where
  pub kind : kind_at s p ≤ max_kind
  pub successor : (k : ℕ) → k < successor_count s p → successor_at s p k < statements_of s
  pub reference : (k : ℕ) → k < reference_count s p → reference_at s p k < arrays_of s
  pub rising : Rising (reference_at s p) (reference_count s p)
  pub return : kind_at s p ≡ 1 → reference_count s p ≡ 0
  pub written : written_at s p < 2 ^ names_of s
  pub read : read_at s p < 2 ^ names_of s

pub in_range : {s : List ℕ} {p : ℕ} → FitRecord s p → InRange s p
unfolding start_checks successor_checks reference_count_checks reference_checks name_checks
in_range {s} {p} h =
    let v = parts h in
    let start = all_hold (start_checks s p) v.start in
    let count = all_hold (reference_count_checks s p) v.count in
    let names = all_hold (name_checks s p) v.names in
    record {
      kind = omega (arith, leb-true);
      successor = λ k l. successor_in k (fit_at (successor_count s p) (successor_checks s p) v.successors k l);
      reference = λ k l. reference_in k (fit_at (reference_count s p) (reference_checks s p) v.references k l);
      rising = rising (reference_at s p) (reference_count s p)
          (λ k l. rises_at_lem k (fit_at (reference_count s p) (reference_checks s p) v.references k l));
      return = λ e. eqb-true _ _ (or-second (not (eqb (kind_at s p) 1)) _ (rw (eq-eqb (kind_at s p) 1 e) refl) count.1.0);
      written = ltb-true _ _ names.1.0;
      read = ltb-true _ _ names.1.1.1.0;
    }
  where
    successor_in : (k : ℕ) → verdict (successor_checks s p k) ≡ fit → successor_at s p k < statements_of s
    successor_in k e = ltb-true _ _ (all_hold (successor_checks s p k) e).1.0

    reference_in : (k : ℕ) → verdict (reference_checks s p k) ≡ fit → reference_at s p k < arrays_of s
    reference_in k e = ltb-true _ _ (all_hold (reference_checks s p k) e).1.0

    rises_at_lem : (k : ℕ) → verdict (reference_checks s p k) ≡ fit → rises_at (reference_at s p) k ≡ true
    rises_at_lem k e = (all_hold (reference_checks s p k) e).1.1.0

-- the items of a DIM
pub item_in : {s : List ℕ} {p : ℕ} → FitRecord s p → (k : ℕ) → k < item_count s p → ((item_at s p k).array < arrays_of s) × ((item_at s p k).flag ≤ 1)
unfolding item_count data_checks dim_checks item_checks
item_in {s} {p} h k l = go (eqb (kind_at s p) 4) l (parts h).kind_data
  where
    go : (d : Bool) → k < cond d (data_count s p) 0
        → verdict (cond d (dim_checks s p) (cond (eqb (kind_at s p) 5) (gosub_checks s p) (cond (eqb (kind_at s p) 6) (on_gosub_checks s p) []))) ≡ fit
        → ((item_at s p k).array < arrays_of s) × ((item_at s p k).flag ≤ 1)
    go true l v =
        let all = fit-right (present s p (data_place s p + 1) ∷ []) (each (data_count s p) (item_checks s p)) v in
        let item = all_hold (item_checks s p k) (fit_at (data_count s p) (item_checks s p) all k l) in
        (ltb-true _ _ item.1.0, leb-true _ _ item.1.1.1.0)
    go false l v = absurd (omega arith)

-- a continuation that is there is a statement

target_in : (s : List ℕ) (at t : ℕ) → continuation_fits s (u16_at s at) ≡ true → continuation_at s at ≡ some t → t < statements_of s
target_in s at t h e = go (eqb (u16_at s at) no_continuation) refl e h
  where
    go : (b : Bool) → eqb (u16_at s at) no_continuation ≡ b → continuation_from (u16_at s at) b ≡ some t
        → (b || ltb (u16_at s at) (statements_of s)) ≡ true → t < statements_of s
    go true q e h = absurd (cc)
    go false q e h =
        let same : u16_at s at ≡ t = cc in
        omega (arith, ltb-true (u16_at s at) (statements_of s) h)

data_fit : {s : List ℕ} {p : ℕ} (k : ℕ) → FitRecord s p → kind_at s p ≡ k
    → verdict (by_data k (dim_checks s p) (gosub_checks s p) (on_gosub_checks s p) []) ≡ fit
unfolding data_checks
data_fit {s} {p} k h e = ap (λ x. verdict (by_data x (dim_checks s p) (gosub_checks s p) (on_gosub_checks s p) [])) (sym e) ∙ (parts h).kind_data

pub continuation_in_lem : {s : List ℕ} {p : ℕ} → FitRecord s p → (t : ℕ) → continuation_in s p ≡ some t → t < statements_of s
unfolding continuation_in gosub_checks on_gosub_checks continuation_checks
continuation_in_lem {s} {p} h t e = go (number (kind_at s p))
  where
    nowhere : (kind_at s p ≡ 5 → ⊥) → (kind_at s p ≡ 6 → ⊥) → t < statements_of s
    nowhere g o = let gone = continuation-none s p g o in absurd (cc)

    go : Number (kind_at s p) → t < statements_of s
    go (dim k) = nowhere (λ e. omega arith) (λ e. omega arith)
    go (gosub k) = target_in s (data_place s p + 2) t (all_hold (gosub_checks s p) (data_fit 5 h k)).1.1.0 (rw k at e)
    go (on_gosub k) =
        let goes_on = continuation_checks s p (elements_end s p) in
        let counted = fit-right (present s p (data_place s p + 1) ∷ []) (each (data_count s p) (line_checks s p) ++ goes_on) (data_fit 6 h k) in
        let last = all_hold goes_on (fit-right (each (data_count s p) (line_checks s p)) goes_on counted) in
        target_in s (elements_end s p) t last.1.0 (rw k at e)
    go (other d g o) = nowhere g o
