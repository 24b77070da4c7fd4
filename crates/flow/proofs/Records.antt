-- What a fit record gives its readers: each of its parts is fit, and its fields lie within the file.
-- By the checks of each of the record's parts, which all hold.
use Prim.Native.Nat.{ℕ, zero, suc, ◌+◌, ◌≤◌}
use native.Mathlib.Omega.{arith}
use mathlib.Core.Bool.{Bool, true, false, cond}
use mathlib.Core.List.{List, [], ◌∷◌, ◌++◌}
use mathlib.Core.Path.{◌≡◌, refl, ap}
use lib.ListN.{length}
use lib.Dec.{eqb}
use borrow.Author.Tests.{leb-true, ne_eqb}
use Rattle.flow.specs.Format.{verdict, fit, each, present, record_end, start_checks, successor_checks, reference_count_checks, reference_checks, name_checks, item_checks, line_checks, continuation_checks, dim_checks, gosub_checks, on_gosub_checks, data_checks, rest_checks, record_checks, successor_count, references_place, reference_count, data_place, data_count, element_place, elements_end, kind_at, by_data}
use Rattle.flow.specs.Clauses.Answers.{FitRecord}
use Rattle.flow.proofs.Verdicts.{all_hold, fit-left, fit-right, fit_at}

-- the end of the record at p by its kind's number
pub end_is : (s : List ℕ) (p k : ℕ) → kind_at s p ≡ k
    → record_end s p ≡ by_data k (elements_end s p) (data_place s p + 4) (elements_end s p + 2) (data_place s p)
unfolding record_end
end_is s p k e = ap (λ x. by_data x (elements_end s p) (data_place s p + 4) (elements_end s p + 2) (data_place s p)) e

pub end-plain : (s : List ℕ) (p : ℕ) → (kind_at s p ≡ 4 → ⊥) → (kind_at s p ≡ 5 → ⊥) → (kind_at s p ≡ 6 → ⊥) → record_end s p ≡ data_place s p
unfolding record_end
end-plain s p d g o = simp (ne_eqb _ _ d, ne_eqb _ _ g, ne_eqb _ _ o)

module _ (s : List ℕ) (p : ℕ) where
  dim-end : (n : ℕ) → n ≡ data_count s p → verdict (dim_checks s p) ≡ fit → element_place s p n ≤ length s
  unfolding dim_checks item_checks
  dim-end zero e h = let count = all_hold (dim_checks s p) h in omega (arith, leb-true)
  dim-end (suc n) e h =
      let items = fit-right (present s p (data_place s p + 1) ∷ []) (each (data_count s p) (item_checks s p)) h in
      let last = all_hold (item_checks s p n) (fit_at (data_count s p) (item_checks s p) items n (omega arith)) in
      omega (arith, leb-true)

  gosub-end : verdict (gosub_checks s p) ≡ fit → data_place s p + 4 ≤ length s
  unfolding gosub_checks continuation_checks
  gosub-end h = let last = all_hold (gosub_checks s p) h in omega (arith, leb-true)

  on-gosub-end : verdict (on_gosub_checks s p) ≡ fit → elements_end s p + 2 ≤ length s
  unfolding on_gosub_checks continuation_checks
  on-gosub-end h =
      let goes_on = continuation_checks s p (elements_end s p) in
      let counted = fit-right (present s p (data_place s p + 1) ∷ []) (each (data_count s p) (line_checks s p) ++ goes_on) h in
      let last = all_hold goes_on (fit-right (each (data_count s p) (line_checks s p)) goes_on counted) in
      omega (arith, leb-true)

  data_end : (d g o : Bool) → verdict (cond d (dim_checks s p) (cond g (gosub_checks s p) (cond o (on_gosub_checks s p) []))) ≡ fit
      → data_place s p ≤ length s
      → cond d (elements_end s p) (cond g (data_place s p + 4) (cond o (elements_end s p + 2) (data_place s p))) ≤ length s
  data_end true g o h l = dim-end (data_count s p) refl h
  data_end false true o h l = gosub-end h
  data_end false false true h l = on-gosub-end h
  data_end false false false h l = l

  data_begins : (d g o : Bool)
      → data_place s p ≤ cond d (elements_end s p) (cond g (data_place s p + 4) (cond o (elements_end s p + 2) (data_place s p)))
  data_begins true g o = omega arith
  data_begins false true o = omega arith
  data_begins false false true = omega arith
  data_begins false false false = omega arith

-- each part of a fit record is fit

pub record Parts (s : List ℕ) (p : ℕ) : Type 0 where
  pub start : verdict (start_checks s p) ≡ fit
  pub successors : verdict (each (successor_count s p) (successor_checks s p)) ≡ fit
  pub count : verdict (reference_count_checks s p) ≡ fit
  pub references : verdict (each (reference_count s p) (reference_checks s p)) ≡ fit
  pub names : verdict (name_checks s p) ≡ fit
  pub kind_data : verdict (data_checks s p) ≡ fit

pub parts : {s : List ℕ} {p : ℕ} → FitRecord s p → Parts s p
unfolding record_checks rest_checks
parts {s} {p} h =
    let successors = each (successor_count s p) (successor_checks s p) in
    let references = each (reference_count s p) (reference_checks s p) in
    let after-start = fit-right (start_checks s p) (successors ++ rest_checks s p) h.checked in
    let rest = fit-right successors (rest_checks s p) after-start in
    let after-count = fit-right (reference_count_checks s p) (references ++ (name_checks s p ++ data_checks s p)) rest in
    let tail = fit-right references (name_checks s p ++ data_checks s p) after-count in
    record {
      start = fit-left (start_checks s p) (successors ++ rest_checks s p) h.checked;
      successors = fit-left successors (rest_checks s p) after-start;
      count = fit-left (reference_count_checks s p) (references ++ (name_checks s p ++ data_checks s p)) rest;
      references = fit-left references (name_checks s p ++ data_checks s p) after-count;
      names = fit-left (name_checks s p) (data_checks s p) tail;
      kind_data = fit-right (name_checks s p) (data_checks s p) tail;
    }

-- the parts of a fit record lie within the file

pub start_fits : {s : List ℕ} {p : ℕ} → FitRecord s p → p + 6 ≤ length s
unfolding start_checks
start_fits {s} {p} h = let start = all_hold (start_checks s p) (parts h).start in omega (arith, leb-true)

pub references-fit : {s : List ℕ} {p : ℕ} → FitRecord s p → references_place s p + 1 ≤ length s
unfolding reference_count_checks
references-fit {s} {p} h =
    let count = all_hold (reference_count_checks s p) (parts h).count in omega (arith, leb-true)

pub data-fits : {s : List ℕ} {p : ℕ} → FitRecord s p → data_place s p ≤ length s
unfolding name_checks
data-fits {s} {p} h = let names = all_hold (name_checks s p) (parts h).names in omega (arith, leb-true)

pub end_fits : {s : List ℕ} {p : ℕ} → FitRecord s p → record_end s p ≤ length s
unfolding data_checks record_end
end_fits {s} {p} h =
    let k = kind_at s p in
    data_end s p (eqb k 4) (eqb k 5) (eqb k 6) (parts h).kind_data (data-fits h)

pub data-before-end : (s : List ℕ) (p : ℕ) → data_place s p ≤ record_end s p
unfolding record_end
data-before-end s p = let k = kind_at s p in data_begins s p (eqb k 4) (eqb k 5) (eqb k 6)
