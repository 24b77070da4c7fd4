-- The data of a fit record's kind lie within the file, and a call's continuation ends its record.
-- By the end of the record, which its kind gives.
use Prim.Native.Nat.{ℕ, ◌+◌, ◌-◌, ◌*◌, ◌≤◌, ◌<◌}
use native.Mathlib.Omega.{arith}
use native.Mathlib.Nat.{eq-or-lt_of_le}
use mathlib.Core.Logic.{⊎_elim}
use mathlib.Core.Bool.{Bool, true, false, cond}
use mathlib.Core.List.{List}
use mathlib.Core.Option.{none}
use mathlib.Core.Path.{◌≡◌, refl, sym, ap, ◌∙◌}
use lib.ListN.{length}
use lib.Dec.{eqb}
use borrow.Author.Tests.{leb-true, eqb-true, ne_eqb}
use Rattle.flow.specs.Format.{record_end, start_checks, data_place, data_count, element_place, elements_end, kind_at, continuation_at}
use Rattle.flow.specs.Clauses.Answers.{FitRecord}
use Rattle.records.specs.Clauses.Fields.{item_count, call_line_count, call_lines_place, continuation_in}
use Rattle.flow.proofs.Verdicts.{all_hold}
use Rattle.flow.proofs.Records.{end_is, end_fits, parts}

-- the data of a kind lie within the file

pub items_counted : {s : List ℕ} {p : ℕ} → FitRecord s p → 4 ≡ kind_at s p → data_place s p + 1 ≤ length s
items_counted {s} {p} h e = omega (arith, end_fits h, end_is s p 4 (sym e))

pub lines_counted : {s : List ℕ} {p : ℕ} → FitRecord s p → 6 ≡ kind_at s p → data_place s p + 1 ≤ length s
lines_counted {s} {p} h e = omega (arith, end_fits h, end_is s p 6 (sym e))

pub item-fits : {s : List ℕ} {p : ℕ} → FitRecord s p → (k : ℕ) → k < item_count s p → element_place s p k + 2 ≤ length s
unfolding item_count record_end
item-fits {s} {p} h k l = go (eqb (kind_at s p) 4) l (end_fits h)
  where
    go : (d : Bool) → k < cond d (data_count s p) 0
        → cond d (elements_end s p) (cond (eqb (kind_at s p) 5) (data_place s p + 4) (cond (eqb (kind_at s p) 6) (elements_end s p + 2) (data_place s p))) ≤ length s
        → element_place s p k + 2 ≤ length s
    go true l e = omega arith
    go false l e = absurd (omega arith)

pub call-line-fits : {s : List ℕ} {p : ℕ} → FitRecord s p → (k : ℕ) → k < call_line_count s p
    → call_lines_place s p + 2 * k + 2 ≤ length s
unfolding call_line_count
call-line-fits {s} {p} h k l = go (eqb (kind_at s p) 5) (eqb (kind_at s p) 6) refl refl l
  where
    go : (g o : Bool) → eqb (kind_at s p) 5 ≡ g → eqb (kind_at s p) 6 ≡ o → k < cond g 1 (cond o (data_count s p) 0)
        → cond g (data_place s p) (data_place s p + 1) + 2 * k + 2 ≤ length s
    go true o g' o' l = omega (arith, end_fits h, end_is s p 5 (eqb-true _ _ g'))
    go false true g' o' l = omega (arith, end_fits h, end_is s p 6 (eqb-true _ _ o'))
    go false false g' o' l = absurd (omega arith)

-- a call's continuation ends its record

continuation-is : (s : List ℕ) (p k : ℕ) → kind_at s p ≡ k
    → continuation_in s p ≡ cond (eqb k 5) (continuation_at s (data_place s p + 2)) (cond (eqb k 6) (continuation_at s (elements_end s p)) none)
unfolding continuation_in
continuation-is s p k e =
    ap (λ x. cond (eqb x 5) (continuation_at s (data_place s p + 2)) (cond (eqb x 6) (continuation_at s (elements_end s p)) none)) e

pub continuation-none : (s : List ℕ) (p : ℕ) → (kind_at s p ≡ 5 → ⊥) → (kind_at s p ≡ 6 → ⊥) → continuation_in s p ≡ none
unfolding continuation_in
continuation-none s p g o = simp (ne_eqb (kind_at s p) 5 g, ne_eqb (kind_at s p) 6 o)

pub continuation-ends : {s : List ℕ} {p : ℕ} → FitRecord s p → 5 ≤ kind_at s p → continuation_in s p ≡ continuation_at s (record_end s p - 2)
unfolding start_checks
continuation-ends {s} {p} h l =
    let start = all_hold (start_checks s p) (parts h).start in
    ⊎_elim (λ e. gosub (sym e)) (λ b. on_gosub (omega (arith, leb-true))) (eq-or-lt_of_le l)
  where
    gosub : kind_at s p ≡ 5 → continuation_in s p ≡ continuation_at s (record_end s p - 2)
    gosub e =
        let place : data_place s p + 2 ≡ record_end s p - 2 = omega (arith, end_is s p 5 e) in
        continuation-is s p 5 e ∙ ap (continuation_at s) place

    on_gosub : kind_at s p ≡ 6 → continuation_in s p ≡ continuation_at s (record_end s p - 2)
    on_gosub e =
        let place : elements_end s p ≡ record_end s p - 2 = omega (arith, end_is s p 6 e) in
        continuation-is s p 6 e ∙ ap (continuation_at s) place
