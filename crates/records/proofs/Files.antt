-- What a fit file gives its readers: its header is within the limits, each statement's record is fit, its FL records lie within the file,
-- rise strictly and name statements, and its FK record names a statement. By the checks of each of its parts, which all hold.
use Prim.Native.Nat.{ℕ, ◌+◌, ◌≤◌, ◌<◌}
use native.Mathlib.Omega.{arith}
use mathlib.Core.Bool.{Bool, true, false}
use mathlib.Core.List.{List, ◌++◌}
use mathlib.Core.Option.{some}
use mathlib.Core.Path.{◌≡◌, refl, sym, ap, ◌∙◌}
use lib.ListN.{length}
use lib.Dec.{eqb}
use borrow.Author.Tests.{leb-true, ltb-true, ne_eqb}
use Rattle.flow.specs.Limits.{max_file, max_statements, max_arrays, max_names}
use Rattle.flow.specs.Format.{verdict, fit, each, header_checks, statement_checks, line_record_checks, key_checks, end_checks, file_checks, record_checks, record_place, statements_of, arrays_of, names_of, entry_of, line_count, line_place, line_number, line_first, has_key, handler_at, handler_of}
use Rattle.flow.specs.Clauses.Answers.{FitFile, FitRecord}
use Rattle.records.proofs.Rising.{Rising, rising, or-second}
use Rattle.flow.proofs.Verdicts.{all_hold, fit-left, fit-right, fit_at}
use Rattle.flow.proofs.FileVerdict.{header-within}
use Rattle.flow.proofs.KeyRecord.{key_record_checks, with_checks, with_handler, without-handler}

-- the header is within the limits

pub record Limited (s : List ℕ) : Type 0 where
  pub file : length s ≤ max_file
  pub statements : statements_of s ≤ max_statements
  pub arrays : arrays_of s ≤ max_arrays
  pub names : names_of s ≤ max_names
  pub entry : 0 < statements_of s → entry_of s < statements_of s

pub header-fits : {s : List ℕ} → FitFile s → 8 ≤ length s
unfolding file_checks
header-fits {s} h = header-within s (fit-left (header_checks s) (statement_checks s ++ (each (line_count s) (line_record_checks s) ++ (key_checks s ++ end_checks s))) h.checked)

pub limited : {s : List ℕ} → FitFile s → Limited s
unfolding file_checks header_checks
limited {s} h =
    let lines = each (line_count s) (line_record_checks s) in
    let header = all_hold (header_checks s) (fit-left (header_checks s) (statement_checks s ++ (lines ++ (key_checks s ++ end_checks s))) h.checked) in
    record {
      file = omega (arith, leb-true);
      statements = omega (arith, leb-true);
      arrays = omega (arith, leb-true);
      names = omega (arith, leb-true);
      entry = λ l. ltb-true _ _
          (or-second (eqb (statements_of s) 0) _ (ne_eqb (statements_of s) 0 (λ e. omega arith)) header.1.1.1.1.1.1.1.1.1.0);
    }

after-header : {s : List ℕ} → FitFile s → verdict (statement_checks s ++ (each (line_count s) (line_record_checks s) ++ (key_checks s ++ end_checks s))) ≡ fit
unfolding file_checks
after-header {s} h =
    fit-right (header_checks s) (statement_checks s ++ (each (line_count s) (line_record_checks s) ++ (key_checks s ++ end_checks s))) h.checked

after-statements : {s : List ℕ} → FitFile s → verdict (each (line_count s) (line_record_checks s) ++ (key_checks s ++ end_checks s)) ≡ fit
after-statements {s} h =
    fit-right (statement_checks s) (each (line_count s) (line_record_checks s) ++ (key_checks s ++ end_checks s)) (after-header h)

-- each statement's record is fit
pub record-fit : {s : List ℕ} → FitFile s → (i : ℕ) → i < statements_of s → FitRecord s (record_place s i)
unfolding statement_checks
record-fit {s} h i l =
    let lines = each (line_count s) (line_record_checks s) in
    let statements = fit-left (statement_checks s) (lines ++ (key_checks s ++ end_checks s)) (after-header h) in
    record { checked = fit_at (statements_of s) (λ j. record_checks s (record_place s j)) statements i l }

-- the FL records

line-fit : {s : List ℕ} → FitFile s → (k : ℕ) → k < line_count s → verdict (line_record_checks s k) ≡ fit
line-fit {s} h k l =
    let lines = each (line_count s) (line_record_checks s) in
    fit_at (line_count s) (line_record_checks s) (fit-left lines (key_checks s ++ end_checks s) (after-statements h)) k l

pub line-fits : {s : List ℕ} → FitFile s → (k : ℕ) → k < line_count s → line_place s k + 6 ≤ length s
unfolding line_record_checks
line-fits {s} h k l = let checks = all_hold (line_record_checks s k) (line-fit h k l) in omega (arith, leb-true)

pub line_first_lem : {s : List ℕ} → FitFile s → (k : ℕ) → k < line_count s → line_first s k < statements_of s
unfolding line_record_checks
line_first_lem {s} h k l = ltb-true _ _ (all_hold (line_record_checks s k) (line-fit h k l)).1.1.1.0

pub lines_rise : {s : List ℕ} → FitFile s → Rising (line_number s) (line_count s)
unfolding line_record_checks
lines_rise {s} h = rising (line_number s) (line_count s) (λ k l. (all_hold (line_record_checks s k) (line-fit h k l)).1.0)

-- the FK record

key-fit : {s : List ℕ} → FitFile s → verdict (key_checks s) ≡ fit
key-fit {s} h =
    let lines = each (line_count s) (line_record_checks s) in
    fit-left (key_checks s) (end_checks s) (fit-right lines (key_checks s ++ end_checks s) (after-statements h))

pub handler-below : {s : List ℕ} → FitFile s → (i : ℕ) → handler_of s ≡ some i → i < statements_of s
handler-below {s} h i e = go (has_key s) refl
  where
    go : (b : Bool) → has_key s ≡ b → i < statements_of s
    go true there =
        let named = with_handler s there in
        let same : i ≡ handler_at s = cc in
        let target = ltb-true (handler_at s) (statements_of s) (all_hold (key_record_checks s) (ap verdict (sym (with_checks s there)) ∙ key-fit h)).1.0 in
        omega (arith, same, target)
    go false absent = let unnamed = without-handler s absent in absurd (cc)
