-- The verdict on a file by its parts, header, statements, lines, key and end: parts before one that is fit are fit, and it begins within the file.
-- By the laws of verdicts: the checks of a part follow those of all parts before it, and each part that is fit ends within the file.
use Prim.Native.Nat.{ℕ, zero, suc, ◌≤◌}
use native.Mathlib.Omega.{arith}
use mathlib.Core.List.{List, ◌++◌, append_assoc}
use mathlib.Core.Path.{◌≡◌, sym, ap, ◌∙◌}
use borrow.Author.Tests.{leb-true}
use lib.ListN.{length}
use Rattle.flow.specs.declared.Refusal.{Refusal}
use Rattle.flow.specs.declared.Part.{Part}
use Rattle.flow.specs.declared.Part.TheVariants.{Header, Statements, Lines, Key, End}
use Rattle.std.specs.Prelude.{Ok, Err}
use Rattle.flow.specs.Format.{verdict, fit, unfit, each, header_checks, statement_checks, record_checks, record_place, statements_of, line_record_checks, line_count, lines_place, key_place, file_checks}
use Rattle.flow.specs.Clauses.Parts.{Due, part_start, part_end, part_checks, checks_before, header_read, part_answer, answer_before, answer_through}
use Rattle.flow.proofs.Verdicts.{all_hold, fit-left, fit-right, unfit-append, elements-within}
use Rattle.flow.proofs.Records.{end_fits}
use Rattle.flow.proofs.KeyRecord.{key-within}
use Rattle.flow.proofs.Answers.{Through, verdict-passed, verdict-refused, onward, refused-first}

module _ (s : List ℕ) where
  pub header-within : verdict (header_checks s) ≡ fit → 8 ≤ length s
  unfolding header_checks
  header-within h = let all = all_hold (header_checks s) h in omega (arith, leb-true)

  records_within : (n : ℕ) → 8 ≤ length s → verdict (each n (λ i. record_checks s (record_place s i))) ≡ fit → record_place s n ≤ length s
  unfolding each record_place
  records_within zero l h = l
  records_within (suc n) l h =
      end_fits (record { checked = fit-right (each n (λ i. record_checks s (record_place s i))) (record_checks s (record_place s n)) h })

  statements-within : 8 ≤ length s → verdict (statement_checks s) ≡ fit → lines_place s ≤ length s
  unfolding statement_checks
  statements-within l h = records_within (statements_of s) l h

  lines-within : lines_place s ≤ length s → verdict (each (line_count s) (line_record_checks s)) ≡ fit → key_place s ≤ length s
  unfolding line_record_checks
  lines-within l h =
      elements-within (line_count s) (line_record_checks s) (length s) (lines_place s) 6 l
      (λ k f. let all = all_hold (line_record_checks s k) f in omega (arith, leb-true)) h

  -- the checks of all parts are the file's
  pub all-parts : checks_before s End ++ part_checks s End ≡ file_checks s
  unfolding file_checks
  all-parts =
      append_assoc (checks_before s Key) (part_checks s Key) (part_checks s End)
      ∙ append_assoc (part_checks s Header ++ part_checks s Statements) (part_checks s Lines) (part_checks s Key ++ part_checks s End)
      ∙ append_assoc (part_checks s Header) (part_checks s Statements) (part_checks s Lines ++ (part_checks s Key ++ part_checks s End))

  -- of a file that is fit, and of a part before which all is fit

  pub before-end : verdict (file_checks s) ≡ fit → verdict (checks_before s End) ≡ fit
  before-end h = fit-left (checks_before s End) (part_checks s End) (ap verdict all-parts ∙ h)

  header_too : verdict (checks_before s Lines) ≡ fit → 8 ≤ length s
  header_too h = header-within (fit-left (part_checks s Header) (part_checks s Statements) h)

  to-lines : verdict (checks_before s Lines) ≡ fit → lines_place s ≤ length s
  to-lines h = statements-within (header_too h) (fit-right (part_checks s Header) (part_checks s Statements) h)

  pub lines_too : verdict (checks_before s Key) ≡ fit → verdict (checks_before s Lines) ≡ fit
  lines_too h = fit-left (checks_before s Lines) (part_checks s Lines) h

  to-key : verdict (checks_before s Key) ≡ fit → key_place s ≤ length s
  to-key h = lines-within (to-lines (lines_too h)) (fit-right (checks_before s Lines) (part_checks s Lines) h)

  pub key_too : verdict (checks_before s End) ≡ fit → verdict (checks_before s Key) ≡ fit
  key_too h = fit-left (checks_before s Key) (part_checks s Key) h

  pub header-first : (part : Part) → verdict (checks_before s part) ≡ fit → header_read part ≤ length s
  header-first Header h = omega arith
  header-first Statements h = header-within h
  header-first Lines h = header_too h
  header-first Key h = header_too (lines_too h)
  header-first End h = header_too (lines_too (key_too h))

  pub start-within : (part : Part) → verdict (checks_before s part) ≡ fit → part_start s part ≤ length s
  start-within Header h = omega arith
  start-within Statements h = header-within h
  start-within Lines h = to-lines h
  start-within Key h = to-key h
  start-within End h = key-within s (to-key (key_too h)) (fit-right (checks_before s Key) (part_checks s Key) h)

  -- a part is due where the answer so far is a place, and its answer is the answer through it

  module _ (part : Part) {at : ℕ} (so_far : Ok at ≡ answer_before s part) where
    fits : Through (verdict (checks_before s part)) at (part_start s part)
    fits = verdict-passed _ _ _ so_far

    pub due : Due s part at
    due = record {
      there = fits.place;
      within = rw fits.place (start-within part fits.is_fit);
      header = header-first part fits.is_fit;
    }

    pub counts : part_answer s part ≡ answer_through s part
    counts = onward (checks_before s part) (part_checks s part) (part_end s part) fits.is_fit

  -- and where it is a refusal, that is the answer
  pub stands : (part : Part) {r : Refusal} → Err r ≡ answer_before s part → Err r ≡ answer_through s part
  stands part so_far = refused-first (checks_before s part) (part_checks s part) (part_end s part) (verdict-refused _ _ so_far)

  -- a refusal of a part and all before it is that of the file

  past-end : {r : Refusal} → verdict (checks_before s End ++ part_checks s End) ≡ unfit r → verdict (file_checks s) ≡ unfit r
  past-end h = sym (ap verdict all-parts) ∙ h

  past-key : {r : Refusal} → verdict (checks_before s End) ≡ unfit r → verdict (file_checks s) ≡ unfit r
  past-key h = past-end (unfit-append (checks_before s End) (part_checks s End) h)

  past-lines : {r : Refusal} → verdict (checks_before s Key) ≡ unfit r → verdict (file_checks s) ≡ unfit r
  past-lines h = past-key (unfit-append (checks_before s Key) (part_checks s Key) h)

  past-statements : {r : Refusal} → verdict (checks_before s Lines) ≡ unfit r → verdict (file_checks s) ≡ unfit r
  past-statements h = past-lines (unfit-append (checks_before s Lines) (part_checks s Lines) h)

  pub refused-file : (part : Part) {r : Refusal} → Err r ≡ answer_through s part → verdict (file_checks s) ≡ unfit r
  refused-file part e = go part (verdict-refused _ _ e)
    where
      go : (part : Part) {r : Refusal} → verdict (checks_before s part ++ part_checks s part) ≡ unfit r → verdict (file_checks s) ≡ unfit r
      go Header h = past-statements (unfit-append (checks_before s Statements) (part_checks s Statements) h)
      go Statements h = past-statements h
      go Lines h = past-lines h
      go Key h = past-key h
      go End h = past-end h
