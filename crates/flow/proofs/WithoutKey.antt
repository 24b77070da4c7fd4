-- Request E3 added the record FK, and nothing else to the format: a file without it is judged and read as before the request, and a file with it was
-- refused, as FE was due where the FK stands. By cases on the mark: without it there are no checks of the key, and the end stands in its place.
use Prim.Native.Nat.{ℕ, ◌+◌}
use native.Mathlib.Omega.{arith}
use mathlib.Core.Bool.{Bool, true, false}
use mathlib.Core.List.{List, [], ◌∷◌, ◌++◌}
use mathlib.Core.Option.{none}
use mathlib.Core.Path.{◌≡◌, refl, sym, ap, ◌∙◌}
use lib.Dec.{leb}
use lib.ListN.{length}
use Rattle.flow.specs.declared.Refusal.TheVariants.{Record, Trailing}
use Rattle.flow.specs.Flow.{Flow}
use Rattle.flow.specs.Format.{Check, check, Reading, reading_of, read_flow, verdict, fit, unfit, each, marked, letter_e, letter_k, header_checks, statement_checks, line_count, line_record_checks, key_place, has_key, key_checks, end_checks, file_checks, flow_of}
use Rattle.flow.proofs.Tests.{marked_letter}
use Rattle.flow.proofs.Verdicts.{stops_at, fit-right, fit≢unfit}
use Rattle.flow.proofs.KeyRecord.{without_checks, without_end, without-handler}

-- the format before the request

unfoldable pub end_checks_before : List ℕ → List Check
end_checks_before s =
    check (marked s (key_place s) letter_e) (Record (key_place s))
    ∷ check (leb (length s) (key_place s + 2)) (Trailing (key_place s + 2))
    ∷ []

unfoldable pub file_checks_before : List ℕ → List Check
file_checks_before s =
    header_checks s ++ (statement_checks s ++ (each (line_count s) (line_record_checks s) ++ end_checks_before s))

-- a flow had every other field
abbrev pub without_handler : Flow → Flow
without_handler f = record {
  arrays = f.arrays;
  names = f.names;
  entry = f.entry;
  statements = f.statements;
  lines = f.lines;
  handler = none;
}

abbrev pub read_before : List ℕ → Reading
read_before s = reading_of (verdict (file_checks_before s)) (without_handler (flow_of s))

-- without FK

module _ (s : List ℕ) (absent : has_key s ≡ false) where
  same_end : key_checks s ++ end_checks s ≡ end_checks_before s
  unfolding end_checks end_checks_before
  same_end =
      ap (λ cs. cs ++ end_checks s) (without_checks s absent)
      ∙ ap (λ p. check (marked s p letter_e) (Record p) ∷ check (leb (length s) (p + 2)) (Trailing (p + 2)) ∷ []) (without_end s absent)

  pub same_checks : file_checks s ≡ file_checks_before s
  unfolding file_checks file_checks_before
  same_checks =
      ap (λ cs. header_checks s ++ (statement_checks s ++ (each (line_count s) (line_record_checks s) ++ cs))) same_end

  pub judged_as_before : verdict (file_checks s) ≡ verdict (file_checks_before s)
  judged_as_before = ap verdict same_checks

  pub no_handler : (flow_of s).handler ≡ none
  unfolding flow_of
  no_handler = without-handler s absent

  same_flow : flow_of s ≡ without_handler (flow_of s)
  same_flow = λ i. record {
    arrays = (flow_of s).arrays;
    names = (flow_of s).names;
    entry = (flow_of s).entry;
    statements = (flow_of s).statements;
    lines = (flow_of s).lines;
    handler = no_handler i;
  }

  pub read_as_before : read_flow s ≡ read_before s
  read_as_before = ap (λ v. reading_of v (flow_of s)) judged_as_before ∙ ap (reading_of (verdict (file_checks_before s))) same_flow

-- with FK

module _ (s : List ℕ) (there : has_key s ≡ true) where
  not_the_end : (b : Bool) → marked s (key_place s) letter_e ≡ b → b ≡ false
  not_the_end true e = absurd (omega (arith, marked_letter s (key_place s) letter_e e, marked_letter s (key_place s) letter_k there))
  not_the_end false e = refl

  pub end-was_due : verdict (end_checks_before s) ≡ unfit (Record (key_place s))
  unfolding end_checks_before
  end-was_due = stops_at 0 (end_checks_before s) (not_the_end (marked s (key_place s) letter_e) refl)

  pub refused-before : verdict (file_checks_before s) ≡ fit → ⊥
  unfolding file_checks_before
  refused-before h =
      let lines = each (line_count s) (line_record_checks s) in
      let after-header = fit-right (header_checks s) (statement_checks s ++ (lines ++ end_checks_before s)) h in
      let after-statements = fit-right (statement_checks s) (lines ++ end_checks_before s) after-header in
      fit≢unfit (sym (fit-right lines (end_checks_before s) after-statements) ∙ end-was_due)
