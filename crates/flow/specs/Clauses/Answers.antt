-- What the reader answers: the header of a file that was found fit, or its refusal; of a part of a file, the place after it.
-- Each is given by the verdict on the checks of Format.
use Rattle.std.specs.Prelude.{ℕ, ◌+◌, ◌≤◌, Bool, true, false, ◌≡◌, List, length, Option, Some, None, Result, Ok, Err}
use mathlib.Core.Option as maybe
use Rattle.flow.specs.declared.StmtId.{StmtId}
use Rattle.flow.specs.declared.Header.{Header}
use Rattle.flow.specs.declared.Refusal.{Refusal}
use Rattle.flow.specs.Format.{Verdict, fit, unfit, verdict, file_checks, record_checks, statements_of, arrays_of, names_of, entry_of, lines_place, line_count, handler_of}

-- a statement's number, or none, as the code has it
abbrev pub statement_in : maybe.Option ℕ → Option StmtId
statement_in maybe.none = None
statement_in (maybe.some i) = Some (record { 0 = i })

abbrev pub header_of : List ℕ → Header
header_of s = record {
  statements = statements_of s;
  arrays = arrays_of s;
  names = names_of s;
  entry = record { 0 = entry_of s };
  lines_at = lines_place s;
  lines = line_count s;
  handler = statement_in (handler_of s);
}

-- a value where the checks are passed, or the refusal
abbrev pub answer_of : {T : Type 0} → Verdict → T → Result T Refusal
answer_of fit x = Ok x
answer_of (unfit r) x = Err r

-- the reader has come to a place of the record at p: the header, the record's start and all before the place lie within the file
pub record Reached (s : List ℕ) (p at place : ℕ) : Type 0 where
  pub header : 8 ≤ length s
  pub start : p + 6 ≤ length s
  pub within : at ≤ length s
  pub there : at ≡ place

-- the file, or the record at p, was found fit

pub record FitFile (s : List ℕ) : Type 0 where
  pub checked : verdict (file_checks s) ≡ fit

pub record FitRecord (s : List ℕ) (p : ℕ) : Type 0 where
  pub checked : verdict (record_checks s p) ≡ fit

abbrev pub is_fit : Verdict → Bool
is_fit fit = true
is_fit (unfit r) = false
