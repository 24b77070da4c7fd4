-- "One reader, the file and how far it has read": it reads a part of the file at a time, in file order.
-- Of each part, where it begins and ends, its checks, and what a reader that has come to it answers and where it stands then.
use Rattle.std.specs.Prelude.{ℕ, ◌+◌, ◌≤◌, ◌≡◌, List, [], ◌++◌, length, Result, Ok, Err}
use Rattle.flow.specs.declared.Part.{Part}
use Rattle.flow.specs.declared.Part.TheVariants.{Header, Statements, Lines, Key, End}
use Rattle.flow.specs.declared.Refusal.{Refusal}
use Rattle.flow.specs.Format.{Check, fit, verdict, each, header_checks, statement_checks, line_count, line_record_checks, key_checks, end_checks, file_checks, lines_place, key_place, end_place}
use Rattle.flow.specs.Clauses.Answers.{answer_of}

-- the length of the header
abbrev pub header_end : ℕ
header_end = 8

abbrev pub part_start : List ℕ → Part → ℕ
part_start s Header = 0
part_start s Statements = header_end
part_start s Lines = lines_place s
part_start s Key = key_place s
part_start s End = end_place s

abbrev pub part_end : List ℕ → Part → ℕ
part_end s Header = header_end
part_end s Statements = lines_place s
part_end s Lines = key_place s
part_end s Key = end_place s
part_end s End = end_place s + 2

abbrev pub part_checks : List ℕ → Part → List Check
part_checks s Header = header_checks s
part_checks s Statements = statement_checks s
part_checks s Lines = each (line_count s) (line_record_checks s)
part_checks s Key = key_checks s
part_checks s End = end_checks s

-- the checks of all parts before a part
abbrev pub checks_before : List ℕ → Part → List Check
checks_before s Header = []
checks_before s Statements = part_checks s Header
checks_before s Lines = part_checks s Header ++ part_checks s Statements
checks_before s Key = (part_checks s Header ++ part_checks s Statements) ++ part_checks s Lines
checks_before s End = ((part_checks s Header ++ part_checks s Statements) ++ part_checks s Lines) ++ part_checks s Key

-- how much of the header a part takes for granted
abbrev pub header_read : Part → ℕ
header_read Header = 0
header_read Statements = header_end
header_read Lines = header_end
header_read Key = header_end
header_read End = header_end

-- the reader has come to a part: it stands where the part begins, and all before that place lies within the file
pub record Due (s : List ℕ) (part : Part) (at : ℕ) : Type 0 where
  pub there : at ≡ part_start s part
  pub within : at ≤ length s
  pub header : header_read part ≤ length s

abbrev pub part_answer : List ℕ → Part → Result ℕ Refusal
part_answer s part = answer_of (verdict (part_checks s part)) (part_end s part)

-- the answer for all parts before a part, and the answer for a part and all before it

abbrev pub answer_before : List ℕ → Part → Result ℕ Refusal
answer_before s part = answer_of (verdict (checks_before s part)) (part_start s part)

abbrev pub answer_through : List ℕ → Part → Result ℕ Refusal
answer_through s part = answer_of (verdict (checks_before s part ++ part_checks s part)) (part_end s part)

-- a reader moves past a part that is fit, and stays where it is at one that is not
abbrev pub place_after : Result ℕ Refusal → ℕ → ℕ
place_after (Ok q) at = q
place_after (Err r) at = at

-- a file that is fit was read: the lines stand at `lines_at`, the key at `key_at` and the end at `end_at`
pub record Read (s : List ℕ) (lines_at key_at end_at : ℕ) : Type 0 where
  pub checked : verdict (file_checks s) ≡ fit
  pub lines : lines_at ≡ lines_place s
  pub key : key_at ≡ key_place s
  pub ends : end_at ≡ end_place s
