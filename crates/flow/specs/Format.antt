-- Document 01, "The flow file" and "What a refused flow gets". The file length is judged first, then every field in file order; the first
-- unfit field is the answer. So a file's judgement is a list of checks in that order, and its answer is the first check that fails.
use Rattle.std.specs.Prelude.{ℕ, zero, suc, ◌+◌, ◌-◌, ◌*◌, ◌^◌, Bool, true, false, cond, not, ◌&&◌, ◌||◌, List, [], ◌∷◌, ◌++◌, length, get_or, leb, ltb, eqb}
use mathlib.Core.Option.{Option, none, some}
use Rattle.flow.specs.declared.Refusal.{Refusal}
use Rattle.flow.specs.declared.Refusal.TheVariants.{TooLong, Record, Header, Kind, Target, Member, ReturnReference, Order, Trailing, Areas}
use Rattle.flow.specs.Limits.{max_file, max_statements, max_arrays, max_names, max_kind, no_continuation, work_words}
use Rattle.flow.specs.Refusals.{number_of, place_of}
use Rattle.flow.specs.Flow as F
use Rattle.flow.specs.Flow.{Flow, Statement, Item}

-- the little-endian number of w bytes at a place
unfoldable pub le_at : ℕ → List ℕ → ℕ → ℕ
le_at zero s at = 0
le_at (suc w) s at = get_or s at 0 + 256 * le_at w s (at + 1)

abbrev pub u8_at : List ℕ → ℕ → ℕ
u8_at s at = get_or s at 0

abbrev pub u16_at : List ℕ → ℕ → ℕ
u16_at = le_at 2

abbrev pub u64_at : List ℕ → ℕ → ℕ
u64_at = le_at 8

-- the list f 0, f 1, .. of k elements
unfoldable pub tabulate : {A : Type 0} → ℕ → (ℕ → A) → List A
tabulate zero f = []
tabulate (suc k) f = tabulate k f ++ (f k ∷ [])

-- Checks

-- what must hold of a field, and the refusal where it does not
pub record Check : Type 0 where
  pub holds : Bool
  pub otherwise : Refusal

pub data Verdict : Type 0 where
  fit : Verdict
  unfit : Refusal → Verdict

abbrev pub first : Bool → Refusal → Verdict → Verdict
first true r v = v
first false r v = unfit r

-- the first check that fails
unfoldable pub verdict : List Check → Verdict
verdict [] = fit
verdict (c ∷ cs) = first c.holds c.otherwise (verdict cs)

abbrev pub check : Bool → Refusal → Check
check b r = record { holds = b; otherwise = r }

-- the checks of elements 0, 1, .. of k elements
unfoldable pub each : ℕ → (ℕ → List Check) → List Check
each zero f = []
each (suc k) f = each k f ++ f k

-- The header: FH, n u16, arrays u8, names u8, entry u16

abbrev pub statements_of : List ℕ → ℕ
statements_of s = u16_at s 2

abbrev pub arrays_of : List ℕ → ℕ
arrays_of s = u8_at s 4

abbrev pub names_of : List ℕ → ℕ
names_of s = u8_at s 5

abbrev pub entry_of : List ℕ → ℕ
entry_of s = u16_at s 6

-- a field of the record at p that ends before e lies within the file
abbrev pub present : List ℕ → ℕ → ℕ → Check
present s p e = check (leb e (length s)) (Record p)

-- the letters of the marks: FH, FN, FL, FK, FE

abbrev pub letter_f : ℕ
letter_f = 70

abbrev pub letter_h : ℕ
letter_h = 72

abbrev pub letter_n : ℕ
letter_n = 78

abbrev pub letter_l : ℕ
letter_l = 76

abbrev pub letter_k : ℕ
letter_k = 75

abbrev pub letter_e : ℕ
letter_e = 69

-- `F` and the letter x stand at p, within the file
abbrev pub marked : List ℕ → ℕ → ℕ → Bool
marked s p x = leb (p + 2) (length s) && (eqb (u8_at s p) letter_f && eqb (u8_at s (p + 1)) x)

unfoldable pub header_checks : List ℕ → List Check
header_checks s =
    check (leb (length s) max_file) TooLong
    ∷ check (marked s 0 letter_h) (Record 0)
    ∷ present s 0 4
    ∷ check (leb (statements_of s) max_statements) (Header 0)
    ∷ present s 0 5
    ∷ check (leb (arrays_of s) max_arrays) (Header 0)
    ∷ present s 0 6
    ∷ check (leb (names_of s) max_names) (Header 0)
    ∷ present s 0 8
    ∷ check (eqb (statements_of s) 0 || ltb (entry_of s) (statements_of s)) (Header 0)
    ∷ []

-- A statement's record at p: FN, line u16, kind u8, successor count u8, successors u16 each, reference count u8, array numbers u8 each,
-- names written u64, names read u64, then kind data

abbrev pub line_at : List ℕ → ℕ → ℕ
line_at s p = u16_at s (p + 2)

abbrev pub kind_at : List ℕ → ℕ → ℕ
kind_at s p = u8_at s (p + 4)

-- the kinds by their numbers; 0 is any other statement

abbrev pub kind_return : ℕ
kind_return = 1

abbrev pub kind_clr : ℕ
kind_clr = 2

abbrev pub kind_run : ℕ
kind_run = 3

abbrev pub kind_dim : ℕ
kind_dim = 4

abbrev pub kind_gosub : ℕ
kind_gosub = 5

abbrev pub kind_on_gosub : ℕ
kind_on_gosub = 6

abbrev pub successor_count : List ℕ → ℕ → ℕ
successor_count s p = u8_at s (p + 5)

abbrev pub successors_place : ℕ → ℕ
successors_place p = p + 6

abbrev pub successor_at : List ℕ → ℕ → ℕ → ℕ
successor_at s p k = u16_at s (successors_place p + 2 * k)

abbrev pub references_place : List ℕ → ℕ → ℕ
references_place s p = successors_place p + 2 * successor_count s p

abbrev pub reference_count : List ℕ → ℕ → ℕ
reference_count s p = u8_at s (references_place s p)

abbrev pub reference_at : List ℕ → ℕ → ℕ → ℕ
reference_at s p k = u8_at s (references_place s p + 1 + k)

abbrev pub names_place : List ℕ → ℕ → ℕ
names_place s p = references_place s p + 1 + reference_count s p

abbrev pub written_at : List ℕ → ℕ → ℕ
written_at s p = u64_at s (names_place s p)

abbrev pub read_at : List ℕ → ℕ → ℕ
read_at s p = u64_at s (names_place s p + 8)

-- where the kind data begin
abbrev pub data_place : List ℕ → ℕ → ℕ
data_place s p = names_place s p + 16

-- the count that begins the data of DIM and of ON GOSUB; two bytes an element follow
abbrev pub data_count : List ℕ → ℕ → ℕ
data_count s p = u8_at s (data_place s p)

abbrev pub element_place : List ℕ → ℕ → ℕ → ℕ
element_place s p k = data_place s p + 1 + 2 * k

-- where the elements of a DIM or of an ON GOSUB end
abbrev pub elements_end : List ℕ → ℕ → ℕ
elements_end s p = element_place s p (data_count s p)

-- what a kind's number has: d for DIM, g for GOSUB, o for ON GOSUB, x for the others
abbrev pub by_data : {A : Type 0} → ℕ → A → A → A → A → A
by_data k d g o x = cond (eqb k kind_dim) d (cond (eqb k kind_gosub) g (cond (eqb k kind_on_gosub) o x))

-- the place after the record
unfoldable pub record_end : List ℕ → ℕ → ℕ
record_end s p =
    by_data (kind_at s p) (elements_end s p) (data_place s p + 4) (elements_end s p + 2) (data_place s p)

abbrev pub target_fits : List ℕ → ℕ → Bool
target_fits s t = ltb t (statements_of s)

abbrev pub continuation_fits : List ℕ → ℕ → Bool
continuation_fits s t = eqb t no_continuation || target_fits s t

abbrev pub array_fits : List ℕ → ℕ → Bool
array_fits s a = ltb a (arrays_of s)

-- no bit at or above the number of names
abbrev pub names_fit : List ℕ → ℕ → Bool
names_fit s w = ltb w (2 ^ names_of s)

unfoldable pub start_checks : List ℕ → ℕ → List Check
start_checks s p =
    check (marked s p letter_n) (Record p)
    ∷ present s p (p + 4)
    ∷ present s p (p + 5)
    ∷ check (leb (kind_at s p) max_kind) (Kind p)
    ∷ present s p (p + 6)
    ∷ []

unfoldable pub successor_checks : List ℕ → ℕ → ℕ → List Check
successor_checks s p k =
    present s p (successors_place p + 2 * k + 2)
    ∷ check (target_fits s (successor_at s p k)) (Target p)
    ∷ []

-- a RETURN has no references
unfoldable pub reference_count_checks : List ℕ → ℕ → List Check
reference_count_checks s p =
    present s p (references_place s p + 1)
    ∷ check (not (eqb (kind_at s p) kind_return) || eqb (reference_count s p) 0) (ReturnReference p)
    ∷ []

-- range before rising order
unfoldable pub reference_checks : List ℕ → ℕ → ℕ → List Check
reference_checks s p k =
    present s p (references_place s p + 1 + k + 1)
    ∷ check (array_fits s (reference_at s p k)) (Member p)
    ∷ check (eqb k 0 || ltb (reference_at s p (k - 1)) (reference_at s p k)) (Order p)
    ∷ []

unfoldable pub name_checks : List ℕ → ℕ → List Check
name_checks s p =
    present s p (names_place s p + 8)
    ∷ check (names_fit s (written_at s p)) (Member p)
    ∷ present s p (names_place s p + 16)
    ∷ check (names_fit s (read_at s p)) (Member p)
    ∷ []

unfoldable pub item_checks : List ℕ → ℕ → ℕ → List Check
item_checks s p k =
    present s p (element_place s p k + 1)
    ∷ check (array_fits s (u8_at s (element_place s p k))) (Member p)
    ∷ present s p (element_place s p k + 2)
    ∷ check (leb (u8_at s (element_place s p k + 1)) 1) (Kind p)
    ∷ []

unfoldable pub line_checks : List ℕ → ℕ → ℕ → List Check
line_checks s p k = present s p (element_place s p k + 2) ∷ []

unfoldable pub continuation_checks : List ℕ → ℕ → ℕ → List Check
continuation_checks s p at =
    present s p (at + 2)
    ∷ check (continuation_fits s (u16_at s at)) (Target p)
    ∷ []

unfoldable pub dim_checks : List ℕ → ℕ → List Check
dim_checks s p = (present s p (data_place s p + 1) ∷ []) ++ each (data_count s p) (item_checks s p)

unfoldable pub gosub_checks : List ℕ → ℕ → List Check
gosub_checks s p = (present s p (data_place s p + 2) ∷ []) ++ continuation_checks s p (data_place s p + 2)

unfoldable pub on_gosub_checks : List ℕ → ℕ → List Check
on_gosub_checks s p =
    (present s p (data_place s p + 1) ∷ [])
    ++ (each (data_count s p) (line_checks s p) ++ continuation_checks s p (elements_end s p))

unfoldable pub data_checks : List ℕ → ℕ → List Check
data_checks s p = by_data (kind_at s p) (dim_checks s p) (gosub_checks s p) (on_gosub_checks s p) []

unfoldable pub rest_checks : List ℕ → ℕ → List Check
rest_checks s p =
    reference_count_checks s p ++ (each (reference_count s p) (reference_checks s p) ++ (name_checks s p ++ data_checks s p))

unfoldable pub record_checks : List ℕ → ℕ → List Check
record_checks s p = start_checks s p ++ (each (successor_count s p) (successor_checks s p) ++ rest_checks s p)

-- the place of statement i's record
unfoldable pub record_place : List ℕ → ℕ → ℕ
record_place s zero = 8
record_place s (suc i) = record_end s (record_place s i)

unfoldable pub statement_checks : List ℕ → List Check
statement_checks s = each (statements_of s) (λ i. record_checks s (record_place s i))

-- FL, any number: line u16, its first statement u16

abbrev pub lines_place : List ℕ → ℕ
lines_place s = record_place s (statements_of s)

abbrev pub line_place : List ℕ → ℕ → ℕ
line_place s k = lines_place s + 6 * k

abbrev pub line_number : List ℕ → ℕ → ℕ
line_number s k = u16_at s (line_place s k + 2)

abbrev pub line_first : List ℕ → ℕ → ℕ
line_first s k = u16_at s (line_place s k + 4)

-- how many FL marks stand six bytes apart from p on
unfoldable pub count_lines : ℕ → List ℕ → ℕ → ℕ
count_lines zero s p = 0
count_lines (suc fuel) s p = elim (marked s p letter_l) [ true ↦ suc (count_lines fuel s (p + 6)) | false ↦ 0 ]

abbrev pub line_count : List ℕ → ℕ
line_count s = count_lines (length s) s (lines_place s)

unfoldable pub line_record_checks : List ℕ → ℕ → List Check
line_record_checks s k =
    present s (line_place s k) (line_place s k + 4)
    ∷ check (eqb k 0 || ltb (line_number s (k - 1)) (line_number s k)) (Order (line_place s k))
    ∷ present s (line_place s k) (line_place s k + 6)
    ∷ check (target_fits s (line_first s k)) (Target (line_place s k))
    ∷ []

-- FK, at most one (request E3): the handler u16

abbrev pub key_place : List ℕ → ℕ
key_place s = line_place s (line_count s)

abbrev pub has_key : List ℕ → Bool
has_key s = marked s (key_place s) letter_k

abbrev pub handler_at : List ℕ → ℕ
handler_at s = u16_at s (key_place s + 2)

unfoldable pub key_checks : List ℕ → List Check
key_checks s =
    cond (has_key s)
    (present s (key_place s) (key_place s + 4)
    ∷ check (target_fits s (handler_at s)) (Target (key_place s))
    ∷ [])
    []

-- FE, and nothing after it

abbrev pub end_place : List ℕ → ℕ
end_place s = key_place s + cond (has_key s) 4 0

unfoldable pub end_checks : List ℕ → List Check
end_checks s =
    check (marked s (end_place s) letter_e) (Record (end_place s))
    ∷ check (leb (length s) (end_place s + 2)) (Trailing (end_place s + 2))
    ∷ []

unfoldable pub file_checks : List ℕ → List Check
file_checks s =
    header_checks s ++ (statement_checks s ++ (each (line_count s) (line_record_checks s) ++ (key_checks s ++ end_checks s)))

-- What an accepted file says

abbrev pub continuation_from : ℕ → Bool → Option ℕ
continuation_from t true = none
continuation_from t false = some t

abbrev pub continuation_at : List ℕ → ℕ → Option ℕ
continuation_at s at = continuation_from (u16_at s at) (eqb (u16_at s at) no_continuation)

abbrev pub item_at : List ℕ → ℕ → ℕ → Item
item_at s p k = record { array = u8_at s (element_place s p k); flag = u8_at s (element_place s p k + 1) }

-- a kind that has no data
abbrev pub plain_kind : ℕ → F.Kind
plain_kind k = cond (eqb k kind_return) F.Kind.return (cond (eqb k kind_clr) F.Kind.clr (cond (eqb k kind_run) F.Kind.run F.Kind.other))

unfoldable pub kind_of : List ℕ → ℕ → F.Kind
kind_of s p =
    by_data (kind_at s p)
    (F.Kind.dim (tabulate (data_count s p) (item_at s p)))
    (F.Kind.gosub (u16_at s (data_place s p)) (continuation_at s (data_place s p + 2)))
    (F.Kind.on_gosub (tabulate (data_count s p) (λ k. u16_at s (element_place s p k))) (continuation_at s (elements_end s p)))
    (plain_kind (kind_at s p))

unfoldable pub statement_at : List ℕ → ℕ → Statement
statement_at s p = record {
  line = line_at s p;
  kind = kind_of s p;
  successors = tabulate (successor_count s p) (successor_at s p);
  references = tabulate (reference_count s p) (reference_at s p);
  written = written_at s p;
  read = read_at s p;
}

abbrev pub handler_of : List ℕ → Option ℕ
handler_of s = cond (has_key s) (some (handler_at s)) none

unfoldable pub flow_of : List ℕ → Flow
flow_of s = record {
  arrays = arrays_of s;
  names = names_of s;
  entry = entry_of s;
  statements = tabulate (statements_of s) (λ i. statement_at s (record_place s i));
  lines = tabulate (line_count s) (λ k. record { number = line_number s k; first = line_first s k });
  handler = handler_of s;
}

pub data Reading : Type 0 where
  accepted : Flow → Reading
  refused : Refusal → Reading

abbrev pub reading_of : Verdict → Flow → Reading
reading_of fit f = accepted f
reading_of (unfit r) f = refused r

-- a file's reading: the flow that it stands for, or its refusal
abbrev pub read_flow : List ℕ → Reading
read_flow s = reading_of (verdict (file_checks s)) (flow_of s)

-- The areas, judged last: masks of n × arrays bytes, live-in and live-out of n words, work of 64 × n words

abbrev pub area_check : ℕ → ℕ → Check
area_check need have = check (leb need have) Areas

unfoldable pub area_checks : ℕ → ℕ → ℕ → ℕ → ℕ → ℕ → List Check
area_checks n arrays masks live_in live_out work =
    area_check (n * arrays) masks ∷ area_check n live_in ∷ area_check n live_out ∷ area_check (work_words n) work ∷ []

-- a verdict's number and place as the outside sees them: 0 and 0 where the file is fit
abbrev pub verdict_number : Verdict → ℕ
verdict_number fit = 0
verdict_number (unfit r) = number_of r

abbrev pub verdict_place : Verdict → ℕ
verdict_place fit = 0
verdict_place (unfit r) = place_of r
