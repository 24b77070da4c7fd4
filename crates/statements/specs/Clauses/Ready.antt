-- What the work area must hold before a statement's fields are read by its number: the words that the second pass notes of the records of a file that was
-- found fit. `RecordOf` says what a statement's record then is, and `Keeps` of a phase that it writes only a run of words.
use Rattle.std.specs.Prelude.{ℕ, ◌+◌, ◌^◌, ◌<◌, ◌≤◌, List, ◌≡◌, Bool, cond, ◌||◌, eqb, ltb, length, get_or}
use Rattle.flow.specs.declared.Header.{Header}
use Rattle.flow.specs.Clauses.Answers.{header_of}
use Rattle.flow.specs.Flow.{Flow, Item, statement, items}
use Rattle.words.specs.Clauses.Row.{bit}
use Rattle.flow.specs.Limits.{work_words}
use Rattle.flow.specs.Format.{flow_of, tabulate, statements_of, lines_place, line_count, record_place, kind_return, kind_clr, kind_run, kind_gosub, kind_at, successor_count, successor_at, reference_count, reference_at, written_at, read_at, item_at}
use Rattle.flow.specs.Clauses.Answers.{FitFile, FitRecord}
use Rattle.records.specs.Clauses.Fields.{noted_word, LineParts, item_count, call_line_count, call_line_at, continuation_in}
use Rattle.theory.specs.Body.{kind, successors, references, call_lines, continuation_of, is_return}
use Rattle.theory.specs.Sure.{is_gosub}
use Rattle.theory.specs.Doubled.{resets}
use Rattle.statements.specs.Clauses.Layout.{offsets_at, lines_at}

pub record Ready (s ws : List ℕ) (n : ℕ) : Type 0 where
  pub fit : FitFile s
  pub count : n ≡ statements_of s
  pub room : work_words n ≤ length ws
  pub offsets : (i : ℕ) → i < n → get_or ws (offsets_at n + i) 0 ≡ noted_word s i

-- the file is fit, its records and where the FL records of each part of the lines stand are noted, and h is its header
pub record Indexed (s : List ℕ) (h : Header) (ws : List ℕ) : Type 0 where
  pub ready : Ready s ws h.statements
  pub lines : LineParts s ws (lines_at h.statements) h.statements (line_count s)
  pub header : h ≡ header_of s

-- the same by numbers: of n statements the records and the parts of the lines are noted, and the file's lines stand at `place`
pub record Located (s ws : List ℕ) (n place : ℕ) : Type 0 where
  pub ready : Ready s ws n
  pub parts : LineParts s ws (lines_at n) n (line_count s)
  pub lines : place ≡ lines_place s

-- the elements of l are f 0, f 1, .. of n elements
pub record Elements {A : Type 0} (l : List A) (n : ℕ) (f : ℕ → A) : Type 0 where
  pub list : l ≡ tabulate n f
  pub count : length l ≡ n
  pub at : (k : ℕ) (d : A) → k < length l → get_or l k d ≡ f k

-- the record of statement i is the one at p: it is fit, and what it says is statement i of the flow
pub record RecordOf (s : List ℕ) (i p : ℕ) : Type 0 where
  pub place : p ≡ record_place s i
  pub fit : FitRecord s p
  pub return : eqb (kind_at s p) kind_return ≡ is_return (kind (flow_of s) i)
  pub resets : (eqb (kind_at s p) kind_clr || eqb (kind_at s p) kind_run) ≡ resets (kind (flow_of s) i)
  pub gosub : eqb (kind_at s p) kind_gosub ≡ is_gosub (kind (flow_of s) i)
  pub successors : Elements (successors (flow_of s) i) (successor_count s p) (successor_at s p)
  pub references : Elements (references (flow_of s) i) (reference_count s p) (reference_at s p)
  pub written : (statement (flow_of s) i).written ≡ written_at s p
  pub read : (statement (flow_of s) i).read ≡ read_at s p
  pub items : Elements (items (kind (flow_of s) i)) (item_count s p) (item_at s p)
  pub lines : Elements (call_lines (kind (flow_of s) i)) (call_line_count s p) (call_line_at s p)
  pub continuation : continuation_of (kind (flow_of s) i) ≡ continuation_in s p

-- statement i does something to masks: CLR, RUN, a DIM that has items, or any with references
unfoldable pub acts_in : Flow → ℕ → Bool
acts_in f i = resets (kind f i) || (ltb 0 (length (items (kind f i))) || ltb 0 (length (references f i)))

-- vs has the length of ws and its words below lo and from hi on
pub record Keeps (lo hi : ℕ) (ws vs : List ℕ) : Type 0 where
  pub size : length vs ≡ length ws
  pub below : (x : ℕ) → x < lo → get_or vs x 0 ≡ get_or ws x 0
  pub above : (x : ℕ) → hi ≤ x → get_or vs x 0 ≡ get_or ws x 0

-- the word w is the set of the numbers below 64 that pass the test
pub record MembersWord (w : ℕ) (p : ℕ → Bool) : Type 0 where
  pub word : w < 2 ^ 64
  pub member : (a : ℕ) → a < 64 → bit w a ≡ cond (p a) 1 0

abbrev pub no_item : Item
no_item = record { array = 0; flag = 0 }
