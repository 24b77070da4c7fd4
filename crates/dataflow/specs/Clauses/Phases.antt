-- What the phases start from, and what they leave together: the file is fit, its header is known, the areas have room and the work area is zero as far as it is used; after them the masks, the
-- live words are those of the definitions, and the count is that of the queue rule's course.
use Rattle.std.specs.Prelude.{ℕ, ◌*◌, ◌+◌, ◌-◌, ◌<◌, ◌≤◌, true, false, List, ◌≡◌, length, get_or}
use Rattle.words.specs.Clauses.Change.{zeroed}
use Rattle.flow.specs.declared.Header.{Header}
use Rattle.flow.specs.Flow.{Flow, size}
use Rattle.flow.specs.Limits.{work_words}
use Rattle.flow.specs.Clauses.Answers.{FitFile}
use Rattle.flow.specs.Clauses.Answers.{header_of}
use Rattle.theory.specs.Key.{opaque_handler}
use Rattle.theory.specs.Live.{live_in_word, live_out_word}
use Rattle.statements.specs.Clauses.Layout.{lines_at, matrix_at, row_words, queue_at, returns_row_at, set_words}
use Rattle.statements.specs.Clauses.Ready.{Ready, Indexed}
use Rattle.solve.specs.Clauses.Layout.{area_end}
use Rattle.flow.specs.Format.{flow_of}
use Rattle.calls.specs.Clauses.Held.{Summarized, Linked}
use Rattle.dataflow.specs.Promise.{Written, Solved, Unsolved}
use Rattle.dataflow.specs.Clauses.Transfer.{KeySet}

-- where the words end that finding the edges uses
abbrev pub edges_end : ℕ → ℕ
edges_end n = returns_row_at n + row_words n

-- with the words zeroed that the phases count on: those of the lines and of the summaries, and those of the solver
unfoldable pub cleared : List ℕ → ℕ → ℕ → List ℕ
cleared ws n w = zeroed (zeroed ws (lines_at n) (matrix_at n - lines_at n)) (edges_end n) (area_end n w - edges_end n)

-- a fit file, its header, and a work area with room
pub record FitRoom (s : List ℕ) (h : Header) (work : List ℕ) : Type 0 where
  pub fit : FitFile s
  pub header : h ≡ header_of s
  pub work_room : work_words h.statements ≤ length work

-- and statements
pub record FitFlow (s : List ℕ) (h : Header) (work : List ℕ) : Type 0 where
  pub fit : FitFile s
  pub header : h ≡ header_of s
  pub some : 0 < h.statements
  pub work_room : work_words h.statements ≤ length work

-- and areas with room
pub record FitAreas (s : List ℕ) (h : Header) (masks live_in live_out work : List ℕ) : Type 0 where
  pub flow_fit : FitFlow s h work
  pub masks_room : h.statements * h.arrays ≤ length masks
  pub in_room : h.statements ≤ length live_in
  pub out_room : h.statements ≤ length live_out

-- the masks as the queue rule leaves them or, where the handler's body is opaque, as they are without a visit
pub record MasksFound (f : Flow) (masks masks' : List ℕ) (visits : ℕ) : Type 0 where
  pub solved : opaque_handler f ≡ false → Solved f masks' visits
  pub unsolved : opaque_handler f ≡ true → Unsolved f masks' visits
  pub masks_size : length masks' ≡ length masks
  pub masks_kept : (x : ℕ) → size f * f.arrays ≤ x → get_or masks' x 0 ≡ get_or masks x 0

pub record Findings (f : Flow) (masks masks' ins ins' outs outs' : List ℕ) (visits : ℕ) : Type 0 where
  pub found : MasksFound f masks masks' visits
  pub live_in : Written (size f) (live_in_word f) ins ins'
  pub live_out : Written (size f) (live_out_word f) outs outs'

-- the calls have their summaries, and the solver's words are still zero
pub record SummariesMade (s : List ℕ) (h : Header) (ws : List ℕ) : Type 0 where
  pub indexed : Indexed s h ws
  pub summarized : Summarized (flow_of s) ws h.statements
  pub zero : (x : ℕ) → edges_end h.statements ≤ x → x < area_end h.statements (set_words h.arrays) → get_or ws x 0 ≡ 0

-- what the forward solver starts from: the edges are known, and its words are zero
pub record SolverStart (s : List ℕ) (h : Header) (ws : List ℕ) : Type 0 where
  pub indexed : Indexed s h ws
  pub linked : Linked (flow_of s) ws h.statements
  pub key : KeySet (flow_of s) ws h.statements (set_words h.arrays)
  pub some : 0 < h.statements
  pub zero : (x : ℕ) → queue_at h.statements ≤ x → x < area_end h.statements (set_words h.arrays) → get_or ws x 0 ≡ 0

-- the masks are written
pub record Masked (s : List ℕ) (h : Header) (masks masks' vs : List ℕ) (visits : ℕ) : Type 0 where
  pub ready : Ready s vs h.statements
  pub found : MasksFound (flow_of s) masks masks' visits
