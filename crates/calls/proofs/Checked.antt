-- What a fit file gives those who go along its flow: a statement has few lines and successors, which are statements, and the rows of statements lie in the work area.
-- By what a fit file gives its readers, and what is asked of the work area before statements are read by number.
use Prim.Native.Nat.{ℕ, zero, suc, ◌+◌, ◌/◌, ◌≤◌, ◌<◌}
use mathlib.Core.List.{List}
use mathlib.Core.Option.{none, some}
use mathlib.Core.Path.{◌≡◌, refl, sym, ap, ◌∙◌}
use native.Mathlib.Omega.{arith}
use lib.ListN.{length, get_or}
use Rattle.flow.specs.Limits.{max_file}
use Rattle.flow.specs.Flow.{size}
use Rattle.flow.specs.declared.StmtId.{StmtId}
use Rattle.std.specs.Prelude.{Some, None}
use Rattle.flow.specs.declared.Header.{Header}
use Rattle.flow.specs.Clauses.Answers.{FitFile, FitRecord}
use Rattle.records.specs.Clauses.Fields.{call_line_count, call_line_at}
use Rattle.flow.specs.Format.{flow_of, statements_of, handler_of, record_place, successor_count, successor_at}
use Rattle.records.proofs.Files.{limited, record-fit}
use Rattle.records.proofs.KindData.{call-line-fits}
use Rattle.flow.proofs.Records.{references-fit}
use Rattle.records.proofs.Statements.{says}
use Rattle.records.proofs.Tabulated.{length-tabulate}
use Rattle.theory.specs.Lists.{In}
use Rattle.theory.specs.Body.{kind, call_lines, successors, walk_next}
use Rattle.theory.proofs.Body.{walk_next-below}
use Rattle.theory.proofs.Lists.{get_or-In}
use Rattle.statements.specs.Clauses.Layout.{row_at, row_words}
use Rattle.statements.specs.Clauses.Ready.{Ready, Indexed}
use Rattle.statements.proofs.Keeps.{ready_formed, ready-below, ready-room}
use Rattle.statements.proofs.WellFormed.{well_formed}
-- a handler is told as an entered statement is; dataflow cites these names
pub use Rattle.statements.proofs.Told.{enters-at, enters-nothing, enters-at as told_at, enters-nothing as told_none}
use Rattle.statements.proofs.WorkArea.{member-word, row_fits}

module _ {s ws : List ℕ} {n : ℕ} (r : Ready s ws n) where
  pub ready-next : (i j : ℕ) → In j (walk_next (flow_of s) i) → j < n
  ready-next i j m = ready-below r (walk_next-below (ready_formed r) i j m)

  module _ {i : ℕ} (l : i < n) where
    -- a statement has no more lines and successors than its record has room for
    pub lines-few : length (call_lines (kind (flow_of s) i)) ≤ max_file
    lines-few =
        let below : i < statements_of s = let e = r.count in omega arith in
        let p = record_place s i in
        go (call_line_count s p) refl (record-fit r.fit i below)
        (ap length (says s i below).lines ∙ length-tabulate (call_line_at s p) (call_line_count s p))
      where
        go : (m : ℕ) → call_line_count s (record_place s i) ≡ m → FitRecord s (record_place s i) → length (call_lines (kind (flow_of s) i)) ≡ call_line_count s (record_place s i)
            → length (call_lines (kind (flow_of s) i)) ≤ max_file
        go zero e h c = omega arith
        go (suc m) e h c = omega (arith, call-line-fits h m (omega arith), (limited r.fit).file)

    pub successors-few : length (successors (flow_of s) i) ≤ max_file
    successors-few =
        let below : i < statements_of s = let e = r.count in omega arith in
        let p = record_place s i in
        let counted : length (successors (flow_of s) i) ≡ successor_count s p = ap length (says s i below).successors ∙ length-tabulate (successor_at s p) (successor_count s p) in
        omega (arith, references-fit (record-fit r.fit i below), (limited r.fit).file)

    -- the rows of statements, whole and word by word
    pub row_room : row_at n i + (n + 63) / 64 ≤ length ws
    unfolding row_words
    row_room = omega (arith, row_fits n l, ready-room r (omega arith))

    pub row_word : {j : ℕ} → j < n → row_at n i + j / 64 < length ws
    row_word m = omega (arith, member-word m, row_fits n l, ready-room r (omega arith))

pub successor-below : {s : List ℕ} → FitFile s → (i k : ℕ) → k < length (successors (flow_of s) i) → get_or (successors (flow_of s) i) k 0 < size (flow_of s)
successor-below {s} h i k l = (well_formed h).successor i (get_or (successors (flow_of s) i) k 0) (get_or-In (successors (flow_of s) i) k 0 l)

-- where the number of statements was read again
pub ready-again : {s ws : List ℕ} {n : ℕ} → n ≡ statements_of s → Ready s ws (statements_of s) → Ready s ws n
ready-again e r = rw e r

-- the handler that the header tells is the flow's

pub handler-at : {s ws : List ℕ} {h : Header} → Indexed s h ws → (k : StmtId) → h.handler ≡ Some k → (flow_of s).handler ≡ some k.0
unfolding flow_of
handler-at {s} x k e = enters-at (handler_of s) k (sym (ap (λ (h : Header). h.handler) x.header) ∙ e)

pub handler-none : {s ws : List ℕ} {h : Header} → Indexed s h ws → h.handler ≡ None → (flow_of s).handler ≡ none
unfolding flow_of
handler-none {s} x e = enters-nothing (handler_of s) (sym (ap (λ (h : Header). h.handler) x.header) ∙ e)
