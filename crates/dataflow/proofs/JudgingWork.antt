-- How the call that finds the certain names answers: a file that is refused, a work area that is too short, or an accepted flow. By the laws of verdicts: the area's check comes after the file's.
use Prim.Native.Nat.{ℕ, ◌≤◌}
use mathlib.Core.Bool.{Bool, true, false, cond}
use mathlib.Core.List.{List}
use mathlib.Core.Option.{none, some}
use mathlib.Core.Path.{◌≡◌, refl, ap, sym, ◌∙◌, subst}
use lib.Dec.{leb}
use borrow.Author.Tests.{leb-true}
use lib.ListN.{length, replicate}
use native.Mathlib.Omega.{arith}
use Rattle.flow.specs.declared.Refusal.{Refusal}
use Rattle.flow.specs.declared.Refusal.TheVariants.{Areas}
use Rattle.flow.specs.declared.StmtId.{StmtId}
use Rattle.std.specs.Prelude.{Ok, Err, Some, None}
use Rattle.flow.specs.declared.Header.{Header}
use Rattle.flow.specs.Limits.{work_words}
use Rattle.flow.specs.Format.{fit, unfit, verdict, file_checks, flow_of, statements_of, handler_of}
use Rattle.flow.specs.Clauses.Answers.{FitFile, header_of, answer_of}
use Rattle.flow.proofs.Verdicts.{unfit-append, fit-left}
use Rattle.flow.proofs.Answers.{verdict-passed, verdict-refused}
use Rattle.records.proofs.Statements.{size_is}
use Rattle.words.specs.Clauses.Change.{noted}
use Rattle.records.specs.Clauses.Fields.{noted_word}
use Rattle.theory.specs.Certain.{certain_word}
use Rattle.theory.proofs.Certain.{certain_word-lt, certain_word-sound, certain_word-complete, certain_word-none, certain_word-handler}
use Rattle.statements.proofs.WellFormed.{well_formed, entry_is}
use Rattle.statements.proofs.Noted.{ready-noted}
use Rattle.statements.proofs.Told.{enters-at, enters-nothing}
use Rattle.certain.specs.Clauses.CertainNames.{CertainStart}
use Rattle.dataflow.specs.Certain.{judged_work, CertainFound, CertainPromise}
use Rattle.dataflow.specs.Clauses.Phases.{FitRoom, FitFlow}
use Rattle.dataflow.proofs.Judging.{not_both, same_refusal, area-judged}

-- the file and the work area
module _ (s : List ℕ) (work : ℕ) where
  pub judged-work : FitFile s → (b : Bool) → leb (work_words (statements_of s)) work ≡ b → judged_work s work ≡ cond b fit (unfit Areas)
  judged-work h = area-judged (file_checks s) work h.checked (ap work_words (size_is s))

  pub file-unfit : {r : Refusal} → Err r ≡ answer_of (verdict (file_checks s)) (header_of s) → judged_work s work ≡ unfit r
  file-unfit e = unfit-append (file_checks s) _ (verdict-refused _ _ e)

  -- where both are fit the area has room
  work-room : judged_work s work ≡ fit → work_words (statements_of s) ≤ work
  work-room e = go (leb (work_words (statements_of s)) work) refl
    where
      go : (b : Bool) → leb (work_words (statements_of s)) work ≡ b → work_words (statements_of s) ≤ work
      go true q = leb-true _ _ q
      go false q = absurd (not_both e (judged-work (record { checked = fit-left (file_checks s) _ e }) false q))

-- what a call knows of a file and a work area that are fit
pub fit-room : {s work : List ℕ} {h : Header} → Ok h ≡ answer_of (judged_work s (length work)) (header_of s) → FitRoom s h work
fit-room {s} {work} told =
    let t = verdict-passed _ _ _ told in
    record {
      fit = record { checked = fit-left (file_checks s) _ t.is_fit };
      header = t.place;
      work_room = subst (λ (x : Header). work_words x.statements ≤ length work) (sym t.place) (work-room s (length work) t.is_fit);
    }

module _ (s work : List ℕ) where
  -- a refusal changes nothing
  pub refusing : (r : Refusal) → judged_work s (length work) ≡ unfit r → CertainPromise s work work (Err r)
  refusing r e = record { refused = λ x h. (same_refusal e h, refl); accepted = λ h. absurd (not_both h e) }

  pub accepting : {work' : List ℕ} (w : ℕ) → FitFile s → judged_work s (length work) ≡ fit → w ≡ certain_word (flow_of s) → work' ≡ replicate (length work) 0
      → CertainPromise s work work' (Ok w)
  accepting {work'} w h e found empty = record {
    refused = λ x r. absurd (not_both e r);
    accepted = λ _. (
      w,
      refl,
      subst (λ z. CertainFound (flow_of s) work work' z) (sym found) (record {
        word_is = refl;
        below = certain_word-lt (flow_of s);
        sound = certain_word-sound (well_formed h);
        complete = λ x l c. certain_word-complete (well_formed h) l c;
        work_zero = empty;
      }),
    );
  }

  -- with no statements no name is written
  pub none-certain : statements_of s ≡ 0 → 0 ≡ certain_word (flow_of s)
  none-certain z = sym (certain_word-none (flow_of s) (size_is s ∙ z))

-- the handler that the header tells is the flow's; with one no name is certain
module _ (s : List ℕ) {h : Header} (e : h ≡ header_of s) where
  pub no_handler : h.handler ≡ None → (flow_of s).handler ≡ none
  unfolding flow_of
  no_handler q = enters-nothing (handler_of s) (sym (ap (λ (x : Header). x.handler) e) ∙ q)

  pub has-handler : (k : StmtId) → h.handler ≡ Some k → (flow_of s).handler ≡ some k.0
  unfolding flow_of
  has-handler k q = enters-at (handler_of s) k (sym (ap (λ (x : Header). x.handler) e) ∙ q)

  pub handler-certain : (k : StmtId) → h.handler ≡ Some k → 0 ≡ certain_word (flow_of s)
  handler-certain k q = sym (certain_word-handler (flow_of s) (has-handler k q))

-- the places of the records are noted, and the entry is a statement
pub certain-start : {s work work' : List ℕ} {h : Header} → FitFlow s h work → (flow_of s).handler ≡ none → work' ≡ noted work 0 h.statements (noted_word s) → CertainStart s work' h.statements h.entry.0
certain-start {s} {work} {work'} {h} p unkeyed e =
    let count : h.statements ≡ statements_of s = ap (λ (x : Header). x.statements) p.header in
    let size = size_is s ∙ sym count in
    let entry : h.entry.0 ≡ (flow_of s).entry = ap (λ (x : Header). x.entry.0) p.header ∙ sym (entry_is s) in
    record {
      ready = ready-noted work p.fit count p.work_room e;
      no_handler = unkeyed;
      entry_is = entry;
      small = let below = (well_formed p.fit).entry (omega (arith, p.some, size)) in omega (arith, entry, size);
    }
