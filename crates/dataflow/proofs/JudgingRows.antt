-- How the call that finds the names that interfere answers: a file that is refused, an area that is too short, or an accepted flow. By the laws of verdicts: the areas' checks come after the file's, and
-- both have one number. What is found keeps the promise by the theorems of interference. Assumes nothing.
use Prim.Native.Nat.{ℕ, ◌^◌, ◌<◌, ◌≤◌}
use mathlib.Core.Bool.{Bool, true, false, cond}
use mathlib.Core.List.{List, [], ◌∷◌, ◌++◌, append_assoc}
use mathlib.Core.Path.{◌≡◌, refl, ap, sym, ◌∙◌, subst}
use native.Mathlib.Omega.{arith}
use lib.Count.{ones}
use lib.Dec.{leb}
use lib.ListN.{length, get_or, replicate}
use Rattle.words.specs.Clauses.Change.{noted, zeroed}
use Rattle.words.proofs.Zeroed.{zeroed_first}
use Rattle.flow.specs.declared.Refusal.{Refusal}
use Rattle.flow.specs.declared.Refusal.TheVariants.{Areas}
use Rattle.flow.specs.declared.Header.{Header}
use Rattle.std.specs.Prelude.{Ok, Err}
use Rattle.flow.specs.Limits.{work_words}
use Rattle.flow.specs.Flow.{Flow, size}
use Rattle.flow.specs.Format.{fit, unfit, area_check, verdict, file_checks, flow_of, statements_of, names_of}
use Rattle.flow.specs.Clauses.Answers.{FitFile}
use Rattle.flow.proofs.Verdicts.{unfit-append}
use Rattle.records.specs.Clauses.Fields.{noted_word}
use Rattle.records.proofs.Statements.{size_is}
use Rattle.theory.specs.Lists.{max_below}
use Rattle.theory.specs.Live.{member}
use Rattle.theory.specs.Interference.{live_count, most_live}
use Rattle.theory.specs.Clauses.WellFormed.{WellFormed}
use Rattle.theory.proofs.Interference.{interference_word-lt, interference_word-sound, interference_word-complete, interference_word-sym, interference_word_itself, interference_word-none, most_live-largest, most_live-attained, most_live-none}
use Rattle.statements.specs.Clauses.Ready.{Ready}
use Rattle.statements.proofs.Keeps.{ready-size, ready-keeps, keeps-zeroed}
use Rattle.statements.proofs.Noted.{ready-noted}
use Rattle.statements.proofs.WellFormed.{names_is, well_formed}
use Rattle.live.specs.Clauses.LiveNames.{LiveNames}
use Rattle.interference.specs.Clauses.Rows.{RowsStart, LiveSets, Rows}
use Rattle.interference.proofs.Counted.{most_is}
use Rattle.dataflow.specs.Certain.{judged_work}
use Rattle.dataflow.specs.Interference.{judged_rows, InterferenceFound, InterferencePromise}
use Rattle.dataflow.specs.Clauses.Conflicts.{FitRows, ConflictsFound}
use Rattle.dataflow.proofs.Judging.{not_both, same_refusal, area-judged}

-- what was found keeps the promise

found : {f : Flow} → WellFormed f → {rows rows' work work' : List ℕ} {most : ℕ} → ConflictsFound f rows rows' most → work' ≡ replicate (length work) 0 → InterferenceFound f rows rows' work work' most
found {f} w {rows} {rows'} {work} {work'} {most} c empty = record {
  words = record { size = rows_are.kept.size; written = rows_are.word; kept = rows_are.kept.above };
  sound = λ x y k l e. interference_word-sound f x y l (subst (λ z. member z y ≡ true) (rows_are.word x k) e);
  complete = λ x y k l i. subst (λ z. member z y ≡ true) (sym (rows_are.word x k)) (interference_word-complete w l i);
  below = λ x k. subst (λ z. z < 2 ^ f.names) (sym (rows_are.word x k)) (interference_word-lt f x);
  symmetric = λ x y k l. ap (λ z. member z y) (rows_are.word x k) ∙ interference_word-sym w x y k l ∙ ap (λ z. member z x) (sym (rows_are.word y l));
  not_itself = λ x k. ap (λ z. member z x) (rows_are.word x k) ∙ interference_word_itself f x k;
  most_is = c.most_is;
  largest = λ i l. subst (λ z. live_count f i ≤ z) (sym c.most_is) (most_live-largest f i l);
  attained = λ l. let t = most_live-attained f l in (t.0, t.1, t.2 ∙ sym c.most_is);
  none = λ e. c.most_is ∙ most_live-none f e;
  work_zero = empty;
}
  where
    rows_are : Rows f rows rows'
    rows_are = c.rows_are

module _ (s rows work : List ℕ) where
  -- the area of words is judged after the file and the work area
  judged-rows : judged_rows s (length rows) (length work)
      ≡ verdict ((file_checks s ++ (area_check (work_words (size (flow_of s))) (length work) ∷ [])) ++ (area_check (flow_of s).names (length rows) ∷ []))
  judged-rows = ap verdict (sym (append_assoc (file_checks s) (area_check (work_words (size (flow_of s))) (length work) ∷ []) (area_check (flow_of s).names (length rows) ∷ [])))

  rows-judged : judged_work s (length work) ≡ fit → (b : Bool) → leb (names_of s) (length rows) ≡ b → judged_rows s (length rows) (length work) ≡ cond b fit (unfit Areas)
  rows-judged e b d = judged-rows ∙ area-judged (file_checks s ++ (area_check (work_words (size (flow_of s))) (length work) ∷ [])) (length rows) e (names_is s) b d

  -- a refusal changes nothing
  refusing : (r : Refusal) → judged_rows s (length rows) (length work) ≡ unfit r → InterferencePromise s rows rows work work (Err r)
  refusing r e = record { refused = λ x h. (same_refusal e h, refl, refl); accepted = λ h. absurd (not_both h e) }

  pub call-refused : (r : Refusal) → judged_work s (length work) ≡ unfit r → InterferencePromise s rows rows work work (Err r)
  call-refused r e = refusing r (judged-rows ∙ unfit-append (file_checks s ++ (area_check (work_words (size (flow_of s))) (length work) ∷ [])) _ e)

  pub rows-refused : judged_work s (length work) ≡ fit → leb (names_of s) (length rows) ≡ false → InterferencePromise s rows rows work work (Err Areas)
  rows-refused e d = refusing Areas (rows-judged e false d)

  pub accepting : {rows' work' : List ℕ} (m : ℕ) → FitFile s → judged_work s (length work) ≡ fit → leb (names_of s) (length rows) ≡ true
      → ConflictsFound (flow_of s) rows rows' m → work' ≡ replicate (length work) 0 → InterferencePromise s rows rows' work work' (Ok m)
  accepting m h e d c empty = record {
    refused = λ x r. absurd (not_both (rows-judged e true d) r);
    accepted = λ _. (m, refl, found (well_formed h) c empty);
  }

  -- with no statements no name is used
  pub none_found : {rows' : List ℕ} {names : ℕ} → statements_of s ≡ 0 → names ≡ names_of s → names ≤ length rows → rows' ≡ zeroed rows 0 names → ConflictsFound (flow_of s) rows rows' 0
  none_found {rows'} {names} z count room e =
      let none : size (flow_of s) ≡ 0 = size_is s ∙ z in
      let known : (flow_of s).names ≡ names = names_is s ∙ sym count in
      record {
        rows_are = subst (λ (l : List ℕ). Rows (flow_of s) rows l) (sym e) (record {
          word = λ x l.
              zeroed_first rows names x (omega arith) (omega arith) ∙ sym (interference_word-none (flow_of s) none x);
          kept = keeps-zeroed rows 0 names (omega arith) (omega arith);
        });
        most_is = sym (most_live-none (flow_of s) none);
      }

-- The phases

module _ {s rows work : List ℕ} {h : Header} (p : FitRows s h rows work) where
  statements-is : h.statements ≡ statements_of s
  statements-is = ap (λ (x : Header). x.statements) p.flow_fit.header

  pub names_known : h.names ≡ (flow_of s).names
  names_known = ap (λ (x : Header). x.names) p.flow_fit.header ∙ sym (names_is s)

  -- the places of the records are noted
  pub ready_at : {vs : List ℕ} → vs ≡ noted work 0 h.statements (noted_word s) → Ready s vs h.statements
  ready_at e = ready-noted work p.flow_fit.fit statements-is p.flow_fit.work_room e

  module _ {vs us ins ins' outs outs' : List ℕ} (e : vs ≡ noted work 0 h.statements (noted_word s)) (l : LiveNames (flow_of s) h.statements vs us ins ins' outs outs')
      (in_room : h.statements ≤ length ins) (out_room : h.statements ≤ length outs) where
    pub rows_start : RowsStart s us rows h.names h.statements
    rows_start = record {
      rows_room = record { ready = ready-keeps (ready_at e) l.work (omega arith); room = subst (λ k. k ≤ length rows) names_known p.rows_room };
      names_is = names_known;
    }

    pub live-sets : LiveSets (flow_of s) h.statements ins' outs'
    live-sets = record {
      live_in = record { room = omega (arith, l.in_area.size); word = l.live_in };
      live_out = record { room = omega (arith, l.out_area.size); word = l.live_out };
    }

    pub most-found : {m : ℕ} → m ≡ max_below h.statements (λ i. ones (get_or ins' i 0)) → m ≡ most_live (flow_of s)
    most-found q = q ∙ most_is (flow_of s) (ready-size (ready_at e)) live-sets.live_in
