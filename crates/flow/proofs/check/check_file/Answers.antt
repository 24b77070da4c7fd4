-- A refusal so far is the file's, and where the last part is passed the file is fit, and the reader stood at its places. Assumes nothing.
use Prim.Native.Nat.{ℕ}
use mathlib.Core.List.{List, ◌++◌}
use mathlib.Core.Path.{◌≡◌, sym, ap, ◌∙◌}
use Rattle.std.specs.Prelude.{Result, Ok, Err, IsErrAnd}
use Rattle.flow.specs.declared.Header.{Header}
use Rattle.flow.specs.declared.Part.{Part}
use Rattle.flow.specs.declared.Part.TheVariants as part
use Rattle.flow.specs.declared.Refusal.{Refusal}
use Rattle.flow.specs.Format.{verdict, fit, file_checks}
use Rattle.flow.specs.Clauses.Answers.{answer_of, header_of}
use Rattle.flow.specs.Clauses.Parts.{checks_before, part_checks, part_end, answer_through}
use Rattle.flow.proofs.Answers.{Through, verdict-passed, refused_by, passed_by, handed_on}
use Rattle.flow.proofs.FileVerdict.{all-parts, refused-file}
use Rattle.flow.proofs.check.check_file.Goals as goal

-- the reader's file is s
here : {f s : List ℕ} {x : Result ℕ Refusal} (part : Part) → x ≡ answer_through f part → f ≡ s → x ≡ answer_through s part
here part e same = e ∙ ap (λ y. answer_through y part) same

refuses : {f s : List ℕ} {x : Result Header Refusal} {r : Refusal} (part : Part) → IsErrAnd x (λ e. e ≡ r) → Err r ≡ answer_through f part → f ≡ s
    → x ≡ answer_of (verdict (file_checks s)) (header_of s)
refuses {s = s} part h e same = handed_on h (refused_by (file_checks s) _ (refused-file s part (here part e same)))

passes : {f s : List ℕ} {t : Result ℕ Refusal} {q : ℕ} (part : Part) → t ≡ answer_through f part → t ≡ Ok q → f ≡ s
    → Through (verdict (checks_before s part ++ part_checks s part)) q (part_end s part)
passes part e is same = verdict-passed _ _ _ (sym is ∙ here part e same)

whole : {f s : List ℕ} {t : Result ℕ Refusal} {q : ℕ} → t ≡ answer_through f part.End → t ≡ Ok q → f ≡ s → verdict (file_checks s) ≡ fit
whole {s = s} e is same = sym (ap verdict (all-parts s)) ∙ (passes part.End e is same).is_fit

pub next-requires : goal.next-requires
unfolding verdict
next-requires c = c.new-reader.ensures.1

pub returns-in_err-next : goal.returns-in_err-next
returns-in_err-next c = refuses part.Header c.from_residual.ensures.1 (c.in_err-next.ensures).0 cc

pub returns-in_err-lines_at : goal.returns-in_err-lines_at
returns-in_err-lines_at c = refuses part.Statements c.from_residual-in_err-lines_at.ensures.1 (c.in_err-lines_at.ensures).0 cc

pub returns-in_err-key_at : goal.returns-in_err-key_at
returns-in_err-key_at c = refuses part.Lines c.from_residual-in_err-key_at.ensures.1 (c.in_err-key_at.ensures).0 cc

pub returns-in_err-end_at : goal.returns-in_err-end_at
returns-in_err-end_at c = refuses part.Key c.from_residual-in_err-end_at.ensures.1 (c.in_err-end_at.ensures).0 cc

pub returns-in_err-next-2 : goal.returns-in_err-next-2
returns-in_err-next-2 c = refuses part.End c.from_residual-in_err-next-2.ensures.1 (c.in_err-next-2.ensures).0 cc

pub header-requires : goal.header-requires
header-requires c = record {
  checked = whole c.next-5.ensures.0 c.in_ok-next-2.was cc;
  lines = (passes part.Statements c.next-2.ensures.0 c.in_ok-lines_at.was cc).place;
  key = (passes part.Lines c.next-3.ensures.0 c.in_ok-key_at.was cc).place;
  ends = (passes part.Key c.next-4.ensures.0 c.in_ok-end_at.was cc).place;
}

pub returns : goal.returns
returns c = ap Ok c.header.ensures ∙ passed_by (file_checks c.args.file.now) _ (whole c.next-5.ensures.0 c.in_ok-next-2.was cc)
