-- The file's answer, or the work area's where the file is fit. Assumes nothing.
use Prim.Native.Nat.{◌≤◌}
use mathlib.Core.Bool.{true, false}
use mathlib.Core.Path.{◌≡◌, sym, ap, ◌∙◌, subst}
use lib.Dec.{leb}
use Rattle.std.specs.Prelude.{Ok}
use Rattle.std.proofs.lemmas.Result.{err_from_is_err_and}
use Rattle.flow.specs.declared.Header.{Header}
use Rattle.flow.specs.Limits.{max_statements, work_words}
use Rattle.flow.specs.Clauses.Answers.{answer_of, header_of}
use Rattle.records.proofs.Files.{limited}
use Rattle.dataflow.proofs.Judging.{file-fit, header_is}
use Rattle.dataflow.proofs.JudgingWork.{judged-work, file-unfit}
use Rattle.dataflow.proofs.call.check_call.Goals as goal

pub returns-in_err-h : goal.returns-in_err-h
returns-in_err-h c =
    let p = err_from_is_err_and c.from_residual.result c.from_residual.ensures.1 in
    rw (p.1, p.2) (sym (ap (λ v. answer_of v (header_of c.args.file.now)) (file-unfit c.args.file.now c.args.work c.in_err-h.ensures)))

pub work_fits-requires : goal.work_fits-requires
work_fits-requires c =
    let told = sym c.in_ok-h.was ∙ c.check_file.ensures in
    subst (λ (h : Header). h.statements ≤ max_statements) (sym (header_is _ _ told)) (limited (file-fit _ _ told)).statements

pub returns-then-not-work_fits : goal.returns-then-not-work_fits
returns-then-not-work_fits c =
    let told = sym c.in_ok-h.was ∙ c.check_file.ensures in
    let short = subst (λ (h : Header). leb (work_words h.statements) c.args.work ≡ false) (header_is _ _ told) (sym c.work_fits.ensures ∙ c.if-not-work_fits.true) in
    sym (ap (λ v. answer_of v (header_of c.args.file.now)) (judged-work c.args.file.now c.args.work (file-fit _ _ told) false short))

pub returns : goal.returns
returns c =
    let told = sym c.in_ok-h.was ∙ c.check_file.ensures in
    let room = subst (λ (h : Header). leb (work_words h.statements) c.args.work ≡ true) (header_is _ _ told) (sym c.work_fits.ensures ∙ c.if-not-work_fits.false) in
    ap Ok (header_is _ _ told) ∙ sym (ap (λ v. answer_of v (header_of c.args.file.now)) (judged-work c.args.file.now c.args.work (file-fit _ _ told) true room))
