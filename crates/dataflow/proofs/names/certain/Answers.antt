-- What the file, the work area and the word say of the promise. Assumes nothing.
use mathlib.Core.Path.{sym, ◌∙◌}
use Rattle.std.proofs.lemmas.Result.{err_from_is_err_and}
use Rattle.flow.proofs.Answers.{verdict-passed, verdict-refused}
use Rattle.dataflow.proofs.Judging.{zeroed_whole}
use Rattle.dataflow.proofs.JudgingWork.{fit-room, refusing, accepting}
use Rattle.dataflow.proofs.names.certain.Goals as goal

pub returns-in_err-h : goal.returns-in_err-h
returns-in_err-h c =
    let p = err_from_is_err_and c.from_residual.result c.from_residual.ensures.1 in
    rw (p.1, p.2) (refusing c.args.file.now c.args.work.now _ (verdict-refused _ _ c.in_err-h.ensures))

pub find_certain-word-requires : goal.find_certain-word-requires
find_certain-word-requires c = fit-room (sym c.in_ok-h.was ∙ c.check_call.ensures)

pub returns : goal.returns
returns c =
    let told = sym c.in_ok-h.was ∙ c.check_call.ensures in
    accepting c.args.file.now c.args.work.now _ (fit-room told).fit (verdict-passed _ _ _ told).is_fit c.find_certain-word.ensures
    (c.zero_row.ensures ∙ zeroed_whole _ _ c.find_certain-word.auto.work)
