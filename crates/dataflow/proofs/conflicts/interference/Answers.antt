-- What the file, the two areas and the rows say of the promise. Assumes nothing.
use native.Mathlib.Nat.{pos_of_ne-zero}
use Prim.Native.Nat.{ℕ, ◌≤◌}
use mathlib.Core.Bool.{Bool, true, false}
use mathlib.Core.List.{List}
use mathlib.Core.Path.{◌≡◌, refl, ap, sym, ◌∙◌, subst}
use borrow.Author.Tests.{leb-true}
use lib.Dec.{leb}
use lib.ListN.{length}
use Rattle.std.proofs.lemmas.Result.{err_from_is_err_and}
use Rattle.flow.specs.declared.Header.{Header}
use Rattle.flow.specs.Limits.{max_statements}
use Rattle.flow.specs.Format.{names_of}
use Rattle.flow.specs.Clauses.Answers.{header_of}
use Rattle.records.proofs.Files.{limited}
use Rattle.flow.proofs.Answers.{verdict-passed, verdict-refused}
use Rattle.dataflow.proofs.Judging.{zeroed_whole}
use Rattle.dataflow.proofs.JudgingWork.{fit-room}
use Rattle.dataflow.proofs.JudgingRows.{call-refused, rows-refused, accepting, none_found}
use Rattle.dataflow.proofs.conflicts.interference.Goals as goal

-- the test of the area of words is the one that the call goes by
by_names : (s : List ℕ) {h : Header} (rows : ℕ) (b : Bool) → h ≡ header_of s → leb h.names rows ≡ b → leb (names_of s) rows ≡ b
by_names s rows b e = subst (λ (x : Header). leb x.names rows ≡ b) e

pub returns-in_err-h : goal.returns-in_err-h
returns-in_err-h c =
    let p = err_from_is_err_and c.from_residual.result c.from_residual.ensures.1 in
    rw (p.1, p.2) (call-refused c.args.file.now c.args.rows.now c.args.work.now _ (verdict-refused _ _ c.in_err-h.ensures))

pub returns-then-not-area_fits : goal.returns-then-not-area_fits
returns-then-not-area_fits c =
    let told = sym c.in_ok-h.was ∙ c.check_call.ensures in
    rows-refused c.args.file.now c.args.rows.now c.args.work.now (verdict-passed _ _ _ told).is_fit
    (by_names c.args.file.now (length c.args.rows.now) false (fit-room told).header (sym c.area_fits.ensures ∙ c.if-not-area_fits.true))

pub returns-then-h-eq0 : goal.returns-then-h-eq0
returns-then-h-eq0 c =
    let a = c.args in
    let told = sym c.in_ok-h.was ∙ c.check_call.ensures in
    let header = (fit-room told).header in
    let room = sym c.area_fits.ensures ∙ c.if-not-area_fits.false in
    let none = ap (λ (x : Header). x.statements) (sym header) ∙ c.if-h-eq0.true in
    accepting a.file.now a.rows.now a.work.now 0 (fit-room told).fit (verdict-passed _ _ _ told).is_fit (by_names a.file.now (length a.rows.now) true header room)
    (none_found a.file.now a.rows.now a.work.now none (ap (λ (x : Header). x.names) header) (leb-true _ _ room) c.zero_row.ensures)
    (c.zero_row-then-h-eq0.ensures ∙ zeroed_whole _ _ refl)

pub find_conflicts-most-requires : goal.find_conflicts-most-requires
find_conflicts-most-requires c =
    let room = fit-room (sym c.in_ok-h.was ∙ c.check_call.ensures) in
    record {
      flow_fit = record { fit = room.fit; header = room.header; some = pos_of_ne-zero c.if-h-eq0.false; work_room = room.work_room };
      statements_few = subst (λ (x : Header). x.statements ≤ max_statements) (sym room.header) (limited room.fit).statements;
      rows_room = leb-true _ _ (sym c.area_fits.ensures ∙ c.if-not-area_fits.false);
    }

pub returns : goal.returns
returns c =
    let a = c.args in
    let told = sym c.in_ok-h.was ∙ c.check_call.ensures in
    accepting a.file.now a.rows.now a.work.now _ (fit-room told).fit (verdict-passed _ _ _ told).is_fit
    (by_names a.file.now (length a.rows.now) true (fit-room told).header (sym c.area_fits.ensures ∙ c.if-not-area_fits.false)) c.find_conflicts-most.ensures
    (c.zero_row-2.ensures ∙ zeroed_whole _ _ c.find_conflicts-most.auto.work)
