-- What the file, the areas and the phases say of the promise. Assumes nothing.
use native.Mathlib.Nat.{pos_of_ne-zero}
use Prim.Native.Nat.{◌≤◌}
use mathlib.Core.Bool.{true, false}
use mathlib.Core.Path.{refl, ap, sym, ◌∙◌, subst}
use Rattle.std.proofs.lemmas.Result.{err_from_is_err_and}
use Rattle.flow.specs.declared.Header.{Header}
use Rattle.flow.specs.Limits.{max_statements, max_arrays}
use Rattle.records.proofs.Files.{limited}
use Rattle.dataflow.proofs.Judging as judging
use Rattle.dataflow.proofs.door.states.Goals as goal

pub returns-in_err-h : goal.returns-in_err-h
returns-in_err-h c =
    let a = c.args in
    let p = err_from_is_err_and c.from_residual.result c.from_residual.ensures.1 in
    rw (p.1, p.2) (judging.file-refused a.file.now a.masks.now a.live_in.now a.live_out.now a.work.now _ c.in_err-h.ensures)

pub areas_fit-requires : goal.areas_fit-requires
areas_fit-requires c =
    let told = sym c.in_ok-h.was ∙ c.check_file.ensures in
    let header = judging.header_is _ _ told in
    let l = limited (judging.file-fit _ _ told) in (
      subst (λ (h : Header). h.statements ≤ max_statements) (sym header) l.statements,
      subst (λ (h : Header). h.arrays ≤ max_arrays) (sym header) l.arrays,
    )

pub returns-then-not-areas_fit : goal.returns-then-not-areas_fit
returns-then-not-areas_fit c =
    let a = c.args in
    let told = sym c.in_ok-h.was ∙ c.check_file.ensures in
    judging.areas-refused a.file.now a.masks.now a.live_in.now a.live_out.now a.work.now (judging.file-fit _ _ told) refl
    (judging.areas_by _ _ told _ _ _ _ false (sym c.areas_fit.ensures ∙ c.if-not-areas_fit.true))

pub returns-then-h-eq0 : goal.returns-then-h-eq0
returns-then-h-eq0 c =
    let a = c.args in
    let told = sym c.in_ok-h.was ∙ c.check_file.ensures in
    let fits = judging.file-fit _ _ told in
    let none = ap (λ (h : Header). h.statements) (sym (judging.header_is _ _ told)) ∙ c.if-h-eq0.true in
    judging.accepting a.file.now a.masks.now _ a.live_in.now _ a.live_out.now _ a.work.now _ 0 fits
    (judging.judged-fit a.file.now a.masks.now a.live_in.now a.live_out.now a.work.now fits (judging.areas_by _ _ told _ _ _ _ true (sym c.areas_fit.ensures ∙ c.if-not-areas_fit.false)))
    (judging.nothing-solved a.file.now a.masks.now a.live_in.now a.live_out.now none)
    (c.zero_row.ensures ∙ judging.zeroed_whole _ _ refl)

pub solve_flow-visits-requires : goal.solve_flow-visits-requires
solve_flow-visits-requires c =
    let told = sym c.in_ok-h.was ∙ c.check_file.ensures in
    let rooms = judging.rooms _ _ _ _ _ _ (sym c.areas_fit.ensures ∙ c.if-not-areas_fit.false) in
    record {
      flow_fit = record { fit = judging.file-fit _ _ told; header = judging.header_is _ _ told; some = pos_of_ne-zero c.if-h-eq0.false; work_room = rooms.work_room };
      masks_room = rooms.masks_room;
      in_room = rooms.in_room;
      out_room = rooms.out_room;
    }

pub returns : goal.returns
returns c =
    let a = c.args in
    let told = sym c.in_ok-h.was ∙ c.check_file.ensures in
    let fits = judging.file-fit _ _ told in
    judging.accepting a.file.now a.masks.now _ a.live_in.now _ a.live_out.now _ a.work.now _ _ fits
    (judging.judged-fit a.file.now a.masks.now a.live_in.now a.live_out.now a.work.now fits (judging.areas_by _ _ told _ _ _ _ true (sym c.areas_fit.ensures ∙ c.if-not-areas_fit.false)))
    c.solve_flow-visits.ensures
    (c.zero_row-2.ensures ∙ judging.zeroed_whole _ _ c.solve_flow-visits.auto.work)
