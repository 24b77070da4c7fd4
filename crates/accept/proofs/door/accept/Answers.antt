-- What the file, the work area, the proposal and the table say of the promise. Assumes nothing.
use native.Mathlib.Nat.{pos_of_ne-zero, mul-le-mul_left}
use native.Mathlib.Omega.{arith}
use Prim.Native.Nat.{ℕ, ◌*◌, ◌<◌, ◌≤◌}
use mathlib.Core.Bool.{Bool, true, false}
use mathlib.Core.List.{List}
use mathlib.Core.Path.{◌≡◌, refl, ap, sym, ◌∙◌, subst}
use borrow.Author.Tests.{leb-true}
use lib.Dec.{leb}
use lib.ListN.{length, take}
use Rattle.std.proofs.lemmas.List.{length-take-le}
use Rattle.std.proofs.lemmas.Result.{err_from_is_err_and}
use Rattle.flow.specs.declared.Header.{Header}
use Rattle.flow.specs.Limits.{max_statements, max_arrays}
use Rattle.flow.specs.Format.{statements_of, arrays_of, flow_of}
use Rattle.records.proofs.Files.{limited}
use Rattle.records.proofs.Statements.{size_is}
use Rattle.theory.specs.Accept.{proposed}
use Rattle.theory.proofs.Accept.{accepted-none}
use Rattle.flow.proofs.Answers.{verdict-passed, verdict-refused}
use Rattle.dataflow.specs.Clauses.Phases.{FitRoom}
use Rattle.dataflow.proofs.Judging.{zeroed_whole}
use Rattle.dataflow.proofs.JudgingWork.{fit-room}
use Rattle.accept.specs.Clauses.Bytes.{FirstOver, Masks}
use Rattle.accept.proofs.Judging.{masks-all, over-part, call-refused, length-refused, mask-refused, accepting}
use Rattle.accept.proofs.door.accept.Goals as goal

-- the header's numbers are within the limits, and those of the file
module _ {s work : List ℕ} {h : Header} (r : FitRoom s h work) where
  few : h.statements ≤ max_statements
  few = subst (λ (x : Header). x.statements ≤ max_statements) (sym r.header) (limited r.fit).statements

  small : h.arrays ≤ max_arrays
  small = subst (λ (x : Header). x.arrays ≤ max_arrays) (sym r.header) (limited r.fit).arrays

  -- the test of the proposal is the one that the call goes by
  length-judged : (have : ℕ) (b : Bool) → leb (2 * (h.statements * h.arrays)) have ≡ b → leb (2 * (statements_of s * arrays_of s)) have ≡ b
  length-judged have b e = subst (λ (x : Header). leb (2 * (x.statements * x.arrays)) have ≡ b) r.header e

  all-masks : {p : List ℕ} → Masks p (2 * (h.statements * h.arrays)) → Masks p (2 * (statements_of s * arrays_of s))
  all-masks {p} m = subst (λ (x : Header). Masks p (2 * (x.statements * x.arrays))) r.header m

-- where none of the first bytes is over 7
none-over : {p : List ℕ} (count : ℕ) → count ≤ length p → FirstOver (take count p) (length (take count p)) (length (take count p)) → Masks p count
none-over {p} count room h = masks-all (over-part count room h) (λ l. omega (arith, length-take-le count p room)) room

pub returns-in_err-h : goal.returns-in_err-h
returns-in_err-h c =
    let p = err_from_is_err_and c.from_residual.result c.from_residual.ensures.1 in
    rw (p.1, p.2) (call-refused c.args.file.now c.args.proposal.now c.args.work.now _ (verdict-refused _ _ c.in_err-h.ensures))

pub overflow_mul-count : goal.overflow_mul-count
overflow_mul-count c =
    let r = fit-room (sym c.in_ok-h.was ∙ c.check_call.ensures) in
    omega (arith, mul-le-mul_left c.in_ok-h.h.statements (small r), few r)

pub overflow_mul-count-2 : goal.overflow_mul-count-2
overflow_mul-count-2 c =
    let r = fit-room (sym c.in_ok-h.was ∙ c.check_call.ensures) in
    omega (arith, mul-le-mul_left c.in_ok-h.h.statements (small r), few r)

pub returns-then-not-area_fits : goal.returns-then-not-area_fits
returns-then-not-area_fits c =
    let a = c.args in
    let told = sym c.in_ok-h.was ∙ c.check_call.ensures in
    length-refused a.file.now a.proposal.now a.work.now (verdict-passed _ _ _ told).is_fit
    (length-judged (fit-room told) (length a.proposal.now) false (sym c.area_fits.ensures ∙ c.if-not-area_fits.true))

pub returns-in-Some : goal.returns-in-Some
returns-in-Some c =
    let a = c.args in
    let told = sym c.in_ok-h.was ∙ c.check_call.ensures in
    let r = fit-room told in
    let over : ℕ = c.in-Some.over in
    let count : ℕ = 2 * (c.in_ok-h.h.statements * c.in_ok-h.h.arrays) in
    let room : count ≤ length a.proposal.now = leb-true _ _ (sym c.area_fits.ensures ∙ c.if-not-area_fits.false) in
    let below : over < count = omega (arith, c.in-Some.ensures.1, length-take-le count a.proposal.now room) in
    let both = subst (λ (x : Header). FirstOver a.proposal.now (2 * (x.statements * x.arrays)) over × (over < 2 * (x.statements * x.arrays))) r.header (over-part count room c.in-Some.ensures.0, below) in
    mask-refused a.file.now a.proposal.now a.work.now (verdict-passed _ _ _ told).is_fit
    (length-judged r (length a.proposal.now) true (sym c.area_fits.ensures ∙ c.if-not-area_fits.false)) over both.0 both.1

pub returns-then-h-eq0 : goal.returns-then-h-eq0
returns-then-h-eq0 c =
    let a = c.args in
    let told = sym c.in_ok-h.was ∙ c.check_call.ensures in
    let r = fit-room told in
    let room = sym c.area_fits.ensures ∙ c.if-not-area_fits.false in
    let none = size_is a.file.now ∙ ap (λ (x : Header). x.statements) (sym r.header) ∙ c.if-h-eq0.true in
    accepting a.file.now a.proposal.now a.work.now true r.fit (verdict-passed _ _ _ told).is_fit (length-judged r (length a.proposal.now) true room)
    (all-masks r (none-over (2 * (c.in_ok-h.h.statements * c.in_ok-h.h.arrays)) (leb-true _ _ room) c.in_default.ensures))
    (sym (accepted-none (flow_of a.file.now) (proposed (flow_of a.file.now) a.proposal.now) none)) (c.zero_row.ensures ∙ zeroed_whole _ _ refl)

pub accepts-yes-requires : goal.accepts-yes-requires
accepts-yes-requires c =
    let r = fit-room (sym c.in_ok-h.was ∙ c.check_call.ensures) in
    let room = sym c.area_fits.ensures ∙ c.if-not-area_fits.false in
    (record { fit = r.fit; header = r.header; some = pos_of_ne-zero c.if-h-eq0.false; work_room = r.work_room }, none-over (2 * (c.in_ok-h.h.statements * c.in_ok-h.h.arrays)) (leb-true _ _ room) c.in_default.ensures)

pub returns : goal.returns
returns c =
    let a = c.args in
    let told = sym c.in_ok-h.was ∙ c.check_call.ensures in
    let r = fit-room told in
    let room = sym c.area_fits.ensures ∙ c.if-not-area_fits.false in
    accepting a.file.now a.proposal.now a.work.now _ r.fit (verdict-passed _ _ _ told).is_fit (length-judged r (length a.proposal.now) true room)
    (all-masks r (none-over (2 * (c.in_ok-h.h.statements * c.in_ok-h.h.arrays)) (leb-true _ _ room) c.in_default.ensures)) c.accepts-yes.ensures
    (c.zero_row-2.ensures ∙ zeroed_whole _ _ c.accepts-yes.auto.work)
