-- The call's row is zeroed, and gains what its lines enter. Assumes nothing.
use Prim.Native.Nat.{ℕ, ◌+◌, ◌≤◌, ◌<◌}
use mathlib.Core.Bool.{false}
use mathlib.Core.List.{List}
use mathlib.Core.Path.{refl, sym, ap, ◌∙◌, subst, subst₂, ◌≡◌}
use native.Mathlib.Omega.{arith}
use lib.ListN.{get_or, length}
use Rattle.flow.specs.Format.{flow_of}
use Rattle.theory.specs.Body.{entered}
use Rattle.theory.proofs.Lists.{clash}
use Rattle.statements.specs.Clauses.Layout.{calls_at, row_at, row_words}
use Rattle.statements.specs.Clauses.Ready.{Keeps, Ready}
use Rattle.statements.proofs.WorkArea.{row_from, row_fits}
use Rattle.statements.proofs.Keeps.{keeps-trans, indexed-keeps, ready-most, ready-room}
use Rattle.calls.specs.Clauses.Held.{Empty}
use Rattle.calls.specs.Clauses.Joins.{Adds}
use Rattle.calls.proofs.Joined.{adds_all}
use Rattle.calls.proofs.Gathered.{bodies-alone}
use Rattle.calls.proofs.CallRows.{notes_skip, notes_row}
use Rattle.calls.proofs.rows.note_row.Goals as goal

pub invariant_of-layout : goal.invariant_of-layout
invariant_of-layout c = record { few = ready-most c.requires.0.ready }

pub returns-then-work-calls : goal.returns-then-work-calls
returns-then-work-calls c =
    let a = c.args in
    notes_skip (λ e. c.if-work-calls.true (ap (λ (b : ℕ). get_or a.work.now (b + a.i.0) 0) c.calls.ensures ∙ e))

pub row-row-requires : goal.row-row-requires
row-row-requires c = let p = c.requires in (p.1)

-- the row lies in the matrix
inside : {s ws : List ℕ} {n i row : ℕ} → Ready s ws n → i < n → row ≡ row_at n i → row + row_words n ≤ length ws
inside r below e = omega (arith, row_fits _ below, ready-room r (omega arith))

pub zero_row-requires : goal.zero_row-requires
zero_row-requires c = let r = c.requires.0.ready in (inside r c.requires.1 c.row-row.ensures)

pub add_lines-requires : goal.add_lines-requires
add_lines-requires c =
    let n = c.args.h.statements in
    let p = c.requires in
    let kept = c.zero_row.ensures.1 in
    let low : calls_at n ≤ c.row-row.result = omega (arith, c.row-row.ensures, row_from n c.args.i.0) in (
      indexed-keeps p.0 kept (omega arith),
      p.1,
      record { low = low; high = omega (arith, inside p.0.ready p.1 c.row-row.ensures, kept.size); apart = λ w. clash false w refl },
      λ w. clash false w refl,
    )

pub returns : goal.returns
returns c =
    let a = c.args in
    let f = flow_of a.file.now in
    let ws = a.work.now in
    let n = a.h.statements in
    let i = a.i.0 in
    let us = c.zero_row.new.work in
    let vs = c.add_lines.new.work in
    let e = c.row-row.ensures in
    let zeroed = c.zero_row.ensures in
    let state = sym (ap (λ (b : ℕ). get_or ws (b + i) 0) c.calls.ensures) ∙ c.if-work-calls.false in
    let adds : Adds (row_at n i) us vs n (entered f i) = subst₂ (λ (x : ℕ) (xs : List ℕ). Adds x us vs n xs) e (bodies-alone f (entered f i)) c.add_lines.ensures in
    notes_row c.requires.1 state (keeps-trans (subst (λ (x : ℕ). Keeps x (x + row_words n) ws us) e zeroed.1) adds.kept)
    (adds_all (subst (λ (x : ℕ). Empty us n x) e zeroed.0) adds)
