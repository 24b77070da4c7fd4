-- The row of entered statements is zeroed, and the bodies' walks join it, which lies above the matrix. Assumes nothing.
use Prim.Native.Nat.{◌+◌, ◌≤◌, ℕ, ◌<◌}
use mathlib.Core.Logic.{inl}
use native.Mathlib.Omega.{arith}
use lib.ListN.{length}
use Rattle.flow.specs.Format.{flow_of}
use Rattle.theory.specs.Body.{entered}
use Rattle.statements.specs.Clauses.Layout.{calls_at, row_words, entered_row_at, solver_at}
use Rattle.statements.specs.Clauses.Ready.{Keeps, Ready}
use Rattle.statements.proofs.WorkArea.{row_from, row-words-le}
use Rattle.statements.proofs.Keeps.{keeps-trans, keeps_widen, indexed-keeps, ready-most, ready-room, ready_formed, ready-size}
use Rattle.calls.proofs.Gathered.{rows_stay, lines-gathered}
use mathlib.Core.List.{List}
use mathlib.Core.Path.{◌≡◌}
use Rattle.calls.proofs.returns.gather_lines.Goals as goal

-- the row of entered statements lies in the area
inside : {s ws : List ℕ} {n at : ℕ} → Ready s ws n → 0 < n → at ≡ entered_row_at n → at + row_words n ≤ length ws
inside {n = n} r some e = omega (arith, row-words-le n, ready-room r some)

pub invariant_of-layout : goal.invariant_of-layout
invariant_of-layout c = record { few = ready-most c.requires.0.ready }

pub zero_row-requires : goal.zero_row-requires
zero_row-requires c = let r = c.requires.0.ready in (inside r (omega (arith, c.requires.1)) c.entered_row-row.ensures)

pub add_lines-requires : goal.add_lines-requires
add_lines-requires c =
    let p = c.requires in
    let n = c.args.h.statements in
    let kept = c.zero_row.ensures.1 in
    let at = c.entered_row-row.ensures in
    let low : calls_at n ≤ c.entered_row-row.result = omega (arith, at, row_from n n) in (
      indexed-keeps p.0 kept (omega arith),
      p.1,
      record { low = low; high = omega (arith, inside p.0.ready (omega (arith, p.1)) at, kept.size); apart = λ w. omega (arith, at) },
      λ w. rows_stay c.args.c.0 (ready_formed p.0.ready) (ready-size p.0.ready) kept (omega (arith, at)) p.2,
    )

pub returns : goal.returns
returns c =
    let n = c.args.h.statements in
    let f = flow_of c.args.file.now in
    let at = c.entered_row-row.ensures in
    let kept : Keeps (entered_row_at n) (solver_at n) c.args.work.now c.add_lines.new.work =
    keeps_widen (omega (arith, at)) (omega (arith, at, row-words-le n)) (keeps-trans c.zero_row.ensures.1 c.add_lines.ensures.kept) in
    let size = kept.size in
    record {
      kept = kept;
      apart = record { room = omega (arith, inside c.requires.0.ready (omega (arith, c.requires.1)) at); place = inl (omega (arith, at)) };
      holds = lines-gathered f (entered f c.args.c.0) c.zero_row.ensures.0 c.add_lines.ensures;
    }
