-- A row that is all zero is passed by, and of any other the masks go along the edges. Assumes nothing.
use Prim.Native.Nat.{◌*◌, ◌≤◌}
use mathlib.Core.Path.{sym, ◌∙◌}
use native.Mathlib.Omega.{arith}
use Rattle.flow.specs.Format.{flow_of}
use Rattle.statements.proofs.Keeps.{keeps-refl, ready-most, ready-size}
use Rattle.statements.proofs.WellFormed.{well_formed}
use Rattle.solve.proofs.Room.{nodes-room}
use Rattle.dataflow.proofs.Headers.{narrow, arrays_told}
use Rattle.accept.proofs.Passing.{passed_by, passed_on}
use Rattle.accept.proofs.table.pass_row.Goals as goal

pub invariant_of-layout : goal.invariant_of-layout
invariant_of-layout c = let x = c.requires.1.indexed in record { few = ready-most x.ready; narrow = narrow x c.requires.0 }

pub is_filled-requires : goal.is_filled-requires
is_filled-requires c =
    let x = c.requires.1.indexed in
    let few = narrow x c.requires.0 in
    (c.requires.2, nodes-room x.ready c.requires.1.some few)

pub returns-then-is_filled : goal.returns-then-is_filled
returns-then-is_filled c =
    let a = c.args in
    let x = c.requires.1.indexed in
    let sends = c.send.ensures in
    let some = sym c.is_filled.ensures ∙ c.if-is_filled.true in
    let wide : (flow_of a.file.now).arrays ≤ 64 * a.width = omega (arith, c.requires.0, arrays_told x) in
    record {
      on = λ t bytes p. passed_on (flow_of a.file.now) t a.work.now a.h.statements a.width a.queue a.d.0 (well_formed x.ready.fit) (ready-size x.ready) wide bytes c.requires.2 p _ _ sends some;
      keeps = sends.keeps;
    }

pub returns : goal.returns
returns c =
    let a = c.args in
    let x = c.requires.1.indexed in
    let empty = sym c.is_filled.ensures ∙ c.if-is_filled.false in
    let wide : (flow_of a.file.now).arrays ≤ 64 * a.width = omega (arith, c.requires.0, arrays_told x) in
    record {
      on = λ t bytes p. passed_by (flow_of a.file.now) t a.work.now a.h.statements a.width a.queue a.d.0 (well_formed x.ready.fit) (ready-size x.ready) wide bytes c.requires.2 p empty;
      keeps = keeps-refl;
    }
