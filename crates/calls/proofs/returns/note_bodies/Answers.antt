-- `note_bodies` meets its contract: the RETURNs in the row that has the walks of the bodies go to k.
-- By the laws of `Gathers` and `Gains`. Assumes nothing.
use native.Mathlib.Omega.{arith}
use Rattle.flow.specs.Format.{flow_of}
use Rattle.theory.specs.Body.{entered}
use Rattle.statements.proofs.Keeps.{ready-most}
use Rattle.calls.proofs.Gathered.{bodies-noted}
use Rattle.calls.proofs.ReturnSet.{return-set-stays}
use Rattle.calls.proofs.returns.note_bodies.Goals as goal

pub invariant_of-layout : goal.invariant_of-layout
invariant_of-layout c = record { few = ready-most c.requires.0.ready }

pub note_shared-requires : goal.note_shared-requires
note_shared-requires c =
    let start = c in
    let r = start.requires.0.ready in
    (record { few = ready-most r; room = omega (arith, r.room, c.gather-row.ensures.kept.size) }, c.gather-row.ensures.apart, start.requires.2)

pub returns : goal.returns
returns c =
    let start = c in
    let f = flow_of start.args.file.now in
    let g = c.gather-row.ensures in
    bodies-noted f start.args.k.0 (entered f start.args.c.0) g (return-set-stays g.kept (omega arith) start.requires.4) c.note_shared.ensures
