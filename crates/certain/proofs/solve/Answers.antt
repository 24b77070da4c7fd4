-- `certain::solve` meets its contract. The invariant: the law's. The measure: what may still be done.
-- Assumes nothing.
use native.Mathlib.Omega.{arith}
use Rattle.flow.specs.Format.{flow_of}
use Rattle.statements.proofs.Keeps.{ready-size}
use Rattle.certain.proofs.Visiting.{area-room}
use Rattle.certain.proofs.Solution.{solving-first, solved}
use Rattle.certain.proofs.solve.Goals as goal

pub begin-requires : goal.begin-requires
begin-requires c = let start = c.requires in (area-room start.ready (omega (arith, start.small)), start.small)

pub loop-i-init : goal.loop-i-init
loop-i-init c = solving-first (flow_of c.args.file.now) c.requires.small c.requires.entry_is c.begin.ensures

pub returns : goal.returns
returns c = solved (ready-size c.requires.ready) c.begin.ensures.kept c.loop-i.invariant c.waiting.ensures c.in_default.ensures
