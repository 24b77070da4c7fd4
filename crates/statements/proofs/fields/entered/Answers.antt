-- `entered` meets its contract: the k-th line of a call is the one that its record lists, and the parts of the lines are noted.
-- Assumes nothing.
use native.Mathlib.Omega.{arith}
use Prim.Native.Nat.{◌<◌}
use Rattle.statements.proofs.Keeps.{ready-most, ready-room}
use Rattle.statements.proofs.fields.entered.Goals as goal

pub line_entry-requires : goal.line_entry-requires
line_entry-requires c =
    let start = c in
    let located = start.requires.0 in
    let ready = located.ready in
    let some : 0 < start.args.n = omega (arith, start.requires.1) in
    (ready.fit, located.lines, some, ready-most ready, omega (arith, c.lines.ensures, ready-room ready some), rw c.lines.ensures located.parts)
