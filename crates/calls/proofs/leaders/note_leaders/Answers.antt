-- Each RETURN gets the leader that was found for it. Assumes nothing.
use Prim.Native.Nat.{zero-le}
use native.Mathlib.Omega.{arith}
use Rattle.words.proofs.Found.{found-some, next-some}
use Rattle.statements.specs.Clauses.Layout.{row_words}
use Rattle.statements.proofs.WorkArea.{row_from}
use Rattle.statements.proofs.Keeps.{ready-room}
use Rattle.calls.proofs.Leading.{leading_start, leading_more, leading_all}
use Rattle.calls.proofs.ReturnSet.{returns-room}
use Rattle.calls.proofs.leaders.note_leaders.Goals as goal

pub loop-r-init : goal.loop-r-init
loop-r-init c = (leading_start, zero-le)

pub next-requires : goal.next-requires
unfolding row_words
next-requires c = omega (arith, c.returns_row.ensures, returns-room c.args.layout.n c.requires.0, c.loop-r.invariant.0.keeps.size)

pub loop-r-smaller : goal.loop-r-smaller
loop-r-smaller c =
    let found = next-some c.loop-r.work c.returns_row.result c.loop-r.from c.args.layout.n c.loop-r.invariant.1 c.in-Some.ensures in
    omega (arith, found.0.low, found.1)

pub loop-r-preserved : goal.loop-r-preserved
loop-r-preserved c =
    let inv = c.loop-r.invariant in
    let below = (found-some c.in-Some.ensures).1 in
    (leading_more c.requires.1 inv.0 inv.1 c.returns_row.ensures (omega (arith, row_from c.args.layout.n c.args.layout.n, ready-room c.requires.0 (omega arith), inv.0.keeps.size)) c.in-Some.ensures c.bodies.ensures c.leader_of-l.ensures, omega arith)

pub returns : goal.returns
returns c =
    let inv = c.loop-r.invariant in
    (leading_all c.requires.1 inv.0 inv.1 c.returns_row.ensures c.in_default.ensures, inv.0.keeps)
