-- `leader_of` meets its contract: a row with the same words holds the same statements, and a RETURN leads itself where no other does.
-- The measure is what is left of the statements before it. Assumes nothing.
use Prim.Native.Nat.{◌<◌}
use native.Mathlib.Omega.{arith}
use Rattle.words.proofs.Found.{found-some, next-some}
use Rattle.statements.specs.Clauses.Layout.{row_words}
use Rattle.statements.proofs.WorkArea.{row_fits}
use Rattle.statements.proofs.Keeps.{ready-room}
use Rattle.calls.proofs.Leading.{leads_same}
use Rattle.calls.proofs.ReturnSet.{returns-room}
use Rattle.calls.proofs.leaders.leader_of.Goals as goal

pub next-requires : goal.next-requires
unfolding row_words
next-requires c = omega (arith, c.returns_row.ensures, returns-room c.args.layout.n c.requires.0, c.requires.1)

pub row-requires : goal.row-requires
row-requires c = (omega (arith, (found-some c.in-Some.ensures).1, c.requires.1))

pub row-requires-in-Some : goal.row-requires-in-Some
row-requires-in-Some c = (c.requires.1)

pub same_words-requires : goal.same_words-requires
same_words-requires c =
    let low : c.in-Some.l < c.args.layout.n = omega (arith, (found-some c.in-Some.ensures).1, c.requires.1) in
    let room = ready-room c.requires.0 (omega (arith, c.requires.1)) in
    let words = c.row_words.ensures in
    (omega (arith, c.row.ensures, row_fits c.args.layout.n low), omega (arith, c.row-in-Some.ensures, row_fits c.args.layout.n c.requires.1))

pub returns-then-same_words : goal.returns-then-same_words
returns-then-same_words c =
    leads_same (omega (arith, (found-some c.in-Some.ensures).1, c.requires.1)) c.row.ensures c.row-in-Some.ensures c.row_words.ensures (c.same_words.ensures.0 c.if-same_words.true)

pub loop-l-smaller : goal.loop-l-smaller
loop-l-smaller c =
    let found = next-some c.args.work.now c.returns_row.result c.loop-l.from c.args.r.0 c.loop-l.invariant c.in-Some.ensures in
    omega (arith, found.0.low, found.1)
