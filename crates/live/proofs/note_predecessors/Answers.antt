-- `live::note_predecessors` meets its contract. The invariant: after k successors the statement's column holds the first k, and the rest is as it was.
-- Assumes nothing.
use Prim.Native.Nat.{◌<◌, ◌≤◌}
use native.Mathlib.Omega.{arith}
use lib.ListN.{length}
use Rattle.statements.specs.Clauses.Layout.{queue_at}
use Rattle.statements.proofs.Keeps.{ready-room}
use Rattle.statements.proofs.WorkArea.{row_fits, member-word}
use Rattle.statements.proofs.Names.{target_in}
use Rattle.live.proofs.Noting.{noting_more}
use Rattle.live.proofs.note_predecessors.Goals as goal
use Rattle.live.proofs.note_predecessors.Goals.{After-successor-j}

-- a successor is a statement, and has a row in the work area

target : (c : After-successor-j) → c.successor-j.result.0 < c.args.layout.n
target c = omega (arith, c.successor-j.ensures, target_in c.requires.0 c.args.i.0 c.loop-k.k (omega arith))

room : (c : After-successor-j) → queue_at c.args.layout.n ≤ length c.loop-k.work
room c = omega (arith, ready-room c.requires.0 (omega arith), c.loop-k.invariant.kept.size)

pub row-requires : goal.row-requires
row-requires c = (target (goal.at.row-requires c).After-successor-j)

pub insert-requires : goal.insert-requires
insert-requires c =
    let s = (goal.at.insert-requires c).After-successor-j in
    omega (arith, row_fits c.args.layout.n (target s), member-word c.requires.1, room s)

pub loop-k-preserved : goal.loop-k-preserved
loop-k-preserved c =
    let s = (goal.at.loop-k-preserved c).After-successor-j in
    noting_more c.loop-k.invariant (omega arith) c.requires.1 c.successor-j.ensures (target s) (room s) c.row.ensures c.insert.ensures
