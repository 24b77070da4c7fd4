-- Each successor is a statement, since the file is fit. Assumes nothing.
use Prim.Native.Nat.{ℕ, ◌<◌}
use mathlib.Core.List.{List}
use native.Mathlib.Omega.{arith}
use lib.ListN.{length, get_or}
use Rattle.flow.specs.Format.{flow_of}
use Rattle.theory.specs.Body.{successors}
use Rattle.statements.proofs.Keeps.{ready-below}
use Rattle.calls.proofs.Checked.{successor-below}
use Rattle.calls.proofs.Walking.{met-more, met-stack}
use Rattle.statements.specs.Clauses.Ready.{Ready}
use Rattle.calls.proofs.walk.meet_successors.Goals as goal

-- successor k is a statement
statement : {s ws : List ℕ} {n : ℕ} (i k : ℕ) → Ready s ws n → k < length (successors (flow_of s) i) → get_or (successors (flow_of s) i) k 0 < n
statement i k r l = ready-below r (successor-below r.fit i k l)

pub meet-height-requires : goal.meet-height-requires
meet-height-requires c =
    let inside : c.loop-k.k < length (successors (flow_of c.args.file.now) c.args.i.0) = omega (arith, c.successor_count-count.ensures, c.offset-place.ensures.successors.count) in
    (met-stack c.requires.1 c.loop-k.invariant, c.requires.2, rw c.successor_at.ensures (statement c.args.i.0 c.loop-k.k c.requires.0 inside))

pub loop-k-preserved : goal.loop-k-preserved
loop-k-preserved c =
    let list : List ℕ = successors (flow_of c.args.file.now) c.args.i.0 in
    met-more list c.loop-k.invariant c.meet-height.ensures (omega (arith, c.successor_count-count.ensures, c.offset-place.ensures.successors.count)) c.successor_at.ensures
