-- `certain::push_listed` meets its contract. The invariant: the words went to the first k successors.
-- Assumes nothing.
use Prim.Native.Nat.{◌<◌}
use mathlib.Core.List.{[], ◌∷◌}
use mathlib.Core.Path.{◌≡◌, subst}
use native.Mathlib.Omega.{arith}
use lib.ListN.{length}
use Rattle.words.specs.Clauses.Row.{has}
use Rattle.flow.specs.Format.{flow_of}
use Rattle.theory.specs.Body.{successors}
use Rattle.certain.proofs.Pushing.{pushing_more}
use Rattle.certain.proofs.Visiting.{area-room}
use Rattle.certain.specs.Clauses.Unwritten.{Spread}
use Rattle.statements.proofs.Names.{target_in}
use Rattle.certain.proofs.push_listed.Goals as goal
use Rattle.certain.proofs.push_listed.Goals.{After-successor_at}

-- the code counts the successors
listed : (c : After-successor_at) → c.loop-k.k < length (successors (flow_of c.args.file.now) c.args.i.0)
listed c = omega (arith, c.offset-p.ensures.successors.count, c.successor_count-count.ensures)

pub push-requires : goal.push-requires
push-requires c =
    let ready = c.requires.0 in
    let room = area-room ready (omega (arith, c.requires.1)) in
    let bound = target_in ready c.args.i.0 c.loop-k.k (listed (goal.at.push-requires c).After-successor_at) in
    (omega (arith, room, c.loop-k.invariant.kept.size), omega (arith, c.successor_at.ensures, bound))

pub loop-k-preserved : goal.loop-k-preserved
loop-k-preserved c =
    pushing_more (successors (flow_of c.args.file.now) c.args.i.0) c.loop-k.k c.loop-k.invariant (listed (goal.at.loop-k-preserved c).After-successor_at)
    (subst (λ z. Spread c.loop-k.work c.push.new.work c.args.layout.n (λ i. i ≡ z) (λ x. has (c.args.names ∷ c.args.reached ∷ []) 0 x ≡ 1)) c.successor_at.ensures c.push.ensures)
