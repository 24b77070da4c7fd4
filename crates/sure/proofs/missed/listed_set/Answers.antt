-- `missed::listed_set` meets its contract: the set of a successor more is joined to the words.
-- Assumes nothing.
use native.Mathlib.Omega.{arith}
use Rattle.flow.specs.Format.{flow_of}
use Rattle.theory.specs.Body.{successors}
use Rattle.statements.proofs.Names.{target_in}
use Rattle.sure.proofs.Sets.{gathered_none, gathered-one, gathered-more}
use Rattle.sure.proofs.missed.listed_set.Goals as goal

pub loop-k-init : goal.loop-k-init
loop-k-init c = gathered_none

pub set_of-next-requires : goal.set_of-next-requires
set_of-next-requires c =
    let low = target_in c.requires.0 c.args.i.0 c.loop-k.k (omega (arith, c.offset-p.ensures.successors.count, c.successor_count-count.ensures)) in
    (c.requires.1, omega (arith, c.successor_at.ensures, low))

pub loop-k-preserved : goal.loop-k-preserved
loop-k-preserved c =
    gathered-more (successors (flow_of c.args.file.now) c.args.i.0) c.loop-k.k c.loop-k.invariant (omega (arith, c.offset-p.ensures.successors.count, c.successor_count-count.ensures))
    c.successor_at.ensures (gathered-one c.successor_at.result.0 c.set_of-next.ensures.0 c.set_of-next.ensures.1)
