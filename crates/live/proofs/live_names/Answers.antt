-- Where the last sweep changed nothing, or where nothing waits any more, the sets are found. Assumes nothing.
use Rattle.statements.proofs.Keeps.{keeps-refl}
use Rattle.live.proofs.Finishing.{begun_more, nothing_waits, finished}
use Rattle.live.proofs.live_names.Goals as goal

pub returns-then-not-sweeps : goal.returns-then-not-sweeps
returns-then-not-sweeps c =
    let swept = c.sweeps.ensures in
    finished c.requires.ready (swept.solved c.if-not-sweeps.true) swept.in_area swept.out_area keeps-refl

pub loop-queue-preserved : goal.loop-queue-preserved
loop-queue-preserved c = begun_more c.loop-queue.invariant c.visit-queue.ensures

pub returns : goal.returns
returns c =
    let all = c.loop-queue.invariant in
    finished c.requires.ready (nothing_waits all.held c.loop-queue-test.false) all.in_area all.out_area all.kept
