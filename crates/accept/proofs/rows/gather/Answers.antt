-- `accept::rows::gather` meets its contract, by the law of its shifts.
use Rattle.accept.proofs.Gathering.{gathers}
use Rattle.accept.proofs.rows.gather.Goals as goal

pub returns : goal.returns
returns c = gathers c.args.word
