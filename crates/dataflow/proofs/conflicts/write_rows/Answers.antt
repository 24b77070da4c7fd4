-- `write_rows` meets its contract: the header tells the flow's handler.
-- Assumes nothing.
use Rattle.dataflow.proofs.JudgingWork.{no_handler, has-handler}
use Rattle.dataflow.proofs.conflicts.write_rows.Goals as goal

pub used_rows-requires : goal.used_rows-requires
used_rows-requires c =
    (c.requires.0, (c.in-Some.field-0.0, has-handler c.args.file.now c.requires.2 c.in-Some.field-0 c.in-Some.is))

pub live_rows-requires : goal.live_rows-requires
live_rows-requires c =
    (c.requires.0, c.requires.1, no_handler c.args.file.now c.requires.2 c.in-None.is)
