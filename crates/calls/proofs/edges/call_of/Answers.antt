-- `call_of` meets its contract: each part is read by its own function.
-- Assumes nothing.
use mathlib.Core.Path.{sym, ◌∙◌}
use Rattle.flow.specs.Format.{flow_of}
use Rattle.statements.proofs.Keeps.{ready-size}
use Rattle.calls.proofs.Checked.{row_room}
use Rattle.calls.proofs.Classes.{call_says, call-row}
use Rattle.calls.proofs.edges.call_of.Goals as goal

pub row-requires : goal.row-requires
row-requires c = (c.requires.2)

pub returns : goal.returns
returns c =
    let f = flow_of c.args.file.now in
    call-row (ready-size c.requires.0) c.requires.1 c.requires.2 (row_room c.requires.0 c.requires.2) c.continuation_of.ensures (call_says f c.args.i.0 c.requires.4).2
    (c.line_count.ensures ∙ sym c.requires.3.lines.count) (c.successor_count.ensures ∙ sym c.requires.3.successors.count) c.row.ensures
