-- `conflicts_by` meets its contract: with the places noted the live sets are found, and from them the words and how many names are live at once.
-- Assumes nothing.
use Rattle.dataflow.proofs.JudgingRows.{ready_at, rows_start, live-sets, most-found}
use Rattle.dataflow.proofs.conflicts.conflicts_by.Goals as goal

pub live_names-requires : goal.live_names-requires
live_names-requires c =
    let p = c.requires in
    record { ready = ready_at p.0 c.note_offsets.ensures; some = p.0.flow_fit.some; in_room = p.1; out_room = p.2 }

pub write_rows-requires : goal.write_rows-requires
write_rows-requires c =
    let noted = c in
    let p = noted.requires in
    let e = noted.note_offsets.ensures in
    (rows_start p.0 e c.live_names.ensures p.1 p.2, live-sets p.0 e c.live_names.ensures p.1 p.2, p.0.flow_fit.header)

pub returns : goal.returns
returns c =
    let live = c in
    let p = live.requires in
    record {
      rows_are = c.write_rows.ensures;
      most_is = most-found p.0 live.note_offsets.ensures live.live_names.ensures p.1 p.2 c.most_live.ensures;
    }
