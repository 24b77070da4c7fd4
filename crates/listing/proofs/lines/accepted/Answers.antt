-- The header's numbers are read from the file, which is fit, and the places of the records are noted anew.
use Rattle.std.proofs.Common.{arith, length, length-append, ap}
use Rattle.records.proofs.Files.{header-fits}
use Rattle.statements.proofs.Noted.{ready-noted}
use Rattle.listing.proofs.Fields.{then}
use Rattle.listing.proofs.Statements.{text_parts}
use Rattle.listing.proofs.lines.accepted.Goals as goal

pub u16_at-n-requires : goal.u16_at-n-requires
u16_at-n-requires c = omega (arith, header-fits c.requires.held.fit)

pub u8_at-arrays-requires : goal.u8_at-arrays-requires
u8_at-arrays-requires c = omega (arith, header-fits c.requires.held.fit)

pub u8_at-names-requires : goal.u8_at-names-requires
u8_at-names-requires c = omega (arith, header-fits c.requires.held.fit)

pub first-requires : goal.first-requires
first-requires c =
    let parts = text_parts c.args.file.now c.args.areas.now c.u16_at-n.ensures c.u8_at-arrays.ensures c.u8_at-names.ensures in
    omega (arith, c.requires.room, simp length-append at (ap length parts))

pub statements-requires-clause-noted : goal.statements-requires-clause-noted
statements-requires-clause-noted c =
    ready-noted c.args.work.now c.requires.held.fit c.u16_at-n.ensures (omega (arith, c.u16_at-n.ensures, c.requires.work_room)) c.note_offsets.ensures

pub statements-requires-clause-room : goal.statements-requires-clause-room
statements-requires-clause-room c =
    let parts = text_parts c.args.file.now c.args.areas.now c.u16_at-n.ensures c.u8_at-arrays.ensures c.u8_at-names.ensures in
    omega (arith, c.requires.room, simp length-append at (ap length parts), simp length-append at (ap length c.first.ensures))

pub returns : goal.returns
returns c =
    rw (text_parts c.args.file.now c.args.areas.now c.u16_at-n.ensures c.u8_at-arrays.ensures c.u8_at-names.ensures)
    (then c.args.text.now.buffer.items _ _ c.first.ensures c.statements.ensures)
