use Rattle.std.proofs.Common.{◌≡◌, ◌<◌, ◌++◌, arith, append-nil, length, length-append, ap, sym, ◌∙◌}
use Rattle.flow.specs.Format.{statements_of}
use Rattle.records.specs.Clauses.Fields.{record_part}
use Rattle.flow.specs.Format.{line_at, record_place}
use Rattle.theory.specs.Lists.{concat_map, up_to}
use Rattle.listing.specs.Clauses.Room.{areas_line}
use Rattle.listing.proofs.Fields.{then}
use Rattle.listing.proofs.Statements.{no_lines, one_line_more, next_fits, line_start, row_small, line_written}
use Rattle.listing.proofs.lines.statements.Goals as goal

pub loop-i-init : goal.loop-i-init
loop-i-init c = rw no_lines (sym (append-nil _))

pub record_line-number-requires : goal.record_line-number-requires
record_line-number-requires c = rw c.record.ensures (line_start c.requires.held c.loop-i.i (omega (arith, c.requires.noted.count)))

pub line-requires-clause-small : goal.line-requires-clause-small
line-requires-clause-small c = row_small c.requires.held c.loop-i.i (omega (arith, c.requires.noted.count)) c.args.arrays c.requires.arrays

pub line-requires-clause-room : goal.line-requires-clause-room
line-requires-clause-room c =
    let number : c.record_line-number.result ≡ line_at (record_part c.args.file.now (record_place c.args.file.now c.loop-i.i)) 0 =
    c.record_line-number.ensures ∙ ap (λ p. line_at p 0) c.record.ensures in
    let within : c.loop-i.i < statements_of c.args.file.now = omega (arith, c.requires.noted.count) in
    rw (line_written c.requires.held c.loop-i.i within c.args.arrays c.requires.arrays _ number)
    (omega (arith, c.requires.room, next_fits (areas_line c.args.file.now c.args.areas.now) c.loop-i.i c.args.n c.loop-i-test.true, simp length-append at (ap length c.loop-i.invariant)))

pub loop-i-preserved : goal.loop-i-preserved
loop-i-preserved c =
    let number : c.record_line-number.result ≡ line_at (record_part c.args.file.now (record_place c.args.file.now c.loop-i.i)) 0 =
    c.record_line-number.ensures ∙ ap (λ p. line_at p 0) c.record.ensures in
    let within : c.loop-i.i < statements_of c.args.file.now = omega (arith, c.requires.noted.count) in
    rw one_line_more
    (then c.args.text.now.buffer.items (concat_map (areas_line c.args.file.now c.args.areas.now) (up_to c.loop-i.i)) (areas_line c.args.file.now c.args.areas.now c.loop-i.i) c.loop-i.invariant
    (c.line.ensures ∙ ap (λ t. c.loop-i.text.buffer.items ++ t) (line_written c.requires.held c.loop-i.i within c.args.arrays c.requires.arrays _ number)))
