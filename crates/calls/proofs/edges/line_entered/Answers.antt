-- `line_entered` meets its contract: the one member of the row of a call that names one line, and else what the line enters.
-- By what such a row holds. Assumes nothing.
use Prim.Native.Nat.{ℕ, ◌+◌, ◌/◌, ◌<◌, ◌≤◌}
use mathlib.Core.Path.{ap, subst}
use native.Mathlib.Omega.{arith}
use lib.ListN.{length, get_or}
use Rattle.flow.specs.declared.Header.{Header}
use Rattle.flow.specs.Format.{flow_of}
use Rattle.theory.specs.Body.{kind, call_lines}
use Rattle.statements.proofs.Keeps.{ready-most, ready-room, ready-size, ready_formed, ready-below}
use Rattle.calls.proofs.Classes.{line-first}
use Rattle.calls.proofs.edges.line_entered.Goals as goal

pub next-requires : goal.next-requires
next-requires c =
    subst (λ (m : ℕ). c.args.call.row + (m + 63) / 64 ≤ length c.args.work.now) (ready-size c.requires.0.ready) c.requires.3.room

pub returns-then-call-eq1 : goal.returns-then-call-eq1
returns-then-call-eq1 c =
    let a = c.args in
    let ready = c.requires.0.ready in
    line-first (ready-size ready) c.requires.3 c.if-call-eq1.true c.requires.4 c.next.result c.map.result c.next.ensures
    (λ d e. ready-below ready ((ready_formed ready).first (get_or (call_lines (kind (flow_of a.file.now) a.i.0)) a.l 0) d e)) c.map.ensures.cases

pub line_entry-requires : goal.line_entry-requires
line_entry-requires c =
    let indexed = c.requires.0 in
    let ready = indexed.ready in
    let some : 0 < c.args.h.statements = omega (arith, c.requires.2) in
    (ready.fit, ap (λ (h : Header). h.lines_at) indexed.header, some, ready-most ready, omega (arith, c.lines.ensures, ready-room ready some), rw c.lines.ensures indexed.lines)
