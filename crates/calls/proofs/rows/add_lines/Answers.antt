-- `add_lines` meets its contract. The invariant: the row has gained the bodies that the lines before l enter. So the rows of walks stay.
-- Assumes nothing.
use native.Mathlib.Omega.{arith}
use Rattle.flow.specs.Format.{flow_of}
use Rattle.theory.specs.Lists.{concat_map}
use Rattle.theory.specs.Body.{kind, call_lines}
use Rattle.statements.proofs.Keeps.{indexed-keeps, ready_formed, ready-size}
use Rattle.calls.specs.Clauses.Joins.{bodies_of}
use Rattle.calls.proofs.Joined.{adds_none, adds_target}
use Rattle.calls.proofs.Lines.{adds_line, adds_lines}
use Rattle.calls.proofs.Gathered.{rows_stay, bodies-append}
use Rattle.calls.proofs.rows.add_lines.Goals as goal

pub loop-l-init : goal.loop-l-init
unfolding concat_map
loop-l-init c = adds_none

pub add_line-requires : goal.add_line-requires
add_line-requires c =
    let p = c.requires in
    let added = c.loop-l.invariant in (
      indexed-keeps p.0 added.kept (omega (arith, p.2.low)),
      p.1,
      omega (arith, c.line_count-count.ensures),
      adds_target added p.2,
      λ w. rows_stay c.args.c.0 (ready_formed p.0.ready) (ready-size p.0.ready) added.kept (p.2.apart w) (p.3 w),
    )

pub loop-l-preserved : goal.loop-l-preserved
loop-l-preserved c =
    let a = c.args in
    let f = flow_of a.file.now in
    adds_line (bodies_of f a.whole) (bodies-append f a.whole) f (call_lines (kind f a.c.0)) c.loop-l.l (omega (arith, c.line_count-count.ensures)) c.loop-l.invariant c.add_line.ensures

pub returns : goal.returns
returns c =
    let a = c.args in
    let f = flow_of a.file.now in
    adds_lines (bodies_of f a.whole) f a.c.0 c.loop-l.l (omega (arith, c.line_count-count.ensures)) c.loop-l.invariant
