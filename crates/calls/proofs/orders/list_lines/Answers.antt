-- `list_lines` meets its contract. The invariant: the list is the order of what the lines before l enter, and has no more entries than there are such lines.
-- Assumes nothing.
use Prim.Native.Nat.{ℕ}
use mathlib.Core.List.{List, []}
use mathlib.Core.Path.{subst}
use native.Mathlib.Omega.{arith}
use lib.ListN.{get_or, take}
use Rattle.flow.specs.Flow.{enters}
use Rattle.flow.specs.Format.{flow_of}
use Rattle.theory.specs.Lists.{concat_map, option_list}
use Rattle.theory.specs.Body.{kind, call_lines}
use Rattle.statements.proofs.WorkArea.{row_from}
use Rattle.statements.proofs.Keeps.{indexed-keeps}
use Rattle.calls.specs.Clauses.Orders.{firsts, Listing}
use Rattle.calls.proofs.Lines.{entered_by, entered-more, entered_all}
use Rattle.calls.proofs.Listing.{firsts-append, firsts-length, option_length, listing_none}
use Rattle.calls.proofs.orders.list_lines.Goals as goal

pub loop-l-init : goal.loop-l-init
unfolding concat_map
loop-l-init c = (omega arith, listing_none c.requires.5)

pub list_line-k-requires : goal.list_line-k-requires
list_line-k-requires c =
    let turn = c.loop-l in (
      indexed-keeps c.requires.0 turn.invariant.1.kept (omega (arith, c.requires.3, row_from c.args.h.statements c.args.h.statements)),
      c.requires.1,
      omega (arith, c.requires.2, c.loop-l-test.true),
      omega (arith, c.requires.4, turn.invariant.0, c.loop-l-test.true),
    )

pub loop-l-preserved : goal.loop-l-preserved
loop-l-preserved c =
    let turn = c.loop-l in
    let f = flow_of c.args.file.now in
    let lines = call_lines (kind f c.args.c.0) in
    let before : List ℕ = entered_by f (take turn.l lines) in
    let more : List ℕ = option_list (enters f (get_or lines turn.l 0)) in
    let listed : Listing c.args.work.now c.list_line-k.new.work c.args.h.statements c.args.at (firsts (firsts [] before) more) c.list_line-k.result = c.list_line-k.ensures _ _ turn.invariant.1 in (
      omega (arith, turn.invariant.0, turn.invariant.1.count, listed.count, firsts-length (firsts [] before) more, option_length (enters f (get_or lines turn.l 0))),
      subst (λ (bs : List ℕ). Listing c.args.work.now c.list_line-k.new.work c.args.h.statements c.args.at (firsts [] bs) c.list_line-k.result) (entered-more f lines turn.l (omega (arith, c.requires.2, c.loop-l-test.true)))
          (subst (λ (zs : List ℕ). Listing c.args.work.now c.list_line-k.new.work c.args.h.statements c.args.at zs c.list_line-k.result) (firsts-append [] before more) listed),
    )

pub returns : goal.returns
returns c =
    let turn = c.loop-l in
    let f = flow_of c.args.file.now in (
      subst (λ (bs : List ℕ). Listing c.args.work.now turn.work c.args.h.statements c.args.at (firsts [] bs) turn.k) (entered_all f c.args.c.0 turn.l (omega (arith, c.requires.2, c.loop-l-test.false))) turn.invariant.1,
      omega (arith, turn.invariant.0),
    )
