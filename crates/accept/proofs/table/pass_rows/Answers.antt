-- `accept::table::pass_rows` meets its contract. The invariant: the first d numbers have sent what they hold.
-- The measure is what is left of them.
use Prim.Native.Nat.{ℕ, ◌*◌}
use mathlib.Core.Bool.{◌&&◌}
use mathlib.Core.Path.{◌≡◌, ap, subst, ◌∙◌}
use Rattle.flow.specs.Format.{flow_of}
use Rattle.theory.specs.Lists.{all_below}
use Rattle.theory.specs.Accept.{entry_held, row_held}
use Rattle.statements.specs.Clauses.Layout.{queue_at}
use Rattle.statements.specs.Clauses.Ready.{Keeps}
use Rattle.solve.specs.Clauses.Layout.{area_end}
use Rattle.dataflow.proofs.Kept.{indexed_stays, linked-stays, key-stays}
use native.Mathlib.Omega.{arith}
use Rattle.accept.proofs.table.pass_rows.Goals as goal

pub pass_row-queue-requires : goal.pass_row-queue-requires
pass_row-queue-requires c =
    let e = c.requires.1 in
    let x = c.loop-d in
    let keeps = x.invariant.0 in
    (c.requires.0, record { indexed = indexed_stays keeps e.indexed; linked = linked-stays keeps e.linked; key = key-stays (subst (λ (w : ℕ). Keeps (queue_at c.args.h.statements) (area_end c.args.h.statements w) c.args.work.now x.work) c.requires.0 keeps) e.key; some = e.some }, c.loop-d-test.true, (c.requires.2.0, x.invariant.1 c.requires.2.0 c.requires.2.1 c.requires.2.2))

pub returns : goal.returns
returns c =
    let x = c.loop-d in
    let whole : x.d ≡ 2 * c.args.h.statements = omega arith in
    record {
      told = λ t b p. (x.invariant.1 t b p).told ∙ ap (λ (k : ℕ). entry_held (flow_of c.args.file.now) t && all_below k (row_held (flow_of c.args.file.now) t)) whole;
      keeps = x.invariant.0;
    }
