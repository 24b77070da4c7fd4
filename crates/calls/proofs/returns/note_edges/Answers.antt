-- The RETURNs are noted where the summaries do not stand, and only their rows are emptied. The transparent calls' rows are no RETURN's. Then come the leaders and the orders. Assumes nothing.
use Prim.Native.Nat.{ℕ, ◌+◌, ◌<◌}
use mathlib.Core.Bool.{true}
use mathlib.Core.List.{List}
use mathlib.Core.Path.{◌≡◌, ◌∙◌, subst}
use native.Mathlib.Omega.{arith}
use Rattle.flow.specs.Format.{flow_of}
use Rattle.theory.specs.Lists.{any, elem, up_to}
use Rattle.theory.specs.Body.{kind, is_return}
use Rattle.theory.specs.Doubled.{returns_to}
use Rattle.theory.proofs.Lists.{clash}
use Rattle.statements.specs.Clauses.Layout.{matrix_at, row_words, solver_at, returns_row_at}
use Rattle.statements.specs.Clauses.Ready.{Indexed, Keeps}
use Rattle.statements.proofs.WorkArea.{row_from}
use Rattle.statements.proofs.Keeps.{keeps-trans, keeps_widen, ready-keeps, indexed-keeps, ready_formed, ready-size}
use Rattle.calls.specs.Clauses.Held.{EmptyRow, Summarized}
use Rattle.calls.specs.Clauses.Joins.{Joins, ReturnSet, ClearsReturns, NotesCalls}
use Rattle.calls.proofs.Joined.{row_stays}
use Rattle.calls.proofs.Gathered.{Calling, calling_start, calling_on, summary_kept, summaries_kept, linked}
use Rattle.calls.proofs.Ordering.{orders_keep}
use Rattle.calls.proofs.ReturnSet.{return-set-stays, summarized-stays}
use Rattle.flow.specs.Flow.{Flow}
use Rattle.flow.specs.declared.Header.{Header}
use Rattle.statements.proofs.Keeps.{ready-most}
use Rattle.calls.proofs.returns.note_edges.Goals as goal

-- the RETURNs are noted, and their rows are empty
module _ {s ws us cs : List ℕ} {h : Header} (x : Indexed s h ws) (t : Summarized (flow_of s) ws h.statements)
    (noted : ReturnSet (flow_of s) us h.statements × Keeps (returns_row_at h.statements) (returns_row_at h.statements + row_words h.statements) ws us)
    (cleared : ClearsReturns (flow_of s) us cs h.statements 0 h.statements) where
  abbrev n : ℕ
  n = h.statements

  kept : Keeps (matrix_at n) (returns_row_at n + row_words n) ws cs
  kept = keeps-trans (keeps_widen (omega (arith, row_from n n)) (omega arith) noted.1) (keeps_widen (omega arith) (omega arith) cleared.kept)

  indexed : Indexed s h cs
  indexed = indexed-keeps x kept (omega arith)

  return-set : ReturnSet (flow_of s) cs n
  return-set = return-set-stays cleared.kept (omega arith) noted.0

  summed : Summarized (flow_of s) cs n
  summed =
      let r = x.ready in
      summarized-stays (ready_formed r) (ready-size r) kept (omega arith)
      (λ e i l m other. cleared.others e i l m (λ a b is. clash _ is other) ∙ row_stays noted.1 (omega arith) l m) t

  free : (r : ℕ) → r < n → is_return (kind (flow_of s) r) ≡ true → EmptyRow cs n r
  unfolding elem
  free r l is j m = cleared.noted r j (omega arith) l m is

pub invariant_of-layout : goal.invariant_of-layout
invariant_of-layout c = record { few = ready-most c.requires.0.ready }

pub loop-c-init : goal.loop-c-init
loop-c-init c = calling_start (flow_of c.args.file.now) c.clear_rows.new.work c.args.h.statements

pub note_call-requires : goal.note_call-requires
note_call-requires c =
    let r = c.requires.0.ready in
    let joins = c.loop-c.invariant.joins in
    let x = c.requires.0 in
    let t = c.requires.1 in
    let noted = c.note_returns.ensures in
    let cleared = c.clear_rows.ensures in (
      indexed-keeps (indexed x t noted cleared) joins.kept (omega arith),
      c.loop-c-test.true,
      summary_kept (ready_formed r) (ready-size r) (summed x t noted cleared) joins c.loop-c-test.true,
      return-set-stays joins.kept (omega arith) (return-set x t noted cleared),
    )

pub loop-c-preserved : goal.loop-c-preserved
loop-c-preserved c = calling_on c.loop-c.invariant c.loop-c-test.true c.note_call.ensures

-- the rows of the calls are noted
rows-kept : {f : Flow} {cs ls vs : List ℕ} {n i : ℕ} → Calling f cs ls n i → NotesCalls f ls vs n 0 n → Keeps (matrix_at n) (solver_at n) cs vs
rows-kept inv rows = keeps-trans inv.joins.kept rows.kept

pub note_leaders-requires : goal.note_leaders-requires
note_leaders-requires c =
    let k = rows-kept c.loop-c.invariant c.note_rows.ensures in
    let x = c.requires.0 in
    let t = c.requires.1 in
    let noted = c.note_returns.ensures in
    let cleared = c.clear_rows.ensures in
    (ready-keeps (indexed x t noted cleared).ready k (omega arith), return-set-stays k (omega arith) (return-set x t noted cleared))

pub note_orders-requires : goal.note_orders-requires
note_orders-requires c =
    let led = c.note_leaders.ensures.1 in
    let k = rows-kept c.loop-c.invariant c.note_rows.ensures in
    let x = c.requires.0 in
    let t = c.requires.1 in
    let noted = c.note_returns.ensures in
    let cleared = c.clear_rows.ensures in
    (indexed-keeps (indexed-keeps (indexed x t noted cleared) k (omega arith)) led (omega arith), summaries_kept (omega arith) led (summaries_kept (omega arith) k (summed x t noted cleared).calls))

pub returns-clause-linked : goal.returns-clause-linked
returns-clause-linked c =
    let f = flow_of c.args.file.now in
    let n = c.args.h.statements in
    let x = c.requires.0 in
    let t = c.requires.1 in
    let noted = c.note_returns.ensures in
    let cleared = c.clear_rows.ensures in
    let led = c.note_leaders.ensures in
    let all : c.loop-c.c ≡ n = omega arith in
    linked (ready-size x.ready) (summed x t noted cleared) (free x t noted cleared)
    (subst (λ (m : ℕ). Joins f c.clear_rows.new.work c.loop-c.work n (solver_at n) (λ r k. any (returns_to f r k) (up_to m))) all c.loop-c.invariant.joins) c.note_rows.ensures led.1 led.0
    c.note_orders.ensures

pub returns-clause-keeps : goal.returns-clause-keeps
returns-clause-keeps c =
    let n = c.args.h.statements in
    let k = rows-kept c.loop-c.invariant c.note_rows.ensures in
    let first = kept c.requires.0 c.requires.1 c.note_returns.ensures c.clear_rows.ensures in
    keeps-trans (keeps_widen (omega arith) (omega arith) first)
    (keeps-trans (keeps_widen (omega arith) (omega arith) k)
    (keeps-trans (keeps_widen (omega arith) (omega (arith, row_from n n)) c.note_leaders.ensures.1) (keeps_widen (omega arith) (omega arith) (orders_keep c.note_orders.ensures))))
