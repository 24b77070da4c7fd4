-- Nothing is asked of a statement that is no transparent call of several lines, and where there is no room the call's word says so. Assumes nothing.
use Prim.Native.Nat.{ℕ, ◌+◌, ◌<◌}
use mathlib.Core.Bool.{Bool, true, ◌&&◌, and-false}
use mathlib.Core.Path.{◌≡◌, sym, ap, subst, ◌∙◌}
use native.Mathlib.Omega.{arith}
use borrow.Author.Tests.{eq-eqb, ne_eqb, lt-ltb, le-ltb}
use lib.Dec.{eqb, ltb}
use lib.ListN.{length, get_or, set}
use Rattle.flow.specs.Format.{flow_of}
use Rattle.theory.specs.Body.{kind, call_lines}
use Rattle.theory.proofs.Lists.{and-true}
use Rattle.statements.specs.Clauses.Layout.{touched_at, calls_at}
use Rattle.statements.proofs.WorkArea.{row_from, queue-below}
use Rattle.statements.proofs.Keeps.{ready-most, ready-room}
use Rattle.calls.specs.Clauses.Held.{transparent, CallSummaries}
use Rattle.calls.specs.Clauses.Class.{transparent_call}
use Rattle.calls.specs.Clauses.Orders.{OrderNoted}
use Rattle.calls.proofs.Checked.{lines-few}
use Rattle.calls.proofs.Classes.{call-state}
use Rattle.calls.proofs.Ordering.{unasked, roomless}
use Rattle.flow.specs.Flow.{Flow}
use mathlib.Core.List.{List}
use Rattle.calls.proofs.orders.note_order.Goals as goal

-- what the call's state says
state : {f : Flow} {ws : List ℕ} {n at i : ℕ} → at ≡ calls_at n → CallSummaries f ws n → i < n → eqb (get_or ws (at + i) 0) transparent ≡ transparent_call f i
state {f} {ws} {n} {at} {i} e calls below = ap (λ (x : ℕ). eqb (get_or ws (x + i) 0) transparent) e ∙ call-state calls below

pub invariant_of-layout : goal.invariant_of-layout
invariant_of-layout c = record { few = ready-most c.requires.0.ready }

pub returns-then-work-calls : goal.returns-then-work-calls
returns-then-work-calls c =
    let f = flow_of c.args.file.now in
    let i = c.args.c.0 in
    unasked f (ap (λ (t : Bool). t && ltb 1 (length (call_lines (kind f i)))) (sym (state c.calls.ensures c.requires.1 c.requires.2) ∙ ne_eqb _ transparent c.if-work-calls.true))

pub returns-then-count-lt2 : goal.returns-then-count-lt2
returns-then-count-lt2 c =
    let f = flow_of c.args.file.now in
    let i = c.args.c.0 in
    unasked f (ap (λ (t : Bool). transparent_call f i && t) (le-ltb 1 (length (call_lines (kind f i))) (omega (arith, c.line_count-count.ensures, c.if-count-lt2.true))) ∙ and-false (transparent_call f i))

pub overflow_add-count : goal.overflow_add-count
overflow_add-count c = omega (arith, c.line_count-count.ensures, lines-few c.requires.0.ready c.requires.2)

pub overflow_add-at : goal.overflow_add-at
overflow_add-at c =
    omega (arith, c.line_count-count.ensures, lines-few c.requires.0.ready c.requires.2, c.requires.4, queue-below (ready-most c.requires.0.ready), ready-most c.requires.0.ready)

pub returns-then-queue-at : goal.returns-then-queue-at
returns-then-queue-at c =
    let f = flow_of c.args.file.now in
    let n = c.args.h.statements in
    let ws = c.args.work.now in
    let room : touched_at n + c.args.c.0 < length ws = omega (arith, c.requires.2, ready-room c.requires.0.ready (omega (arith, c.requires.2)), row_from n n) in
    subst (λ (x : ℕ). OrderNoted f ws (set ws (x + c.args.c.0) 0) n c.args.c.0 c.args.at c.args.at) (sym c.touched.ensures)
    (roomless f (omega (arith, c.queue.ensures, c.line_count-count.ensures, c.if-queue-at.true)) room)

pub note_list-requires : goal.note_list-requires
note_list-requires c =
    let f = flow_of c.args.file.now in
    let i = c.args.c.0 in
    let count = c.line_count-count.ensures in
    let is_transparent : transparent_call f i ≡ true = sym (state c.calls.ensures c.requires.1 c.requires.2) ∙ eq-eqb _ transparent c.if-work-calls.false in
    let many : ltb 1 (length (call_lines (kind f i))) ≡ true = lt-ltb 1 (length (call_lines (kind f i))) (omega (arith, count, c.if-count-lt2.false)) in (
      c.requires.0,
      c.requires.2,
      count,
      c.requires.3,
      omega (arith, c.queue.ensures, c.if-queue-at.false),
      and-true (transparent_call f i) (ltb 1 (length (call_lines (kind f i)))) is_transparent many,
    )
