-- The row of entered statements is emptied, the list is made, and the call's word says where it stands. Assumes nothing.
use Prim.Native.Nat.{ℕ, ◌+◌, ◌*◌, ◌^◌, ◌<◌, ◌≤◌}
use mathlib.Core.List.{List}
use mathlib.Core.Path.{sym, subst, ◌≡◌}
use native.Mathlib.Omega.{arith}
use lib.ListN.{length, set}
use Rattle.flow.specs.Limits.{max_statements}
use Rattle.flow.specs.Format.{flow_of}
use Rattle.statements.specs.Clauses.Layout.{row_words, touched_at, queue_at, entered_row_at}
use Rattle.statements.specs.Clauses.Ready.{Keeps}
use Rattle.statements.proofs.WorkArea.{row_from, queue-below}
use Rattle.statements.proofs.Keeps.{indexed-keeps, ready-most, ready-room}
use Rattle.calls.specs.Clauses.Held.{Empty}
use Rattle.calls.specs.Clauses.Orders.{list_end, OrderNoted}
use Rattle.calls.proofs.Listing.{entered-room}
use Rattle.calls.proofs.Ordering.{listed}
use Rattle.calls.proofs.orders.note_list.Goals as goal

-- the row is empty, and nothing else changed
zeroed : {ws vs : List ℕ} {n at : ℕ} → at ≡ entered_row_at n → Empty vs n at × Keeps at (at + row_words n) ws vs
    → Empty vs n (entered_row_at n) × Keeps (entered_row_at n) (entered_row_at n + row_words n) ws vs
zeroed {ws} {vs} {n} e z = subst (λ (x : ℕ). Empty vs n x × Keeps x (x + row_words n) ws vs) e z

-- the list is short
below : (n at k count : ℕ) → n ≤ max_statements → k ≤ count → list_end at count ≤ queue_at n → k + at ≤ 5 * (48 * 2048)
below n at k count most few room = let short : list_end at k ≤ queue_at n = omega arith in omega (arith, short, queue-below most, most)

pub invariant_of-layout : goal.invariant_of-layout
invariant_of-layout c = record { few = ready-most c.requires.0.ready }

pub zero_row-requires : goal.zero_row-requires
zero_row-requires c =
    let ready = c.requires.0.ready in
    (omega (arith, c.entered_row.ensures, entered-room (record { few = ready-most ready; room = ready.room }) (omega (arith, c.requires.1))))

pub list_lines-k-requires : goal.list_lines-k-requires
list_lines-k-requires c =
    let n = c.args.h.statements in
    let z = zeroed c.entered_row.ensures c.zero_row.ensures in
    (indexed-keeps c.requires.0 z.1 (omega (arith, row_from n n)), c.requires.1, c.requires.2, c.requires.3, c.requires.4, z.0)

pub overflow_mul-work : goal.overflow_mul-work
overflow_mul-work c = omega (arith, below c.args.h.statements c.args.at c.list_lines-k.result c.args.count (ready-most c.requires.0.ready) c.list_lines-k.ensures.1 c.requires.4)

pub overflow_add-work : goal.overflow_add-work
overflow_add-work c = omega (arith, below c.args.h.statements c.args.at c.list_lines-k.result c.args.count (ready-most c.requires.0.ready) c.list_lines-k.ensures.1 c.requires.4)

pub overflow_add-result : goal.overflow_add-result
overflow_add-result c = omega (arith, below c.args.h.statements c.args.at c.list_lines-k.result c.args.count (ready-most c.requires.0.ready) c.list_lines-k.ensures.1 c.requires.4)

pub returns : goal.returns
returns c =
    let a = c.args in
    let n : ℕ = a.h.statements in
    let f = flow_of a.file.now in
    let us : List ℕ = c.list_lines-k.new.work in
    let k : ℕ = c.list_lines-k.result in
    let z = zeroed c.entered_row.ensures c.zero_row.ensures in
    let some : 0 < n = omega (arith, c.requires.1) in
    let fits : touched_at n + a.c.0 < length us = omega (arith, c.requires.1, c.list_lines-k.ensures.0.kept.size, z.1.size, ready-room c.requires.0.ready some, row_from n n) in
    subst (λ (x : ℕ). OrderNoted f a.work.now (set us (x + a.c.0) (a.at + 2 ^ 32 * k)) n a.c.0 a.at (list_end a.at k)) (sym c.touched.ensures)
    (listed f c.requires.1 c.requires.3 c.requires.5 (omega (arith, c.requires.2, c.requires.4)) fits z.1 c.list_lines-k.ensures.0)
