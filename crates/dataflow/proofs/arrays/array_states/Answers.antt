-- The area is a state that the queue rule comes to, from where the entry waits alone, within Term 1's bound. Assumes nothing.
use Prim.Native.Nat.{ℕ, ◌+◌, ◌*◌, ◌<◌}
use mathlib.Core.List.{[]}
use mathlib.Core.Path.{◌≡◌, sym, ap, subst, ◌∙◌}
use native.Mathlib.Nat.{zero-add}
use native.Mathlib.Omega.{arith}
use Rattle.flow.specs.Format.{flow_of}
use Rattle.theory.specs.Doubled.{doubled}
use Rattle.theory.specs.Queue.{visit_bound}
use Rattle.statements.specs.Clauses.Ready.{Keeps}
use Rattle.statements.proofs.Keeps.{ready-most, keeps-trans, ready-size}
use Rattle.statements.proofs.WellFormed.{well_formed, entry_is}
use Rattle.solve.specs.Clauses.Layout.{mask_row_at, area_end}
use Rattle.solve.proofs.Room.{nodes-within, row_from, row_fits}
use Rattle.flow.specs.Flow.{Flow}
use Rattle.dataflow.specs.Clauses.Transfer.{KeySet}
use Rattle.dataflow.specs.Clauses.Solving.{Unused, RowBegun, RuleResult}
use Rattle.dataflow.proofs.Kept.{indexed_stays, linked-stays, key-stays}
use Rattle.dataflow.proofs.Few.{visits-few}
use Rattle.dataflow.proofs.Running.{first-waits, starts, starts-keeps, Running, running_on, running_bound, running_ends}
use Rattle.flow.specs.declared.Header.{Header}
use Rattle.statements.specs.Clauses.Ready.{Indexed}
use Rattle.statements.specs.Clauses.Layout.{queue_at, set_words}
use Rattle.calls.specs.Clauses.Held.{Linked}
use Rattle.solve.specs.declared.Queue.{Queue}
use Rattle.solve.specs.Clauses.Waiting.{Waits, Enqueued}
use Rattle.dataflow.proofs.Headers.{wide, room}
use mathlib.Core.List.{List}
use Rattle.dataflow.proofs.arrays.array_states.Goals as goal

-- the number where the flow is entered is the entry's in base 0, which is a statement

entered-at : {s ws : List ℕ} {h : Header} {d : ℕ} → Indexed s h ws → d ≡ 0 + h.entry.0 → d ≡ (flow_of s).entry
entered-at {s} {h = h} x e = e ∙ zero-add h.entry.0 ∙ ap (λ h. h.entry.0) x.header ∙ sym (entry_is s)

entry-within : {s ws : List ℕ} {h : Header} → Indexed s h ws → 0 < h.statements → h.entry.0 < h.statements
entry-within {s} {h = h} x some =
    let size = ready-size x.ready in
    let below = (well_formed x.ready.fit).entry (subst (λ (k : ℕ). 0 < k) (sym size) some) in
    omega (arith, ap (λ h. h.entry.0) x.header ∙ sym (entry_is s))

-- the area where the visits begin
record Start (s ws vs us : List ℕ) (h : Header) (w d : ℕ) (first : Queue) : Type 0 where
  keeps : Keeps (queue_at h.statements) (area_end h.statements w) ws us
  runs : Running (flow_of s) h.statements w us us first 0

module _ {s ws : List ℕ} {h : Header} {w : ℕ} (x : Indexed s h ws) (linked : Linked (flow_of s) ws h.statements) (some : 0 < h.statements) (width : w ≡ set_words h.arrays)
    (unused : Unused ws h.statements (set_words h.arrays)) {d : ℕ} (at : d ≡ 0 + h.entry.0) where
  clear : Unused ws h.statements w
  clear = subst (Unused ws h.statements) (sym width) unused

  below : d < h.statements
  below = let within = entry-within x some in omega (arith, at, zero-add h.entry.0)

  module _ {vs : List ℕ} (begun : RowBegun (flow_of s) ws vs h.statements w (mask_row_at h.statements w d)) where
    waits-first : Waits vs h.statements w (record { head = 0; len = 0 }) []
    waits-first = first-waits (flow_of s) h.statements w _ _ d (ready-size x.ready) some clear (entered-at x at) below begun

    start : {us : List ℕ} {first : Queue} → Enqueued vs us h.statements w (record { head = 0; len = 0 }) d first → Start s ws vs us h w d first
    start e =
        let keeps = starts-keeps (flow_of s) h.statements w _ _ d (ready-size x.ready) some clear (entered-at x at) below begun _ _ e in
        record {
          keeps = keeps;
          runs = starts (flow_of s) h.statements w _ _ d (ready-size x.ready) some clear (entered-at x at) below begun _ _ e (linked-stays keeps linked);
        }

-- the row that was begun is that of the entry's number
begun : {f : Flow} {ws vs : List ℕ} {n w row : ℕ} (d : ℕ) → row ≡ mask_row_at n w d → RowBegun f ws vs n w row → RowBegun f ws vs n w (mask_row_at n w d)
begun {f} {ws} {vs} {n} {w} d e b = subst (λ (r : ℕ). RowBegun f ws vs n w r) e b

-- the visits so far are fewer than the bound, where one more is to come
bound : {s ws₀ ws : List ℕ} {h : Header} {w visits : ℕ} {queue : Queue} → Indexed s h ws₀ → 0 < h.statements → w ≡ set_words h.arrays → {us : List ℕ}
    → Running (flow_of s) h.statements w us ws queue visits → 0 < queue.len → visits < visit_bound (doubled (flow_of s))
bound {visits = visits} x some width r waits =
    let h = running_bound (well_formed x.ready.fit) (ready-size x.ready) some (wide x width) visits r in
    omega (arith, h, waits)

pub node-entry-requires : goal.node-entry-requires
node-entry-requires c = (ready-most c.requires.0.ready, entry-within c.requires.0 c.requires.3)

pub mask_row-requires : goal.mask_row-requires
mask_row-requires c =
    let x = c.requires.0 in
    let within = entry-within x c.requires.3 in
    omega (arith, within, c.node-entry.ensures, zero-add c.args.h.entry.0)

pub begin_row-requires : goal.begin_row-requires
begin_row-requires c =
    let x = c.requires.0 in
    let n : ℕ = c.args.h.statements in
    let w : ℕ = c.set_words-width.result in
    let d : ℕ = c.node-entry.result.0 in
    let width = c.set_words-width.ensures in
    let within = entry-within x c.requires.3 in
    let low : d < 2 * n = omega (arith, within, c.node-entry.ensures, zero-add c.args.h.entry.0) in
    let from = row_from n w d in
    let fits = row_fits n w low in (
      width,
      x,
      subst (KeySet (flow_of c.args.file.now) c.args.work.now n) (sym width) c.requires.2,
      c.requires.3,
      omega (arith, c.mask_row.ensures, from),
      omega (arith, c.mask_row.ensures, fits),
      subst (Unused c.args.work.now n) (sym width) c.requires.4,
    )

pub enqueue-queue-requires : goal.enqueue-queue-requires
enqueue-queue-requires c =
    let x = c.requires.0 in
    let n : ℕ = c.args.h.statements in
    let w : ℕ = c.set_words-width.result in
    let width = c.set_words-width.ensures in
    let end = nodes-within n w in
    let room = room x width c.requires.3 in
    let size = c.begin_row.ensures.size in
    let within = entry-within x c.requires.3 in (
      omega arith,
      omega (arith, within, c.node-entry.ensures, zero-add c.args.h.entry.0),
      ([], waits-first x c.requires.1 c.requires.3 width c.requires.4 c.node-entry.ensures (begun _ c.mask_row.ensures c.begin_row.ensures)),
    )

pub loop-queue-init : goal.loop-queue-init
loop-queue-init c =
    (start c.requires.0 c.requires.1 c.requires.3 c.set_words-width.ensures c.requires.4 c.node-entry.ensures (begun _ c.mask_row.ensures c.begin_row.ensures) c.enqueue-queue.ensures).runs

pub visit-queue-requires : goal.visit-queue-requires
visit-queue-requires c =
    let x = c.requires.0 in
    let n : ℕ = c.args.h.statements in
    let width = c.set_words-width.ensures in
    let run = c.loop-queue.invariant in
    let first = start x c.requires.1 c.requires.3 width c.requires.4 c.node-entry.ensures (begun _ c.mask_row.ensures c.begin_row.ensures) c.enqueue-queue.ensures in
    let keeps = keeps-trans first.keeps run.keeps in
    let keyed = subst (KeySet (flow_of c.args.file.now) c.args.work.now n) (sym width) c.requires.2 in
    (width, indexed_stays keeps x, linked-stays keeps c.requires.1, key-stays keeps keyed, c.requires.3, c.loop-queue-test.true, run.underway)

pub overflow_add-visits : goal.overflow_add-visits
overflow_add-visits c =
    let x = c.requires.0 in
    let h = bound x c.requires.3 c.set_words-width.ensures c.loop-queue.invariant c.loop-queue-test.true in
    let k = visits-few x.ready in
    omega (arith, h, k)

pub loop-queue-smaller : goal.loop-queue-smaller
loop-queue-smaller c =
    let h = bound c.requires.0 c.requires.3 c.set_words-width.ensures c.loop-queue.invariant c.loop-queue-test.true in
    omega (arith, h)

pub loop-queue-preserved : goal.loop-queue-preserved
loop-queue-preserved c =
    let x = c.loop-queue.invariant in
    running_on c.loop-queue.visits x (c.visit-queue.ensures.0 x.underway) c.visit-queue.ensures.1

pub returns : goal.returns
returns c =
    let x = c.requires.0 in
    let width = c.set_words-width.ensures in
    let none = c.loop-queue-test.false in
    let first = start x c.requires.1 c.requires.3 width c.requires.4 c.node-entry.ensures (begun _ c.mask_row.ensures c.begin_row.ensures) c.enqueue-queue.ensures in
    let e = running_ends (well_formed x.ready.fit) (ready-size x.ready) c.requires.3 (wide x width) c.loop-queue.visits c.loop-queue.invariant (omega (arith, none)) in
    subst (λ (w : ℕ). RuleResult (flow_of c.args.file.now) c.args.work.now c.loop-queue.work c.args.h.statements w c.loop-queue.visits) width
    (record { left = e.left; over = e.over; masks = e.masks; keeps = keeps-trans first.keeps e.keeps })
