-- The front is taken and settled, and where it was settled before nothing more is done; else its masks go on. By what one visit of the queue rule is.
use Prim.Native.Nat.{ℕ, ◌+◌, ◌*◌, ◌<◌, ◌≤◌}
use mathlib.Core.List.{List}
use mathlib.Core.Path.{◌≡◌, sym, subst, ◌∙◌}
use native.Mathlib.Omega.{arith}
use borrow.Author.Tests.{not-true, not-false}
use lib.ListN.{length, set}
use Rattle.flow.specs.declared.Header.{Header}
use Rattle.flow.specs.Format.{flow_of}
use Rattle.theory.specs.Doubled.{doubled}
use Rattle.statements.specs.Clauses.Layout.{queue_at, set_words}
use Rattle.statements.specs.Clauses.Ready.{Indexed, Keeps}
use Rattle.statements.proofs.Keeps.{keeps-trans, keeps_widen, ready-size}
use Rattle.statements.proofs.WellFormed.{well_formed}
use Rattle.solve.specs.declared.Queue.{Queue}
use Rattle.solve.specs.Clauses.Layout.{nodes_end, area_end, state_at, waits_in}
use Rattle.solve.specs.Clauses.Waiting.{Waits, Taken}
use Rattle.solve.proofs.Room.{row_from, row_fits, nodes-room, nodes-within}
use Rattle.solve.proofs.Waiting.{rest-keeps}
use Rattle.dataflow.specs.Clauses.Sent.{Sends}
use Rattle.dataflow.specs.Clauses.Solving.{Underway, VisitsFront}
use Rattle.dataflow.proofs.Kept.{indexed_stays, linked-stays, key-stays}
use Rattle.dataflow.proofs.Visiting.{underway-front, is_front, front_in, settled_at, note_keeps, noted-waits, noted-shared, visits-settled, visits-sent}
use Rattle.dataflow.proofs.Headers.{narrow, wide}
use Rattle.dataflow.proofs.arrays.visit.Goals as goal

room : {s ws : List ℕ} {h : Header} {w : ℕ} → Indexed s h ws → w ≡ set_words h.arrays → 0 < h.statements → nodes_end h.statements w ≤ length ws
room x e some = nodes-room x.ready some (narrow x e)

-- the front of a state that is under way is the number taken
below : {s ws vs : List ℕ} {h : Header} {w d : ℕ} {queue : Queue} → Indexed s h ws → w ≡ set_words h.arrays → 0 < queue.len → Underway (flow_of s) ws h.statements w queue → Taken ws vs h.statements w queue d
    → d < 2 * h.statements
below {h = h} x e some u taken =
    let front = underway-front u some in
    let wf = well_formed x.ready.fit in
    subst (λ (d : ℕ). d < 2 * h.statements) (sym (is_front wf (ready-size x.ready) (wide x e) u front.0 front.1 front.2 taken)) (front_in wf (ready-size x.ready) (wide x e) u front.0 front.1 front.2 taken)

taken-room : {s ws vs : List ℕ} {h : Header} {w d : ℕ} {queue : Queue} → Indexed s h ws → w ≡ set_words h.arrays → 0 < h.statements → Taken ws vs h.statements w queue d → nodes_end h.statements w ≤ length vs
taken-room x e some taken = omega (arith, room x e some, taken.kept.size)

pub settle-requires : goal.settle-requires
settle-requires c = (taken-room c.requires.1 c.requires.0 c.requires.4 c.take-d.ensures, below c.requires.1 c.requires.0 c.requires.5 c.requires.6 c.take-d.ensures)

-- what is kept while the front is taken and settled
beside : {s ws vs us : List ℕ} {h : Header} {w d : ℕ} {queue : Queue} → Indexed s h ws → w ≡ set_words h.arrays → 0 < h.statements → 0 < queue.len → Underway (flow_of s) ws h.statements w queue
    → Taken ws vs h.statements w queue d → us ≡ set vs (state_at h.statements w d) (waits_in vs h.statements w d + 2) → Keeps (queue_at h.statements) (nodes_end h.statements w) ws us
beside {h = h} {w = w} {d = d} x e some long u taken noted =
    let front = underway-front u long in
    let wf = well_formed x.ready.fit in
    let low = row_from h.statements w d in
    let fits = row_fits h.statements w (below x e long u taken) in
    keeps-trans (rest-keeps taken.kept)
    (keeps_widen (omega arith) (omega arith) (note_keeps wf (ready-size x.ready) (wide x e) u front.0 front.1 front.2 taken noted (taken-room x e some taken)))

widened : (n w : ℕ) {ws us : List ℕ} → Keeps (queue_at n) (nodes_end n w) ws us → Keeps (queue_at n) (area_end n w) ws us
widened n w k = let end = nodes-within n w in keeps_widen (omega arith) (omega arith) k

pub returns-then-settle : goal.returns-then-settle
returns-then-settle c =
    let taken = c.take-d.ensures in (
      λ u.
          let front = underway-front u c.requires.5 in
          let wf = well_formed c.requires.1.ready.fit in
          let still = not-true _ (sym (settled_at wf (ready-size c.requires.1.ready) (wide c.requires.1 c.requires.0) u front.0 front.1 front.2 taken c.settle.ensures.value) ∙ c.if-settle.true) in
          subst (λ r. VisitsFront (flow_of c.args.file.now) c.args.work.now c.settle.new.work c.args.h.statements c.args.width c.args.first r u)
          (sym c.rest-queue.ensures)
          (visits-settled wf (ready-size c.requires.1.ready) (wide c.requires.1 c.requires.0) u front.0 front.1 front.2 taken c.settle.ensures.work_after (taken-room c.requires.1 c.requires.0 c.requires.4 c.take-d.ensures) still),
      widened c.args.h.statements c.args.width (beside c.requires.1 c.requires.0 c.requires.4 c.requires.5 c.requires.6 c.take-d.ensures c.settle.ensures.work_after),
    )

pub send-requires : goal.send-requires
send-requires c =
    let u = c.requires.6 in
    let front = underway-front u c.requires.5 in
    let wf = well_formed c.requires.1.ready.fit in
    let keeps = beside c.requires.1 c.requires.0 c.requires.4 c.requires.5 c.requires.6 c.take-d.ensures c.settle.ensures.work_after in (
      c.requires.0,
      indexed_stays keeps c.requires.1,
      linked-stays keeps c.requires.2,
      key-stays (widened c.args.h.statements c.args.width (beside c.requires.1 c.requires.0 c.requires.4 c.requires.5 c.requires.6 c.take-d.ensures c.settle.ensures.work_after)) c.requires.3,
      below c.requires.1 c.requires.0 c.requires.5 c.requires.6 c.take-d.ensures,
      noted-shared wf (ready-size c.requires.1.ready) (wide c.requires.1 c.requires.0) u front.0 front.1 front.2 c.take-d.ensures c.settle.ensures.work_after (taken-room c.requires.1 c.requires.0 c.requires.4 c.take-d.ensures),
      (
        front.1,
        subst (λ r. Waits c.settle.new.work c.args.h.statements c.args.width r front.1) (sym c.rest-queue.ensures)
            (noted-waits wf (ready-size c.requires.1.ready) (wide c.requires.1 c.requires.0) u front.0 front.1 front.2 c.take-d.ensures c.settle.ensures.work_after (taken-room c.requires.1 c.requires.0 c.requires.4 c.take-d.ensures)),
      ),
    )

pub returns : goal.returns
returns c =
    let n = c.args.h.statements in
    let f = flow_of c.args.file.now in
    let taken = c.take-d.ensures in
    let wf = well_formed c.requires.1.ready.fit in
    let end = nodes-within n c.args.width in
    let sent = subst (λ r. Sends f c.settle.new.work c.send.new.work n c.args.width r c.take-d.result.0 ((doubled f).arcs c.take-d.result.0) c.send.result) c.rest-queue.ensures c.send.ensures in (
      λ u.
          let front = underway-front u c.requires.5 in
          let new = not-false _ (sym (settled_at wf (ready-size c.requires.1.ready) (wide c.requires.1 c.requires.0) u front.0 front.1 front.2 taken c.settle.ensures.value) ∙ c.if-settle.false) in
          visits-sent wf (ready-size c.requires.1.ready) (wide c.requires.1 c.requires.0) u front.0 front.1 front.2 taken c.settle.ensures.work_after (taken-room c.requires.1 c.requires.0 c.requires.4 c.take-d.ensures) new sent,
      keeps-trans (widened c.args.h.statements c.args.width (beside c.requires.1 c.requires.0 c.requires.4 c.requires.5 c.requires.6 c.take-d.ensures c.settle.ensures.work_after)) c.send.ensures.keeps,
    )
