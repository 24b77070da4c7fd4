-- What the key's edge brings is joined first, then the statement's edges are gone through, and the key's number waits last. By the laws of the key's edge.
use Prim.Native.Nat.{ℕ, ◌*◌, ◌<◌}
use mathlib.Core.List.{List}
use Rattle.flow.specs.Format.{flow_of}
use Rattle.statements.specs.Clauses.Layout.{queue_at}
use Rattle.statements.specs.Clauses.Ready.{Ready, Keeps}
use Rattle.statements.proofs.Keeps.{ready-size, ready_formed, keeps-trans}
use Rattle.solve.specs.declared.Queue.{Queue}
use Rattle.solve.specs.Clauses.Layout.{area_end}
use Rattle.solve.specs.Clauses.Waiting.{Waits}
use Rattle.dataflow.specs.Clauses.Sent.{Shared, KeyGrown}
use Rattle.dataflow.proofs.Kept.{indexed_stays, linked-stays, key-stays}
use Rattle.dataflow.proofs.Keyed.{first-keeps, first-shared, first-waits, sends_all}
use Rattle.dataflow.proofs.arrays.send.Goals as goal

-- what the key's edge leaves
module _ {s ws us : List ℕ} {n w d : ℕ} (ready : Ready s ws n) (low : d < 2 * n) (grown : KeyGrown (flow_of s) ws us n w d) where
  keeps : Keeps (queue_at n) (area_end n w) ws us
  keeps = first-keeps (flow_of s) (ready_formed ready) ws us n w d (ready-size ready) low grown

  shared : Shared (flow_of s) ws n w → Shared (flow_of s) us n w
  shared = first-shared (flow_of s) (ready_formed ready) ws us n w d (ready-size ready) low grown

  waits : {queue : Queue} → ((l : List ℕ) × Waits ws n w queue l) → (l : List ℕ) × Waits us n w queue l
  waits q = (q.0, first-waits (flow_of s) (ready_formed ready) ws us n w d (ready-size ready) low grown q.1)

pub send_edges-queue-requires : goal.send_edges-queue-requires
send_edges-queue-requires c =
    let ready = c.requires.1.ready in
    let low = c.requires.4 in
    let grown = c.grow_key.ensures in
    let kept = keeps ready low grown in
    (c.requires.0, indexed_stays kept c.requires.1, linked-stays kept c.requires.2, key-stays kept c.requires.3, low, shared ready low grown c.requires.5, waits ready low grown c.requires.6)

pub join_key-requires : goal.join_key-requires
join_key-requires c =
    let ready = c.requires.1.ready in
    let grown = c.grow_key.ensures in
    let sent = c.send_edges-queue.ensures in
    (c.requires.0, indexed_stays (keeps-trans (keeps ready c.requires.4 grown) sent.keeps) c.requires.1, (_, sent.waits _ (waits ready c.requires.4 grown c.requires.6).1))

pub returns : goal.returns
returns c =
    sends_all (flow_of c.args.file.now) (ready_formed c.requires.1.ready) c.args.work.now c.grow_key.new.work c.args.h.statements c.args.width c.args.d.0 (ready-size c.requires.1.ready) c.requires.4 _ _
    c.grow_key.ensures c.send_edges-queue.ensures c.join_key.ensures
