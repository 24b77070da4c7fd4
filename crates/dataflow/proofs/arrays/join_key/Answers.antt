-- Where there is a handler n + the handler waits, and else the queue is as it was. Assumes nothing.
use Prim.Native.Nat.{ℕ}
use mathlib.Core.Path.{refl, subst}
use Rattle.solve.specs.Clauses.Waiting.{Enqueued}
use Rattle.dataflow.specs.Clauses.Sent.{KeyJoined}
use Rattle.dataflow.proofs.Headers.{handler-number}
use Rattle.calls.proofs.Checked.{handler-at, handler-none}
use Rattle.dataflow.proofs.arrays.join_key.Goals as goal

pub returns-in-None : goal.returns-in-None
returns-in-None c = KeyJoined.unkeyed (handler-none c.requires.1 c.in-None.is) refl refl

pub returns-in-Some : goal.returns-in-Some
returns-in-Some c =
    let a = c.args in
    KeyJoined.keyed (handler-at c.requires.1 c.in-Some.e c.in-Some.is)
    (subst (λ (t : ℕ). Enqueued a.work.now c.enqueue.new.work a.h.statements a.width a.queue t c.enqueue.result) (handler-number c.requires.1 c.in-Some.e.0 c.node.ensures) c.enqueue.ensures)
