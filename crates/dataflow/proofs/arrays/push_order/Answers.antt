-- The row goes along the edge of one entry more; a push leaves the words of the list as they are. Assumes nothing.
use Prim.Native.Nat.{ℕ, ◌<◌}
use mathlib.Core.List.{List}
use mathlib.Core.Path.{◌≡◌, sym, ap, ap₂, subst, ◌∙◌}
use native.Mathlib.Omega.{arith}
use lib.Dec.{eqb}
use lib.ListN.{length, get_or}
use Rattle.flow.specs.declared.Base.TheVariants.{N}
use Rattle.flow.specs.Format.{flow_of}
use Rattle.theory.specs.Doubled.{at, number_in}
use Rattle.statements.specs.Clauses.Layout.{queue_at}
use Rattle.statements.specs.Clauses.Ready.{Ready, Keeps}
use Rattle.statements.proofs.Keeps.{ready-size, ready_formed, ready-below}
use Rattle.calls.specs.Clauses.Orders.{order, ListOf, entry_at}
use Rattle.calls.proofs.Found.{same_number}
use Rattle.solve.specs.Clauses.Pushed.{Source}
use Rattle.dataflow.specs.Clauses.Sent.{edge_row}
use Rattle.dataflow.proofs.Kept.{list-stays}
use Rattle.dataflow.proofs.Sending.{sending_none, sending_on, sending_all, sent-edge, source_of, sources_call, places, waiting, back_below}
use Rattle.dataflow.proofs.Ordered.{order_edge, lines-sent, order_below, order-here, order-end}
use Rattle.dataflow.proofs.arrays.push_order.Goals as goal

-- the statement at hand is entry k of the order
module _ (s : List ℕ) {ws vs : List ℕ} {n i p count hi j : ℕ} (list : ListOf (flow_of s) ws n i p count) (keeps : Keeps (queue_at n) hi ws vs) (k : ℕ) (here : k < count) (e : j ≡ entry_at vs p k) where
  within : k < length (order (flow_of s) i)
  within = omega (arith, list.count)

  entry_is : j ≡ get_or (order (flow_of s) i) k 0
  entry_is = e ∙ (list-stays keeps list).entries k within

  below : Ready s ws n → j < n
  below r = subst (λ (j : ℕ). j < n) (sym entry_is) (ready-below r (order_below (ready_formed r) i k within))

pub node-back-requires : goal.node-back-requires
node-back-requires c = (c.args.layout.few, back_below c.requires.0 c.requires.2)

pub loop-k-init : goal.loop-k-init
loop-k-init c = sending_none

pub node-t-requires : goal.node-t-requires
node-t-requires c = (c.args.layout.few, below c.args.file.now c.requires.3 c.loop-k.invariant.sent.keeps c.loop-k.k c.loop-k-test.true c.entry.ensures c.requires.0)

pub push-queue-requires : goal.push-queue-requires
push-queue-requires c =
    let n = c.args.layout.n in
    let w = c.args.layout.width in
    let going = c.loop-k.invariant in
    let place = places going c.requires.0 c.args.layout.narrow N (below c.args.file.now c.requires.3 going.sent.keeps c.loop-k.k c.loop-k-test.true c.entry.ensures c.requires.0) c.node-t.ensures in (
      place.0,
      place.1,
      subst (Source n w) (sym c.call_row.ensures) (source_of n w (edge_row n w) (sources_call n w) (eqb c.node-t.result.0 c.node-back.result.0)),
      waiting going c.requires.4,
    )

pub loop-k-preserved : goal.loop-k-preserved
loop-k-preserved c =
    let f = flow_of c.args.file.now in
    let n = c.args.layout.n in
    let w = c.args.layout.width in
    let b = c.args.copy.base in
    let i = c.args.copy.stmt.0 in
    let m = c.args.call.continuation.0 in
    let k = c.loop-k.k in
    let list = c.requires.3 in
    let keeps = c.loop-k.invariant.sent.keeps in
    let e = get_or (order f i) k 0 in
    let number : c.node-t.result.0 ≡ number_in n (at N e) = c.node-t.ensures ∙ ap (λ (j : ℕ). number_in n (at N j)) (entry_is c.args.file.now list keeps k c.loop-k-test.true c.entry.ensures) in
    sending_on c.loop-k.invariant (order-here f b i m k (within c.args.file.now list keeps k c.loop-k-test.true c.entry.ensures))
    (sent-edge (order_edge b m e) (ready-size c.requires.0) (sources_call n w) (c.call_row.ensures ∙ ap (edge_row n w) (ap₂ eqb number c.node-back.ensures ∙ same_number b e m (back_below c.requires.0 c.requires.2))) number c.push-queue.ensures)

pub returns : goal.returns
returns c =
    let b = c.args.copy.base in
    let i = c.args.copy.stmt.0 in
    let m = c.args.call.continuation.0 in
    lines-sent b m (sending_all c.loop-k.invariant (order-end (flow_of c.args.file.now) b i m c.loop-k.k (omega (arith, c.requires.3.count))))
