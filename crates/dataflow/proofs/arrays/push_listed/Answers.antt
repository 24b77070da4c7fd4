-- The row goes to one successor more, which is a statement. Assumes nothing.
use Prim.Native.Nat.{ℕ, ◌<◌}
use mathlib.Core.List.{List}
use mathlib.Core.Path.{◌≡◌, refl, sym, ap, ◌∙◌}
use native.Mathlib.Omega.{arith}
use lib.ListN.{length, get_or}
use Rattle.flow.specs.Format.{flow_of, successor_count}
use Rattle.theory.specs.Body.{successors}
use Rattle.theory.specs.Doubled.{at, plain, number_in}
use Rattle.statements.specs.Clauses.Ready.{Ready, RecordOf}
use Rattle.statements.proofs.Keeps.{ready-size}
use Rattle.calls.proofs.Checked.{successor-below}
use Rattle.calls.proofs.Found.{listed_here, listed_end}
use Rattle.dataflow.proofs.Sending.{sending_none, sending_on, sending_all, sent-edge, sources_one, places, waiting}
use Rattle.dataflow.proofs.arrays.push_listed.Goals as goal

-- how many successors there are, as the record has it
counted : {s : List ℕ} {i p count : ℕ} → RecordOf s i p → count ≡ successor_count s p → count ≡ length (successors (flow_of s) i)
counted r e = e ∙ sym r.successors.count

-- the successor at hand is a statement
below : {s ws : List ℕ} {n : ℕ} (i k : ℕ) {j : ℕ} → Ready s ws n → k < length (successors (flow_of s) i) → j ≡ get_or (successors (flow_of s) i) k 0 → j < n
below i k r l e = omega (arith, ready-size r, successor-below r.fit i k l)

pub loop-k-init : goal.loop-k-init
loop-k-init c = sending_none

pub node-requires : goal.node-requires
node-requires c =
    (c.args.layout.few, below c.args.copy.stmt.0 c.loop-k.k c.requires.0 (omega (arith, counted c.requires.1 c.successor_count-count.ensures)) c.successor_at-j.ensures)

pub push-queue-requires : goal.push-queue-requires
push-queue-requires c =
    let low = below c.args.copy.stmt.0 c.loop-k.k c.requires.0 (omega (arith, counted c.requires.1 c.successor_count-count.ensures)) c.successor_at-j.ensures in
    let place = places c.loop-k.invariant c.requires.0 c.args.layout.narrow c.args.copy.base low c.node.ensures in
    (place.0, place.1, c.requires.3, waiting c.loop-k.invariant c.requires.4)

pub loop-k-preserved : goal.loop-k-preserved
loop-k-preserved c =
    let f = flow_of c.args.file.now in
    let k = c.loop-k.k in
    let b = c.args.copy.base in
    let i = c.args.copy.stmt.0 in
    let x = plain (at b (get_or (successors f i) k 0)) in
    sending_on c.loop-k.invariant (listed_here f b i k (omega (arith, counted c.requires.1 c.successor_count-count.ensures)))
    (sent-edge x (ready-size c.requires.0) (sources_one c.args.layout.n c.args.layout.width c.args.from c.requires.3) refl (c.node.ensures ∙ ap (λ (j : ℕ). number_in c.args.layout.n (at b j)) c.successor_at-j.ensures) c.push-queue.ensures)

pub returns : goal.returns
returns c = sending_all c.loop-k.invariant (listed_end (flow_of c.args.file.now) c.args.copy.base c.args.copy.stmt.0 c.loop-k.k (omega (arith, counted c.requires.1 c.successor_count-count.ensures)))
