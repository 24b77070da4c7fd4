-- Where the row brings something to what was sent, it goes to all continuations; else they hold it, and only join the queue. By what the RETURNs with one leader share.
use Prim.Native.Nat.{ℕ, ◌+◌, ◌*◌, ◌<◌, ◌≤◌}
use mathlib.Core.Bool.{Bool, true, false, not}
use mathlib.Core.List.{List}
use mathlib.Core.Path.{◌≡◌, refl, sym, subst}
use native.Mathlib.Omega.{arith}
use lib.ListN.{length, get_or}
use Rattle.words.specs.Clauses.Change.{Unioned}
use Rattle.words.proofs.Unioned.{union_same}
use Rattle.flow.specs.declared.Base.TheVariants.{Zero}
use Rattle.flow.specs.Flow.{Flow}
use Rattle.flow.specs.Format.{flow_of}
use Rattle.theory.specs.Body.{kind, is_return}
use Rattle.statements.specs.Clauses.Layout.{bodies_at, queue_at, max_width}
use Rattle.statements.specs.Clauses.Ready.{Ready, Keeps}
use Rattle.statements.proofs.Keeps.{keeps_widen, ready-size}
use Rattle.calls.specs.Clauses.Held.{Linked}
use Rattle.calls.specs.Clauses.Slots.{present, return_slots}
use Rattle.solve.specs.Clauses.Layout.{sent_row_at, area_end}
use Rattle.solve.specs.declared.Queue.{Queue}
use Rattle.solve.specs.Clauses.Waiting.{Waits}
use Rattle.solve.specs.Clauses.Pushed.{Source}
use Rattle.solve.proofs.Room.{row_from, nodes-within, sent-apart, solver_room}
use Rattle.solve.proofs.Growing.{source_fits, union_at}
use Rattle.dataflow.specs.Clauses.Sent.{Sent, Goes, Shared, MembersHold}
use Rattle.dataflow.proofs.Kept.{ready_stays, linked-stays}
use Rattle.dataflow.proofs.Sharing.{noted-keeps, noted-waits, brings-nothing, goes_returned}
use Rattle.dataflow.proofs.arrays.push_return.Goals as goal

-- the leader is a statement
low : {f : Flow} {ws : List ℕ} {n i l : ℕ} → Linked f ws n → i < n → is_return (kind f i) ≡ true → l ≡ get_or ws (bodies_at n + i) 0 → l < n
low {n = n} {i = i} h below r e = subst (λ (l : ℕ). l < n) (sym e) (h.leaders i below r).below

-- what was sent is noted for the leader, behind the queue
module _ {s ws us : List ℕ} {n w i lead sent from : ℕ} {grew : Bool} (ready : Ready s ws n) (linked : Linked (flow_of s) ws n) (shared : Shared (flow_of s) ws n w) (below : i < n) (is : is_return (kind (flow_of s) i) ≡ true)
    (thin : w ≤ max_width) (source : Source n w from) (leads : lead ≡ get_or ws (bodies_at n + i) 0) (at : sent ≡ sent_row_at n w lead) (u : Unioned ws us sent from (3 * w) grew) where
  room : area_end n w ≤ length ws
  room = solver_room ready (omega arith) thin

  noted : Unioned ws us (sent_row_at n w lead) from (3 * w) grew
  noted = union_at at refl u

  keeps : Keeps (queue_at n) (area_end n w) ws us
  keeps = keeps_widen (let far = row_from n w (2 * n) in omega arith) (omega arith) (noted-keeps (ready-size ready) linked shared below is room source leads noted)

  waits : {queue : Queue} → ((q : List ℕ) × Waits ws n w queue q) → (q : List ℕ) × Waits us n w queue q
  waits q = (q.0, noted-waits (ready-size ready) linked shared below is room source leads noted q.1)

  -- where the row brought nothing, the continuations hold it
  held : not grew ≡ true → MembersHold us n w i from
  held e =
      let same = union_same noted (unlike grew e) in
      subst (λ (v : List ℕ). MembersHold v n w i from) (sym same) (brings-nothing (ready-size ready) linked shared below is room source leads noted same)
    where
      unlike : (b : Bool) → not b ≡ true → b ≡ false
      unlike false e = refl
      unlike true e = sym e

  goes : {vs : List ℕ} {queue r : Queue} → Sent (flow_of s) us vs n w (λ b. from) queue i (present (return_slots (flow_of s) Zero i)) r
      → Goes (flow_of s) ws vs n w (λ b. from) queue i (present (return_slots (flow_of s) Zero i)) r
  goes = goes_returned (ready-size ready) linked shared below is room source leads noted

pub sent_row-requires : goal.sent_row-requires
sent_row-requires c = (low c.requires.1 c.requires.3 c.requires.2 c.leader-lead.ensures)

pub union-grew-requires : goal.union-grew-requires
union-grew-requires c =
    let at = c.sent_row.ensures in
    let fits = solver_room c.requires.0 (omega (arith, c.requires.3)) c.args.layout.narrow in
    (omega (arith, sent-apart c.args.layout.n c.args.layout.width (low c.requires.1 c.requires.3 c.requires.2 c.leader-lead.ensures), fits), omega (arith, source_fits c.args.layout.n c.args.layout.width c.args.from c.requires.4, nodes-within c.args.layout.n c.args.layout.width, fits))

pub push_members-requires : goal.push_members-requires
push_members-requires c =
    let kept = keeps c.requires.0 c.requires.1 c.requires.5 c.requires.3 c.requires.2 c.args.layout.narrow c.requires.4 c.leader-lead.ensures c.sent_row.ensures c.union-grew.ensures in (
      ready_stays kept c.requires.0,
      linked-stays kept c.requires.1,
      c.requires.2,
      c.requires.3,
      c.requires.4,
      held c.requires.0 c.requires.1 c.requires.5 c.requires.3 c.requires.2 c.args.layout.narrow c.requires.4 c.leader-lead.ensures c.sent_row.ensures c.union-grew.ensures,
      waits c.requires.0 c.requires.1 c.requires.5 c.requires.3 c.requires.2 c.args.layout.narrow c.requires.4 c.leader-lead.ensures c.sent_row.ensures c.union-grew.ensures c.requires.6,
    )

pub returns : goal.returns
returns c =
    goes c.requires.0 c.requires.1 c.requires.5 c.requires.3 c.requires.2 c.args.layout.narrow c.requires.4 c.leader-lead.ensures c.sent_row.ensures c.union-grew.ensures c.push_members.ensures
