-- A call that is not opaque has a row for each kind of edge; any other statement has one row for all. What is pushed is what the doubled graph's edges bring.
use Prim.Native.Nat.{ℕ, ◌*◌, ◌<◌}
use mathlib.Core.List.{List}
use mathlib.Core.Logic.{◌⊎◌, inl, inr}
use mathlib.Core.Path.{◌≡◌, refl, sym, ap, subst, ◌∙◌}
use native.Mathlib.Omega.{arith}
use Rattle.flow.specs.Format.{flow_of}
use Rattle.theory.specs.Doubled.{Node, node, node_in, at}
use Rattle.theory.proofs.Copies.{node-below}
use Rattle.statements.specs.Clauses.Layout.{queue_at}
use Rattle.statements.specs.Clauses.Ready.{Ready, Keeps}
use Rattle.statements.proofs.Keeps.{ready-size, keeps_widen}
use Rattle.calls.proofs.Classes.{Plain, plain_says}
use Rattle.solve.specs.Clauses.Layout.{set_row, out_row, mask_row_at}
use Rattle.solve.specs.Clauses.Pushed.{Source}
use Rattle.solve.proofs.Room.{row_first}
use Rattle.dataflow.proofs.Kept.{ready_stays, linked-stays}
use Rattle.dataflow.proofs.Sends.{prepared_plain, beside_waits, beside_shared, sends}
use Rattle.dataflow.proofs.arrays.send_edges.Goals as goal

-- the copy is that of d, whose statement is one of the n

copy_is : {s ws : List ℕ} {n : ℕ} (d : ℕ) {v : Node} → Ready s ws n → v ≡ node_in n d → v ≡ node (flow_of s) d
copy_is d r e = e ∙ sym (ap (λ (n : ℕ). node_in n d) (ready-size r))

below : {n d : ℕ} (v : Node) → v ≡ node_in n d → d < 2 * n → v.stmt < n
below {n} {d} v e l = subst (λ (v : Node). v.stmt < n) (sym e) (node-below n d (omega arith))

pub send_call-requires : goal.send_call-requires
send_call-requires c =
    (c.requires.0, c.requires.1, c.requires.2, c.requires.3, c.requires.4, c.offset-place.ensures, copy_is c.args.d.0 c.requires.1.ready c.copy_of-copy.ensures, below (at c.copy_of-copy.result.base c.copy_of-copy.result.stmt.0) c.copy_of-copy.ensures c.requires.4, sym c.is_call.ensures ∙ c.if-is_call.true, c.requires.5, c.requires.6)

pub returns-then-is_call : goal.returns-then-is_call
returns-then-is_call c = c.send_call.ensures

-- while the row is made, only words behind the queue are written
beside : (n w : ℕ) {ws vs : List ℕ} → Keeps (set_row n) (mask_row_at n w 0) ws vs → Keeps (queue_at n) (mask_row_at n w 0) ws vs
beside n w k = keeps_widen (omega arith) (omega arith) k

-- the row may be pushed
source : (n w d : ℕ) {row : ℕ} → d < 2 * n → (row ≡ out_row n w) ⊎ (row ≡ mask_row_at n w d) → Source n w row
source n w d l (inl e) = let first = row_first n w in inl (omega arith, omega arith)
source n w d l (inr e) = inr (d, l, e)

pub push_plain-requires : goal.push_plain-requires
push_plain-requires c =
    let keeps = beside c.args.h.statements c.args.width c.plain_row-from.ensures.0.keeps in (
      ready_stays keeps c.requires.1.ready,
      linked-stays keeps c.requires.2,
      c.offset-place.ensures,
      below (at c.copy_of-copy.result.base c.copy_of-copy.result.stmt.0) c.copy_of-copy.ensures c.requires.4,
      sym c.is_call.ensures ∙ c.if-is_call.false,
      source c.args.h.statements c.args.width c.args.d.0 c.requires.4 c.plain_row-from.ensures.1,
      beside_shared c.args.work.now c.plain_row-from.new.work c.args.h.statements c.args.width c.plain_row-from.ensures.0.keeps c.requires.5,
      (_, beside_waits c.args.work.now c.plain_row-from.new.work c.args.h.statements c.args.width c.plain_row-from.ensures.0.keeps c.requires.6.1),
    )

pub returns : goal.returns
returns c =
    let f = flow_of c.args.file.now in
    let copy = copy_is c.args.d.0 c.requires.1.ready c.copy_of-copy.ensures in
    let stmt = ap (λ (v : Node). v.stmt) copy in
    sends copy refl
    (prepared_plain f c.args.work.now c.plain_row-from.new.work c.args.h.statements c.args.width c.args.d.0 _ stmt c.plain_row-from.result c.plain_row-from.ensures.0
    (subst (Plain f) stmt (plain_says f _ (sym c.is_call.ensures ∙ c.if-is_call.false))))
    c.push_plain.ensures
