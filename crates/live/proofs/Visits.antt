-- One visit from its parts: the front is a statement, taking it and pushing its live-in keep the invariant, and what may still be done falls by the one that was taken.
-- Assumes nothing.
use Prim.Native.Nat.{ℕ, ◌<◌, ◌≤◌, zero-le}
use mathlib.Core.List.Memᴰ
use mathlib.Core.List.{List, [], ◌∷◌}
use mathlib.Core.Path.{◌≡◌, refl, sym, ◌∙◌, subst}
use native.Mathlib.Omega.{arith}
use lib.ListN.{length, get_or, set}
use Rattle.flow.specs.Flow.{Flow}
use Rattle.flow.specs.Format.{flow_of}
use Rattle.statements.specs.Clauses.Ready.{Ready}
use Rattle.statements.proofs.WorkArea.{row_from}
use Rattle.statements.proofs.Keeps.{keeps-set, ready-keeps}
use Rattle.solve.specs.declared.Queue.{Queue}
use Rattle.solve.specs.Clauses.Waiting.{Waits, Taken, KeepsRest, rest_of}
use Rattle.solve.proofs.Waiting.{rest-trans, rest-keeps}
use Rattle.live.specs.Clauses.Predecessors.{Predecessors}
use Rattle.live.specs.Clauses.Spread.{PushedLive}
use Rattle.live.specs.Clauses.Solving.{transfer, Solving, Held, Visited}
use Rattle.live.proofs.Pushing.{rest-row}
use Rattle.live.proofs.Solving.{handled_solving}

-- the queue's words are kept apart from the noted places and from the rows

pub rest-ready : {s ws vs : List ℕ} {n : ℕ} → Ready s ws n → KeepsRest n 0 ws vs → Ready s vs n
rest-ready {n = n} r k = ready-keeps r (rest-keeps k) (omega (arith, row_from n n))

pub rest-predecessors : (f : Flow) {ws vs : List ℕ} {n : ℕ} → KeepsRest n 0 ws vs → Predecessors f ws n → Predecessors f vs n
rest-predecessors f k rows i l j m = rest-row k m l ∙ rows i l j m

-- a queue that holds numbers, by its front
record Front (f : Flow) (n : ℕ) (ws ins outs : List ℕ) (q : Queue) : Type 0 where
  first : ℕ
  rest : List ℕ
  waits : Waits ws n 0 q (first ∷ rest)
  solving : Solving f 0 n ins outs (first ∷ rest)

front : {f : Flow} {n : ℕ} {ws ins outs : List ℕ} {q : Queue} → Held f 0 n ws ins outs q → 0 < q.len → Front f n ws ins outs q
front {f} {n} {ws} {ins} {outs} {q} h l = go h.0 h.1 h.2
  where
    go : (w : List ℕ) → Waits ws n 0 q w → Solving f 0 n ins outs w → Front f n ws ins outs q
    go [] a b = absurd (omega (arith, a.count))
    go (x ∷ w) a b = record { first = x; rest = w; waits = a; solving = b }

module _ {f : Flow} {n j : ℕ} {ws vs ins outs : List ℕ} {q : Queue} (h : Held f 0 n ws ins outs q) (l : 0 < q.len) (t : Taken ws vs n 0 q j) where
  pub taken_small : j < n
  taken_small = let c = front h l in let e = t.front c.first c.rest c.waits in let b = c.solving.small c.first (Memᴰ.head refl) in omega arith

  pub taken_held : (p : Queue) → p ≡ rest_of n q → (w : List ℕ) × Waits vs n 0 p w
  taken_held p e = let c = front h l in (c.rest, subst (λ z. Waits vs n 0 z c.rest) (sym e) (t.waits c.first c.rest c.waits))

module _ {s ws vs us ins outs outs' : List ℕ} {n j live : ℕ} {q p o : Queue} (r : Ready s ws n) (room : n ≤ length ins) (rows : Predecessors (flow_of s) ws n)
    (h : Held (flow_of s) 0 n ws ins outs q) (l : 0 < q.len) (t : Taken ws vs n 0 q j) (e : p ≡ rest_of n q) (value : live ≡ transfer (flow_of s) j (get_or outs j 0))
    (u : PushedLive vs us outs outs' n p o j live) where
  taken : Solving (flow_of s) 0 n ins outs (j ∷ (front h l).rest)
  taken =
      let c = front h l in
      subst (λ x. Solving (flow_of s) 0 n ins outs (x ∷ c.rest)) (sym (t.front c.first c.rest c.waits)) c.solving

  pub visited : Visited (flow_of s) n ws us ins (set ins j live) outs outs' q o
  visited =
      let c = front h l in
      let small = taken_small h l t in
      let after = u.waits c.rest (subst (λ z. Waits vs n 0 z c.rest) (sym e) (t.waits c.first c.rest c.waits)) in
      record {
        held = (
          after.0,
          after.1,
          handled_solving r small room (rest-predecessors (flow_of s) t.kept rows) taken value u after.2,
        );
        falls = let a = c.waits.count in let b = after.1.count in let d = after.2.falls in omega arith;
        kept = rest-trans t.kept u.kept;
        in_area = keeps-set ins j live zero-le small;
        out_area = u.area;
      }
