-- What the solver leaves alone: the calls' summaries, the rows of the RETURNs and of the calls, and the calls' orders lie outside the words that it writes.
-- By the layout of the work area.
use Prim.Native.Nat.{ℕ, ◌+◌, ◌*◌, ◌/◌, ◌<◌, ◌≤◌}
use mathlib.Core.List.{List}
use mathlib.Core.Option.{some}
use mathlib.Core.Path.{◌≡◌, sym, ap, subst, ◌∙◌}
use native.Mathlib.Omega.{arith}
use lib.Dec.{eqb}
use lib.ListN.{get_or}
use Rattle.words.specs.Clauses.Row.{has}
use Rattle.flow.specs.declared.Header.{Header}
use Rattle.flow.specs.Flow.{Flow, size}
use Rattle.theory.specs.Key.{handler_touches}
use Rattle.theory.proofs.Lists.{says_one}
use Rattle.statements.specs.Clauses.Layout.{matrix_at, calls_at, bodies_at, touched_at, row_at, queue_at}
use Rattle.statements.specs.Clauses.Ready.{Ready, Indexed, Keeps}
use Rattle.statements.proofs.WorkArea.{row_from, row_fits, member-word}
use Rattle.statements.proofs.Keeps.{keeps-has, ready-keeps, indexed-keeps}
use Rattle.calls.specs.declared.edges.Call.{Call}
use Rattle.calls.specs.Clauses.Class.{CallOf}
use Rattle.calls.specs.Clauses.Held.{Leads, Linked}
use Rattle.calls.specs.Clauses.Orders.{lists_end, ListOf, OrderOf}
use Rattle.calls.proofs.Gathered.{summaries_kept}
use Rattle.calls.proofs.Ordering.{list-to, list-kept, order-kept}
use Rattle.solve.specs.Clauses.Layout.{area_end, key_at}
use Rattle.solve.specs.Clauses.Rows.{member}
use Rattle.dataflow.specs.Clauses.Transfer.{KeySet}

-- the words from the queue on are the solver's
pub queue-above : (n : ℕ) → matrix_at n ≤ queue_at n
queue-above n = let h = row_from n n in omega arith

pub indexed_stays : {s ws vs : List ℕ} {h : Header} {hi : ℕ} → Keeps (queue_at h.statements) hi ws vs → Indexed s h ws → Indexed s h vs
indexed_stays {h = h} k x = let above = queue-above h.statements in indexed-keeps x k (omega arith)

module _ {ws vs : List ℕ} {n hi : ℕ} (k : Keeps (queue_at n) hi ws vs) where
  -- a noted order and its list stand before the queue

  pub list-stays : {f : Flow} {c p m : ℕ} → ListOf f ws n c p m → ListOf f vs n c p m
  list-stays x = list-kept (λ y b. k.below y b) x

  pub order-stays : {f : Flow} {c : ℕ} → c < n → OrderOf f ws n c → OrderOf f vs n c
  order-stays {f} {c} l x = order-kept (k.below (touched_at n + c) (omega (arith, row_from n n))) (λ e y a b. k.below y (omega (arith, list-to f n (lists_end f n c) c e))) x

  pub linked-stays : {f : Flow} → Linked f ws n → Linked f vs n
  linked-stays {f} x =
      let h = queue-above n in
      let call : (c : ℕ) → c < n → get_or vs (calls_at n + c) 0 ≡ get_or ws (calls_at n + c) 0 = λ c l. k.below (calls_at n + c) (omega arith) in
      let row : (r j : ℕ) → r < n → j < n → has vs (row_at n r) j ≡ has ws (row_at n r) j = λ r j l m. keeps-has k (row_at n r) j (λ p q. let fits = row_fits n l in let word = member-word m in omega arith) in
      record {
        calls = summaries_kept (omega arith) k x.calls;
        bodies = λ c j l m e. row c j l m ∙ x.bodies c j l m (sym (call c l) ∙ e);
        returns = λ r j l m e. row r j l m ∙ x.returns r j l m e;
        leaders = λ r l e.
            let y = x.leaders r l e in
            subst (λ (z : ℕ). Leads vs n r z) (sym (k.below (bodies_at n + r) (omega arith)))
            (record { below = y.below; same = λ j m. row (get_or ws (bodies_at n + r) 0) j y.below m ∙ y.same j m ∙ sym (row r j l m) });
        orders = λ c l s. order-stays l (x.orders c l s);
      }

  pub ready_stays : {s : List ℕ} → Ready s ws n → Ready s vs n
  ready_stays r = let above = queue-above n in ready-keeps r k (omega arith)

  pub call_stays : {f : Flow} {i : ℕ} {x : Call} → size f ≡ n → i < n → CallOf f ws i x → CallOf f vs i x
  call_stays {f} {i} {x} z l c = record {
    continues = c.continues;
    lines = c.lines;
    successors = c.successors;
    place = c.place;
    room = subst (λ (m : ℕ). x.row + (size f + 63) / 64 ≤ m) (sym k.size) c.room;
    entered = λ j m.
        keeps-has k x.row j (λ p q. let at : x.row ≡ row_at n i = c.place ∙ ap (λ (m : ℕ). row_at m i) z in let fits = row_fits n l in let word = member-word (subst (λ (m : ℕ). j < m) z m) in omega arith)
        ∙ c.entered j m;
  }

-- the handler's set stands behind the words that the solver writes
pub key-stays : {f : Flow} {ws vs : List ℕ} {n w lo : ℕ} → Keeps lo (area_end n w) ws vs → KeySet f ws n w → KeySet f vs n w
key-stays {n = n} {w = w} k x = record { member = λ e h a l. keeps-has k (key_at n w) a (λ p q. omega arith) ∙ x.member e h a l }

-- and says which arrays the handler touches
pub key_says : {f : Flow} {ws : List ℕ} {n w e : ℕ} → KeySet f ws n w → f.handler ≡ some e → (a : ℕ) → a < 64 * w → member ws (key_at n w) a ≡ handler_touches f a
unfolding member
key_says {f} {e = e} x h a l = ap (λ (y : ℕ). eqb y 1) (x.member e h a l) ∙ says_one (handler_touches f a)
