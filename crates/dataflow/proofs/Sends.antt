-- One number sends its masks on: its edges' rows are made and pushed along the edges. The rows stand beside the solver's state, so what was pushed is what the
-- doubled graph's edges bring.
use Prim.Native.Nat.{ℕ, ◌+◌, ◌*◌, ◌/◌, ◌%◌, ◌≤◌, ◌<◌}
use mathlib.Core.Bool.{Bool, true, false, cond, not, ◌&&◌, ◌||◌, and-true}
use mathlib.Core.List.{List, [], ◌∷◌}
use mathlib.Core.Option.{none, some}
use mathlib.Core.Path.{◌≡◌, refl, sym, ap, ap₂, subst, ◌∙◌}
use native.Mathlib.Nat.{mul-zero, le_refl}
use native.Mathlib.Omega.{arith}
use lib.Bits.{bit_or, or_self}
use lib.Dec.{eqb, ltb}
use lib.ListN.{get_or}
use Rattle.words.specs.Clauses.Row.{has}
use Rattle.masks.specs.declared.Effect.{Effect}
use Rattle.masks.specs.declared.Effect.TheVariants.{Reference, Touched}
use Rattle.masks.specs.Step.{step_of}
use Rattle.flow.specs.declared.Base.{Base}
use Rattle.flow.specs.declared.Base.TheVariants.{Zero, N}
use Rattle.flow.specs.Flow.{Flow, size}
use Rattle.theory.specs.Lists.{In, any, elem}
use Rattle.theory.specs.Body.{kind, continuation_of, entered, opaque_call, call_touches}
use Rattle.theory.specs.Key.{handler_touches}
use Rattle.theory.specs.Sure.{sure}
use Rattle.theory.specs.Doubled.{Node, Edge, at, same_base, same_node, node, edges, statement_effects, entering, own_effects, key_effects, edge_effects}
use Rattle.theory.specs.Queue.{step_all, brings}
use Rattle.theory.proofs.Lists.{says_one}
use Rattle.theory.proofs.Edges.{same-node, continues-at}
use Rattle.statements.specs.Clauses.Layout.{sure_at, calls_at, call_touched_at, max_width}
use Rattle.statements.specs.Clauses.Ready.{Keeps, MembersWord}
use Rattle.statements.proofs.Keeps.{keeps-trans, keeps_widen, keeps-has}
use Rattle.statements.proofs.WorkArea as area
use Rattle.calls.specs.declared.edges.Call.{Call}
use Rattle.calls.specs.Clauses.Class.{transparent_call, CallOf}
use Rattle.calls.specs.Clauses.Held.{Linked, opaque, transparent}
use Rattle.calls.proofs.Classes.{Plain, call_says}
use Rattle.calls.specs.Clauses.Slots.{slots, present}
use Rattle.calls.proofs.Slots.{slot-edge, brings-slots, enqueue-slots}
use Rattle.calls.proofs.Next.{plain-edge}
use Rattle.solve.specs.declared.Queue.{Queue}
use Rattle.solve.specs.Clauses.Layout.{set_row, out_row, back_row, mask_row_at, state_at, settled_in, key_at}
use Rattle.solve.specs.Clauses.Rows.{mask_at, RowIs, step_where, member}
use Rattle.solve.specs.Clauses.Waiting.{Waits}
use Rattle.solve.specs.Clauses.Pushed.{masks_at}
use Rattle.solve.proofs.Room.{row_first, row_from, nodes-within}
use Rattle.solve.proofs.Masks.{mask-cong, differ_as}
use Rattle.solve.proofs.Waiting.{waits_kept}
use Rattle.solve.proofs.Growing.{masks_kept}
use Rattle.dataflow.specs.Clauses.Transfer.{acted, is_entered, enters_again, Acted, plain_effects, KeyStepped}
use Rattle.dataflow.specs.Clauses.Sent.{edge_row, masks_below, Prepared, Shared, Goes, statement_arcs, Sends}
use Rattle.dataflow.proofs.Acted.{step_all-append, unkeyed-step}
use Rattle.dataflow.proofs.EdgeRows.{word-member, act-row, plain_row, key_row, back-row, carried-brings}
use Rattle.dataflow.proofs.Sending.{joined-grows}
use Rattle.dataflow.proofs.Sharing.{shared-stays}

-- effects of the statement of d, said of the flow
acts : (f : Flow) (ws us : List ℕ) (n w d i : ℕ) (E : ℕ → ℕ → List Effect) → i ≡ (node f d).stmt → (row : ℕ) → Acted f ws us n w d (E i) row
    → (a : ℕ) → a < 64 * w → mask_at us w row a ≡ acted f.arrays (E (node f d).stmt) (masks_at ws n w d) a
acts f ws us n w d i E stmt row act a l = act.masks a l ∙ ap (λ (j : ℕ). acted f.arrays (E j) (masks_at ws n w d) a) stmt

-- a statement whose edges carry its act alone, and the handler's touched step
pub prepared_plain : (f : Flow) (ws us : List ℕ) (n w d i : ℕ) → i ≡ (node f d).stmt → (row : ℕ) → Acted f ws us n w d (plain_effects f i) row → Plain f (node f d).stmt
    → Prepared f ws us n w d (edge_effects f (node f d).stmt) (λ b. row)
prepared_plain f ws us n w d i stmt row act op = record {
  keeps = act.keeps;
  rows = λ m h x e a l.
      let bare : x.continues ≡ false = plain-edge f (node f d) op e in
      acts f ws us n w d i (plain_effects f) stmt row act a l ∙ plain_row f (node f d).stmt f.arrays m (masks_at ws n w d) x a (h a l) bare;
}

-- both rows step in place, one after the other
pub key-stepped : (ws us vs : List ℕ) (n w : ℕ) → RowIs ws us w (out_row n w) (step_where (member ws (key_at n w)) Touched (mask_at ws w (out_row n w)))
    → RowIs us vs w (back_row n w) (step_where (member us (key_at n w)) Touched (mask_at us w (back_row n w))) → KeyStepped ws vs n w
unfolding step_where member
key-stepped ws us vs n w x y =
    let low = row_from n w (2 * n) in
    let end = nodes-within n w in
    record {
      keeps = keeps-trans (keeps_widen (le_refl _) (omega (arith, row_first n w)) x.keeps) (keeps_widen (omega arith) (row_first n w) y.keeps);
      out = λ a l. mask-cong us vs w (out_row n w) a l (λ z lo hi. y.keeps.below z (omega arith)) ∙ x.masks a l;
      back = λ a l.
          y.masks a l
          ∙ ap₂ (λ (t : Bool) (v : ℕ). cond t (step_of Touched v) v) (ap (λ (z : ℕ). eqb z 1) (keeps-has x.keeps (key_at n w) a (λ p q. omega arith)))
          (mask-cong ws us w (back_row n w) a l (λ z lo hi. x.keeps.above z (omega arith)));
    }

-- the rows of a call take the handler's touched step
pub prepared_keyed : {f : Flow} {ws us vs : List ℕ} {n w d : ℕ} → Prepared f ws us n w d (own_effects f (node f d).stmt) (edge_row n w) → KeyStepped us vs n w
    → ((a : ℕ) → a < 64 * w → member us (key_at n w) a ≡ handler_touches f a) → Prepared f ws vs n w d (edge_effects f (node f d).stmt) (edge_row n w)
prepared_keyed {f} {ws} {us} {vs} {n} {w} {d} p k says = record {
  keeps = keeps-trans p.keeps (keeps_widen (omega arith) (le_refl _) k.keeps);
  rows = λ m h x e a l.
      row_at x.continues a l
      ∙ key_row f (node f d).stmt f.arrays m (mask_at us w (edge_row n w x.continues)) (member us (key_at n w)) x a (p.rows m h x e a l) (says a l);
}
  where
    row_at : (c : Bool) (a : ℕ) → a < 64 * w → mask_at vs w (edge_row n w c) a ≡ step_where (member us (key_at n w)) Touched (mask_at us w (edge_row n w c)) a
    row_at true a l = k.back a l
    row_at false a l = k.out a l

pub prepared_unkeyed : {f : Flow} {ws us : List ℕ} {n w d : ℕ} → f.handler ≡ none → Prepared f ws us n w d (own_effects f (node f d).stmt) (edge_row n w)
    → Prepared f ws us n w d (edge_effects f (node f d).stmt) (edge_row n w)
unfolding masks_below edge_effects
prepared_unkeyed {f} {n = n} {w = w} {d = d} e p = record {
  keeps = p.keeps;
  rows = λ m h x k a l.
      p.rows m h x k a l
      ∙ ap (λ (v : ℕ). cond (ltb a f.arrays) v 0)
      (sym (step_all-append (own_effects f (node f d).stmt x a) (key_effects f a) (m a) ∙ unkeyed-step f a (step_all (own_effects f (node f d).stmt x a) (m a)) e));
}

-- the arrays that such a call touches, and those that are sure for it, are noted

module _ {f : Flow} {ws : List ℕ} {n i : ℕ} (e : transparent_call f i ≡ true) (l : Linked f ws n) (below : i < n) where
  state : get_or ws (calls_at n + i) 0 ≡ transparent
  state = let says = call_says f i e in l.calls.call i says.0 below says.1 ∙ ap (λ (b : Bool). cond b opaque transparent) says.2

  pub call-touches : MembersWord (get_or ws (call_touched_at n + i) 0) (call_touches f i)
  call-touches = l.calls.touched i below state

  pub call-sure : MembersWord (get_or ws (sure_at n + i) 0) (sure f i)
  call-sure = l.calls.sure i below state

and_no : (b : Bool) → (b && false) ≡ false
and_no true = refl
and_no false = refl

-- the edge to the continuation of a call that is not opaque is also one to an entered statement in base n alone
continuing : (f : Flow) (v : Node) {k : ℕ} {x : Edge} → continuation_of (kind f v.stmt) ≡ some k → opaque_call f v.stmt ≡ false → In x (edges f v) → x.continues ≡ true → x.to ≡ at v.base k
continuing f v {k} {x} c o m e = same-node x.to (at v.base k) (sym (continues-at f v.base v.stmt c o m) ∙ e)

any-entered : (b : Base) (k : ℕ) (l : List ℕ) → any (λ j. same_node (at b k) (at N j)) l ≡ (same_base b N && elem k l)
unfolding any elem
any-entered Zero k [] = refl
any-entered N k [] = refl
any-entered Zero k (j ∷ l) = any-entered Zero k l
any-entered N k (j ∷ l) = ap (λ t. eqb k j || t) (any-entered N k l)

entering-is : (f : Flow) (v : Node) {k : ℕ} {x : Edge} → continuation_of (kind f v.stmt) ≡ some k → opaque_call f v.stmt ≡ false → In x (edges f v) → x.continues ≡ true
    → entering f v.stmt x ≡ enters_again f v.base v.stmt
unfolding entering
entering-is f v {k} c o m e =
    ap (λ w. any (λ j. same_node w (at N j)) (entered f v.stmt)) (continuing f v c o m e)
    ∙ any-entered v.base k (entered f v.stmt)
    ∙ ap (λ t. same_base v.base N && is_entered f v.stmt t) (sym c)

-- the row of a call says whether it enters its continuation
pub again-is : {f : Flow} {ws : List ℕ} {i : ℕ} {call : Call} (b : Base) → CallOf f ws i call → call.continuation.0 < size f
    → (same_base b N && eqb (has ws call.row call.continuation.0) 1) ≡ enters_again f b i
again-is {f} {i = i} b c l =
    ap (λ t. same_base b N && t) (ap (λ (y : ℕ). eqb y 1) (c.entered _ l) ∙ says_one (elem _ (entered f i)))
    ∙ ap (λ t. same_base b N && is_entered f i t) (sym c.continues)

-- a call that is not opaque: its sets say which arrays take which step
module _ (f : Flow) (ws us : List ℕ) (n w d i : ℕ) (stmt : i ≡ (node f d).stmt) (is_call : transparent_call f i ≡ true) (act : Acted f ws us n w d (statement_effects f i) (out_row n w)) (narrow : w ≤ max_width)
    (touched-word : MembersWord (get_or us (call_touched_at n + i) 0) (call_touches f i)) (sure-word : MembersWord (get_or us (sure_at n + i) 0) (sure f i)) (small : i < n) where
  -- what the row of the edge to the continuation has, from the row of the act
  module _ (vs : List ℕ) (sured : ℕ → Bool) (keeps : Keeps (back_row n w) (mask_row_at n w 0) us vs)
      (back : (a : ℕ) → a < 64 * w → mask_at vs w (back_row n w) a ≡ step_where sured Reference (step_where (member us (call_touched_at n + i)) Touched (mask_at us w (out_row n w))) a)
      (says : (a : ℕ) → a < 64 * w → sured a ≡ (sure f i a && not (enters_again f (node f d).base i))) where
    out : (a : ℕ) → a < 64 * w → mask_at vs w (out_row n w) a ≡ acted f.arrays (statement_effects f (node f d).stmt) (masks_at ws n w d) a
    out a l = mask-cong us vs w (out_row n w) a l (λ y lo hi. keeps.below y (omega arith)) ∙ acts f ws us n w d i (statement_effects f) stmt (out_row n w) act a l

    in_back : (a : ℕ) → a < 64 * w
        → mask_at vs w (back_row n w) a
        ≡ step_where sured Reference (step_where (member us (call_touched_at n + i)) Touched (acted f.arrays (statement_effects f (node f d).stmt) (masks_at ws n w d))) a
    unfolding step_where
    in_back a l =
        back a l
        ∙ ap (λ (v : ℕ). step_where sured Reference (step_where (member us (call_touched_at n + i)) Touched (λ b. v)) a) (acts f ws us n w d i (statement_effects f) stmt (out_row n w) act a l)

    pub prepared_back : Prepared f ws vs n w d (own_effects f (node f d).stmt) (edge_row n w)
    prepared_back = record {
      keeps = keeps-trans act.keeps (keeps_widen (omega arith) (omega arith) keeps);
      rows = λ m h x e a l. row_at m h x e a l x.continues refl;
    }
      where
        row_at : (m : ℕ → ℕ) → ((a : ℕ) → a < 64 * w → masks_at ws n w d a ≡ masks_below f.arrays m a) → (x : Edge) → In x (edges f (node f d)) → (a : ℕ) → a < 64 * w → (c : Bool) → x.continues ≡ c
            → mask_at vs w (edge_row n w c) a ≡ masks_below f.arrays (λ b. step_all (own_effects f (node f d).stmt x b) (m b)) a
        row_at m h x k a l true e =
            let call = call_says f (node f d).stmt (subst (λ (j : ℕ). transparent_call f j ≡ true) stmt is_call) in
            in_back a l
            ∙ back-row f (node f d).stmt f.arrays m (masks_at ws n w d) (member us (call_touched_at n + i)) sured x a (h a l) e
            (word-member us (call_touched_at n + i) (call_touches f i) a (omega arith) touched-word ∙ ap (λ (j : ℕ). call_touches f j a) stmt)
            (says a l ∙ ap (λ (j : ℕ). sure f j a && not (enters_again f (node f d).base j)) stmt ∙ ap (λ t. sure f (node f d).stmt a && not t) (sym (entering-is f (node f d) call.1 call.2 k e)))
        row_at m h x k a l false e = out a l ∙ act-row f (node f d).stmt f.arrays m (masks_at ws n w d) x a (h a l) e

  -- its arrays that are sure take the step of a reference, unless the edge enters a statement besides

  pub prepared_again : (vs : List ℕ) → RowIs us vs w (back_row n w) (step_where (member us (call_touched_at n + i)) Touched (mask_at us w (out_row n w))) → enters_again f (node f d).base i ≡ true
      → Prepared f ws vs n w d (own_effects f (node f d).stmt) (edge_row n w)
  unfolding step_where
  prepared_again vs touched e =
      prepared_back vs (λ a. false) (keeps_widen (le_refl _) (row_first n w) touched.keeps) touched.masks (λ a l. sym (ap (λ t. sure f i a && not t) e ∙ and_no (sure f i a)))

  pub prepared_sure : (vs qs : List ℕ) → RowIs us vs w (back_row n w) (step_where (member us (call_touched_at n + i)) Touched (mask_at us w (out_row n w)))
      → RowIs vs qs w (back_row n w) (step_where (member vs (sure_at n + i)) Reference (mask_at vs w (back_row n w))) → enters_again f (node f d).base i ≡ false → Prepared f ws qs n w d (own_effects f (node f d).stmt) (edge_row n w)
  unfolding step_where member
  prepared_sure vs qs touched stepped e =
      prepared_back qs (member us (sure_at n + i)) (keeps-trans (keeps_widen (le_refl _) (row_first n w) touched.keeps) (keeps_widen (le_refl _) (row_first n w) stepped.keeps))
      (λ a l. stepped.masks a l ∙ ap₂ (λ (t : Bool) (v : ℕ). cond t (step_of Reference v) v) (same a l) (touched.masks a l))
      (λ a l. word-member us (sure_at n + i) (sure f i) a (omega arith) sure-word ∙ sym (ap (λ t. sure f i a && not t) e ∙ and-true (sure f i a)))
    where
      same : (a : ℕ) → a < 64 * w → member vs (sure_at n + i) a ≡ member us (sure_at n + i) a
      same a l = ap (λ (y : ℕ). eqb y 1) (keeps-has touched.keeps (sure_at n + i) a (λ p q. let low = area.row_from n n in omega arith))

-- where only the rows for edges are written, the solver's state is as it was
module _ (ws us : List ℕ) (n w : ℕ) (k : Keeps (set_row n) (mask_row_at n w 0) ws us) where
  beside_state : (t : ℕ) → get_or us (state_at n w t) 0 ≡ get_or ws (state_at n w t) 0
  beside_state t = k.above (state_at n w t) (omega (arith, mul-zero w))

  pub beside_waits : {queue : Queue} {l : List ℕ} → Waits ws n w queue l → Waits us n w queue l
  beside_waits h = waits_kept h (λ x l m. k.below x (omega arith)) (λ d m. ap (λ z. z % 2) (beside_state d))

  beside_masks : (t a : ℕ) → t < 2 * n → a < 64 * w → masks_at us n w t a ≡ masks_at ws n w t a
  beside_masks = masks_kept ws us n w (λ x l h. k.above x l)

  beside_settled : (t : ℕ) → settled_in us n w t ≡ settled_in ws n w t
  beside_settled t = ap (λ z. z / 2) (beside_state t)

  pub beside_shared : {f : Flow} → Shared f ws n w → Shared f us n w
  beside_shared h = shared-stays n w (keeps_widen (omega arith) (omega (arith, mul-zero w)) k) (λ t a l m. ap (bit_or (masks_at us n w t a)) (sym (beside_masks t a l m)) ∙ or_self (masks_at us n w t a)) h

-- the rows are pushed
pub sends : {f : Flow} {ws us vs : List ℕ} {n w d i : ℕ} {v : Node} {from : Bool → ℕ} {queue r : Queue} → v ≡ node f d → i ≡ v.stmt → Prepared f ws us n w d (edge_effects f (node f d).stmt) from
    → Goes f us vs n w from queue i (present (slots f v)) r → Sends f ws vs n w queue d (statement_arcs f d) r
unfolding masks_below
sends {f} {ws} {us} {vs} {n} {w} {d} {i} {v} {from} {queue} {r} is stmt p x = record {
  waits = λ l h. subst (λ (k : List ℕ). Waits vs n w r k) (enqueue-slots f d l) (s.waits l (beside_waits ws us n w p.keeps h));
  masks = brought;
  grows = λ t a b k. ap (bit_or (masks_at vs n w t a)) (sym (beside_masks ws us n w p.keeps t a b k)) ∙ joined-grows (masks_at us n w t a) _ _ (s.masks t a b k);
  settled = λ t b.
      s.settled t b
      ∙ ap₂ (λ (x : Bool) (y : ℕ). cond x 0 y)
      (differ_as (64 * w) (masks_at vs n w t) (masks_at vs n w t) (masks_at us n w t) (masks_at ws n w t) (λ a m. refl) (λ a m. beside_masks ws us n w p.keeps t a b m))
      (beside_settled ws us n w p.keeps t);
  shared = s.shared;
  keeps = keeps-trans (keeps_widen (omega arith) (omega (arith, mul-zero w)) p.keeps) s.keeps;
}
  where
    s : Goes f us vs n w from queue (node f d).stmt (present (slots f (node f d))) r
    s = subst (λ (y : Node). Goes f us vs n w from queue y.stmt (present (slots f y)) r) is (subst (λ (j : ℕ). Goes f us vs n w from queue j (present (slots f v)) r) stmt x)

    brought : (m : ℕ → ℕ) → ((a : ℕ) → a < 64 * w → masks_at ws n w d a ≡ masks_below f.arrays m a) → (t a : ℕ) → t < 2 * n → a < 64 * w
        → masks_at vs n w t a ≡ bit_or (masks_at ws n w t a) (masks_below f.arrays (λ b. brings t b (m b) (statement_arcs f d)) a)
    brought m h t a b k =
        s.masks t a b k
        ∙ ap₂ bit_or (beside_masks ws us n w p.keeps t a b k)
        (carried-brings f us w from (node f d).stmt m t (present (slots f (node f d))) (λ x e. p.rows m h x (slot-edge f (node f d) e)) a k
        ∙ ap (λ (v : ℕ). cond (ltb a f.arrays) v 0) (brings-slots f t a (m a) d))
