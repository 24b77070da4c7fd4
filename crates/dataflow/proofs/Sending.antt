-- Edges gone through one after the other: what is sent along some and then along others is sent along all of them. A union taken edge by edge is the union of all,
-- and the rows of the edges stay as they are on the way. A target that holds the row of its edge needs only to wait.
use Prim.Native.Nat.{ℕ, ◌+◌, ◌*◌, ◌≤◌, ◌<◌}
use mathlib.Core.Bool.{Bool, true, false, cond}
use mathlib.Core.List.{List, [], ◌∷◌, ◌++◌, map, map-append, append-nil, append_assoc}
use mathlib.Core.Logic.{inl, inr}
use mathlib.Core.Path.{◌≡◌, refl, sym, ap, ap₂, subst, ◌∙◌}
use native.Mathlib.Decide.{ℕ_discrete}
use native.Mathlib.Omega.{arith}
use borrow.Author.Tests.{eq-eqb, ne_eqb}
use lib.Bits.{bit_or, or_self, or_comm, or_zero_r}
use lib.Dec.{eqb}
use lib.ListN.{length}
use Rattle.flow.specs.declared.Base.{Base}
use Rattle.flow.specs.declared.Base.TheVariants.{Zero, N}
use Rattle.flow.specs.Flow.{Flow, size}
use Rattle.flow.specs.Format.{flow_of}
use Rattle.theory.specs.Lists.{differ}
use Rattle.theory.specs.Queue.{Arc, join, enqueue}
use Rattle.theory.specs.Doubled.{Edge, at, number, number_in}
use Rattle.theory.proofs.Push.{differ_chain}
use Rattle.statements.specs.Clauses.Layout.{max_width}
use Rattle.statements.specs.Clauses.Ready.{Ready}
use Rattle.statements.proofs.Keeps.{keeps-refl, keeps-trans, ready_formed, ready-below}
use Rattle.calls.specs.declared.edges.Call.{Call}
use Rattle.calls.specs.Clauses.Class.{CallOf}
use Rattle.calls.specs.Clauses.Slots.{to_arc}
use Rattle.calls.proofs.Slots.{or_assoc}
use Rattle.solve.specs.declared.Queue.{Queue}
use Rattle.solve.specs.Clauses.Layout.{out_row, mask_row_at, settled_in, nodes_end}
use Rattle.solve.specs.Clauses.Rows.{mask_at}
use Rattle.solve.specs.Clauses.Waiting.{Waits, Enqueued}
use Rattle.solve.specs.Clauses.Pushed.{masks_at, Source, Pushed}
use Rattle.solve.proofs.Room.{row_first, nodes-room}
use Rattle.solve.proofs.Masks.{mask-cong, differ_as}
use Rattle.solve.proofs.Growing.{pushed}
use Rattle.dataflow.specs.Clauses.Sent.{edge_row, Sources, carried, SettledSet, Grows, Sent}
use Rattle.dataflow.proofs.Unions.{or-between, differ_self, cond-or}

-- The rows that edges carry

pub source_of : (n w : ℕ) (from : Bool → ℕ) → Sources n w from → (b : Bool) → Source n w (from b)
source_of n w from (inl s) b = inl (s b)
source_of n w from (inr s) b = inr (s.0, s.1, s.2 b)

-- a push leaves them as they are
sources_stay : {ws vs : List ℕ} {n w t : ℕ} {queue r : Queue} (from : Bool → ℕ) (c : Bool) → Sources n w from → Pushed ws vs n w queue (from c) t r
    → (b : Bool) (a : ℕ) → a < 64 * w → mask_at vs w (from b) a ≡ mask_at ws w (from b) a
sources_stay {ws} {vs} {n} {w} from c (inl s) p b a l =
    let here = s b in
    mask-cong ws vs w (from b) a l (λ y lo hi. p.rows y (omega arith) (omega arith))
sources_stay {ws} {vs} {n} {w} {t} from c (inr s) p b a l = at (ℕ_discrete s.0 t)
  where
    own : (q : Bool) (us : List ℕ) → mask_at us w (from q) a ≡ masks_at us n w s.0 a
    own q us = ap (λ (x : ℕ). mask_at us w x a) (s.2 q)

    at : Dec (s.0 ≡ t) → mask_at vs w (from b) a ≡ mask_at ws w (from b) a
    at (yes e) =
        own b vs ∙ ap (λ (x : ℕ). masks_at vs n w x a) e ∙ p.masks a l
        ∙ ap₂ bit_or (ap (λ (x : ℕ). masks_at ws n w x a) (sym e)) (own c ws) ∙ or_self (masks_at ws n w s.0 a) ∙ sym (own b ws)
    at (no ne) = own b vs ∙ p.others s.0 a s.1 ne l ∙ sym (own b ws)

-- Lists of edges

pub enqueue-append : (xs ys : List Arc) (l : List ℕ) → enqueue (xs ++ ys) l ≡ enqueue ys (enqueue xs l)
unfolding enqueue
enqueue-append [] ys l = refl
enqueue-append (x ∷ xs) ys l = enqueue-append xs ys (join l x.to)

module _ (f : Flow) (ws : List ℕ) (w : ℕ) (from : Bool → ℕ) (t a : ℕ) where
  carried-append : (xs ys : List Edge) → carried f ws w from (xs ++ ys) t a ≡ bit_or (carried f ws w from xs t a) (carried f ws w from ys t a)
  unfolding carried
  carried-append [] ys = refl
  carried-append (x ∷ xs) ys =
      ap (bit_or (cond (eqb (number f x.to) t) (mask_at ws w (from x.continues) a) 0)) (carried-append xs ys)
      ∙ sym (or_assoc (cond (eqb (number f x.to) t) (mask_at ws w (from x.continues) a) 0) (carried f ws w from xs t a) (carried f ws w from ys t a))

  pub carried_same : (vs : List ℕ) → ((b : Bool) → mask_at vs w (from b) a ≡ mask_at ws w (from b) a) → (xs : List Edge) → carried f vs w from xs t a ≡ carried f ws w from xs t a
  unfolding carried
  carried_same vs h [] = refl
  carried_same vs h (x ∷ xs) = ap₂ (λ (y z : ℕ). bit_or (cond (eqb (number f x.to) t) y 0) z) (h x.continues) (carried_same vs h xs)

pub sent-none : {f : Flow} {ws : List ℕ} {n w i : ℕ} {from : Bool → ℕ} {queue : Queue} → Sent f ws ws n w from queue i [] queue
unfolding carried enqueue
sent-none {ws = ws} {n = n} {w = w} = record {
  waits = λ l h. h;
  masks = λ t a l m. sym (or_zero_r (masks_at ws n w t a));
  settled = λ t l. sym (ap (λ (b : Bool). cond b 0 (settled_in ws n w t)) (differ_self (64 * w) (masks_at ws n w t)));
  source = λ b a l. refl;
  keeps = keeps-refl;
}

-- one edge
module _ (f : Flow) {ws vs : List ℕ} {n w : ℕ} {from : Bool → ℕ} {queue r : Queue} (x : Edge) (sources : Sources n w from) (p : Pushed ws vs n w queue (from x.continues) (number f x.to) r) where
  one-mask : (t a : ℕ) → t < 2 * n → a < 64 * w → masks_at vs n w t a ≡ bit_or (masks_at ws n w t a) (carried f ws w from (x ∷ []) t a)
  unfolding carried
  one-mask t a l m = at (ℕ_discrete t (number f x.to)) ∙ ap (bit_or (masks_at ws n w t a)) (sym (or_zero_r (cond (eqb (number f x.to) t) (mask_at ws w (from x.continues) a) 0)))
    where
      at : Dec (t ≡ number f x.to) → masks_at vs n w t a ≡ bit_or (masks_at ws n w t a) (cond (eqb (number f x.to) t) (mask_at ws w (from x.continues) a) 0)
      at (yes e) =
          ap (λ (y : ℕ). masks_at vs n w y a) e ∙ p.masks a m
          ∙ ap₂ bit_or (ap (λ (y : ℕ). masks_at ws n w y a) (sym e)) (sym (ap (λ (q : Bool). cond q (mask_at ws w (from x.continues) a) 0) (eq-eqb (number f x.to) t (sym e))))
      at (no ne) =
          p.others t a l ne m ∙ sym (or_zero_r (masks_at ws n w t a))
          ∙ sym (ap (λ (q : Bool). bit_or (masks_at ws n w t a) (cond q (mask_at ws w (from x.continues) a) 0)) (ne_eqb (number f x.to) t (λ e. ne (sym e))))

  one-settled : SettledSet n w ws vs
  one-settled t l = at (ℕ_discrete t (number f x.to))
    where
      at : Dec (t ≡ number f x.to) → settled_in vs n w t ≡ cond (differ (64 * w) (masks_at vs n w t) (masks_at ws n w t)) 0 (settled_in ws n w t)
      at (yes e) = subst (λ (y : ℕ). settled_in vs n w y ≡ cond (differ (64 * w) (masks_at vs n w y) (masks_at ws n w y)) 0 (settled_in ws n w y)) (sym e) p.settled
      at (no ne) =
          p.others_settled t l ne
          ∙ sym (ap (λ (b : Bool). cond b 0 (settled_in ws n w t))
          (differ_as (64 * w) (masks_at vs n w t) (masks_at ws n w t) (masks_at ws n w t) (masks_at ws n w t) (λ a m. p.others t a l ne m) (λ a m. refl) ∙ differ_self (64 * w) (masks_at ws n w t)))

  pub sent-one : {i : ℕ} → Sent f ws vs n w from queue i (x ∷ []) r
  unfolding enqueue
  sent-one = record {
    waits = p.waits;
    masks = one-mask;
    settled = one-settled;
    source = sources_stay from x.continues sources p;
    keeps = p.keeps;
  }

-- by the places and numbers that were found
pub sent-edge : {f : Flow} {ws vs : List ℕ} {n w i row t : ℕ} {from : Bool → ℕ} {queue r : Queue} (x : Edge) → size f ≡ n → Sources n w from → row ≡ from x.continues → t ≡ number_in n x.to
    → Pushed ws vs n w queue row t r → Sent f ws vs n w from queue i (x ∷ []) r
sent-edge {f} {ws} {vs} {n} {w} {i} {row} {t} {from} {queue} {r} x z sources e d p =
    sent-one f x sources
    (subst (λ (y : ℕ). Pushed ws vs n w queue (from x.continues) y r) (d ∙ ap (λ (m : ℕ). number_in m x.to) (sym z)) (subst (λ (y : ℕ). Pushed ws vs n w queue y t r) e p))

pub sources_one : (n w from : ℕ) → Source n w from → Sources n w (λ b. from)
sources_one n w from (inl s) = inl (λ b. s)
sources_one n w from (inr s) = inr (s.0, s.1, λ b. s.2)

pub sources_call : (n w : ℕ) → Sources n w (edge_row n w)
sources_call n w = inl at
  where
    at : (b : Bool) → (out_row n w ≤ edge_row n w b) × (edge_row n w b + 3 * w ≤ mask_row_at n w 0)
    at true = (omega arith, row_first n w)
    at false = (omega arith, let first = row_first n w in omega arith)

-- the numbers of copies
pub copy-below : (n : ℕ) (b : Base) {j : ℕ} → j < n → number_in n (at b j) < 2 * n
copy-below n Zero l = omega arith
copy-below n N l = omega arith

-- a call goes on at a statement
pub back_below : {s ws : List ℕ} {n i : ℕ} {x : Call} → Ready s ws n → CallOf (flow_of s) ws i x → x.continuation.0 < n
back_below {i = i} {x = x} r c = ready-below r ((ready_formed r).continuation i x.continuation.0 c.continues)

pub joined-grows : (x c y : ℕ) → y ≡ bit_or x c → bit_or y x ≡ y
joined-grows x c y e = or_comm y x ∙ ap (bit_or x) e ∙ sym (or_assoc x x c) ∙ ap (λ (v : ℕ). bit_or v c) (or_self x) ∙ sym e

pub grows_then : (ws us vs : List ℕ) (n w : ℕ) → Grows ws us n w → Grows us vs n w → Grows ws vs n w
grows_then ws us vs n w first second t a l m =
    ap (λ (v : ℕ). bit_or v (masks_at ws n w t a)) (sym (second t a l m))
    ∙ or_assoc (masks_at vs n w t a) (masks_at us n w t a) (masks_at ws n w t a)
    ∙ ap (bit_or (masks_at vs n w t a)) (first t a l m)
    ∙ second t a l m

-- where masks only grow, a number that is settled through both changes is settled through them together
pub settled-then : (ws us vs : List ℕ) (n w : ℕ) → SettledSet n w ws us → SettledSet n w us vs → Grows ws us n w → Grows us vs n w → SettledSet n w ws vs
settled-then ws us vs n w s p first second t l =
    p t l
    ∙ ap (cond (differ (64 * w) (masks_at vs n w t) (masks_at us n w t)) 0) (s t l)
    ∙ cond-or (differ (64 * w) (masks_at us n w t) (masks_at ws n w t)) (differ (64 * w) (masks_at vs n w t) (masks_at us n w t)) 0 (settled_in ws n w t)
    ∙ sym (ap (λ (b : Bool). cond b 0 (settled_in ws n w t))
    (differ_chain (64 * w) (masks_at ws n w t) (masks_at us n w t) (masks_at vs n w t) (λ a m.
    or-between (masks_at ws n w t a) (masks_at us n w t a) (masks_at vs n w t a) (or_comm (masks_at ws n w t a) (masks_at us n w t a) ∙ first t a l m) (or_comm (masks_at us n w t a) (masks_at vs n w t a) ∙ second t a l m))))

-- some edges, and then others
module _ {f : Flow} {ws us vs : List ℕ} {n w i : ℕ} {from : Bool → ℕ} {first queue r : Queue} {xs ys : List Edge} (s : Sent f ws us n w from first i xs queue) (p : Sent f us vs n w from queue i ys r) where
  both_mask : (t a : ℕ) → t < 2 * n → a < 64 * w → masks_at vs n w t a ≡ bit_or (masks_at ws n w t a) (carried f ws w from (xs ++ ys) t a)
  both_mask t a l m =
      p.masks t a l m
      ∙ ap₂ bit_or (s.masks t a l m) (carried_same f ws w from t a us (λ b. s.source b a m) ys)
      ∙ or_assoc (masks_at ws n w t a) (carried f ws w from xs t a) (carried f ws w from ys t a)
      ∙ ap (bit_or (masks_at ws n w t a)) (sym (carried-append f ws w from t a xs ys))

  pub sent-append : Sent f ws vs n w from first i (xs ++ ys) r
  sent-append = record {
    waits = λ l h.
        subst (λ (k : List ℕ). Waits vs n w r k)
        (sym (ap (λ (k : List Arc). enqueue k l) (map-append (to_arc f i) xs ys) ∙ enqueue-append (map (to_arc f i) xs) (map (to_arc f i) ys) l))
        (p.waits (enqueue (map (to_arc f i) xs) l) (s.waits l h));
    masks = both_mask;
    settled = settled-then ws us vs n w s.settled p.settled (λ t a l m. joined-grows (masks_at ws n w t a) _ _ (s.masks t a l m)) (λ t a l m. joined-grows (masks_at us n w t a) _ _ (p.masks t a l m));
    source = λ b a l. p.source b a l ∙ s.source b a l;
    keeps = keeps-trans s.keeps p.keeps;
  }

-- Of the edges `all`, those that are left are still to be gone through
pub record Sending (f : Flow) (ws vs : List ℕ) (n w : ℕ) (from : Bool → ℕ) (first : Queue) (i : ℕ) (all : List Edge) (queue : Queue) (left : List Edge) : Type 0 where
  pub done : List Edge
  pub sent : Sent f ws vs n w from first i done queue
  pub rest : done ++ left ≡ all

module _ {f : Flow} {ws : List ℕ} {n w i : ℕ} {from : Bool → ℕ} {first : Queue} {all : List Edge} where
  pub sending_none : Sending f ws ws n w from first i all first all
  sending_none = record { done = []; sent = sent-none; rest = refl }

  module _ {vs : List ℕ} {queue : Queue} {left : List Edge} (s : Sending f ws vs n w from first i all queue left) where
    pub sending_on : {us : List ℕ} {r : Queue} {xs next : List Edge} → left ≡ xs ++ next → Sent f vs us n w from queue i xs r → Sending f ws us n w from first i all r next
    sending_on {xs = xs} {next = next} e p = record {
      done = s.done ++ xs;
      sent = sent-append s.sent p;
      rest = append_assoc s.done xs next ∙ sym (ap (λ (ys : List Edge). s.done ++ ys) e) ∙ s.rest;
    }

    pub sending_skip : {next : List Edge} → left ≡ next → Sending f ws vs n w from first i all queue next
    sending_skip e = subst (λ (xs : List Edge). Sending f ws vs n w from first i all queue xs) e s

    pub sending_all : left ≡ [] → Sent f ws vs n w from first i all queue
    sending_all e =
        subst (λ (xs : List Edge). Sent f ws vs n w from first i xs queue) (sym (append-nil s.done) ∙ sym (ap (λ (xs : List Edge). s.done ++ xs) e) ∙ s.rest) s.sent

-- what is asked for before the next edge is gone along, to the copy of a statement
module _ {f : Flow} {ws vs : List ℕ} {n w i : ℕ} {from : Bool → ℕ} {first queue : Queue} {all left : List Edge} (g : Sending f ws vs n w from first i all queue left) where
  pub places : {s : List ℕ} → Ready s ws n → w ≤ max_width → (b : Base) {j t : ℕ} → j < n → t ≡ number_in n (at b j) → (nodes_end n w ≤ length vs) × (t < 2 * n)
  places ready thin b low e =
      let room = nodes-room ready (omega arith) thin in
      (omega (arith, g.sent.keeps.size), omega (arith, copy-below n b low))

  pub waiting : ((l : List ℕ) × Waits ws n w first l) → (l : List ℕ) × Waits vs n w queue l
  waiting q = (_, g.sent.waits q.0 q.1)

-- A target that holds the row of its edge needs only to wait
pub held-joined : {ws vs : List ℕ} {n w from d : ℕ} {queue r : Queue} → d < 2 * n → ((a : ℕ) → a < 64 * w → bit_or (masks_at ws n w d a) (mask_at ws w from a) ≡ masks_at ws n w d a)
    → Enqueued ws vs n w queue d r → Pushed ws vs n w queue from d r
held-joined {ws} {vs} {n} {w} {from} {d} {queue} {r} below holds y =
    pushed below
    (record {
      masks = λ a l. sym (holds a l);
      settled = sym (ap (λ (b : Bool). cond b 0 (settled_in ws n w d)) (differ_self (64 * w) (masks_at ws n w d)));
      waits = refl;
      keeps = keeps-refl;
    })
    y
