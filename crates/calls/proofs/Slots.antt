-- The present slots of a doubled number are the edges of its statement, but that a call's edges come once a target: repeats have the same effects, so the queue rule
-- takes the same from both. By induction on the lists.
use Prim.Native.Nat.{ℕ}
use mathlib.Core.Bool.{Bool, true, false, cond, not, ◌||◌}
use mathlib.Core.List.Memᴰ
use mathlib.Core.List.{List, [], ◌∷◌, ◌++◌, map, map-append}
use mathlib.Core.Option.{Option, none, some}
use mathlib.Core.Path.{◌≡◌, refl, sym, ◌∙◌, ap, ap₂, subst}
use native.Mathlib.Omega.{arith}
use lib.Bits.{bit_or, or_comm, or_self}
use lib.Dec.{eqb}
use Rattle.words.proofs.Bit.{bit-or, bits_ext}
use Rattle.flow.specs.declared.Base.{Base}
use Rattle.flow.specs.declared.Base.TheVariants.{Zero, N}
use Rattle.flow.specs.Flow.{Flow, enters}
use Rattle.theory.specs.Lists.{In, elem, select, concat_map, option_list}
use Rattle.theory.specs.Body.{kind, successors, call_lines, continuation_of, entered, is_return, opaque_call}
use Rattle.theory.specs.Doubled.{Node, Edge, at, plain, number, node, same_node, return_edges, listed_edges, call_edges, edges_of, edges, once}
use Rattle.theory.specs.Queue.{Arc, brings, join, enqueue, step_all}
use Rattle.theory.proofs.Lists.{In-elem, In-map, select-In, concat_map-append}
use Rattle.theory.proofs.Edges.{same-node, in_once}
use Rattle.theory.proofs.Enqueue.{join-keeps, join_adds}
use Rattle.calls.specs.Clauses.Slots.{edge_to, if_entered, line_slots, other_slots, call_slots, return_slots, listed_slots, slots_of, slots, present, to_arc}

-- Present slots

pub present-append : (xs ys : List (Option Edge)) → present (xs ++ ys) ≡ present xs ++ present ys
unfolding present
present-append xs ys = concat_map-append option_list xs ys

present-all : {A : Type 0} (g : A → Edge) (l : List A) → present (map (λ x. some (g x)) l) ≡ map g l
unfolding present concat_map option_list
present-all g [] = refl
present-all g (x ∷ l) = ap (λ (es : List Edge). g x ∷ es) (present-all g l)

present-select : {A : Type 0} (p : A → Bool) (g : A → Edge) (l : List A) → present (map (λ x. cond (p x) (some (g x)) none) l) ≡ map g (select p l)
unfolding present concat_map option_list select
present-select p g [] = refl
present-select {A} p g (x ∷ l) = go (p x) (present-select p g l)
  where
    go : (b : Bool) → present (map (λ y. cond (p y) (some (g y)) none) l) ≡ map g (select p l)
        → option_list (cond b (some (g x)) none) ++ present (map (λ y. cond (p y) (some (g y)) none) l) ≡ map g (cond b (x ∷ select p l) (select p l))
    go true e = ap (λ (es : List Edge). g x ∷ es) e
    go false e = e

pub present-entered : (f : Flow) (back : Node) (ls : List ℕ)
    → present (map (λ l. if_entered back (enters f l)) ls) ≡ map (edge_to back) (map (at N) (concat_map (λ l. option_list (enters f l)) ls))
unfolding present concat_map option_list
present-entered f back [] = refl
present-entered f back (l ∷ ls) = go (enters f l) (present-entered f back ls)
  where
    rest : List ℕ
    rest = concat_map (λ k. option_list (enters f k)) ls

    go : (o : Option ℕ) → present (map (λ k. if_entered back (enters f k)) ls) ≡ map (edge_to back) (map (at N) rest)
        → option_list (if_entered back o) ++ present (map (λ k. if_entered back (enters f k)) ls) ≡ map (edge_to back) (map (at N) (option_list o ++ rest))
    go none e = e
    go (some b) e = ap (λ (es : List Edge). edge_to back (at N b) ∷ es) e

-- the targets of a call that is not opaque, repeats included
targets : Flow → Base → ℕ → ℕ → List Node
targets f b i k = map (at N) (entered f i) ++ (at b k ∷ map (at b) (select (λ j. not (elem j (entered f i) || eqb j k)) (successors f i)))

map-map : {A B C : Type 0} (g : B → C) (h : A → B) (l : List A) → map (λ x. g (h x)) l ≡ map g (map h l)
map-map g h [] = refl
map-map g h (x ∷ l) = ap (λ r. g (h x) ∷ r) (map-map g h l)

call-present : (f : Flow) (b : Base) (i k : ℕ) → present (call_slots f b i k) ≡ map (edge_to (at b k)) (targets f b i k)
unfolding call_slots line_slots other_slots targets entered present concat_map option_list
call-present f b i k =
    let back = at b k in
    let first = map (λ l. if_entered back (enters f l)) (call_lines (kind f i)) in
    let others = other_slots f b i k in
    let left : ℕ → Bool = λ j. not (elem j (entered f i) || eqb j k) in
    present-append first (some (edge_to back back) ∷ others)
    ∙ ap₂ (λ (xs ys : List Edge). xs ++ (edge_to back back ∷ ys)) (present-entered f back (call_lines (kind f i)))
    (present-select left (λ j. edge_to back (at b j)) (successors f i) ∙ map-map (edge_to back) (at b) (select left (successors f i)))
    ∙ sym (map-append (edge_to back) (map (at N) (entered f i)) (back ∷ map (at b) (select left (successors f i))))

-- edges with the same target are the same
Alike : List Edge → Type 0
Alike es = (x y : Edge) → In x es → In y es → same_node x.to y.to ≡ true → x ≡ y

call-alike : (f : Flow) (b : Base) (i k : ℕ) → Alike (present (call_slots f b i k))
unfolding Alike
call-alike f b i k x y m n e =
    let back = at b k in
    let l = targets f b i k in
    let p = In-map (edge_to back) l (subst (λ (es : List Edge). In x es) (call-present f b i k) m) in
    let q = In-map (edge_to back) l (subst (λ (es : List Edge). In y es) (call-present f b i k) n) in
    let v : x.to ≡ p.0 = ap (λ (z : Edge). z.to) p.2 in
    let w : y.to ≡ q.0 = ap (λ (z : Edge). z.to) q.2 in
    p.2 ∙ ap (edge_to back) (sym v ∙ same-node x.to y.to e ∙ w) ∙ sym q.2

-- es are the edges xs, or each target of them once
data Same (es xs : List Edge) : Type 0 where
  all : es ≡ xs → Same es xs
  once_each : es ≡ once xs → Alike xs → Same es xs

listed : (f : Flow) (b : Base) (i : ℕ) → listed_edges f b i ≡ present (listed_slots f b i)
unfolding listed_edges listed_slots
listed f b i = sym (present-all (λ j. plain (at b j)) (successors f i))

returned : (f : Flow) (b : Base) (r : ℕ) → return_edges f b r ≡ present (return_slots f b r)
unfolding return_edges return_slots present concat_map
returned f Zero r = sym (present-select _ _ _)
returned f N r = refl

called : (f : Flow) (b : Base) (i k : ℕ) → call_edges f b i k ≡ once (present (call_slots f b i k))
unfolding call_edges targets
called f b i k = ap once (sym (call-present f b i k))

edges_of_lem : (f : Flow) (b : Base) (i : ℕ) (o : Option ℕ) → Same (edges_of f b i o) (present (slots_of f b i o))
unfolding edges_of slots_of
edges_of_lem f b i none = go (is_return (kind f i))
  where
    go : (r : Bool) → Same (cond r (return_edges f b i) (listed_edges f b i)) (present (cond r (return_slots f b i) (listed_slots f b i)))
    go true = all (returned f b i)
    go false = all (listed f b i)
edges_of_lem f b i (some k) = go (opaque_call f i)
  where
    go : (r : Bool) → Same (cond r (listed_edges f b i) (call_edges f b i k)) (present (cond r (listed_slots f b i) (call_slots f b i k)))
    go true = all (listed f b i)
    go false = once_each (called f b i k) (call-alike f b i k)

same_edges : (f : Flow) (v : Node) → Same (edges f v) (present (slots f v))
unfolding edges slots
same_edges f v = edges_of_lem f v.base v.stmt (continuation_of (kind f v.stmt))

in_each : {x : Edge} (xs : List Edge) → Alike xs → In x xs → In x (once xs)
unfolding once Alike
in_each {x = x} [] a m = elim m [ ]
in_each {x} (y ∷ ys) a (Memᴰ.head e) = Memᴰ.head e
in_each {x} (y ∷ ys) a (Memᴰ.tail m) = go (same_node x.to y.to) refl (in_each ys (λ u v p q. a u v (Memᴰ.tail p) (Memᴰ.tail q)) m)
  where
    apart : Edge → Bool
    apart z = not (same_node z.to y.to)

    go : (b : Bool) → same_node x.to y.to ≡ b → In x (once ys) → In x (y ∷ select apart (once ys))
    go true e n = Memᴰ.head (a x y (Memᴰ.tail m) (Memᴰ.head refl) e)
    go false e n = Memᴰ.tail (select-In apart n (ap not e))

-- a present slot is an edge
pub slot-edge : (f : Flow) (v : Node) {x : Edge} → In x (present (slots f v)) → In x (edges f v)
slot-edge f v {x} m = go (same_edges f v)
  where
    go : Same (edges f v) (present (slots f v)) → In x (edges f v)
    go (all e) = subst (λ (es : List Edge). In x es) (sym e) m
    go (once_each e a) = subst (λ (es : List Edge). In x es) (sym e) (in_each (present (slots f v)) a m)

-- The queue: a number that waits does not join again

join-waiting : {w : List ℕ} {t : ℕ} → In t w → join w t ≡ w
join-waiting {w} {t} m = rw (In-elem m) refl

module _ (f : Flow) (i : ℕ) where
  -- without the edges to v, which waits, the same numbers join
  enqueue-rest : (v : Node) (es : List Edge) (w : List ℕ) → In (number f v) w
      → enqueue (map (to_arc f i) (select (λ x. not (same_node x.to v)) es)) w ≡ enqueue (map (to_arc f i) es) w
  unfolding enqueue select
  enqueue-rest v [] w m = refl
  enqueue-rest v (x ∷ es) w m = go (same_node x.to v) refl (λ u n. enqueue-rest v es u n)
    where
      rest : List Edge
      rest = select (λ y. not (same_node y.to v)) es

      go : (b : Bool) → same_node x.to v ≡ b → ((u : List ℕ) → In (number f v) u → enqueue (map (to_arc f i) rest) u ≡ enqueue (map (to_arc f i) es) u)
          → enqueue (map (to_arc f i) (cond (not b) (x ∷ rest) rest)) w ≡ enqueue (map (to_arc f i) (x ∷ es)) w
      go true e ih =
          let waits : In (number f x.to) w = subst (λ (u : Node). In (number f u) w) (sym (same-node x.to v e)) m in
          ih w m ∙ ap (enqueue (map (to_arc f i) es)) (sym (join-waiting waits))
      go false e ih = ih (join w (number f x.to)) (join-keeps w (number f x.to) m)

  enqueue-once : (es : List Edge) (w : List ℕ) → enqueue (map (to_arc f i) (once es)) w ≡ enqueue (map (to_arc f i) es) w
  unfolding enqueue once
  enqueue-once [] w = refl
  enqueue-once (x ∷ es) w =
      let v : List ℕ = join w (number f x.to) in
      enqueue-rest x.to (once es) v (join_adds w (number f x.to)) ∙ enqueue-once es v

pub enqueue-slots : (f : Flow) (d : ℕ) (w : List ℕ)
    → enqueue (map (to_arc f (node f d).stmt) (present (slots f (node f d)))) w ≡ enqueue (map (to_arc f (node f d).stmt) (edges f (node f d))) w
enqueue-slots f d w = go (same_edges f (node f d))
  where
    arcs : List Edge → List Arc
    arcs es = map (to_arc f (node f d).stmt) es

    go : Same (edges f (node f d)) (present (slots f (node f d))) → enqueue (arcs (present (slots f (node f d)))) w ≡ enqueue (arcs (edges f (node f d))) w
    go (all e) = ap (λ (es : List Edge). enqueue (arcs es) w) (sym e)
    go (once_each e a) = sym (enqueue-once f (node f d).stmt (present (slots f (node f d))) w) ∙ ap (λ (es : List Edge). enqueue (arcs es) w) (sym e)

-- The masks: what an edge brings twice it brings once

pub or_assoc : (a b c : ℕ) → bit_or (bit_or a b) c ≡ bit_or a (bit_or b c)
or_assoc a b c =
    bits_ext (bit_or (bit_or a b) c) (bit_or a (bit_or b c))
    (λ k. omega (arith, bit-or (bit_or a b) c k, bit-or a b k, bit-or a (bit_or b c) k, bit-or b c k))

-- a b = a c gives a (d b) = a (d c)
or-under : (a b c d : ℕ) → bit_or a b ≡ bit_or a c → bit_or a (bit_or d b) ≡ bit_or a (bit_or d c)
or-under a b c d e = swap b ∙ ap (bit_or d) e ∙ sym (swap c)
  where
    swap : (x : ℕ) → bit_or a (bit_or d x) ≡ bit_or d (bit_or a x)
    swap x = sym (or_assoc a d x) ∙ ap (λ (y : ℕ). bit_or y x) (or_comm a d) ∙ or_assoc d a x

module _ (f : Flow) (i t a m : ℕ) where
  brought : Edge → ℕ
  brought x = cond (eqb (number f x.to) t) (step_all ((to_arc f i x).effects a) m) 0

  all-brought : List Edge → ℕ
  all-brought es = brings t a m (map (to_arc f i) es)

  -- beside the edge x, the others to its target bring nothing more
  brings-rest : (x : Edge) (es : List Edge) → ((y : Edge) → In y es → same_node y.to x.to ≡ true → y ≡ x)
      → bit_or (brought x) (all-brought (select (λ y. not (same_node y.to x.to)) es)) ≡ bit_or (brought x) (all-brought es)
  unfolding brings select brought all-brought
  brings-rest x [] h = refl
  brings-rest x (y ∷ es) h = go (same_node y.to x.to) refl (brings-rest x es (λ z n. h z (Memᴰ.tail n)))
    where
      rest : List Edge
      rest = select (λ z. not (same_node z.to x.to)) es

      go : (b : Bool) → same_node y.to x.to ≡ b → bit_or (brought x) (all-brought rest) ≡ bit_or (brought x) (all-brought es)
          → bit_or (brought x) (all-brought (cond (not b) (y ∷ rest) rest)) ≡ bit_or (brought x) (bit_or (brought y) (all-brought es))
      go true e ih =
          let same : y ≡ x = h y (Memᴰ.head refl) e in
          ih ∙ ap (λ (z : ℕ). bit_or z (all-brought es)) (sym (or_self (brought x))) ∙ or_assoc (brought x) (brought x) (all-brought es)
          ∙ ap (λ (z : Edge). bit_or (brought x) (bit_or (brought z) (all-brought es))) (sym same)
      go false e ih = or-under (brought x) (all-brought rest) (all-brought es) (brought y) ih

  brings-once : (es : List Edge) → Alike es → brings t a m (map (to_arc f i) (once es)) ≡ brings t a m (map (to_arc f i) es)
  unfolding brings once Alike brought all-brought
  brings-once [] h = refl
  brings-once (x ∷ es) h =
      brings-rest x (once es) (λ y n. h y x (Memᴰ.tail (in_once es n)) (Memᴰ.head refl))
      ∙ ap (bit_or (brought x)) (brings-once es (λ u v p q. h u v (Memᴰ.tail p) (Memᴰ.tail q)))

pub brings-slots : (f : Flow) (t a m d : ℕ)
    → brings t a m (map (to_arc f (node f d).stmt) (present (slots f (node f d)))) ≡ brings t a m (map (to_arc f (node f d).stmt) (edges f (node f d)))
brings-slots f t a m d = go (same_edges f (node f d))
  where
    arcs : List Edge → List Arc
    arcs es = map (to_arc f (node f d).stmt) es

    go : Same (edges f (node f d)) (present (slots f (node f d))) → brings t a m (arcs (present (slots f (node f d)))) ≡ brings t a m (arcs (edges f (node f d)))
    go (all e) = ap (λ (es : List Edge). brings t a m (arcs es)) (sym e)
    go (once_each e h) = sym (brings-once f (node f d).stmt t a m (present (slots f (node f d))) h) ∙ ap (λ (es : List Edge). brings t a m (arcs es)) (sym e)
