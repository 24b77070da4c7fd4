-- What is sent along the edges of a call's order is sent along the edges of all its lines: an edge that was gone through changes nothing when it comes again.
-- By induction on the statements that the lines enter.
use Prim.Native.Nat.{ℕ, suc, ◌+◌, ◌*◌, ◌/◌, ◌%◌, ◌^◌, ◌<◌, ◌≤◌}
use mathlib.Core.Bool.{Bool, true, false, cond}
use mathlib.Core.List.Memᴰ
use mathlib.Core.List.{List, [], ◌∷◌, ◌++◌, map, map-map, foldl, foldl-append}
use mathlib.Core.Logic.{◌≢◌, ◌⊎◌, inl, inr, ⊎_elim}
use mathlib.Core.Path.{◌≡◌, refl, sym, ap, subst, ◌∙◌}
use native.Mathlib.Numerals.{add-one}
use native.Mathlib.Omega.{arith}
use lib.Bits.{bit_or, or_comm, or_self, or_zero_r}
use lib.Dec.{eqb}
use lib.ListN.{length, get_or, drop, length-map, get_or-map, drop_of_length-le}
use lib.Seq.{drop-cons}
use Rattle.flow.specs.declared.Base.{Base}
use Rattle.flow.specs.declared.Base.TheVariants.{N}
use Rattle.flow.specs.Flow.{Flow, size}
use Rattle.flow.specs.Limits.{max_statements}
use Rattle.theory.specs.Lists.{In, elem}
use Rattle.theory.specs.Body.{kind, call_lines, entered}
use Rattle.theory.specs.Doubled.{Edge, at, number}
use Rattle.theory.specs.Queue.{join, enqueue}
use Rattle.theory.specs.Clauses.WellFormed.{WellFormed}
use Rattle.theory.proofs.Lists.{member-cases, get_or-In, In-elem, elem-In}
use Rattle.theory.proofs.Body.{entered_below}
use Rattle.theory.proofs.Enqueue.{join-keeps, join_adds, join-cases}
use Rattle.statements.proofs.WorkArea.{queue-below}
use Rattle.calls.specs.Clauses.Orders.{firsts, order, fits, lists_end, order_word, ListOf, OrderOf}
use Rattle.calls.specs.Clauses.Slots.{edge_to, line_slots, present, to_arc}
use Rattle.calls.proofs.Slots.{present-entered, or_assoc}
use Rattle.calls.proofs.Ordering.{list-to, lists_from, lists_to}
use Rattle.solve.specs.declared.Queue.{Queue}
use Rattle.solve.specs.Clauses.Rows.{mask_at}
use Rattle.solve.specs.Clauses.Waiting.{Waits}
use Rattle.solve.specs.Clauses.Pushed.{masks_at}
use Rattle.dataflow.specs.Clauses.Sent.{carried, Sent}

-- A list gone through step by step. What a step takes stays taken, and changes nothing when it comes again
module _ {S : Type 0} (step : S → ℕ → S) (Taken : ℕ → S → Type 0) (takes : (s : S) (x : ℕ) → Taken x (step s x)) (stays : (s : S) (x y : ℕ) → Taken x s → Taken x (step s y)) (again : (s : S) (x : ℕ) → Taken x s → step s x ≡ s) where
  stays_all : (s : S) (x : ℕ) (l : List ℕ) → Taken x s → Taken x (foldl step s l)
  stays_all s x [] t = t
  stays_all s x (y ∷ l) t = stays_all (step s y) x l (stays s x y t)

  taken : (s : S) {x : ℕ} (l : List ℕ) → In x l → Taken x (foldl step s l)
  taken s {x = x} [] m = elim m [ ]
  taken s {x} (y ∷ l) m = member-cases m (λ e. stays_all (step s y) x l (subst (λ (z : ℕ). Taken x (step s z)) e (takes s x))) (taken (step s y) l)

  joined : (s : S) (l : List ℕ) (x : ℕ) → foldl step s (join l x) ≡ step (foldl step s l) x
  joined s l x = go (elem x l) refl
    where
      go : (b : Bool) → elem x l ≡ b → foldl step s (cond b l (l ++ (x ∷ []))) ≡ step (foldl step s l) x
      go true e = sym (again (foldl step s l) x (taken s l (elem-In x l e)))
      go false e = foldl-append step s l (x ∷ [])

  -- so it is enough to go through each element once
  each-once : (s : S) (xs ys : List ℕ) → foldl step s (firsts xs ys) ≡ foldl step (foldl step s xs) ys
  unfolding firsts
  each-once s xs [] = refl
  each-once s xs (y ∷ ys) = each-once s (join xs y) ys ∙ ap (λ (z : S). foldl step z ys) (joined s xs y)

-- edges, one for each statement
module _ (f : Flow) (edge : ℕ → Edge) where
  -- their targets join the back
  waiting : List ℕ → ℕ → List ℕ
  waiting l x = join l (number f (edge x).to)

  enqueue-steps : (i : ℕ) (xs l : List ℕ) → enqueue (map (to_arc f i) (map edge xs)) l ≡ foldl waiting l xs
  unfolding enqueue waiting
  enqueue-steps i [] l = refl
  enqueue-steps i (x ∷ xs) l = enqueue-steps i xs (join l (number f (edge x).to))

  enqueue-order : (i : ℕ) (xs l : List ℕ) → enqueue (map (to_arc f i) (map edge (firsts [] xs))) l ≡ enqueue (map (to_arc f i) (map edge xs)) l
  unfolding waiting
  enqueue-order i xs l =
      enqueue-steps i (firsts [] xs) l
      ∙ each-once waiting (λ x w. In (number f (edge x).to) w) (λ w x. join_adds w (number f (edge x).to)) (λ w x y. join-keeps w (number f (edge y).to)) (λ w x m. rw (In-elem m) refl) l [] xs
      ∙ sym (enqueue-steps i xs l)

  -- what they bring to t is united with its mask of array a
  module _ (ws : List ℕ) (w : ℕ) (from : Bool → ℕ) (t a : ℕ) where
    brought : ℕ → ℕ
    brought x = cond (eqb (number f (edge x).to) t) (mask_at ws w (from (edge x).continues) a) 0

    united : ℕ → ℕ → ℕ
    united m x = bit_or m (brought x)

    carried-steps : (xs : List ℕ) (m : ℕ) → bit_or m (carried f ws w from (map edge xs) t a) ≡ foldl united m xs
    unfolding carried united brought
    carried-steps [] m = or_zero_r m
    carried-steps (x ∷ xs) m = sym (or_assoc m (brought x) (carried f ws w from (map edge xs) t a)) ∙ carried-steps xs (bit_or m (brought x))

    carried-order : (xs : List ℕ) (m : ℕ) → bit_or m (carried f ws w from (map edge (firsts [] xs)) t a) ≡ bit_or m (carried f ws w from (map edge xs) t a)
    unfolding united
    carried-order xs m =
        carried-steps (firsts [] xs) m
        ∙ each-once united (λ x y. bit_or y (brought x) ≡ y) (λ y x. or_assoc y (brought x) (brought x) ∙ ap (bit_or y) (or_self (brought x)))
        (λ y x z e. or_assoc y (brought z) (brought x) ∙ ap (bit_or y) (or_comm (brought z) (brought x)) ∙ sym (or_assoc y (brought x) (brought z)) ∙ ap (λ (v : ℕ). bit_or v (brought z)) e)
        (λ y x e. e) m [] xs
        ∙ sym (carried-steps xs m)

  sent-order : {ws vs : List ℕ} {n w i : ℕ} {from : Bool → ℕ} {queue r : Queue} (xs : List ℕ) → Sent f ws vs n w from queue i (map edge (firsts [] xs)) r → Sent f ws vs n w from queue i (map edge xs) r
  sent-order {ws} {vs} {n} {w} {i} {from} {queue} {r} xs s = record {
    waits = λ l h. subst (λ (q : List ℕ). Waits vs n w r q) (enqueue-order i xs l) (s.waits l h);
    masks = λ t a l m. s.masks t a l m ∙ carried-order ws w from t a xs (masks_at ws n w t a);
    settled = s.settled;
    source = s.source;
    keeps = s.keeps;
  }

-- The edges of the order of a call that goes on at k

abbrev pub order_edge : Base → ℕ → ℕ → Edge
order_edge b k x = edge_to (at b k) (at N x)

abbrev pub order_edges : Flow → Base → ℕ → ℕ → List Edge
order_edges f b i k = map (order_edge b k) (order f i)

pub lines-sent : {f : Flow} {ws vs : List ℕ} {n w i : ℕ} {from : Bool → ℕ} {queue r : Queue} (b : Base) (k : ℕ) → Sent f ws vs n w from queue i (order_edges f b i k) r → Sent f ws vs n w from queue i (present (line_slots f b i k)) r
unfolding line_slots entered
lines-sent {f} {ws} {vs} {n} {w} {i} {from} {queue} {r} b k s =
    subst (λ (xs : List Edge). Sent f ws vs n w from queue i xs r) (sym (present-entered f (at b k) (call_lines (kind f i)) ∙ map-map (edge_to (at b k)) (at N) (entered f i)))
    (sent-order f (order_edge b k) (entered f i) s)

-- its entries are statements that its lines enter
firsts-In : (xs ys : List ℕ) {x : ℕ} → In x (firsts xs ys) → In x xs ⊎ In x ys
unfolding firsts
firsts-In xs [] m = inl m
firsts-In xs (y ∷ ys) m = ⊎_elim (λ n. ⊎_elim (λ p. inl p) (λ e. inr (Memᴰ.head e)) (join-cases xs y n)) (λ n. inr (Memᴰ.tail n)) (firsts-In (join xs y) ys m)

pub order_below : {f : Flow} → WellFormed f → (i k : ℕ) → k < length (order f i) → get_or (order f i) k 0 < size f
order_below {f} wf i k l = ⊎_elim (λ m. absurd (Memᴰ.not-nil m)) (entered_below wf i (get_or (order f i) k 0)) (firsts-In [] (entered f i) (get_or-In (order f i) k 0 l))

-- those from one on
module _ (f : Flow) (b : Base) (i k c : ℕ) where
  pub order-here : c < length (order f i) → drop c (order_edges f b i k) ≡ order_edge b k (get_or (order f i) c 0) ∷ drop (c + 1) (order_edges f b i k)
  order-here l =
      let es = order_edges f b i k in
      let fits : c < length es = omega (arith, length-map (order f i) (order_edge b k)) in
      drop-cons es c (order_edge b k 0) fits
      ∙ ap (λ (x : Edge). x ∷ drop (suc c) es) (get_or-map (order_edge b k) (order f i) c 0)
      ∙ ap (λ (j : ℕ). order_edge b k (get_or (order f i) c 0) ∷ drop j es) (sym (add-one c))

  pub order-end : length (order f i) ≤ c → drop c (order_edges f b i k) ≡ []
  order-end l = let all : length (order_edges f b i k) ≤ c = omega (arith, length-map (order f i) (order_edge b k)) in drop_of_length-le (order_edges f b i k) all

-- Where the word of a call is not 0, the order is the list that it names
pub order-list : {f : Flow} {ws : List ℕ} {n i p m : ℕ} → n ≤ max_statements → p ≡ order_word ws n i % 2 ^ 32 → m ≡ order_word ws n i / 2 ^ 32 → order_word ws n i ≢ 0 → OrderOf f ws n i → ListOf f ws n i p m
order-list {f} {ws} {n} {i} {p} {m} few at count some o = go (fits f n (lists_end f n i) i) refl
  where
    go : (t : Bool) → fits f n (lists_end f n i) i ≡ t → ListOf f ws n i p m
    go true e =
        let word : order_word ws n i ≡ lists_end f n i + 2 ^ 32 * length (order f i) = o.word ∙ ap (λ (t : Bool). cond t (lists_end f n i + 2 ^ 32 * length (order f i)) 0) e in
        let small : lists_end f n i < 2 ^ 32 = omega (arith, lists_to f n i, queue-below few) in
        let here : lists_end f n i ≡ p = omega (arith, at, word) in
        let entries : length (order f i) ≡ m = omega (arith, count, word) in
        subst (λ (x : ℕ). ListOf f ws n i x m) here (record {
          from = lists_from f n i;
          to = omega (arith, list-to f n (lists_end f n i) i e, entries);
          count = sym entries;
          entries = o.entries e;
        })
    go false e = absurd (some (o.word ∙ ap (λ (t : Bool). cond t (lists_end f n i + 2 ^ 32 * length (order f i)) 0) e))
