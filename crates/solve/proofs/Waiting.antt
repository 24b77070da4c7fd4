-- The laws of the queue: which numbers wait when one joins the back or the front is taken, with what is stored; and what writes elsewhere keep of it.
-- The ring has room for one more, since the numbers that wait are below 2 n and none stands there twice. Assumes nothing.
use Prim.Native.Nat.{ℕ, suc, ◌+◌, ◌*◌, ◌-◌, ◌/◌, ◌%◌, ◌≤◌, ◌<◌}
use mathlib.Core.Bool.{Bool, true, false, cond}
use mathlib.Core.List.Memᴰ
use mathlib.Core.List.{List, [], ◌∷◌, ◌++◌}
use mathlib.Core.Logic.{⊎_elim, ◌≢◌}
use mathlib.Core.Path.{◌≡◌, refl, sym, ◌∙◌, ap, subst}
use native.Mathlib.Decide.{dec_lt, ℕ_discrete}
use native.Mathlib.Nat.{add-zero}
use native.Mathlib.Omega.{arith}
use borrow.Author.Tests.{ne_eqb}
use lib.ListN.{length, get_or, set, length-set, length-append, get_or-append}
use lib.Seq.{get_or-set_same, get_or-set_other, get_or-append-add, set-set, set_comm}
use Rattle.theory.specs.Lists.{In, elem, Distinct}
use Rattle.theory.specs.Queue.{join}
use Rattle.theory.proofs.Lists.{not_so, elem-In, elem-last, elem-before}
use Rattle.theory.proofs.Enqueue.{join-distinct, join-cases, distinct-length}
use Rattle.statements.specs.Clauses.Layout.{queue_at, solver_at}
use Rattle.statements.specs.Clauses.Ready.{Keeps}
use Rattle.solve.specs.declared.Queue.{Queue}
use Rattle.solve.specs.Clauses.Layout.{state_at, waits_in, settled_in, nodes_end}
use Rattle.solve.specs.Clauses.Waiting.{wrapped, ring_words, Waits, KeepsRest, Enqueued, joins, unsettled, rest_of, Taken}
use Rattle.solve.proofs.Room.{rows_apart, row_from, row_fits}
use Rattle.solve.proofs.Wrapped.{wrapped_in, wrapped-lt, wrapped-next, wrapped-apart}

-- What is kept

pub rest-trans : {n w : ℕ} {ws vs us : List ℕ} → KeepsRest n w ws vs → KeepsRest n w vs us → KeepsRest n w ws us
rest-trans a b = record {
  size = b.size ∙ a.size;
  below = λ x l. b.below x l ∙ a.below x l;
  above = λ x l m. b.above x l m ∙ a.above x l m;
  settled = λ d l. b.settled d l ∙ a.settled d l;
}

pub rest-refl : {n w : ℕ} {ws : List ℕ} → KeepsRest n w ws ws
rest-refl = record { size = refl; below = λ x l. refl; above = λ x l m. refl; settled = λ d l. refl }

pub rest-keeps : {n w : ℕ} {ws vs : List ℕ} → KeepsRest n w ws vs → Keeps (queue_at n) (nodes_end n w) ws vs
rest-keeps {n} {w} k = record {
  size = k.size;
  below = k.below;
  above = λ x l. k.above x (let low = row_from n w (2 * n) in omega arith) (λ d m q. let fits = row_fits n w m in omega arith);
}

-- the states are apart
pub states-apart : (n w : ℕ) {e d : ℕ} → e ≢ d → state_at n w e ≢ state_at n w d
states-apart n w {e} {d} ne q = go (dec_lt e d)
  where
    go : Dec (e < d) → ⊥
    go (yes l) = omega (arith, rows_apart n w l)
    go (no l) = let less : d < e = omega (arith, l, ne) in omega (arith, rows_apart n w less)

-- a change of a place of the ring, and of a state's last bit

slot_stored : (ws : List ℕ) (n w : ℕ) {j : ℕ} (v : ℕ) → j < ring_words n → KeepsRest n w ws (set ws (queue_at n + j) v)
slot_stored ws n w {j} v l = record {
  size = length-set ws (queue_at n + j) v;
  below = λ x m. get_or-set_other ws (queue_at n + j) x v 0 (λ e. omega arith);
  above = λ x m o. get_or-set_other ws (queue_at n + j) x v 0 (λ e. omega arith);
  settled = λ d m. ap (λ z. z / 2) (get_or-set_other ws (queue_at n + j) (state_at n w d) v 0 (λ e. omega arith));
}

state_stored : (ws : List ℕ) (n w : ℕ) {d : ℕ} (v : ℕ) → d < 2 * n → nodes_end n w ≤ length ws → v / 2 ≡ settled_in ws n w d → KeepsRest n w ws (set ws (state_at n w d) v)
state_stored ws n w {d} v l fits half = record {
  size = length-set ws (state_at n w d) v;
  below = λ x m. get_or-set_other ws (state_at n w d) x v 0 (λ e. omega arith);
  above = λ x m o. get_or-set_other ws (state_at n w d) x v 0 (o d l);
  settled = λ e m. at e (ℕ_discrete e d);
}
  where
    at : (e : ℕ) → Dec (e ≡ d) → settled_in (set ws (state_at n w d) v) n w e ≡ settled_in ws n w e
    at e (yes q) =
        ap (settled_in (set ws (state_at n w d) v) n w) q
        ∙ ap (λ z. z / 2) (get_or-set_same ws (state_at n w d) v 0 (let inside = row_fits n w l in omega arith))
        ∙ half
        ∙ sym (ap (settled_in ws n w) q)
    at e (no q) = ap (λ z. z / 2) (get_or-set_other ws (state_at n w d) (state_at n w e) v 0 (states-apart n w q))

-- a queue stays where its own words stay
pub waits_kept : {n w : ℕ} {ws vs : List ℕ} {queue : Queue} {l : List ℕ} → Waits ws n w queue l
    → ((x : ℕ) → queue_at n ≤ x → x < solver_at n → get_or vs x 0 ≡ get_or ws x 0)
    → ((d : ℕ) → d < 2 * n → waits_in vs n w d ≡ waits_in ws n w d) → Waits vs n w queue l
waits_kept {n} {w} {ws} {vs} {queue} {l} h slots flags = record {
  count = h.count;
  front = h.front;
  slot = λ k m.
      let few : length l ≤ 2 * n = distinct-length (2 * n) l h.distinct h.below in
      let place : wrapped (ring_words n) (queue.head + k) < ring_words n = wrapped-lt (ring_words n) (queue.head + k) (omega (arith, h.front)) in
      slots (queue_at n + wrapped (ring_words n) (queue.head + k)) (omega arith) (omega arith) ∙ h.slot k m;
  flag = λ d m. flags d m ∙ h.flag d m;
  below = h.below;
  distinct = h.distinct;
}

-- nothing waits
pub waits-none : {n w : ℕ} {ws : List ℕ} → 0 < n → ((d : ℕ) → d < 2 * n → waits_in ws n w d ≡ 0)
    → Waits ws n w (record { head = 0; len = 0 }) []
unfolding elem
waits-none p h = record {
  count = refl;
  front = omega arith;
  slot = λ k l. absurd (omega arith);
  flag = h;
  below = λ d m. absurd (Memᴰ.not-nil m);
  distinct = Distinct.empty;
}

-- Joining the back

module _ {n w d : ℕ} {ws : List ℕ} {queue : Queue} {l : List ℕ} (h : Waits ws n w queue l) (b : d < 2 * n) where
  join-below : (e : ℕ) → In e (join l d) → e < 2 * n
  join-below e m = ⊎_elim (h.below e) (λ q. rw q b) (join-cases l d m)

  -- the place behind the last is free
  pub few : queue.len ≤ 2 * n
  few = omega (arith, distinct-length (2 * n) l h.distinct h.below, h.count)

  pub slot_in : wrapped (ring_words n) (queue.head + queue.len) < ring_words n
  slot_in = wrapped-lt (ring_words n) (queue.head + queue.len) (omega (arith, h.front, few))

  -- the number's state becomes v
  module _ (fits : nodes_end n w ≤ length ws) (v : ℕ) (odd : v % 2 ≡ 1) where
    after : List ℕ
    after = set (set ws (queue_at n + wrapped (ring_words n) (queue.head + queue.len)) d) (state_at n w d) v

    -- a place of the ring other than the one behind the last
    old-slot : (k : ℕ) → k < queue.len → get_or after (queue_at n + wrapped (ring_words n) (queue.head + k)) 0 ≡ get_or ws (queue_at n + wrapped (ring_words n) (queue.head + k)) 0
    unfolding after
    old-slot k m =
        let full = few in
        let place : wrapped (ring_words n) (queue.head + k) < ring_words n = wrapped-lt (ring_words n) (queue.head + k) (omega (arith, h.front)) in
        get_or-set_other (set ws _ d) _ _ v 0 (λ q. omega arith)
        ∙ get_or-set_other ws _ _ d 0 (λ q. wrapped-apart (ring_words n) queue.head k queue.len h.front m (omega arith) (omega arith))

    -- what waits
    after-flag : (e : ℕ) → e < 2 * n → waits_in after n w e ≡ cond (elem e (join l d)) 1 0
    unfolding after
    after-flag e m = at (ℕ_discrete e d) (elem d l) refl
      where
        stored : e ≢ d → get_or (set (set ws (queue_at n + wrapped (ring_words n) (queue.head + queue.len)) d) (state_at n w d) v) (state_at n w e) 0 ≡ get_or ws (state_at n w e) 0
        stored ne = let slot = slot_in in get_or-set_other (set ws _ d) _ _ v 0 (states-apart n w ne) ∙ get_or-set_other ws _ _ d 0 (λ q. omega arith)

        at : Dec (e ≡ d) → (c : Bool) → elem d l ≡ c → waits_in (set (set ws (queue_at n + wrapped (ring_words n) (queue.head + queue.len)) d) (state_at n w d) v) n w e ≡ cond (elem e (join l d)) 1 0
        at (yes q) c p =
            ap (waits_in (set (set ws (queue_at n + wrapped (ring_words n) (queue.head + queue.len)) d) (state_at n w d) v) n w) q
            ∙ ap (λ z. z % 2) (get_or-set_same (set ws (queue_at n + wrapped (ring_words n) (queue.head + queue.len)) d) (state_at n w d) v 0 (rw (length-set ws (queue_at n + wrapped (ring_words n) (queue.head + queue.len)) d) (let inside = row_fits n w b in omega arith)))
            ∙ odd
            ∙ sym (ap (λ z. cond (elem z (join l d)) 1 0) q ∙ in_join c p)
          where
            in_join : (c : Bool) → elem d l ≡ c → ◌≡◌ {A = ℕ} (cond (elem d (join l d)) 1 0) 1
            in_join true p = rw (p, p)
            in_join false p = rw (p, elem-last l d)
        at (no ne) true p = ap (λ z. z % 2) (stored ne) ∙ h.flag e m ∙ sym (ap (λ (z : List ℕ). cond (elem e z) 1 0) (joined-old p))
          where
            joined-old : elem d l ≡ true → join l d ≡ l
            joined-old p = rw p
        at (no ne) false p = ap (λ z. z % 2) (stored ne) ∙ h.flag e m ∙ sym (ap (λ (z : List ℕ). cond (elem e z) 1 0) (joined-new p) ∙ ap (λ c. cond c 1 0) (elem-before l ne))
          where
            joined-new : elem d l ≡ false → join l d ≡ l ++ (d ∷ [])
            joined-new p = rw p

    back-slot : (k : ℕ) → k < length (join l d) → (c : Bool) → elem d l ≡ c → get_or after (queue_at n + wrapped (ring_words n) (queue.head + k)) 0 ≡ get_or (join l d) k 0
    unfolding after
    back-slot k m true p = old-slot k (omega (arith, h.count, same)) ∙ h.slot k (omega (arith, same)) ∙ sym (ap (λ (z : List ℕ). get_or z k 0) joined-old)
      where
        joined-old : join l d ≡ l
        joined-old = rw p

        same : length (join l d) ≡ length l
        same = ap length joined-old
    back-slot k m false p = at (dec_lt k (length l))
      where
        joined-new : join l d ≡ l ++ (d ∷ [])
        joined-new = rw p

        size : length (join l d) ≡ length l + 1
        size = ap length joined-new ∙ length-append l (d ∷ [])

        at : Dec (k < length l) → get_or after (queue_at n + wrapped (ring_words n) (queue.head + k)) 0 ≡ get_or (join l d) k 0
        at (yes y) = old-slot k (omega (arith, h.count)) ∙ h.slot k y ∙ sym (ap (λ (z : List ℕ). get_or z k 0) joined-new ∙ get_or-append l (d ∷ []) 0 k y)
        at (no y) =
            let last : k ≡ queue.len = omega (arith, h.count, size, y) in
            let here : k ≡ length l + 0 = omega (arith, h.count, size, y) in
            let slot = slot_in in
            ap (λ z. get_or after (queue_at n + wrapped (ring_words n) (queue.head + z)) 0) last
            ∙ get_or-set_other (set ws _ d) _ _ v 0 (λ q. omega arith)
            ∙ get_or-set_same ws _ d 0 (let low = row_from n w (2 * n) in omega arith)
            ∙ sym (ap (λ (z : List ℕ). get_or z k 0) joined-new ∙ ap (λ z. get_or (l ++ (d ∷ [])) z 0) here ∙ get_or-append-add l (d ∷ []) 0 0)

    count-is : (c : Bool) → elem d l ≡ c → queue.len + (1 - waits_in ws n w d) ≡ length (join l d)
    count-is true p = let old : length (join l d) ≡ length l = ap length joined-old in omega (arith, h.count, h.flag d b ∙ ap (λ c. cond c 1 0) p, old)
      where
        joined-old : join l d ≡ l
        joined-old = rw p
    count-is false p = let new : length (join l d) ≡ length l + 1 = ap length joined-new ∙ length-append l (d ∷ []) in omega (arith, h.count, h.flag d b ∙ ap (λ c. cond c 1 0) p, new)
      where
        joined-new : join l d ≡ l ++ (d ∷ [])
        joined-new = rw p

    pub joined_back : Waits (set (set ws (queue_at n + wrapped (ring_words n) (queue.head + queue.len)) d) (state_at n w d) v) n w
        (record { head = queue.head; len = queue.len + (1 - waits_in ws n w d) }) (join l d)
    unfolding after
    joined_back = record {
      count = count-is (elem d l) refl;
      front = h.front;
      slot = λ k m. back-slot k m (elem d l) refl;
      flag = after-flag;
      below = join-below;
      distinct = join-distinct l d h.distinct;
    }

    pub joined-kept : v / 2 ≡ settled_in ws n w d → KeepsRest n w ws (set (set ws (queue_at n + wrapped (ring_words n) (queue.head + queue.len)) d) (state_at n w d) v)
    joined-kept half =
        let kept = slot_stored ws n w d slot_in in
        let size = kept.size in
        rest-trans kept (state_stored (set ws _ d) n w v b (omega arith) (half ∙ sym (kept.settled d b)))

-- d joins the back with the state v
joining : {n w d : ℕ} {ws : List ℕ} {queue : Queue} (v : ℕ) → (l : List ℕ) × Waits ws n w queue l → d < 2 * n → nodes_end n w ≤ length ws → v % 2 ≡ 1 → v / 2 ≡ settled_in ws n w d
    → Enqueued ws (set (set ws (queue_at n + wrapped (ring_words n) (queue.head + queue.len)) d) (state_at n w d) v) n w queue d (record { head = queue.head; len = queue.len + (1 - waits_in ws n w d) })
joining v h l fits odd half = record {
  waits = λ l' k. joined_back k l fits v odd;
  kept = joined-kept h.1 l fits v odd half;
}

-- a word stored over, with another stored between
stored_over : (ws : List ℕ) (i j a b c : ℕ) → i ≢ j → set (set (set ws i a) j b) i c ≡ set (set ws j b) i c
stored_over ws i j a b c ne = ap (λ (l : List ℕ). set l i c) (set_comm ws i j a b ne) ∙ set-set (set ws j b) i a c

module _ {n w d : ℕ} {ws : List ℕ} {queue : Queue} (h : (l : List ℕ) × Waits ws n w queue l) (b : d < 2 * n) (fits : nodes_end n w ≤ length ws) where
  abbrev bare : List ℕ
  bare = set ws (state_at n w d) (waits_in ws n w d)

  -- settled no more, d waits as before

  bare-state : get_or bare (state_at n w d) 0 ≡ waits_in ws n w d
  bare-state = get_or-set_same ws (state_at n w d) (waits_in ws n w d) 0 (let inside = row_fits n w b in omega arith)

  bare-flag : (e : ℕ) → Dec (e ≡ d) → waits_in bare n w e ≡ waits_in ws n w e
  bare-flag e (yes q) = ap (waits_in bare n w) q ∙ omega (arith, bare-state) ∙ sym (ap (waits_in ws n w) q)
  bare-flag e (no q) = ap (λ z. z % 2) (get_or-set_other ws (state_at n w d) (state_at n w e) (waits_in ws n w d) 0 (states-apart n w q))

  bare-waits : Waits bare n w queue h.0
  bare-waits = waits_kept h.1 (λ x lo hi. get_or-set_other ws (state_at n w d) x (waits_in ws n w d) 0 (λ q. omega arith)) (λ e m. bare-flag e (ℕ_discrete e d))

  joining_grown : (grew : Bool)
      → Enqueued (unsettled grew ws n w d) (set (set ws (queue_at n + wrapped (ring_words n) (queue.head + queue.len)) d) (state_at n w d) (joins grew (get_or ws (state_at n w d) 0))) n w queue d
      (record { head = queue.head; len = queue.len + (1 - waits_in ws n w d) })
  joining_grown false = joining (get_or ws (state_at n w d) 0 + (1 - waits_in ws n w d)) h b fits (omega arith) (omega arith)
  joining_grown true =
      let slot = slot_in h.1 b in
      let size = length-set ws (state_at n w d) (waits_in ws n w d) in
      subst (λ (z : List ℕ). Enqueued bare z n w queue d (record { head = queue.head; len = queue.len + (1 - waits_in ws n w d) }))
      (stored_over ws (state_at n w d) (queue_at n + wrapped (ring_words n) (queue.head + queue.len)) (waits_in ws n w d) d 1 (λ q. omega arith))
      (subst (λ (z : ℕ). Enqueued bare (set (set bare (queue_at n + wrapped (ring_words n) (queue.head + queue.len)) d) (state_at n w d) 1) n w queue d (record { head = queue.head; len = queue.len + (1 - z) }))
      (bare-flag d (yes refl))
      (joining 1 (h.0, bare-waits) b (omega arith) refl (omega (arith, bare-state))))

-- what is stored, at places that were computed
pub enqueued : {n w d at b j v k : ℕ} {ws : List ℕ} {queue : Queue} (grew : Bool) → (l : List ℕ) × Waits ws n w queue l → d < 2 * n → nodes_end n w ≤ length ws
    → at ≡ state_at n w d → b ≡ queue_at n → j ≡ wrapped (ring_words n) (queue.head + queue.len) → v ≡ joins grew (get_or ws at 0) → k ≡ 1 - get_or ws at 0 % 2
    → Enqueued (unsettled grew ws n w d) (set (set ws (b + j) d) at v) n w queue d (record { head = queue.head; len = queue.len + k })
enqueued grew h l fits ea eb ej ev ek = rw (ev, ek, ea, eb, ej) (joining_grown h l fits grew)

-- Taking the front

module _ {n w x : ℕ} {ws : List ℕ} {queue : Queue} {l : List ℕ} (h : Waits ws n w queue (x ∷ l)) where
  pub front-is : get_or ws (queue_at n + queue.head) 0 ≡ x
  front-is = ap (λ k. get_or ws (queue_at n + k) 0) (sym (wrapped_in h.front) ∙ ap (wrapped (ring_words n)) (sym (add-zero queue.head))) ∙ h.slot 0 (omega arith)

  fresh : elem x l ≡ false
  fresh = not_so (elem x l) (λ t. go h.distinct (elem-In x l t))
    where
      go : Distinct (x ∷ l) → In x l → ⊥
      go (Distinct.more f d) m = f m

  behind : Distinct l
  behind = go h.distinct
    where
      go : Distinct (x ∷ l) → Distinct l
      go (Distinct.more f d) = d

  -- the front's state becomes v
  module _ (fits : nodes_end n w ≤ length ws) (v : ℕ) (even : v % 2 ≡ 0) where
    taken_flag : (e : ℕ) → e < 2 * n → Dec (e ≡ x) → waits_in (set ws (state_at n w x) v) n w e ≡ cond (elem e l) 1 0
    unfolding elem
    taken_flag e m (yes q) =
        ap (waits_in (set ws (state_at n w x) v) n w) q
        ∙ ap (λ z. z % 2) (get_or-set_same ws (state_at n w x) v 0 (let inside = row_fits n w (h.below x (Memᴰ.head refl)) in omega arith))
        ∙ even
        ∙ sym (ap (λ z. cond (elem z l) 1 0) q ∙ ap (λ b. cond b 1 0) fresh)
    taken_flag e m (no q) =
        ap (λ z. z % 2) (get_or-set_other ws (state_at n w x) (state_at n w e) v 0 (states-apart n w q))
        ∙ h.flag e m
        ∙ rw (ne_eqb e x q)

    pub taken_front : Waits (set ws (state_at n w x) v) n w (rest_of n queue) l
    taken_front = record {
      count = omega (arith, h.count);
      front = wrapped-lt (ring_words n) (queue.head + 1) (omega (arith, h.front));
      slot = λ k m.
          let few : length (x ∷ l) ≤ 2 * n = distinct-length (2 * n) (x ∷ l) h.distinct h.below in
          let place : wrapped (ring_words n) (queue.head + suc k) < ring_words n = wrapped-lt (ring_words n) (queue.head + suc k) (omega (arith, h.front)) in
          ap (λ z. get_or (set ws (state_at n w x) v) (queue_at n + z) 0) (wrapped-next (ring_words n) queue.head k h.front (omega arith))
          ∙ get_or-set_other ws (state_at n w x) _ v 0 (λ q. omega arith)
          ∙ h.slot (suc k) (omega arith);
      flag = λ e m. taken_flag e m (ℕ_discrete e x);
      below = λ e m. h.below e (Memᴰ.tail m);
      distinct = behind;
    }

-- a queue that holds numbers has a front

pub front_below : {n w : ℕ} {ws : List ℕ} {queue : Queue} (l : List ℕ) → Waits ws n w queue l → 0 < queue.len → get_or ws (queue_at n + queue.head) 0 < 2 * n
front_below [] h l = absurd (omega (arith, h.count))
front_below (x ∷ w) h l = rw (front-is h) (h.below x (Memᴰ.head refl))

module _ (n w : ℕ) (ws : List ℕ) (queue : Queue) (fits : nodes_end n w ≤ length ws) where
  abbrev first : ℕ
  first = get_or ws (queue_at n + queue.head) 0

  abbrev old : ℕ
  old = get_or ws (state_at n w first) 0

  taking : first < 2 * n → Taken ws (set ws (state_at n w first) (old - old % 2)) n w queue first
  taking small = record {
    front = λ x l h. front-is h;
    waits = λ x l h. subst (λ z. Waits (set ws (state_at n w z) (old - old % 2)) n w (rest_of n queue) l) (sym (front-is h)) (taken_front h fits (old - old % 2) (omega arith));
    kept = state_stored ws n w (old - old % 2) small fits (omega arith);
  }

pub taken : {n w b at v : ℕ} {ws : List ℕ} {queue : Queue} → nodes_end n w ≤ length ws → get_or ws (queue_at n + queue.head) 0 < 2 * n → b ≡ queue_at n
    → at ≡ state_at n w (get_or ws (b + queue.head) 0) → v ≡ get_or ws at 0 - get_or ws at 0 % 2 → Taken ws (set ws at v) n w queue (get_or ws (b + queue.head) 0)
taken {n} {w} {b} {at} {v} {ws} {queue} fits small eb e ev = rw (ev, e, eb) (taking n w ws queue fits small)
