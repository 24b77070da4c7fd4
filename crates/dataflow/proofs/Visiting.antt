-- One visit of the solver is one visit of the queue rule. Where the number is unchanged nothing is sent, and a visit would bring nothing new; else what its
-- edges bring of its masks is joined to every number's, which is what the rule would pull after the visit.
use Prim.Native.Nat.{ℕ, ◌+◌, ◌*◌, ◌/◌, ◌<◌, ◌≤◌}
use mathlib.Core.Bool.{Bool, true, false, cond, not, ◌&&◌, ◌||◌, or-false}
use mathlib.Core.List.Memᴰ
use mathlib.Core.List.{List, [], ◌∷◌}
use mathlib.Core.Logic.{◌≢◌}
use mathlib.Core.Path.{◌≡◌, refl, sym, ap, ap₂, subst, ◌∙◌}
use native.Mathlib.Decide.{dec_lt, ℕ_discrete}
use native.Mathlib.Omega.{arith}
use borrow.Author.Tests.{lt-ltb, le-ltb, eq-eqb, ne_eqb}
use lib.Bits.{bit_or, or_self}
use lib.Dec.{eqb, ltb}
use lib.ListN.{length, get_or, set}
use lib.Seq.{get_or-set_same, get_or-set_other}
use Rattle.flow.specs.Flow.{Flow, size}
use Rattle.theory.specs.Lists.{differ}
use Rattle.theory.specs.Doubled.{doubled}
use Rattle.theory.specs.Queue.{Graph, Solver, pulled, changed, visit, enqueue, brings}
use Rattle.theory.specs.Clauses.WellFormed.{WellFormed}
use Rattle.theory.proofs.Lists.{clash, or-second}
use Rattle.theory.proofs.Terms.{doubled_well_formed}
use Rattle.theory.proofs.Invariant.{WellFormedGraph, Invariant, queue, visited-at, visited-other, waiting-next, was-visited}
use Rattle.theory.proofs.Ends.{course-keeps}
use Rattle.theory.proofs.Push.{alike, no_differ, pulled-next, pulled-same, changed-front, changed-other}
use Rattle.statements.specs.Clauses.Ready.{Keeps}
use Rattle.statements.proofs.Keeps.{keeps-set, keeps-trans, keeps_widen}
use Rattle.solve.specs.declared.Queue.{Queue}
use Rattle.solve.specs.Clauses.Layout.{mask_row_at, state_at, waits_in, settled_in, nodes_end}
use Rattle.solve.specs.Clauses.Waiting.{Waits, Taken, rest_of}
use Rattle.solve.specs.Clauses.Pushed.{masks_at}
use Rattle.solve.proofs.Room.{rows_apart, row_from, row_fits, not-state}
use Rattle.solve.proofs.Masks.{mask-cong, differ_as}
use Rattle.solve.proofs.Waiting.{rest-keeps}
use Rattle.solve.proofs.Growing.{other_word, waits-grown}
use Rattle.dataflow.specs.Clauses.Sent.{masks_below, Shared, Sends}
use Rattle.dataflow.specs.Clauses.Solving.{Solving, Underway, VisitsFront}
use Rattle.dataflow.proofs.Sharing.{shared-stays}

pub nodes_are : (f : Flow) → (doubled f).nodes ≡ size f + size f
unfolding doubled
nodes_are f = refl

pub arrays_are : (f : Flow) → (doubled f).arrays ≡ f.arrays
unfolding doubled
arrays_are f = refl

-- Masks below the count

pub below_at : (count : ℕ) (m : ℕ → ℕ) {a : ℕ} → a < count → masks_below count m a ≡ m a
unfolding masks_below
below_at count m {a} l = rw (lt-ltb a count l)

below_as : (count : ℕ) (x y : ℕ → ℕ) (a : ℕ) → (a < count → x a ≡ y a) → masks_below count x a ≡ masks_below count y a
unfolding masks_below
below_as count x y a h = at (dec_lt a count)
  where
    at : Dec (a < count) → cond (ltb a count) (x a) 0 ≡ cond (ltb a count) (y a) 0
    at (yes l) = ap (λ (v : ℕ). cond (ltb a count) v 0) (h l)
    at (no l) = rw (le-ltb a count (omega (arith, l)))

pub below_or : (count : ℕ) (x y : ℕ → ℕ) (a : ℕ) → bit_or (masks_below count x a) (masks_below count y a) ≡ masks_below count (λ b. bit_or (x b) (y b)) a
unfolding masks_below
below_or count x y a = at (ltb a count)
  where
    at : (b : Bool) → bit_or (cond b (x a) 0) (cond b (y a) 0) ≡ cond b (bit_or (x a) (y a)) 0
    at true = refl
    at false = refl

-- two rows of masks differ where some array below the count does
differ-below : (most count : ℕ) (x y : ℕ → ℕ) → count ≤ most → differ most (masks_below count x) (masks_below count y) ≡ differ count x y
differ-below most count x y few = go (differ most (masks_below count x) (masks_below count y)) refl (differ count x y) refl
  where
    go : (b : Bool) → differ most (masks_below count x) (masks_below count y) ≡ b → (c : Bool) → differ count x y ≡ c → b ≡ c
    go true p true q = refl
    go false p false q = refl
    go true p false q =
        clash (differ most (masks_below count x) (masks_below count y)) p
        (no_differ most (masks_below count x) (masks_below count y) (λ a l. below_as count x y a (alike count x y q a)))
    go false p true q =
        clash (differ count x y) q
        (no_differ count x y (λ a l. sym (below_at count x l) ∙ alike most (masks_below count x) (masks_below count y) p a (omega arith) ∙ below_at count y l))

-- the front of a queue that is not empty
front_of : (l : List ℕ) → 0 < length l → (d : ℕ) × (w : List ℕ) × (l ≡ d ∷ w)
front_of [] h = absurd (omega arith)
front_of (d ∷ w) h = (d, w, refl)

pub underway-front : {f : Flow} {ws : List ℕ} {n k : ℕ} {queue : Queue} (u : Underway f ws n k queue) → 0 < queue.len → (d : ℕ) × (w : List ℕ) × (u.state.waiting ≡ d ∷ w)
underway-front {queue = q} u l = front_of u.state.waiting (subst (λ (k : ℕ). 0 < k) u.solving.waits.count l)

module _ {f : Flow} (wf : WellFormed f) {n k : ℕ} (sized : size f ≡ n) (few : f.arrays ≤ 64 * k) {ws : List ℕ} {q : Queue} (u : Underway f ws n k q)
    (x : ℕ) (w : List ℕ) (front : u.state.waiting ≡ x ∷ w) {d : ℕ} {vs : List ℕ} (taken : Taken ws vs n k q d) where
  abbrev g : Graph
  g = doubled f

  abbrev st : Solver
  st = u.state

  abbrev next : Solver
  next = visit (doubled f) u.state x w

  gwf : WellFormedGraph (doubled f)
  gwf = doubled_well_formed f wf

  inv : Invariant (doubled f) u.state
  inv = course-keeps gwf u.course

  -- the visit brings something new
  unfoldable pub news : Bool
  news = not (u.state.visited x) || changed (doubled f) u.state x

  waits : Waits ws n k q (x ∷ w)
  waits = subst (λ (l : List ℕ). Waits ws n k q l) front u.solving.waits

  pub is_front : d ≡ x
  is_front = taken.front x w waits

  pub front_in : x < 2 * n
  front_in = waits.below x (Memᴰ.head refl)

  pub rest-waits : Waits vs n k (rest_of n q) w
  rest-waits = taken.waits x w waits

  -- the area after the front is taken

  took_word : (t y : ℕ) → mask_row_at n k t ≤ y → y < state_at n k t → get_or vs y 0 ≡ get_or ws y 0
  took_word t y lo hi = taken.kept.above y (let low = row_from n k t in omega arith) (λ c m. not-state n k t y lo hi c)

  took_same : (t a : ℕ) → a < 64 * k → masks_at vs n k t a ≡ masks_at ws n k t a
  took_same t a m = mask-cong ws vs k (mask_row_at n k t) a m (λ y lo hi. took_word t y lo (omega arith))

  took_masks : (t a : ℕ) → t < 2 * n → a < 64 * k → masks_at vs n k t a ≡ masks_below f.arrays (pulled g st t) a
  took_masks t a l m = took_same t a m ∙ u.solving.masks t a l m

  took_settled : (t : ℕ) → t < 2 * n → settled_in vs n k t ≡ cond (st.visited t && not (changed g st t)) 1 0
  took_settled t l = taken.kept.settled t l ∙ u.solving.settled t l

  -- the test at the number taken
  pub settled_at : {r : Bool} → r ≡ eqb (settled_in vs n k d) 1 → r ≡ not news
  unfolding news
  settled_at e =
      e ∙ ap (λ (y : ℕ). eqb (settled_in vs n k y) 1) is_front ∙ ap (λ (y : ℕ). eqb y 1) (took_settled x front_in) ∙ is (st.visited x) (changed g st x)
    where
      is : (v c : Bool) → eqb (cond (v && not c) 1 0) 1 ≡ not (not v || c)
      is true true = refl
      is true false = refl
      is false c = refl

  -- the numbers visited
  visited-is : (t : ℕ) → next.visited t ≡ cond (eqb t x) true (st.visited t)
  visited-is t = at (ℕ_discrete t x)
    where
      at : Dec (t ≡ x) → next.visited t ≡ cond (eqb t x) true (st.visited t)
      at (yes e) = visited-at g gwf st inv x w front e ∙ sym (ap (λ (b : Bool). cond b true (st.visited t)) (eq-eqb t x e))
      at (no e) = visited-other g gwf st inv x w front e ∙ sym (ap (λ (b : Bool). cond b true (st.visited t)) (ne_eqb t x e))

  -- the visit is noted: the number is settled
  module _ {us : List ℕ} (noted : us ≡ set vs (state_at n k d) (waits_in vs n k d + 2)) (room : nodes_end n k ≤ length vs) where
    in_area : d < 2 * n
    in_area = subst (λ (y : ℕ). y < 2 * n) (sym is_front) front_in

    pub note_keeps : Keeps (mask_row_at n k d) (state_at n k d + 1) vs us
    note_keeps = subst (Keeps (mask_row_at n k d) (state_at n k d + 1) vs) (sym noted) (keeps-set vs (state_at n k d) (waits_in vs n k d + 2) (omega arith) (omega arith))

    note_state : get_or us (state_at n k d) 0 ≡ waits_in vs n k d + 2
    note_state =
        let fits = row_fits n k in_area in
        ap (λ (l : List ℕ). get_or l (state_at n k d) 0) noted ∙ get_or-set_same vs (state_at n k d) (waits_in vs n k d + 2) 0 (omega arith)

    note_waits : waits_in us n k d ≡ waits_in vs n k d
    note_waits = omega (arith, note_state)

    note_settled : settled_in us n k d ≡ 1
    note_settled = omega (arith, note_state)

    pub noted-waits : Waits us n k (rest_of n q) w
    noted-waits = waits-grown n k d note_keeps note_waits rest-waits

    noted-same : (t a : ℕ) → a < 64 * k → masks_at us n k t a ≡ masks_at vs n k t a
    noted-same t a m =
        mask-cong vs us k (mask_row_at n k t) a m (λ y lo hi. ap (λ (l : List ℕ). get_or l y 0) noted ∙ get_or-set_other vs (state_at n k d) y (waits_in vs n k d + 2) 0 (λ q. apart y lo hi q (dec_lt t d) (dec_lt d t)))
      where
        apart : (y : ℕ) → mask_row_at n k t ≤ y → y < mask_row_at n k t + 3 * k → y ≡ state_at n k d → Dec (t < d) → Dec (d < t) → ⊥
        apart y lo hi q (yes b) c = let far = rows_apart n k b in omega arith
        apart y lo hi q (no b) (yes c) = let far = rows_apart n k c in omega arith
        apart y lo hi q (no b) (no c) = let same : t ≡ d = omega (arith, b, c) in let here : mask_row_at n k t ≡ mask_row_at n k d = rw same in omega arith

    noted-masks : (t a : ℕ) → t < 2 * n → a < 64 * k → masks_at us n k t a ≡ masks_below f.arrays (pulled g st t) a
    noted-masks t a l m = noted-same t a m ∙ took_masks t a l m

    pub noted-shared : Shared f us n k
    noted-shared =
        let low = row_from n k d in
        let fits = row_fits n k in_area in
        let keeps = keeps-trans (rest-keeps taken.kept) (keeps_widen (omega arith) (omega arith) note_keeps) in
        shared-stays n k keeps (λ t a l m. ap (bit_or (masks_at us n k t a)) (sym (noted-same t a m ∙ took_same t a m)) ∙ or_self (masks_at us n k t a)) u.solving.shared

    noted-front : (t : ℕ) → t ≡ x → settled_in us n k t ≡ 1
    noted-front t e = ap (settled_in us n k) (e ∙ sym is_front) ∙ note_settled

    noted_other : (t : ℕ) → t ≢ x → settled_in us n k t ≡ settled_in vs n k t
    noted_other t e = ap (λ z. z / 2) (other_word n k d note_keeps t (λ q. e (q ∙ is_front)) (state_at n k t) (omega arith) (omega arith))

    visited-front : {os : List ℕ} {r : Queue} → Solving f os n k r (visit g st x w) → VisitsFront f ws os n k q r u
    visited-front s = record { front = x; behind = w; waiting = front; solving = s }

    -- a number that was settled before: the area is as it was behind the front
    module _ (still : news ≡ false) where
      was : st.visited x ≡ true
      unfolding news
      was = was-visited g gwf st inv x w front still

      same-visited : (t : ℕ) → next.visited t ≡ st.visited t
      same-visited t = visited-is t ∙ at (ℕ_discrete t x)
        where
          at : Dec (t ≡ x) → cond (eqb t x) true (st.visited t) ≡ st.visited t
          at (yes e) = ap (λ (b : Bool). cond b true (st.visited t)) (eq-eqb t x e) ∙ sym (ap st.visited e ∙ was)
          at (no e) = ap (λ (b : Bool). cond b true (st.visited t)) (ne_eqb t x e)

      same-pulled : (t a : ℕ) → a < f.arrays → pulled g next t a ≡ pulled g st t a
      unfolding news doubled
      same-pulled t a l = pulled-same g gwf st inv x w front still t a l

      -- nothing differs between the two pulls
      same-differ : (t : ℕ) → differ g.arrays (pulled g next t) (pulled g st t) ≡ false
      unfolding doubled
      same-differ t = no_differ f.arrays (pulled g next t) (pulled g st t) (λ a l. same-pulled t a l)

      same-changed : (t : ℕ) → changed g next t ≡ changed g st t
      unfolding news
      same-changed t = at (ℕ_discrete t x)
        where
          at : Dec (t ≡ x) → changed g next t ≡ changed g st t
          at (yes e) =
              ap (changed g next) e ∙ changed-front g gwf st inv x w front ∙ same-differ x
              ∙ sym (ap (changed g st) e ∙ or-second (not (st.visited x)) (changed g st x) still)
          at (no e) =
              changed-other g gwf st inv x w front t e ∙ ap (λ (b : Bool). changed g st t || b) (same-differ t) ∙ or-false (changed g st t)

      still-settled : (t : ℕ) → t < 2 * n → settled_in us n k t ≡ cond (next.visited t && not (changed g next t)) 1 0
      still-settled t l = at (ℕ_discrete t x)
        where
          at : Dec (t ≡ x) → settled_in us n k t ≡ cond (next.visited t && not (changed g next t)) 1 0
          at (yes e) =
              noted-front t e
              ∙ sym (ap₂ (λ (v c : Bool). cond (v && not c) 1 0) (visited-at g gwf st inv x w front e) (ap (changed g next) e ∙ changed-front g gwf st inv x w front ∙ same-differ x))
          at (no e) = noted_other t e ∙ took_settled t l ∙ ap₂ (λ (v c : Bool). cond (v && not c) 1 0) (sym (same-visited t)) (sym (same-changed t))

      pub visits-settled : VisitsFront f ws us n k q (rest_of n q) u
      unfolding queue news
      visits-settled = visited-front (record {
        waits = subst (λ (l : List ℕ). Waits us n k (rest_of n q) l) (sym (waiting-next g gwf st inv x w front ∙ ap (queue g gwf st inv x w front) still)) noted-waits;
        masks = λ t a l m. noted-masks t a l m ∙ below_as f.arrays (pulled g st t) (pulled g next t) a (λ b. sym (same-pulled t a b));
        shared = noted-shared;
        settled = still-settled;
      })

    -- else the masks of the number go on
    module _ (new : news ≡ true) {os : List ℕ} {r : Queue} (sent : Sends f us os n k (rest_of n q) d ((doubled f).arcs d) r) where
      next-masks : (t a : ℕ) → t < 2 * n → a < 64 * k → masks_at os n k t a ≡ masks_below f.arrays (pulled g next t) a
      next-masks t a l m =
          sent.masks (pulled g st x) (λ b h. ap (λ (y : ℕ). masks_at us n k y b) is_front ∙ noted-masks x b front_in h) t a l m
          ∙ ap₂ bit_or (noted-masks t a l m) (ap (λ (y : ℕ). masks_below f.arrays (λ b. brings t b (pulled g st x b) (g.arcs y)) a) is_front)
          ∙ below_or f.arrays (pulled g st t) (λ b. brings t b (pulled g st x b) (g.arcs x)) a
          ∙ below_as f.arrays (λ b. bit_or (pulled g st t b) (brings t b (pulled g st x b) (g.arcs x))) (pulled g next t) a (λ h. sym (pulled-next g gwf st inv x w front t a))

      -- what grew is what the visit added
      added : (t : ℕ) → t < 2 * n → differ (64 * k) (masks_at os n k t) (masks_at us n k t) ≡ differ g.arrays (pulled g next t) (pulled g st t)
      unfolding doubled
      added t l =
          differ_as (64 * k) (masks_at os n k t) (masks_below f.arrays (pulled g next t)) (masks_at us n k t) (masks_below f.arrays (pulled g st t)) (λ a m. next-masks t a l m) (λ a m. noted-masks t a l m)
          ∙ differ-below (64 * k) f.arrays (pulled g next t) (pulled g st t) few

      next-settled : (t : ℕ) → t < 2 * n → settled_in os n k t ≡ cond (next.visited t && not (changed g next t)) 1 0
      next-settled t l = at (ℕ_discrete t x)
        where
          grew : Bool
          grew = differ g.arrays (pulled g next t) (pulled g st t)

          front-is : (b : Bool) → ◌≡◌ {A = ℕ} (cond b 0 1) (cond (true && not b) 1 0)
          front-is true = refl
          front-is false = refl

          other-is : (v c b : Bool) → ◌≡◌ {A = ℕ} (cond b 0 (cond (v && not c) 1 0)) (cond (v && not (c || b)) 1 0)
          other-is true true true = refl
          other-is true true false = refl
          other-is true false true = refl
          other-is true false false = refl
          other-is false c true = refl
          other-is false c false = refl

          at : Dec (t ≡ x) → settled_in os n k t ≡ cond (next.visited t && not (changed g next t)) 1 0
          at (yes e) =
              sent.settled t l
              ∙ ap₂ (λ (b : Bool) (y : ℕ). cond b 0 y) (added t l) (noted-front t e)
              ∙ front-is grew
              ∙ sym (ap₂ (λ (v c : Bool). cond (v && not c) 1 0) (visited-at g gwf st inv x w front e)
              (ap (changed g next) e ∙ changed-front g gwf st inv x w front ∙ sym (ap (λ (y : ℕ). differ g.arrays (pulled g next y) (pulled g st y)) e)))
          at (no e) =
              sent.settled t l
              ∙ ap₂ (λ (b : Bool) (y : ℕ). cond b 0 y) (added t l) (noted_other t e ∙ took_settled t l)
              ∙ other-is (st.visited t) (changed g st t) grew
              ∙ sym (ap₂ (λ (v c : Bool). cond (v && not c) 1 0) (visited-other g gwf st inv x w front e) (changed-other g gwf st inv x w front t e))

      pub visits-sent : VisitsFront f ws os n k q r u
      unfolding queue news
      visits-sent = visited-front (record {
        waits = subst (λ (l : List ℕ). Waits os n k r l) (ap (λ (y : ℕ). enqueue (g.arcs y) w) is_front ∙ sym (waiting-next g gwf st inv x w front ∙ ap (queue g gwf st inv x w front) new)) (sent.waits w noted-waits);
        masks = next-masks;
        shared = sent.shared;
        settled = next-settled;
      })
