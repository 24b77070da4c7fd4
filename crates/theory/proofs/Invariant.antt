-- The queue rule's invariant: one record over a solver's state, whose fields say what waits, what was visited and what its masks hold.
-- It holds at the start and each visit keeps it, a lemma a field. Assumes nothing.
use Prim.Native.Nat.{ℕ, ◌<◌}
use mathlib.Core.Bool.{Bool, true, false, cond, not, ◌||◌}
use mathlib.Core.List.Memᴰ
use mathlib.Core.List.{List, [], ◌∷◌}
use mathlib.Core.Logic.{⊎_elim}
use mathlib.Core.Path.{◌≡◌, refl, sym, ap, subst, ◌∙◌}
use native.Mathlib.Decide.{ℕ_discrete}
use native.Mathlib.Omega.{arith}
use borrow.Author.Tests.{eqb-true, eqb-false, not-false}
use lib.Dec.{eqb}
use Rattle.masks.specs.State.{State, holds}
use Rattle.theory.specs.Lists.{In, elem, Distinct, more}
use Rattle.theory.specs.Queue.{Arc, Graph, Solver, step_all, pulled, changed, enqueue, visit, initial}
use Rattle.theory.specs.Walks.{Brings, empty, along}
use Rattle.theory.proofs.Lists.{clash, member-cases, elem-In, elem-not}
use Rattle.theory.proofs.MaskLaws.{Within, Proper, zero-holds, held-pos, some-held, all_proper, all-comes, all-mono}
use Rattle.theory.proofs.Pulls.{upd_same, upd_other, Pulls, boundary, arc, Pulls-holds, holds-Pulls, pulled-lt}
use Rattle.theory.proofs.Below.{all_below-at}
use Rattle.theory.proofs.Enqueue.{enqueue-keeps, enqueue_adds, enqueue-cases, enqueue-distinct}

-- what the queue rule asks of a graph: edges and the entry are within its numbers, and each array has a state at the entry
pub record WellFormedGraph (g : Graph) : Type 0 where
  pub entry : 0 < g.nodes → g.entry < g.nodes
  pub target : (d : ℕ) (e : Arc) → In e (g.arcs d) → e.to < g.nodes
  pub boundary : (a : ℕ) → Proper (g.boundary a)

-- d is the entry or has a visited predecessor
pub data Due (g : Graph) (st : Solver) (d : ℕ) : Type 0 where
  entry : d ≡ g.entry → Due g st d
  after : {p : ℕ} {e : Arc} → st.visited p ≡ true → In e (g.arcs p) → e.to ≡ d → Due g st d

-- d waits, or was visited and a visit now would bring nothing new
pub data Settled (g : Graph) (st : Solver) (d : ℕ) : Type 0 where
  waits : In d st.waiting → Settled g st d
  done : st.visited d ≡ true → ((a : ℕ) → a < g.arrays → Within (pulled g st d a) (st.masks d a)) → Settled g st d

pub record Invariant (g : Graph) (st : Solver) : Type 0 where
  pub waiting_below : (d : ℕ) → In d st.waiting → d < g.nodes
  pub waiting_once : Distinct st.waiting
  pub waiting_due : (d : ℕ) → In d st.waiting → Due g st d
  pub visited_below : (d : ℕ) → st.visited d ≡ true → d < g.nodes
  pub visited_proper : (d a : ℕ) → st.visited d ≡ true → Proper (st.masks d a)
  pub visited_grows : (d a : ℕ) → st.visited d ≡ true → Within (st.masks d a) (pulled g st d a)
  pub unvisited_empty : (d a : ℕ) → st.visited d ≡ false → st.masks d a ≡ 0
  pub due_settled : 0 < g.nodes → (d : ℕ) → Due g st d → Settled g st d
  pub held_brought : (d a : ℕ) (s : State) → holds (st.masks d a) s ≡ true → Brings g a d s

-- the empty queue rule: the entry waits, nothing was visited

pub initial-keeps : (g : Graph) → WellFormedGraph g → Invariant g (initial g)
unfolding initial
initial-keeps g wf = record {
  waiting_below = λ d m. first (eqb g.nodes 0) refl (λ n. subst (λ (x : ℕ). x < g.nodes) (sym n) (wf.entry (positive m))) m;
  waiting_once = once (eqb g.nodes 0);
  waiting_due = λ d m. first (eqb g.nodes 0) refl (λ n. entry n) m;
  visited_below = λ d v. clash false v refl;
  visited_proper = λ d a v. clash false v refl;
  visited_grows = λ d a v. clash false v refl;
  unvisited_empty = λ d a v. refl;
  due_settled = due;
  held_brought = λ d a s h. zero-holds s h;
}
  where
    first : {d : ℕ} {A : Type 0} (b : Bool) → eqb g.nodes 0 ≡ b → (d ≡ g.entry → A) → In d (cond b [] (g.entry ∷ [])) → A
    first true e f m = absurd (Memᴰ.not-nil m)
    first false e f m = f (Memᴰ.eq_of_singleton m)

    positive : {d : ℕ} → In d (cond (eqb g.nodes 0) [] (g.entry ∷ [])) → 0 < g.nodes
    positive {d} = go (eqb g.nodes 0) refl
      where
        go : (b : Bool) → eqb g.nodes 0 ≡ b → In d (cond b [] (g.entry ∷ [])) → 0 < g.nodes
        go true e m = absurd (Memᴰ.not-nil m)
        go false e m = let h : g.nodes ≡ 0 → ⊥ = eqb-false g.nodes 0 e in omega arith

    once : (b : Bool) → Distinct (cond b [] (g.entry ∷ []))
    once true = Distinct.empty
    once false = more Memᴰ.not-nil Distinct.empty

    due : 0 < g.nodes → (d : ℕ) → Due g (initial g) d → Settled g (initial g) d
    due h d (entry e) = waits (go (eqb g.nodes 0) refl)
      where
        go : (b : Bool) → eqb g.nodes 0 ≡ b → In d (cond b [] (g.entry ∷ []))
        go true z = let k : g.nodes ≡ 0 = eqb-true g.nodes 0 z in absurd (omega arith)
        go false z = Memᴰ.head e
    due h d (after v m t) = clash false v refl

-- one visit, of the front d, with w behind it

module _ (g : Graph) (wf : WellFormedGraph g) (st : Solver) (inv : Invariant g st) (d : ℕ) (w : List ℕ) (front : st.waiting ≡ d ∷ w) where
  abbrev pub next : Solver
  next = visit g st d w

  -- its first visit, or its masks changed
  abbrev pub grew : Bool
  grew = not (st.visited d) || changed g st d

  front-waits : In d st.waiting
  front-waits = subst (λ l. In d l) (sym front) (Memᴰ.head refl)

  behind-waits : {x : ℕ} → In x w → In x st.waiting
  behind-waits {x} m = subst (λ l. In x l) (sym front) (Memᴰ.tail m)

  waiting-cases : {x : ℕ} {P : Type 0} → In x st.waiting → (x ≡ d → P) → (In x w → P) → P
  waiting-cases {x} m = member-cases (subst (λ l. In x l) front m)

  pub front_below : d < g.nodes
  front_below = inv.waiting_below d front-waits

  -- the visited numbers and the masks after the visit

  pub visited-at : {p : ℕ} → p ≡ d → next.visited p ≡ true
  unfolding visit
  visited-at {p} e = upd_same st.visited d true p e

  pub visited-other : {p : ℕ} → (p ≡ d → ⊥) → next.visited p ≡ st.visited p
  unfolding visit
  visited-other {p} n = upd_other st.visited d true p n

  pub masks-at : {p : ℕ} → p ≡ d → next.masks p ≡ pulled g st d
  unfolding visit
  masks-at {p} e = upd_same st.masks d (pulled g st d) p e

  pub masks-other : {p : ℕ} → (p ≡ d → ⊥) → next.masks p ≡ st.masks p
  unfolding visit
  masks-other {p} n = upd_other st.masks d (pulled g st d) p n

  pub visited-stays : {p : ℕ} → st.visited p ≡ true → next.visited p ≡ true
  visited-stays {p} v = go (ℕ_discrete p d)
    where
      go : Dec (p ≡ d) → next.visited p ≡ true
      go (yes e) = visited-at e
      go (no n) = visited-other n ∙ v

  -- the new masks

  pub pulled_proper : (a : ℕ) → Proper (pulled g st d a)
  pulled_proper a = go (inv.waiting_due d front-waits)
    where
      below : pulled g st d a < 8
      below = pulled-lt g st a d (wf.boundary a).below (λ p v. inv.visited_proper p a v)

      of : (s : State) → Pulls g st a d s → Proper (pulled g st d a)
      of s h = record { pos = held-pos (pulled g st d a) s (Pulls-holds g st a d s h); below = below }

      go : Due g st d → Proper (pulled g st d a)
      go (entry e) = let r = some-held (g.boundary a) (wf.boundary a) in of r.0 (boundary e r.1)
      go (after {p = p} {e = e} v m t) =
          let r = some-held (step_all (e.effects a) (st.masks p a)) (all_proper (e.effects a) (st.masks p a) (inv.visited_proper p a v)) in
          of r.0 (arc (inv.visited_below p v) v m t r.1)

  pub proper_kept : (p a : ℕ) → next.visited p ≡ true → Proper (next.masks p a)
  proper_kept p a v = go (ℕ_discrete p d)
    where
      go : Dec (p ≡ d) → Proper (next.masks p a)
      go (yes e) = subst (λ (m : ℕ → ℕ). Proper (m a)) (sym (masks-at e)) (pulled_proper a)
      go (no n) = subst (λ (m : ℕ → ℕ). Proper (m a)) (sym (masks-other n)) (inv.visited_proper p a (sym (visited-other n) ∙ v))

  pub masks_grow : (p a : ℕ) → st.visited p ≡ true → Within (st.masks p a) (next.masks p a)
  masks_grow p a v s h = go (ℕ_discrete p d)
    where
      go : Dec (p ≡ d) → holds (next.masks p a) s ≡ true
      go (yes e) =
          subst (λ (m : ℕ → ℕ). holds (m a) s ≡ true) (sym (masks-at e))
          (subst (λ (x : ℕ). holds (pulled g st x a) s ≡ true) e (inv.visited_grows p a v s h))
      go (no n) = subst (λ (m : ℕ → ℕ). holds (m a) s ≡ true) (sym (masks-other n)) h

  pub pulls_grow : {a t : ℕ} {s : State} → Pulls g st a t s → Pulls g next a t s
  pulls_grow (boundary e h) = boundary e h
  pulls_grow {a} {t} {s} (arc {p = p} {e = e} l v m q h) =
      arc l (visited-stays v) m q
      (all-mono (e.effects a) (st.masks p a) (next.masks p a) (inv.visited_proper p a v) (proper_kept p a (visited-stays v)).below (masks_grow p a v) s h)

  due_grow : {t : ℕ} → Due g st t → Due g next t
  due_grow (entry e) = entry e
  due_grow (after v m q) = after (visited-stays v) m q

  -- a lemma a field

  below-kept : (p : ℕ) → next.visited p ≡ true → p < g.nodes
  below-kept p v = go (ℕ_discrete p d)
    where
      go : Dec (p ≡ d) → p < g.nodes
      go (yes e) = subst (λ (x : ℕ). x < g.nodes) (sym e) front_below
      go (no n) = inv.visited_below p (sym (visited-other n) ∙ v)

  grows-kept : (p a : ℕ) → next.visited p ≡ true → Within (next.masks p a) (pulled g next p a)
  grows-kept p a v s h = Pulls-holds g next a p s (pulls_grow (go (ℕ_discrete p d)))
    where
      go : Dec (p ≡ d) → Pulls g st a p s
      go (yes e) =
          subst (λ (x : ℕ). Pulls g st a x s) (sym e) (holds-Pulls g st a d s (subst (λ (m : ℕ → ℕ). holds (m a) s ≡ true) (masks-at e) h))
      go (no n) =
          holds-Pulls g st a p s
          (inv.visited_grows p a (sym (visited-other n) ∙ v) s (subst (λ (m : ℕ → ℕ). holds (m a) s ≡ true) (masks-other n) h))

  empty-kept : (p a : ℕ) → next.visited p ≡ false → next.masks p a ≡ 0
  empty-kept p a v = go (ℕ_discrete p d)
    where
      go : Dec (p ≡ d) → next.masks p a ≡ 0
      go (yes e) = clash (next.visited p) (visited-at e) v
      go (no n) = ap (λ (m : ℕ → ℕ). m a) (masks-other n) ∙ inv.unvisited_empty p a (sym (visited-other n) ∙ v)

  pulls_brought : {a t : ℕ} {s : State} → Pulls g st a t s → Brings g a t s
  pulls_brought {a} {t} {s} (boundary e h) = subst (λ (x : ℕ). Brings g a x s) (sym e) (empty h)
  pulls_brought {a} {t} {s} (arc {p = p} {e = e} l v m q h) =
      let c = all-comes (e.effects a) (st.masks p a) s (inv.visited_proper p a v) h in
      subst (λ (x : ℕ). Brings g a x s) q (along (inv.held_brought p a c.0 c.1) m c.2)

  brought-kept : (p a : ℕ) (s : State) → holds (next.masks p a) s ≡ true → Brings g a p s
  brought-kept p a s h = go (ℕ_discrete p d)
    where
      go : Dec (p ≡ d) → Brings g a p s
      go (yes e) =
          subst (λ (x : ℕ). Brings g a x s) (sym e)
          (pulls_brought (holds-Pulls g st a d s (subst (λ (m : ℕ → ℕ). holds (m a) s ≡ true) (masks-at e) h)))
      go (no n) = inv.held_brought p a s (subst (λ (m : ℕ → ℕ). holds (m a) s ≡ true) (masks-other n) h)

  -- what waits after the visit

  unfoldable pub queue : Bool → List ℕ
  queue b = cond b (enqueue (g.arcs d) w) w

  queue-keeps : (b : Bool) {x : ℕ} → In x w → In x (queue b)
  unfolding queue
  queue-keeps true m = enqueue-keeps (g.arcs d) w m
  queue-keeps false m = m

  queue-cases : (b : Bool) {x : ℕ} {P : Type 0} → In x (queue b) → (In x w → P) → ((e : Arc) → In e (g.arcs d) → e.to ≡ x → P) → P
  unfolding queue
  queue-cases true m h k = ⊎_elim h (λ r. k r.0 r.1 r.2) (enqueue-cases (g.arcs d) w m)
  queue-cases false m h k = h m

  pub waiting-next : next.waiting ≡ queue grew
  unfolding visit queue
  waiting-next = refl

  next-keeps : {x : ℕ} → In x w → In x next.waiting
  next-keeps {x} m = subst (λ l. In x l) (sym waiting-next) (queue-keeps grew m)

  next-cases : {x : ℕ} {P : Type 0} → In x next.waiting → (In x w → P) → ((e : Arc) → In e (g.arcs d) → e.to ≡ x → P) → P
  next-cases {x} m = queue-cases grew (subst (λ l. In x l) waiting-next m)

  -- a visit at which the masks grew leaves every target waiting
  targets_wait : grew ≡ true → (e : Arc) → In e (g.arcs d) → In e.to next.waiting
  unfolding queue
  targets_wait h e m = subst (λ l. In e.to l) (sym (waiting-next ∙ ap queue h)) (enqueue_adds (g.arcs d) w m)

  waiting-below-kept : (x : ℕ) → In x next.waiting → x < g.nodes
  waiting-below-kept x m =
      next-cases m (λ n. inv.waiting_below x (behind-waits n)) (λ e n q. subst (λ (y : ℕ). y < g.nodes) q (wf.target d e n))

  waiting-once-kept : Distinct next.waiting
  unfolding queue
  waiting-once-kept = subst Distinct (sym waiting-next) (go grew (tail (subst Distinct front inv.waiting_once)))
    where
      tail : Distinct (d ∷ w) → Distinct w
      tail (more f h) = h

      go : (b : Bool) → Distinct w → Distinct (queue b)
      go true h = enqueue-distinct (g.arcs d) w h
      go false h = h

  waiting_due_kept : (x : ℕ) → In x next.waiting → Due g next x
  waiting_due_kept x m = next-cases m (λ n. due_grow (inv.waiting_due x (behind-waits n))) (λ e n q. after (visited-at refl) n q)

  -- where the visit brings t nothing new, t is settled if it was due before
  settled_by : (t : ℕ) → ((a : ℕ) (s : State) → a < g.arrays → Pulls g next a t s → Pulls g st a t s) → Settled g st t → Settled g next t
  settled_by t back (waits m) = waiting-cases m here (λ n. waits (next-keeps n))
    where
      here : t ≡ d → Settled g next t
      here e = done (visited-at e) (λ a l s h.
          subst (λ (x : ℕ → ℕ). holds (x a) s ≡ true) (sym (masks-at e))
          (subst (λ (y : ℕ). holds (pulled g st y a) s ≡ true) e (Pulls-holds g st a t s (back a s l (holds-Pulls g next a t s h)))))
  settled_by t back (done v f) =
      done (visited-stays v) (λ a l s h. masks_grow t a v s (f a l s (Pulls-holds g st a t s (back a s l (holds-Pulls g next a t s h)))))

  -- what is brought after the visit was brought before it, or d's edges bring it
  pub pulls_cases : {a t : ℕ} {s : State} {P : Type 0} → Pulls g next a t s → (Pulls g st a t s → P)
      → ((e : Arc) → In e (g.arcs d) → e.to ≡ t → holds (step_all (e.effects a) (pulled g st d a)) s ≡ true → P) → P
  pulls_cases (boundary e h) before own = before (boundary e h)
  pulls_cases {a} {t} {s} {P} (arc {p = p} {e = e} l v m q h) before own = go (ℕ_discrete p d)
    where
      go : Dec (p ≡ d) → P
      go (yes i) = own e (subst (λ (x : ℕ). In e (g.arcs x)) i m) q (subst (λ (x : ℕ → ℕ). holds (step_all (e.effects a) (x a)) s ≡ true) (masks-at i) h)
      go (no n) =
          before (arc l (sym (visited-other n) ∙ v) m q (subst (λ (x : ℕ → ℕ). holds (step_all (e.effects a) (x a)) s ≡ true) (masks-other n) h))

  due_back : (t : ℕ) → ((e : Arc) → In e (g.arcs d) → e.to ≡ t → Due g st t) → Due g next t → Due g st t
  due_back t own (entry e) = entry e
  due_back t own (after {p = p} {e = e} v m q) = go (ℕ_discrete p d)
    where
      go : Dec (p ≡ d) → Due g st t
      go (yes i) = own e (subst (λ (x : ℕ). In e (g.arcs x)) i m) q
      go (no n) = after (sym (visited-other n) ∙ v) m q

  -- a visit at which nothing grew: d was visited before, and its masks stay as they were
  pub was-visited : grew ≡ false → st.visited d ≡ true
  was-visited = go (st.visited d) refl
    where
      go : (b : Bool) → st.visited d ≡ b → (not b || changed g st d) ≡ false → st.visited d ≡ true
      go true v h = v
      go false v h = clash true refl h

  pub masks-same : grew ≡ false → (a : ℕ) → a < g.arrays → pulled g st d a ≡ st.masks d a
  unfolding changed
  masks-same h a l =
      eqb-true (pulled g st d a) (st.masks d a)
      (all_below-at g.arrays (λ a. eqb (pulled g st d a) (st.masks d a)) (not-false _ (second (not (st.visited d)) h)) a l)
    where
      second : {c : Bool} (b : Bool) → (b || c) ≡ false → c ≡ false
      second true e = clash true refl e
      second false e = e

  settled-kept : 0 < g.nodes → (t : ℕ) → Due g next t → Settled g next t
  settled-kept z t x = go grew refl (elem t next.waiting) refl
    where
      -- where t does not wait, no edge of d goes to it
      away : grew ≡ true → elem t next.waiting ≡ false → (e : Arc) → In e (g.arcs d) → e.to ≡ t → ⊥
      away b n e m q = elem-not t next.waiting n (subst (λ (y : ℕ). In y next.waiting) q (targets_wait b e m))

      go : (b : Bool) → grew ≡ b → (c : Bool) → elem t next.waiting ≡ c → Settled g next t
      go true b true n = waits (elem-In t next.waiting n)
      go true b false n =
          settled_by t (λ a s l x. pulls_cases x (λ y. y) (λ e m q h. absurd (away b n e m q)))
          (inv.due_settled z t (due_back t (λ e m q. absurd (away b n e m q)) x))
      go false b c n =
          settled_by t (λ a s l x. pulls_cases x (λ y. y) (own-before b a s l))
          (inv.due_settled z t (due_back t (λ e m q. after (was-visited b) m q) x))
        where
          own-before : grew ≡ false → (a : ℕ) (s : State) → a < g.arrays
              → (e : Arc) → In e (g.arcs d) → e.to ≡ t → holds (step_all (e.effects a) (pulled g st d a)) s ≡ true → Pulls g st a t s
          own-before b a s l e m q h =
              arc front_below (was-visited b) m q (subst (λ (y : ℕ). holds (step_all (e.effects a) y) s ≡ true) (masks-same b a l) h)

  pub visit-keeps : Invariant g (visit g st d w)
  visit-keeps = record {
    waiting_below = waiting-below-kept;
    waiting_once = waiting-once-kept;
    waiting_due = waiting_due_kept;
    visited_below = below-kept;
    visited_proper = proper_kept;
    visited_grows = grows-kept;
    unvisited_empty = empty-kept;
    due_settled = settled-kept;
    held_brought = brought-kept;
  }
