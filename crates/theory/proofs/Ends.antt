-- Term 1 over any graph: a course of the queue rule has at most 1 + edges × (1 + 2 × arrays) visits. A number owes 1 + 2 × arrays while unvisited, and
-- 3 × arrays less the states it holds once visited; what waits, with the sum of edges × what is owed, falls at each visit. Assumes nothing.
use Prim.Native.Nat.{ℕ, suc, ◌+◌, ◌-◌, ◌*◌, ◌≤◌, ◌<◌}
use mathlib.Core.Bool.{Bool, true, false, cond, not, ◌||◌}
use mathlib.Core.List.{List, [], ◌∷◌}
use mathlib.Core.Path.{◌≡◌, refl, sym, ap, ap₂, subst}
use native.Mathlib.Nat.{mul-le-mul_left, mul-add}
use native.Mathlib.Omega.{arith}
use borrow.Author.Tests.{eqb-false, eq-eqb, not-true}
use lib.Dec.{eqb}
use lib.ListN.{length}
use Rattle.theory.specs.Lists.{sum_below}
use Rattle.theory.specs.Queue.{Graph, Solver, pulled, changed, visit, initial, Course, begins, next_visit, Over, arc_count, visit_bound}
use Rattle.theory.proofs.Lists.{sum_below-same, sum_below_less, sum_below-le, sum_below-lt}
use Rattle.theory.proofs.Below.{all_below_fails, sum_below_const, sum_below_scale}
use Rattle.theory.proofs.MaskLaws.{Proper, states_held, states-pos, states-le, states-mono, states_rise}
use Rattle.theory.proofs.Enqueue.{enqueue-length, distinct-length}
use Rattle.theory.proofs.Invariant.{WellFormedGraph, Invariant, initial-keeps, visit-keeps, grew, queue, front_below, visited-at, visited-other, masks-at, masks-other, pulled_proper, waiting-next, was-visited, masks-same}

-- the states that a number holds, over all arrays
unfoldable pub held : ℕ → (ℕ → ℕ) → ℕ
held n m = sum_below n (λ a. states_held (m a))

held-le : (n : ℕ) (m : ℕ → ℕ) → held n m ≤ 3 * n
unfolding held
held-le n m =
    let h = sum_below-le n (λ a. states_held (m a)) (λ a. 3) (λ a l. states-le (m a)) in
    let k = sum_below_const n 3 in
    omega arith

held-pos : (n : ℕ) (m : ℕ → ℕ) → ((a : ℕ) → Proper (m a)) → n ≤ held n m
unfolding held
held-pos n m p =
    let h = sum_below-le n (λ a. 1) (λ a. states_held (m a)) (λ a l. states-pos (m a) (p a)) in
    let k = sum_below_const n 1 in
    omega arith

-- what a number owes
abbrev pub owes : ℕ → Bool → (ℕ → ℕ) → ℕ
owes n v m = cond v (3 * n - held n m) (1 + 2 * n)

abbrev pub share : Graph → Solver → ℕ → ℕ
share g st d = length (g.arcs d) * owes g.arrays (st.visited d) (st.masks d)

unfoldable pub potential : Graph → Solver → ℕ
potential g st = length st.waiting + sum_below g.nodes (share g st)

module _ (g : Graph) (wf : WellFormedGraph g) (st : Solver) (inv : Invariant g st) (d : ℕ) (w : List ℕ) (front : st.waiting ≡ d ∷ w) where
  abbrev next : Solver
  next = visit g st d w

  abbrev grown : Bool
  grown = grew g wf st inv d w front

  first-owes : st.visited d ≡ false → owes g.arrays true (pulled g st d) + 1 ≤ owes g.arrays (st.visited d) (st.masks d)
  first-owes v =
      subst (λ b. owes g.arrays true (pulled g st d) + 1 ≤ owes g.arrays b (st.masks d)) (sym v)
      (let h = held-pos g.arrays (pulled g st d) (pulled_proper g wf st inv d w front) in omega arith)

  changed-owes : st.visited d ≡ true → changed g st d ≡ true → owes g.arrays true (pulled g st d) + 1 ≤ owes g.arrays (st.visited d) (st.masks d)
  unfolding changed held
  changed-owes v c =
      subst (λ b. owes g.arrays true (pulled g st d) + 1 ≤ owes g.arrays b (st.masks d)) (sym v)
      (let h : held g.arrays (st.masks d) < held g.arrays (pulled g st d) = rises in
      let k = held-le g.arrays (pulled g st d) in
      omega arith)
    where
      new : (a : ℕ) → Proper (pulled g st d a)
      new = pulled_proper g wf st inv d w front

      old : (a : ℕ) → Proper (st.masks d a)
      old a = inv.visited_proper d a v

      differs : (a : ℕ) × (a < g.arrays) × (eqb (pulled g st d a) (st.masks d a) ≡ false)
      differs = all_below_fails g.arrays (λ a. eqb (pulled g st d a) (st.masks d a)) (not-true _ c)

      rises : held g.arrays (st.masks d) < held g.arrays (pulled g st d)
      rises =
          sum_below-lt g.arrays (λ a. states_held (st.masks d a)) (λ a. states_held (pulled g st d a)) differs.0 differs.1
          (λ a l. states-mono (st.masks d a) (pulled g st d a) (old a).below (new a).below (inv.visited_grows d a v))
          (states_rise (st.masks d differs.0) (pulled g st d differs.0) (old differs.0).below (new differs.0).below
          (inv.visited_grows d differs.0 v) (λ e. eqb-false _ _ differs.2 (sym e)))

  same-owes : grown ≡ false → owes g.arrays true (pulled g st d) ≤ owes g.arrays (st.visited d) (st.masks d)
  unfolding held
  same-owes b =
      subst (λ v. owes g.arrays true (pulled g st d) ≤ owes g.arrays v (st.masks d)) (sym (was-visited g wf st inv d w front b))
      (let h : held g.arrays (pulled g st d) ≡ held g.arrays (st.masks d) =
      sum_below-same g.arrays (λ a. states_held (pulled g st d a)) (λ a. states_held (st.masks d a)) (λ a l. ap states_held (masks-same g wf st inv d w front b a l)) in
      omega arith)

  -- what the front owes falls where it grew, and its successors may join the back; else neither
  front-owes : (b : Bool) → grown ≡ b → owes g.arrays true (pulled g st d) + cond b 1 0 ≤ owes g.arrays (st.visited d) (st.masks d)
  front-owes true b = go (st.visited d) refl b
    where
      go : (v : Bool) → st.visited d ≡ v → (not v || changed g st d) ≡ true → owes g.arrays true (pulled g st d) + 1 ≤ owes g.arrays (st.visited d) (st.masks d)
      go true v c = changed-owes v c
      go false v c = first-owes v
  front-owes false b = let h = same-owes b in omega arith

  back-length : (b : Bool) → length (queue g wf st inv d w front b) ≤ length w + length (g.arcs d) * cond b 1 0
  unfolding queue
  back-length true = let h = enqueue-length (g.arcs d) w in omega arith
  back-length false = omega arith

  share-at : share g next d ≡ length (g.arcs d) * owes g.arrays true (pulled g st d)
  share-at =
      ap₂ (λ v m. length (g.arcs d) * owes g.arrays v m) (visited-at g wf st inv d w front refl) (masks-at g wf st inv d w front refl)

  share_other : (p : ℕ) → (p ≡ d → ⊥) → share g st p ≡ share g next p
  share_other p n =
      sym (ap₂ (λ v m. length (g.arcs p) * owes g.arrays v m) (visited-other g wf st inv d w front n) (masks-other g wf st inv d w front n))

  sum_falls : (b : Bool) → grown ≡ b → sum_below g.nodes (share g next) + length (g.arcs d) * cond b 1 0 ≤ sum_below g.nodes (share g st)
  sum_falls b q =
      let at : share g next d + length (g.arcs d) * cond b 1 0 ≤ share g st d =
      subst (λ x. x + length (g.arcs d) * cond b 1 0 ≤ share g st d) (sym share-at) less in
      let e : sum_below g.nodes (share g st) ≡ sum_below g.nodes (share g next) + (share g st d - share g next d) =
      sum_below_less g.nodes (share g st) (share g next) d (share g st d - share g next d) (front_below g wf st inv d w front) share_other (omega arith) in
      omega arith
    where
      less : length (g.arcs d) * owes g.arrays true (pulled g st d) + length (g.arcs d) * cond b 1 0 ≤ share g st d
      less =
          subst (λ x. x ≤ share g st d) (mul-add (length (g.arcs d)) (owes g.arrays true (pulled g st d)) (cond b 1 0))
          (mul-le-mul_left (length (g.arcs d)) (front-owes b q))

  pub falls : potential g (visit g st d w) + 1 ≤ potential g st
  unfolding potential
  falls =
      let n : length next.waiting ≤ length w + length (g.arcs d) * cond grown 1 0 =
      subst (λ l. length l ≤ length w + length (g.arcs d) * cond grown 1 0) (sym (waiting-next g wf st inv d w front)) (back-length grown) in
      let m : length st.waiting ≡ suc (length w) = ap length front in
      let k : sum_below g.nodes (share g next) + length (g.arcs d) * cond grown 1 0 ≤ sum_below g.nodes (share g st) = sum_falls grown refl in
      omega arith

pub initial-potential : (g : Graph) → potential g (initial g) ≤ visit_bound g
unfolding potential initial arc_count
initial-potential g =
    let n : length (cond (eqb g.nodes 0) [] (g.entry ∷ [])) ≤ 1 = first (eqb g.nodes 0) in
    let m : sum_below g.nodes (share g (initial g)) ≡ arc_count g * (1 + 2 * g.arrays) = sum_below_scale g.nodes (λ d. length (g.arcs d)) (1 + 2 * g.arrays) in
    omega arith
  where
    first : (b : Bool) → length (cond b [] (g.entry ∷ [])) ≤ 1
    first true = omega arith
    first false = omega arith

-- The course

pub course-keeps : {g : Graph} {k : ℕ} {st : Solver} → WellFormedGraph g → Course g k st → Invariant g st
course-keeps {g} wf begins = initial-keeps g wf
course-keeps {g} wf (next_visit {d = d} {st = st} {w = w} c e) = visit-keeps g wf st (course-keeps wf c) d w e

-- the visits done and the potential left are within the bound
pub course-bound : {g : Graph} {k : ℕ} {st : Solver} → WellFormedGraph g → Course g k st → k + potential g st ≤ visit_bound g
course-bound {g} wf begins = let b = initial-potential g in omega arith
course-bound {g} wf (next_visit {d = d} {st = st} {w = w} c e) =
    let h = course-bound wf c in
    let n = falls g wf st (course-keeps wf c) d w e in
    omega arith

-- Term 1
pub over-bound : {g : Graph} {k : ℕ} {st : Solver} → WellFormedGraph g → Over g k st → k ≤ visit_bound g
over-bound wf o = let h = course-bound wf o.course in omega arith

-- with no numbers there are no visits
pub no_visits : (g : Graph) → g.nodes ≡ 0 → Over g 0 (initial g)
unfolding initial
no_visits g e = record { course = begins; nothing_waits = subst (λ b. cond b [] (g.entry ∷ []) ≡ []) (sym (eq-eqb g.nodes 0 e)) refl }

-- the numbers that wait are no more than the graph has
pub waiting-length : {g : Graph} {st : Solver} → Invariant g st → length st.waiting ≤ g.nodes
waiting-length {g} {st} inv = distinct-length g.nodes st.waiting inv.waiting_once inv.waiting_below
