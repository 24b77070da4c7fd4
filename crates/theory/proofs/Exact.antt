-- Term 2 over any graph: once nothing waits, a state is held exactly when a walk brings it there. That every held state is brought is a field of the
-- invariant; that every brought state is held goes by induction on the walk, since each number on it is settled. Assumes nothing.
use Prim.Native.Nat.{ℕ, ◌<◌}
use mathlib.Core.Bool.{Bool, true, false}
use mathlib.Core.List.Memᴰ
use mathlib.Core.List.{[]}
use mathlib.Core.Path.{◌≡◌, refl, sym, subst}
use lib.Dec.{lit<}
use Rattle.masks.specs.State.{State, holds}
use Rattle.theory.specs.Lists.{In}
use Rattle.theory.specs.Queue.{Arc, Graph, Solver, step_all, pulled, Over}
use Rattle.theory.specs.Walks.{Turns, Brings, empty, along}
use Rattle.theory.proofs.MaskLaws.{Within, within-eq, zero-holds, some-held, all_carries}
use Rattle.theory.proofs.Pulls.{Pulls, boundary, arc, Pulls-holds, holds-Pulls, pulled-lt}
use Rattle.theory.proofs.Invariant.{WellFormedGraph, Invariant, Due, entry, after, Settled, waits, done}
use Rattle.theory.proofs.Ends.{course-keeps}

module _ (g : Graph) (st : Solver) (inv : Invariant g st) where
  pub masks_below : (d a : ℕ) → st.masks d a < 8
  masks_below d a = go (st.visited d) refl
    where
      go : (v : Bool) → st.visited d ≡ v → st.masks d a < 8
      go true v = (inv.visited_proper d a v).below
      go false v = subst (λ (m : ℕ). m < 8) (sym (inv.unvisited_empty d a v)) (lit< tt)

  -- a number to which no walk brings a state has the empty mask
  pub unreached : (d a : ℕ) → ((s : State) → Brings g a d s → ⊥) → st.masks d a ≡ 0
  unreached d a h = go (st.visited d) refl
    where
      go : (v : Bool) → st.visited d ≡ v → st.masks d a ≡ 0
      go true v =
          let r = some-held (st.masks d a) (inv.visited_proper d a v) in
          absurd (h r.0 (inv.held_brought d a r.0 r.1))
      go false v = inv.unvisited_empty d a v

  module _ (still : st.waiting ≡ []) (some : 0 < g.nodes) where
    -- what is due was visited, and holds what a visit would bring
    settled-holds : (d : ℕ) → Due g st d → (st.visited d ≡ true) × ((a : ℕ) → a < g.arrays → Within (pulled g st d a) (st.masks d a))
    settled-holds d x = go (inv.due_settled some d x)
      where
        go : Settled g st d → (st.visited d ≡ true) × ((a : ℕ) → a < g.arrays → Within (pulled g st d a) (st.masks d a))
        go (waits m) = absurd (Memᴰ.not-nil (subst (λ l. In d l) still m))
        go (done v f) = (v, f)

    -- a number's masks are what a visit would bring
    pub pulled-held : WellFormedGraph g → (d a : ℕ) → a < g.arrays → pulled g st d a ≡ st.masks d a
    pulled-held wf d a l =
        within-eq (pulled g st d a) (st.masks d a) (pulled-lt g st a d (wf.boundary a).below (λ p v. inv.visited_proper p a v)) (masks_below d a) brought held
      where
        due : {s : State} → Pulls g st a d s → Due g st d
        due (boundary e h) = entry e
        due (arc n v m q h) = after v m q

        brought : Within (pulled g st d a) (st.masks d a)
        brought s h = (settled-holds d (due (holds-Pulls g st a d s h))).1 a l s h

        held : Within (st.masks d a) (pulled g st d a)
        held s h = go (st.visited d) refl
          where
            go : (v : Bool) → st.visited d ≡ v → holds (pulled g st d a) s ≡ true
            go true v = inv.visited_grows d a v s h
            go false v = zero-holds s (subst (λ (m : ℕ). holds m s ≡ true) (inv.unvisited_empty d a v) h)

    -- the entry holds the boundary
    entry-held : (st.visited g.entry ≡ true) × ((a : ℕ) → a < g.arrays → Within (g.boundary a) (st.masks g.entry a))
    entry-held =
        let r = settled-holds g.entry (entry refl) in
        (r.0, λ a l s h. r.1 a l s (Pulls-holds g st a g.entry s (boundary refl h)))

    -- and where an edge goes, its mask is held
    edge-held : {p : ℕ} {e : Arc} → st.visited p ≡ true → In e (g.arcs p)
        → (st.visited e.to ≡ true) × ((a : ℕ) → a < g.arrays → Within (step_all (e.effects a) (st.masks p a)) (st.masks e.to a))
    edge-held {p} {e} v m =
        let r = settled-holds e.to (after v m refl) in
        (r.0, λ a l s h. r.1 a l s (Pulls-holds g st a e.to s (arc (inv.visited_below p v) v m refl h)))

    -- a number with a mask that is not empty was visited
    filled-edge-held : {p b : ℕ} {e : Arc} → (st.masks p b ≡ 0 → ⊥) → In e (g.arcs p) → (a : ℕ) → a < g.arrays → Within (step_all (e.effects a) (st.masks p a)) (st.masks e.to a)
    filled-edge-held {p} {b} {e} n m = go (st.visited p) refl
      where
        go : (v : Bool) → st.visited p ≡ v → (a : ℕ) → a < g.arrays → Within (step_all (e.effects a) (st.masks p a)) (st.masks e.to a)
        go true v = (edge-held v m).1
        go false v = absurd (n (inv.unvisited_empty p b v))

    pub brought-held : {a d : ℕ} {s : State} → a < g.arrays → Brings g a d s → (st.visited d ≡ true) × (holds (st.masks d a) s ≡ true)
    brought-held {a} {d} {s} l (empty h) = (entry-held.0, entry-held.1 a l s h)
    brought-held {a} l (along {d = p} {s = s} {t = t} {e = e} b m x) = go (brought-held l b)
      where
        go : (st.visited p ≡ true) × (holds (st.masks p a) s ≡ true) → (st.visited e.to ≡ true) × (holds (st.masks e.to a) t ≡ true)
        go c =
            let r = edge-held c.0 m in
            (r.0, r.1 a l t (all_carries (st.masks p a) (inv.visited_proper p a c.0).below c.1 x))

-- Term 2

module _ (g : Graph) (wf : WellFormedGraph g) {k : ℕ} {st : Solver} (over : Over g k st) where
  pub over_below : (d a : ℕ) → st.masks d a < 8
  over_below = masks_below g st (course-keeps wf over.course)

  pub over-unreached : (d a : ℕ) → ((s : State) → Brings g a d s → ⊥) → st.masks d a ≡ 0
  over-unreached = unreached g st (course-keeps wf over.course)

  -- nothing more than walks bring
  pub over-brought : (d a : ℕ) (s : State) → holds (st.masks d a) s ≡ true → Brings g a d s
  over-brought = (course-keeps wf over.course).held_brought

  -- and all that they bring
  pub over-holds : 0 < g.nodes → {a d : ℕ} {s : State} → a < g.arrays → Brings g a d s → holds (st.masks d a) s ≡ true
  over-holds some l b = (brought-held g st (course-keeps wf over.course) over.nothing_waits some l b).1

  -- the masks are closed under the edges
  pub over_closed : {a d : ℕ} {s t : State} {e : Arc} → 0 < g.nodes → a < g.arrays → holds (st.masks d a) s ≡ true → In e (g.arcs d)
      → Turns (e.effects a) s t → holds (st.masks e.to a) t ≡ true
  over_closed {a} {d} {s} some l h m x = over-holds some l (along (over-brought d a s h) m x)

  -- the entry holds the boundary, and where an edge leaves a number with a mask that is not empty, its target holds the edge's mask
  pub over-entry : 0 < g.nodes → (a : ℕ) → a < g.arrays → Within (g.boundary a) (st.masks g.entry a)
  over-entry some = (entry-held g st (course-keeps wf over.course) over.nothing_waits some).1

  pub over-edge : {d b : ℕ} {e : Arc} → 0 < g.nodes → (st.masks d b ≡ 0 → ⊥) → In e (g.arcs d) → (a : ℕ) → a < g.arrays → Within (step_all (e.effects a) (st.masks d a)) (st.masks e.to a)
  over-edge some = filled-edge-held g st (course-keeps wf over.course) over.nothing_waits some
