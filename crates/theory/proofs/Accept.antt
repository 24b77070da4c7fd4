-- A proposed table is decided exactly: each test finds what its rule names. A row passes exactly when, at every number, the byte holds the union of what the row's edges bring there. By the edges of a number, which
-- are its node's and the key's. Assumes nothing.
use Prim.Native.Nat.{ℕ, ◌+◌, ◌<◌}
use mathlib.Core.Bool.{Bool, true, false, not, ◌&&◌, ◌||◌}
use mathlib.Core.List.Memᴰ
use mathlib.Core.List.{map}
use mathlib.Core.Logic.{⊎_elim}
use mathlib.Core.Path.{◌≡◌, refl, sym, ap, subst, ◌∙◌}
use native.Mathlib.Decide.{ℕ_discrete}
use native.Mathlib.Omega.{arith}
use borrow.Author.Tests.{eqb-true, eq-eqb, ne_eqb, not-true, not-false}
use lib.Bits.{bit_or}
use lib.Dec.{eqb}
use Rattle.masks.specs.State.{State, none, auto, dimmed, holds}
use Rattle.masks.proofs.Finite.{alike, alike→eq, every_below, at-below}
use Rattle.flow.specs.declared.Base.TheVariants.{Zero, N}
use Rattle.flow.specs.Flow.{Flow, size}
use Rattle.theory.specs.Lists.{In, any, all_below}
use Rattle.theory.specs.Key.{opaque_handler}
use Rattle.theory.specs.Clauses.WellFormed.{WellFormed}
use Rattle.theory.specs.Queue.{Arc, step_all, brings}
use Rattle.theory.specs.Doubled.{Node, Edge, at, number, node, edges, edge_effects, boundary, key_arcs, arcs_of, doubled}
use Rattle.theory.specs.Masks.{any_state}
use Rattle.theory.specs.Accept.{Proposal, Holds, Filled, Holding, Accepted, state_held, mask_held, filled, arc_held, row_held, entry_held, is_all_any, all_held, accepted}
use Rattle.theory.proofs.Lists.{clash, not_so, and_both, and-true, same_test, any_none, none_any, In-map}
use Rattle.theory.proofs.Below.{all_below-at, all_below-all, all_below_fails}
use Rattle.theory.proofs.Handler.{opaque_handler-sound, opaque_handler-complete, not-opaque-handler, handler-not-opaque}
use Rattle.theory.proofs.Pulls.{brings-In, In-brings}
use Rattle.theory.proofs.Copies.{node-below, number-node}
use Rattle.theory.proofs.Term3.{number-below, arc_in, key_arc, key-arc_in}
use Rattle.theory.proofs.Terms.{In-key_arcs, doubled_well_formed}

-- A byte and a mask

pub mask_held-sound : (byte m : ℕ) → mask_held byte m ≡ true → Holds byte m
unfolding mask_held
mask_held-sound byte m h s = go (holds m s) (holds byte s) (at s)
  where
    rest : (state_held byte m none ≡ true) × ((state_held byte m auto && state_held byte m dimmed) ≡ true)
    rest = and_both (state_held byte m none) (state_held byte m auto && state_held byte m dimmed) h

    at : (s : State) → state_held byte m s ≡ true
    at none = rest.0
    at auto = (and_both (state_held byte m auto) (state_held byte m dimmed) rest.1).0
    at dimmed = (and_both (state_held byte m auto) (state_held byte m dimmed) rest.1).1

    go : (x y : Bool) → (not x || y) ≡ true → x ≡ true → y ≡ true
    go true y e k = e
    go false y e k = clash false k refl

pub mask_held-complete : (byte m : ℕ) → Holds byte m → mask_held byte m ≡ true
unfolding mask_held
mask_held-complete byte m h =
    and-true (state_held byte m none) (state_held byte m auto && state_held byte m dimmed) (at none) (and-true (state_held byte m auto) (state_held byte m dimmed) (at auto) (at dimmed))
  where
    go : (x y : Bool) → (x ≡ true → y ≡ true) → (not x || y) ≡ true
    go true y k = k refl
    go false y k = refl

    at : (s : State) → state_held byte m s ≡ true
    at s = go (holds m s) (holds byte s) (h s)

-- the byte holds the mask exactly when the union adds nothing
pub mask_held-or : (byte m : ℕ) → byte < 8 → m < 8 → mask_held byte m ≡ eqb (bit_or byte m) byte
unfolding mask_held
mask_held-or byte m h k =
    alike→eq (mask_held byte m) (eqb (bit_or byte m) byte)
    (at-below 8 (λ m. alike (mask_held byte m) (eqb (bit_or byte m) byte))
    (at-below 8 (λ byte. every_below 8 (λ m. alike (mask_held byte m) (eqb (bit_or byte m) byte))) tt byte h) m k)

-- Rows

-- the row of a number is not all zero
abbrev pub FilledRow : Flow → Proposal → ℕ → Type 0
FilledRow f t d = (a : ℕ) × (a < f.arrays) × (t d a ≡ 0 → ⊥)

pub filled_row : (f : Flow) (t : Proposal) (d : ℕ) → filled f t d ≡ true → FilledRow f t d
unfolding filled
filled_row f t d h =
    let r = all_below_fails f.arrays (λ a. eqb (t d a) 0) (not-true (all_below f.arrays (λ a. eqb (t d a) 0)) h) in
    (r.0, r.1, λ e. clash (eqb (t d r.0) 0) (eq-eqb (t d r.0) 0 e) r.2)

pub row-filled : (f : Flow) (t : Proposal) (d : ℕ) → FilledRow f t d → filled f t d ≡ true
unfolding filled
row-filled f t d (a, l, n) =
    ap not (not_so (all_below f.arrays (λ a. eqb (t d a) 0)) (λ h. n (eqb-true (t d a) 0 (all_below-at f.arrays (λ a. eqb (t d a) 0) h a l))))

-- every edge's target holds the edge's mask
abbrev pub Leaving : Flow → Proposal → ℕ → Type 0
Leaving f t d = (e : Arc) → In e (arcs_of f d) → (a : ℕ) → a < f.arrays → Holds (t e.to a) (step_all (e.effects a) (t d a))

pub row_held-empty : (f : Flow) (t : Proposal) (d : ℕ) → filled f t d ≡ false → row_held f t d ≡ true
unfolding row_held
row_held-empty f t d e = ap (λ b. not (b && any (λ e. not (arc_held f t d e)) (arcs_of f d))) e

pub row_held-sound : (f : Flow) (t : Proposal) (d : ℕ) → filled f t d ≡ true → row_held f t d ≡ true → Leaving f t d
unfolding row_held arc_held
row_held-sound f t d e h x m a l =
    mask_held-sound (t x.to a) (step_all (x.effects a) (t d a))
    (all_below-at f.arrays (λ a. mask_held (t x.to a) (step_all (x.effects a) (t d a))) (not-false (arc_held f t d x) (any_none (λ e. not (arc_held f t d e)) none_fails m)) a l)
  where
    none_fails : any (λ e. not (arc_held f t d e)) (arcs_of f d) ≡ false
    none_fails = ap (λ b. b && any (λ e. not (arc_held f t d e)) (arcs_of f d)) (sym e) ∙ not-true (filled f t d && any (λ e. not (arc_held f t d e)) (arcs_of f d)) h

pub row_held-complete : (f : Flow) (t : Proposal) (d : ℕ) → (filled f t d ≡ true → Leaving f t d) → row_held f t d ≡ true
unfolding row_held arc_held
row_held-complete f t d h = go (filled f t d) refl
  where
    held : filled f t d ≡ true → (x : Arc) → In x (arcs_of f d) → not (arc_held f t d x) ≡ false
    held e x m =
        ap not
        (all_below-all f.arrays (λ a. mask_held (t x.to a) (step_all (x.effects a) (t d a)))
        (λ a l. mask_held-complete (t x.to a) (step_all (x.effects a) (t d a)) (h e x m a l)))

    go : (b : Bool) → filled f t d ≡ b → not (b && any (λ e. not (arc_held f t d e)) (arcs_of f d)) ≡ true
    go true e = ap not (none_any (λ e. not (arc_held f t d e)) (arcs_of f d) (held e))
    go false e = refl

-- at every number the byte holds what the row's edges bring there
pub row_held-brings : (f : Flow) (t : Proposal) (d : ℕ) → WellFormed f → filled f t d ≡ true
    → row_held f t d ≡ all_below (size f + size f) (λ x. all_below f.arrays (λ a. mask_held (t x a) (brings x a (t d a) (arcs_of f d))))
unfolding doubled
row_held-brings f t d wf e =
    same_test (row_held f t d) (all_below (size f + size f) at-number)
    (λ h. all_below-all (size f + size f) at-number (λ x k. all_below-all f.arrays (at-array x) (λ a l. there (row_held-sound f t d e h) x a l)))
    (λ h. row_held-complete f t d (λ r y m a l. back y m a l (all_below-at f.arrays (at-array y.to) (all_below-at (size f + size f) at-number h y.to ((doubled_well_formed f wf).target d y m)) a l)))
  where
    at-array : ℕ → ℕ → Bool
    at-array x a = mask_held (t x a) (brings x a (t d a) (arcs_of f d))

    at-number : ℕ → Bool
    at-number x = all_below f.arrays (at-array x)

    there : Leaving f t d → (x a : ℕ) → a < f.arrays → at-array x a ≡ true
    there h x a l =
        mask_held-complete (t x a) (brings x a (t d a) (arcs_of f d))
        (λ s k.
        let r = In-brings x a (t d a) s (arcs_of f d) k in
        subst (λ (y : ℕ). holds (t y a) s ≡ true) r.2 (h r.0 r.1 a l s r.3))

    back : (y : Arc) → In y (arcs_of f d) → (a : ℕ) → a < f.arrays → at-array y.to a ≡ true → Holds (t y.to a) (step_all (y.effects a) (t d a))
    back y m a l h s k = mask_held-sound (t y.to a) (brings y.to a (t d a) (arcs_of f d)) h s (brings-In y.to a (t d a) s m refl k)

-- by nodes

pub filled-sound : (f : Flow) (t : Proposal) (v : Node) → filled f t (number f v) ≡ true → Filled f t v
filled-sound f t v h = let r = filled_row f t (number f v) h in Filled.not_zero r.1 r.2

pub filled-complete : (f : Flow) (t : Proposal) {v : Node} → Filled f t v → filled f t (number f v) ≡ true
filled-complete f t {v} (Filled.not_zero {a = a} l n) = row-filled f t (number f v) (a, l, n)

-- The whole table

pub entry_held-sound : (f : Flow) (t : Proposal) → entry_held f t ≡ true → (a : ℕ) → a < f.arrays → Holds (t (number f (at Zero f.entry)) a) (boundary f a)
unfolding entry_held
entry_held-sound f t h a l =
    mask_held-sound (t (number f (at Zero f.entry)) a) (boundary f a) (all_below-at f.arrays (λ a. mask_held (t (number f (at Zero f.entry)) a) (boundary f a)) h a l)

pub entry_held-complete : (f : Flow) (t : Proposal) → ((a : ℕ) → a < f.arrays → Holds (t (number f (at Zero f.entry)) a) (boundary f a)) → entry_held f t ≡ true
unfolding entry_held
entry_held-complete f t h =
    all_below-all f.arrays (λ a. mask_held (t (number f (at Zero f.entry)) a) (boundary f a))
    (λ a l. mask_held-complete (t (number f (at Zero f.entry)) a) (boundary f a) (h a l))

-- what holds of every node's edges, and of the key's, holds of every number's
pub holding_leaves : (f : Flow) (t : Proposal) → Holding f t → (d : ℕ) → d < size f + size f → filled f t d ≡ true → Leaving f t d
unfolding arcs_of step_all
holding_leaves f t h d l e x m a k =
    ⊎_elim listed pressed (Memᴰ.append_cases (map arc (edges f v)) m)
  where
    v : Node
    v = node f d

    back : number f v ≡ d
    back = number-node (size f) d

    arc : Edge → Arc
    arc y = record { to = number f y.to; effects = edge_effects f v.stmt y }

    not_zero : Filled f t v
    not_zero = filled-sound f t v (ap (filled f t) back ∙ e)

    listed : In x (map arc (edges f v)) → Holds (t x.to a) (step_all (x.effects a) (t d a))
    listed n =
        let r = In-map arc (edges f v) n in
        subst (λ (y : Arc). Holds (t y.to a) (step_all (y.effects a) (t d a))) (sym r.2)
        (subst (λ (j : ℕ). Holds (t (number f r.0.to) a) (step_all (edge_effects f v.stmt r.0 a) (t j a))) back (h.edge v r.0 a (node-below (size f) d l) not_zero r.1 k))

    pressed : In x (key_arcs f) → Holds (t x.to a) (step_all (x.effects a) (t d a))
    pressed n =
        let r = In-key_arcs f n in
        subst (λ (y : Arc). Holds (t y.to a) (step_all (y.effects a) (t d a))) (sym r.2)
        (subst (λ (j : ℕ). Holds (t (number f (at N r.0)) a) (t j a)) back (h.key v r.0 a (node-below (size f) d l) not_zero r.1 k))

pub all_held-sound : (f : Flow) (t : Proposal) → all_held f t ≡ true → Holding f t
unfolding all_held doubled step_all
all_held-sound f t h = record {
  entry = entry_held-sound f t both.0;
  edge = λ v x a l n m k. leaves v l n (record { to = number f x.to; effects = edge_effects f v.stmt x }) (arc_in f v l m) a k;
  key = λ v h a l n e k. leaves v l n (key_arc f h) (key-arc_in f (number f v) e) a k;
}
  where
    both : (entry_held f t ≡ true) × (all_below (size f + size f) (row_held f t) ≡ true)
    both = and_both (entry_held f t) (all_below (size f + size f) (row_held f t)) h

    leaves : (v : Node) → v.stmt < size f → Filled f t v → Leaving f t (number f v)
    leaves v l n = row_held-sound f t (number f v) (filled-complete f t n) (all_below-at (size f + size f) (row_held f t) both.1 (number f v) (number-below f v l))

pub all_held-complete : (f : Flow) (t : Proposal) → Holding f t → all_held f t ≡ true
unfolding all_held
all_held-complete f t h =
    and-true (entry_held f t) (all_below (size f + size f) (row_held f t)) (entry_held-complete f t h.entry)
    (all_below-all (size f + size f) (row_held f t) (λ d l. row_held-complete f t d (holding_leaves f t h d l)))

-- every byte is 7
abbrev pub AllAny : Flow → Proposal → Type 0
AllAny f t = (v : Node) (a : ℕ) → v.stmt < size f → a < f.arrays → t (number f v) a ≡ any_state

-- of every node, so of every number
pub any_numbers : (f : Flow) (t : Proposal) → AllAny f t → (d a : ℕ) → d < size f + size f → a < f.arrays → t d a ≡ any_state
any_numbers f t h d a l k = subst (λ (j : ℕ). t j a ≡ any_state) (number-node (size f) d) (h (node f d) a (node-below (size f) d l) k)

pub is_all_any-sound : (f : Flow) (t : Proposal) → is_all_any f t ≡ true → AllAny f t
unfolding is_all_any
is_all_any-sound f t h v a l k =
    eqb-true (t (number f v) a) any_state
    (all_below-at f.arrays (λ a. eqb (t (number f v) a) any_state)
    (all_below-at (size f + size f) (λ d. all_below f.arrays (λ a. eqb (t d a) any_state)) h (number f v) (number-below f v l)) a k)

pub is_all_any-complete : (f : Flow) (t : Proposal) → AllAny f t → is_all_any f t ≡ true
unfolding is_all_any
is_all_any-complete f t h =
    all_below-all (size f + size f) (λ d. all_below f.arrays (λ a. eqb (t d a) any_state))
    (λ d l. all_below-all f.arrays (λ a. eqb (t d a) any_state) (λ a k. eq-eqb (t d a) any_state (any_numbers f t h d a l k)))

-- The three cases

module _ (f : Flow) (t : Proposal) where
  pub accepted-none : size f ≡ 0 → accepted f t ≡ true
  unfolding accepted
  accepted-none e = rw (eq-eqb (size f) 0 e)

  pub accepted-any : 0 < size f → opaque_handler f ≡ true → accepted f t ≡ is_all_any f t
  unfolding accepted
  accepted-any h q = rw (ne_eqb (size f) 0 (λ e. omega arith), q)

  pub accepted-held : 0 < size f → opaque_handler f ≡ false → accepted f t ≡ all_held f t
  unfolding accepted
  accepted-held h q = rw (ne_eqb (size f) 0 (λ e. omega arith), q)

module _ {f : Flow} {t : Proposal} (wf : WellFormed f) where
  pub accepted-sound : accepted f t ≡ true → Accepted f t
  accepted-sound h = go (ℕ_discrete (size f) 0) (opaque_handler f) refl
    where
      go : Dec (size f ≡ 0) → (b : Bool) → opaque_handler f ≡ b → Accepted f t
      go (yes e) b q = Accepted.no_statements e
      go (no n) true q = Accepted.all_any (opaque_handler-sound f q) (is_all_any-sound f t (sym (accepted-any f t (omega (arith, n)) q) ∙ h))
      go (no n) false q = let some : 0 < size f = omega (arith, n) in Accepted.holding some (handler-not-opaque wf q) (all_held-sound f t (sym (accepted-held f t some q) ∙ h))

  pub accepted-complete : Accepted f t → accepted f t ≡ true
  accepted-complete (Accepted.no_statements e) = accepted-none f t e
  accepted-complete (Accepted.all_any o h) = go (ℕ_discrete (size f) 0)
    where
      go : Dec (size f ≡ 0) → accepted f t ≡ true
      go (yes e) = accepted-none f t e
      go (no n) = accepted-any f t (omega (arith, n)) (opaque_handler-complete wf o) ∙ is_all_any-complete f t h
  accepted-complete (Accepted.holding some clear h) = accepted-held f t some (not-opaque-handler f clear) ∙ all_held-complete f t h
