-- Pushing gives what pulling defines: what a visit of a number would bring grows, at each visit of d, by what d's edges bring of its new masks and by
-- nothing else. So a solver may keep a union for each number and add to it. Steps are monotone and masks only grow. Assumes nothing.
use Prim.Native.Nat.{ℕ, zero, suc, ◌<◌}
use mathlib.Core.Bool.{Bool, true, false, cond, not, ◌||◌}
use mathlib.Core.List.{List, ◌∷◌}
use mathlib.Core.Logic.{⊎_elim}
use mathlib.Core.Path.{◌≡◌, refl, sym, ap, subst, ◌∙◌}
use borrow.Author.Tests.{eqb-true, eq-eqb, not-false}
use lib.Bits.{bit_or, or_lt, or_zero_r}
use lib.Dec.{eqb}
use Rattle.masks.specs.State.{State, holds}
use Rattle.theory.specs.Lists.{differ}
use Rattle.theory.specs.Queue.{Graph, Solver, step_all, brings, union_below, pulled, changed, visit, initial}
use Rattle.theory.proofs.Lists.{clash}
use Rattle.theory.proofs.Below.{all_below-at, all_below-all}
use Rattle.theory.proofs.MaskLaws.{Within, or-held, or-holds-left, or-holds-right, zero-holds, within-eq}
use Rattle.theory.proofs.Pulls.{Pulls, arc, Pulls-holds, holds-Pulls, pulled-lt, In-brings, brings-lt, brings-In}
use Rattle.theory.proofs.Invariant.{WellFormedGraph, Invariant, grew, front_below, visited-at, masks-at, masks-other, pulled_proper, pulls_grow, pulls_cases, proper_kept, was-visited, masks-same}
use Rattle.theory.proofs.Exact.{masks_below}

empty_union : (k : ℕ) → union_below k (λ p. 0) ≡ 0
unfolding union_below
empty_union zero = refl
empty_union (suc k) = ap (λ m. bit_or m 0) (empty_union k)

-- at the start only the entry has anything
pub pulled-first : (g : Graph) (t a : ℕ) → pulled g (initial g) t a ≡ cond (eqb t g.entry) (g.boundary a) 0
unfolding pulled initial
pulled-first g t a =
    ap (bit_or (cond (eqb t g.entry) (g.boundary a) 0)) (empty_union g.nodes) ∙ or_zero_r (cond (eqb t g.entry) (g.boundary a) 0)

pub alike : (n : ℕ) (x y : ℕ → ℕ) → differ n x y ≡ false → (a : ℕ) → a < n → x a ≡ y a
alike n x y h a l = eqb-true (x a) (y a) (all_below-at n (λ a. eqb (x a) (y a)) (not-false _ h) a l)

pub no_differ : (n : ℕ) (x y : ℕ → ℕ) → ((a : ℕ) → a < n → x a ≡ y a) → differ n x y ≡ false
no_differ n x y h = ap not (all_below-all n (λ a. eqb (x a) (y a)) (λ a l. eq-eqb (x a) (y a) (h a l)))

-- of three, where the one between is alike wherever the outer two are, the outer two differ where two neighbours do
pub differ_chain : (n : ℕ) (x y z : ℕ → ℕ) → ((a : ℕ) → a < n → z a ≡ x a → y a ≡ x a) → differ n z x ≡ (differ n y x || differ n z y)
differ_chain n x y z between = go (differ n z x) refl (differ n y x) refl (differ n z y) refl
  where
    go : (o : Bool) → differ n z x ≡ o → (b : Bool) → differ n y x ≡ b → (c : Bool) → differ n z y ≡ c → o ≡ (b || c)
    go true e true f c g = refl
    go true e false f true g = refl
    go true e false f false g = clash (differ n z x) e (no_differ n z x (λ a l. alike n z y g a l ∙ alike n y x f a l))
    go false e true f c g = clash (differ n y x) f (no_differ n y x (λ a l. between a l (alike n z x e a l)))
    go false e false f true g = clash (differ n z y) g (no_differ n z y (λ a l. alike n z x e a l ∙ sym (between a l (alike n z x e a l))))
    go false e false f false g = refl

module _ (g : Graph) (wf : WellFormedGraph g) (st : Solver) (inv : Invariant g st) (d : ℕ) (w : List ℕ) (front : st.waiting ≡ d ∷ w) where
  abbrev next : Solver
  next = visit g st d w

  before-lt : (t a : ℕ) → pulled g st t a < 8
  before-lt t a = pulled-lt g st a t (wf.boundary a).below (λ p v. inv.visited_proper p a v)

  after-lt : (t a : ℕ) → pulled g next t a < 8
  after-lt t a = pulled-lt g next a t (wf.boundary a).below (λ p v. proper_kept g wf st inv d w front p a v)

  -- the visit adds what d's edges bring of its new masks
  pub pulled-next : (t a : ℕ) → pulled g (visit g st d w) t a ≡ bit_or (pulled g st t a) (brings t a (pulled g st d a) (g.arcs d))
  pulled-next t a =
      within-eq (pulled g next t a) (bit_or old new) (after-lt t a)
      (or_lt 3 old new (before-lt t a) (brings-lt t a (pulled g st d a) (g.arcs d) (pulled_proper g wf st inv d w front a).below)) added kept
    where
      old : ℕ
      old = pulled g st t a

      new : ℕ
      new = brings t a (pulled g st d a) (g.arcs d)

      added : Within (pulled g next t a) (bit_or old new)
      added s h =
          pulls_cases g wf st inv d w front (holds-Pulls g next a t s h)
          (λ x. or-holds-left old new s (Pulls-holds g st a t s x))
          (λ e m q k. or-holds-right old new s (brings-In t a (pulled g st d a) s m q k))

      own : (s : State) → holds new s ≡ true → Pulls g next a t s
      own s h =
          let r = In-brings t a (pulled g st d a) s (g.arcs d) h in
          arc (front_below g wf st inv d w front) (visited-at g wf st inv d w front refl) r.1 r.2
          (subst (λ (x : ℕ → ℕ). holds (step_all (r.0.effects a) (x a)) s ≡ true) (sym (masks-at g wf st inv d w front refl)) r.3)

      kept : Within (bit_or old new) (pulled g next t a)
      kept s h =
          ⊎_elim (λ k. Pulls-holds g next a t s (pulls_grow g wf st inv d w front (holds-Pulls g st a t s k))) (λ k. Pulls-holds g next a t s (own s k))
          (or-held old new s h)

  -- a visit at which nothing grew adds nothing
  pub pulled-same : grew g wf st inv d w front ≡ false → (t a : ℕ) → a < g.arrays → pulled g (visit g st d w) t a ≡ pulled g st t a
  pulled-same b t a l = within-eq (pulled g next t a) (pulled g st t a) (after-lt t a) (before-lt t a) back forth
    where
      back : Within (pulled g next t a) (pulled g st t a)
      back s h =
          pulls_cases g wf st inv d w front (holds-Pulls g next a t s h) (λ x. Pulls-holds g st a t s x)
          (λ e m q k. Pulls-holds g st a t s (arc (front_below g wf st inv d w front) (was-visited g wf st inv d w front b) m q
          (subst (λ (x : ℕ). holds (step_all (e.effects a) x) s ≡ true) (masks-same g wf st inv d w front b a l) k)))

      forth : Within (pulled g st t a) (pulled g next t a)
      forth s h = Pulls-holds g next a t s (pulls_grow g wf st inv d w front (holds-Pulls g st a t s h))

  -- Whether a number's masks would change: it is so of d where the visit added to d itself, and of the others once anything was added

  pub changed-front : changed g (visit g st d w) d ≡ differ g.arrays (pulled g (visit g st d w) d) (pulled g st d)
  unfolding changed
  changed-front = ap (λ m. differ g.arrays (pulled g next d) m) (masks-at g wf st inv d w front refl)

  pub changed-other : (t : ℕ) → (t ≡ d → ⊥)
      → changed g (visit g st d w) t ≡ (changed g st t || differ g.arrays (pulled g (visit g st d w) t) (pulled g st t))
  unfolding changed
  changed-other t n =
      ap (λ m. differ g.arrays (pulled g next t) m) (masks-other g wf st inv d w front n)
      ∙ differ_chain g.arrays (st.masks t) (pulled g st t) (pulled g next t)
      (λ a l e. within-eq (pulled g st t a) (st.masks t a) (before-lt t a) (masks_below g st inv t a) (λ s h. subst (λ (m : ℕ). holds m s ≡ true) e (grows a s h)) (held a))
    where
      grows : (a : ℕ) → Within (pulled g st t a) (pulled g next t a)
      grows a s h = Pulls-holds g next a t s (pulls_grow g wf st inv d w front (holds-Pulls g st a t s h))

      held : (a : ℕ) → Within (st.masks t a) (pulled g st t a)
      held a s h = go (st.visited t) refl
        where
          go : (v : Bool) → st.visited t ≡ v → holds (pulled g st t a) s ≡ true
          go true v = inv.visited_grows t a v s h
          go false v = zero-holds s (subst (λ (m : ℕ). holds m s ≡ true) (inv.unvisited_empty t a v) h)
