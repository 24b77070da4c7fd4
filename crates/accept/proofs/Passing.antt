-- The pass over the edges says whether a table is held: a number's masks go along its edges and every number is settled still exactly when each target holds what the edges bring. While all are settled the masks are those of the
-- table; once one is not, it stays so, and the table is not held.
use Prim.Native.Nat.{ℕ, ◌+◌, ◌*◌, ◌≤◌, ◌<◌}
use mathlib.Core.Bool.{Bool, true, false, cond, not, ◌&&◌}
use mathlib.Core.List.{List}
use mathlib.Core.Path.{◌≡◌, refl, sym, ap, ap₂, ◌∙◌}
use native.Mathlib.Decide.{dec_lt}
use native.Mathlib.Numerals.{add-one}
use native.Mathlib.Omega.{arith}
use borrow.Author.Tests.{eq-eqb, eqb-true, le-ltb}
use lib.Bits.{bit_or}
use lib.Dec.{eqb}
use Rattle.flow.specs.Flow.{Flow, size}
use Rattle.theory.specs.Lists.{all_below, differ}
use Rattle.theory.specs.Doubled.{arcs_of, doubled}
use Rattle.theory.specs.Queue.{brings, enqueue}
use Rattle.theory.specs.Accept.{Proposal, mask_held, filled, row_held, entry_held}
use Rattle.theory.specs.Clauses.WellFormed.{WellFormed}
use Rattle.theory.proofs.Lists.{clash, same_test}
use Rattle.theory.proofs.Below.{all_below-at, all_below-all}
use Rattle.theory.proofs.Push.{alike}
use Rattle.theory.proofs.Accept.{mask_held-or, row_held-empty, row_held-brings}
use Rattle.theory.proofs.Pulls.{brings-lt}
use Rattle.solve.specs.declared.Queue.{Queue}
use Rattle.solve.specs.Clauses.Layout.{settled_in}
use Rattle.solve.specs.Clauses.Pushed.{masks_at}
use Rattle.dataflow.specs.Clauses.Sent.{masks_below, SettledSet, Sends}
use Rattle.dataflow.proofs.Visiting.{below_at}
use Rattle.accept.specs.Clauses.Table.{Bytes, all_settled, Passing}

-- a test that passes from n on
pub below_cut : (m n : ℕ) (p q : ℕ → Bool) → n ≤ m → ((a : ℕ) → a < n → p a ≡ q a) → ((a : ℕ) → n ≤ a → a < m → p a ≡ true) → all_below m p ≡ all_below n q
below_cut m n p q l same past =
    same_test (all_below m p) (all_below n q) (λ h. all_below-all n q (λ a b. sym (same a b) ∙ all_below-at m p h a (omega arith)))
    (λ h. all_below-all m p (λ a b. go h a b (dec_lt a n)))
  where
    go : all_below n q ≡ true → (a : ℕ) → a < m → Dec (a < n) → p a ≡ true
    go h a b (yes c) = same a c ∙ all_below-at n q h a c
    go h a b (no c) = past a (omega (arith, c)) b

pub below_past : (count : ℕ) (m : ℕ → ℕ) {a : ℕ} → count ≤ a → masks_below count m a ≡ 0
unfolding masks_below
below_past count m {a} l = rw (le-ltb a count l)

-- a settled number and what is joined to its masks
module _ (n w count x : ℕ) (ws vs : List ℕ) (t m : ℕ → ℕ) (wide : count ≤ 64 * w) (bytes : (a : ℕ) → a < count → t a < 8) (small : (a : ℕ) → a < count → m a < 8)
    (before : (a : ℕ) → a < 64 * w → masks_at ws n w x a ≡ masks_below count t a)
    (after : (a : ℕ) → a < 64 * w → masks_at vs n w x a ≡ bit_or (masks_at ws n w x a) (masks_below count m a))
    (was : settled_in ws n w x ≡ 1)
    (now : settled_in vs n w x ≡ cond (differ (64 * w) (masks_at vs n w x) (masks_at ws n w x)) 0 (settled_in ws n w x)) where
  alike_at : ℕ → Bool
  alike_at a = eqb (masks_at vs n w x a) (masks_at ws n w x a)

  held_at : (a : ℕ) → a < count → alike_at a ≡ mask_held (t a) (m a)
  unfolding alike_at
  held_at a l =
      let own : masks_at ws n w x a ≡ t a = before a (omega arith) ∙ below_at count t l in
      let joined : masks_at vs n w x a ≡ bit_or (t a) (m a) = after a (omega arith) ∙ ap₂ bit_or own (below_at count m l) in
      ap₂ eqb joined own ∙ sym (mask_held-or (t a) (m a) (bytes a l) (small a l))

  held_past : (a : ℕ) → count ≤ a → a < 64 * w → alike_at a ≡ true
  unfolding alike_at
  held_past a l b =
      let own : masks_at ws n w x a ≡ 0 = before a b ∙ below_past count t l in
      eq-eqb (masks_at vs n w x a) (masks_at ws n w x a) (after a b ∙ ap₂ bit_or own (below_past count m l) ∙ sym own)

  -- it is settled still exactly when it held that
  pub settled-still : eqb (settled_in vs n w x) 1 ≡ all_below count (λ a. mask_held (t a) (m a))
  unfolding alike_at
  settled-still =
      ap (λ (y : ℕ). eqb y 1) (now ∙ ap (cond (differ (64 * w) (masks_at vs n w x) (masks_at ws n w x)) 0) was)
      ∙ go (all_below (64 * w) alike_at) ∙ below_cut (64 * w) count alike_at (λ a. mask_held (t a) (m a)) wide held_at held_past
    where
      go : (b : Bool) → eqb (cond (not b) 0 1) 1 ≡ b
      go true = refl
      go false = refl

-- a number that is settled was so before, and its masks are as they were
module _ (n w : ℕ) (ws vs : List ℕ) (settled : SettledSet n w ws vs) (x : ℕ) (below : x < 2 * n) (is : settled_in vs n w x ≡ 1) where
  grew-not : (b : Bool) → differ (64 * w) (masks_at vs n w x) (masks_at ws n w x) ≡ b → differ (64 * w) (masks_at vs n w x) (masks_at ws n w x) ≡ false
  grew-not true e =
      let zero : settled_in vs n w x ≡ 0 = settled x below ∙ ap (λ (b : Bool). cond b 0 (settled_in ws n w x)) e in
      absurd (omega (arith, zero))
  grew-not false e = e

  still : differ (64 * w) (masks_at vs n w x) (masks_at ws n w x) ≡ false
  still = grew-not (differ (64 * w) (masks_at vs n w x) (masks_at ws n w x)) refl

  settled_before : settled_in ws n w x ≡ 1
  settled_before = sym (settled x below ∙ ap (λ (b : Bool). cond b 0 (settled_in ws n w x)) still) ∙ is

  masks-before : (a : ℕ) → a < 64 * w → masks_at vs n w x a ≡ masks_at ws n w x a
  masks-before = alike (64 * w) (masks_at vs n w x) (masks_at ws n w x) still

module _ (n w : ℕ) (ws : List ℕ) where
  pub all_settled_lem : all_settled ws n w ≡ true → (x : ℕ) → x < 2 * n → settled_in ws n w x ≡ 1
  unfolding all_settled
  all_settled_lem h x l = eqb-true (settled_in ws n w x) 1 (all_below-at (2 * n) (λ d. eqb (settled_in ws n w d) 1) h x l)

  pub settled-all : ((x : ℕ) → x < 2 * n → settled_in ws n w x ≡ 1) → all_settled ws n w ≡ true
  unfolding all_settled
  settled-all h = all_below-all (2 * n) (λ d. eqb (settled_in ws n w d) 1) (λ x l. eq-eqb (settled_in ws n w x) 1 (h x l))

-- What is joined to every number's masks: `m x` to those of x
module _ (n w count : ℕ) (ws vs : List ℕ) (t m : ℕ → ℕ → ℕ) (wide : count ≤ 64 * w) (bytes : (x a : ℕ) → x < 2 * n → a < count → t x a < 8) (small : (x a : ℕ) → x < 2 * n → a < count → m x a < 8)
    (settled : SettledSet n w ws vs) where
  -- where all were settled, and had the masks of the table, they are settled still exactly when each held what was joined to it
  pub joined-told : all_settled ws n w ≡ true → ((x a : ℕ) → x < 2 * n → a < 64 * w → masks_at ws n w x a ≡ masks_below count (t x) a)
      → ((x a : ℕ) → x < 2 * n → a < 64 * w → masks_at vs n w x a ≡ bit_or (masks_at ws n w x a) (masks_below count (m x) a))
      → all_settled vs n w ≡ all_below (2 * n) (λ x. all_below count (λ a. mask_held (t x a) (m x a)))
  unfolding all_settled
  joined-told all before after =
      below_cut (2 * n) (2 * n) (λ x. eqb (settled_in vs n w x) 1) (λ x. all_below count (λ a. mask_held (t x a) (m x a))) (omega arith)
      (λ x l. settled-still n w count x ws vs (t x) (m x) wide (λ a. bytes x a l) (λ a. small x a l) (λ a. before x a l) (λ a. after x a l) (all_settled_lem n w ws all x l) (settled x l))
      (λ x l b. absurd (omega arith))

module _ (n w : ℕ) (ws vs : List ℕ) (settled : SettledSet n w ws vs) (all : all_settled vs n w ≡ true) where
  pub all-before : all_settled ws n w ≡ true
  all-before = settled-all n w ws (λ x l. settled_before n w ws vs settled x l (all_settled_lem n w vs all x l))

  pub same-before : (x a : ℕ) → x < 2 * n → a < 64 * w → masks_at vs n w x a ≡ masks_at ws n w x a
  same-before x a l = masks-before n w ws vs settled x l (all_settled_lem n w vs all x l) a

-- One number more has sent what it holds

next-told : (e p r s : Bool) (k : ℕ) → s ≡ (e && p) → (s && r) ≡ (e && (p && r))
next-told true p r s k h = ap (λ b. b && r) h
next-told false p r s k h = ap (λ b. b && r) h

module _ (f : Flow) (t : Proposal) (ws : List ℕ) (n w : ℕ) (queue : Queue) (d : ℕ) (wf : WellFormed f) (sized : size f ≡ n) (wide : f.arrays ≤ 64 * w) (bytes : Bytes f t) (low : d < 2 * n)
    (p : Passing f t ws n w queue d) where
  -- the row is all zero, or not, as that of the table
  row_told : all_settled ws n w ≡ true → not (all_below (64 * w) (λ a. eqb (masks_at ws n w d a) 0)) ≡ filled f t d
  unfolding filled
  row_told all =
      ap not
      (below_cut (64 * w) f.arrays (λ a. eqb (masks_at ws n w d a) 0) (λ a. eqb (t d a) 0) wide
      (λ a l. ap (λ (y : ℕ). eqb y 0) (p.same all d a low (omega arith) ∙ below_at f.arrays (t d) l))
      (λ a l b. eq-eqb (masks_at ws n w d a) 0 (p.same all d a low b ∙ below_past f.arrays (t d) l)))

  told-on : (vs : List ℕ) → all_settled vs n w ≡ (all_settled ws n w && row_held f t d) → all_settled vs n w ≡ (entry_held f t && all_below (d + 1) (row_held f t))
  unfolding all_below
  told-on vs e = rw add-one (e ∙ next-told (entry_held f t) (all_below d (row_held f t)) (row_held f t d) (all_settled ws n w) d p.told)

  -- a row that is all zero is not looked at
  pub passed_by : not (all_below (64 * w) (λ a. eqb (masks_at ws n w d a) 0)) ≡ false → Passing f t ws n w queue (d + 1)
  passed_by empty = record {
    waiting = p.waiting;
    waits = p.waits;
    shared = p.shared;
    told = told-on ws (go (all_settled ws n w) refl);
    same = p.same;
  }
    where
      go : (b : Bool) → all_settled ws n w ≡ b → all_settled ws n w ≡ (all_settled ws n w && row_held f t d)
      go true e = rw e (sym (row_held-empty f t d (sym (row_told e) ∙ empty)))
      go false e = rw e refl

  module _ (vs : List ℕ) (r : Queue) (sends : Sends f ws vs n w queue d ((doubled f).arcs d) r) (some : not (all_below (64 * w) (λ a. eqb (masks_at ws n w d a) 0)) ≡ true) where
    -- what the edges bring to x
    brought : ℕ → ℕ → ℕ
    brought x a = brings x a (t d a) ((doubled f).arcs d)

    twice : size f + size f ≡ 2 * n
    twice = omega (arith, sized)

    byte : (x a : ℕ) → x < 2 * n → a < f.arrays → t x a < 8
    byte x a l = bytes x a (omega (arith, twice))

    row-held : all_settled ws n w ≡ true → row_held f t d ≡ all_below (2 * n) (λ x. all_below f.arrays (λ a. mask_held (t x a) (brought x a)))
    unfolding brought doubled
    row-held all =
        row_held-brings f t d wf (sym (row_told all) ∙ some)
        ∙ ap (λ (k : ℕ). all_below k (λ x. all_below f.arrays (λ a. mask_held (t x a) (brings x a (t d a) (arcs_of f d))))) twice

    sent-told : (b : Bool) → all_settled ws n w ≡ b → all_settled vs n w ≡ (b && row_held f t d)
    unfolding brought
    sent-told true e =
        joined-told n w f.arrays ws vs t brought wide byte (λ x a l b. brings-lt x a (t d a) ((doubled f).arcs d) (byte d a low b)) sends.settled e (p.same e)
        (λ x a l b. sends.masks (t d) (λ c m. p.same e d c low m) x a l b)
        ∙ sym (row-held e)
    sent-told false e = go (all_settled vs n w) refl
      where
        go : (b : Bool) → all_settled vs n w ≡ b → all_settled vs n w ≡ false
        go true h = clash (all_settled ws n w) (all-before n w ws vs sends.settled h) e
        go false h = h

    pub passed_on : Passing f t vs n w r (d + 1)
    passed_on = record {
      waiting = enqueue ((doubled f).arcs d) p.waiting;
      waits = sends.waits p.waiting p.waits;
      shared = sends.shared;
      told = told-on vs (sent-told (all_settled ws n w) refl);
      same = λ all x a l b. same-before n w ws vs sends.settled all x a l b ∙ p.same (all-before n w ws vs sends.settled all) x a l b;
    }
