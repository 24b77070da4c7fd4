-- The table is loaded, and the boundary is joined to the masks of the entry: every number is settled still exactly when the entry's masks hold it, and no edge was asked for yet.
use Prim.Native.Nat.{ℕ, ◌+◌, ◌*◌, ◌%◌, ◌≤◌, ◌<◌}
use mathlib.Core.Bool.{Bool, true, false, cond, ◌&&◌}
use mathlib.Core.List.{List, []}
use mathlib.Core.Path.{◌≡◌, refl, sym, ap, ap₂, ◌∙◌}
use native.Mathlib.Decide.{ℕ_discrete}
use native.Mathlib.Nat.{zero-add}
use native.Mathlib.Omega.{arith}
use borrow.Author.Tests.{eq-eqb, ne_eqb}
use lib.Bits.{bit_or}
use lib.Dec.{eqb, ltb, lit<}
use lib.ListN.{get_or}
use Rattle.flow.specs.Flow.{Flow, size}
use Rattle.theory.specs.Lists.{all_below}
use Rattle.theory.specs.Doubled.{key_effects, boundary}
use Rattle.theory.specs.Accept.{proposed, mask_held, entry_held}
use Rattle.theory.proofs.Lists.{same_test}
use Rattle.theory.proofs.Below.{all_below-at, all_below-all}
use Rattle.theory.proofs.MaskLaws.{all-lt}
use Rattle.statements.specs.Clauses.Layout.{queue_at, set_words}
use Rattle.statements.specs.Clauses.Ready.{Keeps}
use Rattle.statements.proofs.Keeps.{keeps-trans, keeps_widen}
use Rattle.calls.specs.Clauses.Held.{Linked}
use Rattle.solve.specs.Clauses.Layout.{back_row, state_at, area_end}
use Rattle.solve.specs.Clauses.Rows.{mask_at}
use Rattle.solve.specs.Clauses.Waiting.{Waits}
use Rattle.solve.specs.Clauses.Pushed.{masks_at, Grown}
use Rattle.solve.proofs.Room.{row_from, row_first, row_fits, nodes-within}
use Rattle.solve.proofs.Masks.{mask-cong}
use Rattle.solve.proofs.Waiting.{waits-none}
use Rattle.dataflow.specs.Clauses.Sent.{masks_below, SettledSet, Shared}
use Rattle.dataflow.specs.Clauses.Solving.{Unused, RowBegun}
use Rattle.dataflow.proofs.Kept.{linked-stays}
use Rattle.dataflow.proofs.Unions.{cond-zero}
use Rattle.dataflow.proofs.Sharing.{shared-none}
use Rattle.dataflow.proofs.Grown.{grown-masks, grown-settled, grown-keeps, grown-shared, grown-waits}
use Rattle.accept.specs.Clauses.Rows.{Unloaded, Loaded}
use Rattle.accept.specs.Clauses.Table.{Bytes, all_settled, nothing, Passing}
use Rattle.accept.proofs.Passing.{settled-all, joined-told, same-before}

-- a mask is below 8 where an array is NONE and the handler's step was taken
boundary-lt : (f : Flow) (a : ℕ) → boundary f a < 8
unfolding boundary
boundary-lt f a = all-lt (key_effects f a) 1 (lit< tt)

-- the numbers have nothing yet
pub zero_begun : {f : Flow} {ws us : List ℕ} {n w : ℕ} → RowBegun f ws us n w (back_row n w) → Unused ws n w → Unloaded us n w 0
zero_begun {n = n} {w = w} b h x lo hi =
    let least = row_first n w in
    let end = nodes-within n w in
    b.elsewhere x (λ p q. omega arith) (λ p q. omega arith) ∙ h x (omega arith) (omega arith)

module _ (f : Flow) (s ws₀ ws₁ ws₂ ws₃ : List ℕ) (n arrays entry : ℕ) (count : arrays ≡ f.arrays) (sized : size f ≡ n) (some : 0 < n) (first : entry ≡ f.entry) (below : entry < n)
    (wide : f.arrays ≤ 64 * set_words arrays) (bytes : Bytes f (proposed f s)) (linked : Linked f ws₀ n) (unused : Unused ws₀ n (set_words arrays))
    (begun : RowBegun f ws₀ ws₁ n (set_words arrays) (back_row n (set_words arrays))) (loaded : Loaded s ws₁ ws₂ n arrays (2 * n))
    (grown : Grown ws₂ ws₃ n (set_words arrays) (back_row n (set_words arrays)) entry) where
  abbrev w : ℕ
  w = set_words arrays

  -- what was written

  first-keeps : Keeps (queue_at n) (area_end n w) ws₀ ws₁
  first-keeps =
      let least = row_from n w (2 * n) in
      let end = nodes-within n w in
      record { size = begun.size; below = λ x l. begun.elsewhere x (λ a b. omega arith) (λ a b. omega arith); above = λ x l. begun.elsewhere x (λ a b. omega arith) (λ a b. omega arith) }

  loaded_keeps : Keeps (queue_at n) (area_end n w) ws₀ ws₂
  loaded_keeps = keeps-trans first-keeps (keeps_widen (let least = row_first n w in omega arith) (nodes-within n w) loaded.keeps)

  pub start_keeps : Keeps (queue_at n) (area_end n w) ws₀ ws₃
  start_keeps = keeps-trans loaded_keeps (keeps_widen (omega arith) (nodes-within n w) (grown-keeps ws₂ ws₃ n w (back_row n w) entry (omega arith) grown))

  -- nothing waits, and nothing was sent

  waits_loaded : Waits ws₂ n w nothing []
  waits_loaded =
      waits-none some (λ d l.
      let least = row_from n w d in
      let fits = row_fits n w l in
      let end = nodes-within n w in
      loaded.waits d l ∙ ap (λ (y : ℕ). y % 2) (begun.elsewhere (state_at n w d) (λ a b. omega arith) (λ a b. omega arith) ∙ unused (state_at n w d) (omega arith) (omega arith)))

  shared_loaded : Shared f ws₂ n w
  shared_loaded =
      shared-none (linked-stays loaded_keeps linked) (λ x lo hi.
      let least = row_from n w (2 * n) in
      loaded.keeps.above x lo ∙ begun.elsewhere x (λ a b. omega arith) (λ a b. omega arith) ∙ unused x (omega arith) hi)

  -- the masks of the table, and what is joined to them

  table_masks : (x a : ℕ) → x < 2 * n → a < 64 * w → masks_at ws₂ n w x a ≡ masks_below f.arrays (proposed f s x) a
  table_masks x a l m = loaded.masks x a l m ∙ ap (λ (k : ℕ). masks_below k (λ b. get_or s (x * k + b) 0) a) count

  bound : ℕ → ℕ → ℕ
  bound x a = cond (eqb entry x) (boundary f a) 0

  joined_masks : (x a : ℕ) → x < 2 * n → a < 64 * w → masks_at ws₃ n w x a ≡ bit_or (masks_at ws₂ n w x a) (masks_below f.arrays (bound x) a)
  unfolding bound masks_below
  joined_masks x a l m =
      grown-masks ws₂ ws₃ n w (back_row n w) entry (omega arith) grown x a l m
      ∙ ap (bit_or (masks_at ws₂ n w x a)) (ap (λ (v : ℕ). cond (eqb entry x) v 0) back ∙ go (eqb entry x))
    where
      back : mask_at ws₂ w (back_row n w) a ≡ masks_below f.arrays (boundary f) a
      back = mask-cong ws₁ ws₂ w (back_row n w) a m (λ y lo hi. loaded.keeps.below y (let least = row_first n w in omega arith)) ∙ begun.masks a m

      go : (b : Bool) → cond b (masks_below f.arrays (boundary f) a) 0 ≡ masks_below f.arrays (λ c. cond b (boundary f c) 0) a
      go true = refl
      go false = cond-zero (ltb a f.arrays)

  bound_lt : (x a : ℕ) → x < 2 * n → a < f.arrays → bound x a < 8
  unfolding bound
  bound_lt x a l m = go (eqb entry x)
    where
      go : (b : Bool) → cond b (boundary f a) 0 < 8
      go true = boundary-lt f a
      go false = lit< tt

  loaded_settled : all_settled ws₂ n w ≡ true
  loaded_settled = settled-all n w ws₂ loaded.settled

  -- every number holds what was joined to it exactly when the entry's masks hold the boundary
  entry_told : all_below (2 * n) (λ x. all_below f.arrays (λ a. mask_held (proposed f s x a) (bound x a))) ≡ entry_held f (proposed f s)
  unfolding entry_held bound mask_held
  entry_told =
      same_test (all_below (2 * n) (λ x. all_below f.arrays (λ a. mask_held (proposed f s x a) (bound x a)))) (entry_held f (proposed f s))
      (λ h. all_below-all f.arrays (λ a. mask_held (proposed f s (0 + f.entry) a) (boundary f a)) (λ a l.
      there a (all_below-at f.arrays (λ a. mask_held (proposed f s entry a) (bound entry a)) (all_below-at (2 * n) (λ x. all_below f.arrays (λ a. mask_held (proposed f s x a) (bound x a))) h entry (omega arith)) a l)))
      (λ h. all_below-all (2 * n) (λ x. all_below f.arrays (λ a. mask_held (proposed f s x a) (bound x a))) (λ x k.
      all_below-all f.arrays (λ a. mask_held (proposed f s x a) (bound x a)) (λ a l.
      back x a (ℕ_discrete entry x) (all_below-at f.arrays (λ a. mask_held (proposed f s (0 + f.entry) a) (boundary f a)) h a l))))
    where
      here : 0 + f.entry ≡ entry
      here = zero-add f.entry ∙ sym first

      there : (a : ℕ) → mask_held (proposed f s entry a) (bound entry a) ≡ true → mask_held (proposed f s (0 + f.entry) a) (boundary f a) ≡ true
      there a h = ap₂ (λ (x : ℕ) (b : Bool). mask_held (proposed f s x a) (cond b (boundary f a) 0)) here (sym (eq-eqb entry entry refl)) ∙ h

      back : (x a : ℕ) → Dec (entry ≡ x) → mask_held (proposed f s (0 + f.entry) a) (boundary f a) ≡ true → mask_held (proposed f s x a) (bound x a) ≡ true
      back x a (yes e) h = ap₂ (λ (y : ℕ) (b : Bool). mask_held (proposed f s y a) (cond b (boundary f a) 0)) (sym (here ∙ e)) (eq-eqb entry x e) ∙ h
      back x a (no e) h = ap (λ (b : Bool). mask_held (proposed f s x a) (cond b (boundary f a) 0)) (ne_eqb entry x e)

  and_none : (b : Bool) → b ≡ (b && true)
  and_none true = refl
  and_none false = refl

  pub passing_start : Passing f (proposed f s) ws₃ n w nothing 0
  unfolding all_below
  passing_start = record {
    waiting = [];
    waits = grown-waits ws₂ ws₃ n w (back_row n w) entry (omega arith) grown waits_loaded;
    shared = grown-shared ws₂ ws₃ n w (back_row n w) entry (omega arith) grown shared_loaded;
    told = joined-told n w f.arrays ws₂ ws₃ (proposed f s) bound wide (λ x a l. bytes x a (omega (arith, sized))) bound_lt settled loaded_settled table_masks joined_masks ∙ entry_told ∙ and_none (entry_held f (proposed f s));
    same = λ all x a l m. same-before n w ws₂ ws₃ settled all x a l m ∙ table_masks x a l m;
  }
    where
      settled : SettledSet n w ws₂ ws₃
      settled = grown-settled ws₂ ws₃ n w (back_row n w) entry (omega arith) grown
