-- The act of a statement on a row of masks: its references step, then its items with dimensions; CLR and RUN step every array below the count.
-- By the statement's kind; an array at or above the count is named by no reference and no item.
use Prim.Native.Nat.{ℕ, ◌*◌, ◌≤◌, ◌<◌}
use mathlib.Core.Bool.{Bool, true, false, cond}
use mathlib.Core.List.{List, [], ◌∷◌, ◌++◌}
use mathlib.Core.Option.{none}
use mathlib.Core.Path.{◌≡◌, refl, sym, ap, ap₂, subst, ◌∙◌}
use native.Mathlib.Decide.{dec_lt}
use native.Mathlib.Omega.{arith}
use borrow.Author.Tests.{lt-ltb, le-ltb, eqb-true}
use lib.Dec.{eqb, ltb}
use lib.ListN.{length, get_or}
use Rattle.masks.specs.declared.Effect.{Effect}
use Rattle.masks.specs.declared.Effect.TheVariants.{Reference, Dim, Reset, Touched}
use Rattle.masks.specs.Step.{step_of}
use Rattle.flow.specs.Flow.{Flow, Kind, Item, items}
use Rattle.theory.specs.Lists.{any, elem}
use Rattle.theory.specs.Body.{kind, references}
use Rattle.theory.specs.Key.{handler_touches}
use Rattle.theory.specs.Doubled.{dims, resets, kind_effects, statement_effects, key_effects}
use Rattle.theory.specs.Queue.{step_all}
use Rattle.theory.specs.Clauses.WellFormed.{WellFormed}
use Rattle.theory.proofs.Lists.{clash, not_so, or-first, or-second, elem-In, any_find, and_both}
use Rattle.theory.proofs.Handler.{handler-below}
use Rattle.statements.specs.Clauses.Ready.{Keeps, acts_in}
use Rattle.statements.proofs.Keeps.{keeps-refl, keeps-trans, keeps_widen}
use Rattle.solve.specs.Clauses.Layout.{set_row, out_row, back_row, mask_row_at, key_at}
use Rattle.solve.specs.Clauses.Rows.{mask_at, RowIs, step_where, member as in_set}
use Rattle.solve.specs.Clauses.Pushed.{masks_at}
use Rattle.solve.proofs.Room.{row_first}
use Rattle.dataflow.specs.Clauses.Transfer.{acted, RowSteps, Acted, plain_effects}

pub step_all-append : (es fs : List Effect) (m : ℕ) → step_all (es ++ fs) m ≡ step_all fs (step_all es m)
unfolding step_all
step_all-append [] fs m = refl
step_all-append (e ∷ es) fs m = step_all-append es fs (step_of e m)

pub step_all-if : (b : Bool) (e : Effect) (m : ℕ) → step_all (cond b (e ∷ []) []) m ≡ cond b (step_of e m) m
unfolding step_all
step_all-if true e m = refl
step_all-if false e m = refl

-- the handler's touched step
pub key_step : (f : Flow) (a v : ℕ) → cond (handler_touches f a) (step_of Touched v) v ≡ step_all (key_effects f a) v
unfolding key_effects
key_step f a v = sym (step_all-if (handler_touches f a) Touched v)

-- a kind that does not empty the stack steps the arrays of its items with dimensions
kind-steps : (k : Kind) (a m : ℕ) → resets k ≡ false → cond (any (dims a) (items k)) (step_of Dim m) m ≡ step_all (kind_effects k a) m
unfolding any kind_effects step_all
kind-steps Kind.other a m e = refl
kind-steps Kind.return a m e = refl
kind-steps Kind.clr a m e = clash true refl e
kind-steps Kind.run a m e = clash true refl e
kind-steps (Kind.dim is) a m e = sym (step_all-if (any (dims a) is) Dim m)
kind-steps (Kind.gosub l c) a m e = refl
kind-steps (Kind.on_gosub ls c) a m e = refl

kind-resets : (k : Kind) (a m : ℕ) → resets k ≡ true → 1 ≡ step_all (kind_effects k a) m
unfolding kind_effects step_all
kind-resets Kind.other a m e = clash false e refl
kind-resets Kind.return a m e = clash false e refl
kind-resets Kind.clr a m e = refl
kind-resets Kind.run a m e = refl
kind-resets (Kind.dim is) a m e = clash false e refl
kind-resets (Kind.gosub l c) a m e = clash false e refl
kind-resets (Kind.on_gosub ls c) a m e = clash false e refl

-- no reference and no item names an array at or above the count

pub unreferenced : {f : Flow} → WellFormed f → (i a : ℕ) → (a < f.arrays → ⊥) → elem a (references f i) ≡ false
unreferenced {f} wf i a out = not_so (elem a (references f i)) (λ e. out (wf.reference i a (elem-In a (references f i) e)))

undimmed : {f : Flow} → WellFormed f → (i a : ℕ) → (a < f.arrays → ⊥) → any (dims a) (items (kind f i)) ≡ false
unfolding any
undimmed {f} wf i a out = go (kind f i) refl
  where
    go : (k : Kind) → kind f i ≡ k → any (dims a) (items k) ≡ false
    go Kind.other e = refl
    go Kind.return e = refl
    go Kind.clr e = refl
    go Kind.run e = refl
    go (Kind.dim is) e = not_so (any (dims a) is) (λ t.
        let x = any_find (dims a) is t in
        let same : x.0.array ≡ a = eqb-true _ _ (and_both (eqb x.0.array a) (eqb x.0.flag 1) x.2).0 in
        out (subst (λ (b : ℕ). b < f.arrays) same (wf.dimmed i is x.0 e x.1)))
    go (Kind.gosub l c) e = refl
    go (Kind.on_gosub ls c) e = refl

-- the masks once the references and the items have stepped
abbrev pub stepped : Flow → ℕ → (ℕ → ℕ) → ℕ → ℕ
stepped f i m = step_where (λ a. any (dims a) (items (kind f i))) Dim (step_where (λ a. elem a (references f i)) Reference m)

module _ {f : Flow} (wf : WellFormed f) (i : ℕ) (m : ℕ → ℕ) (a : ℕ) where
  beyond : (a < f.arrays → ⊥) → stepped f i m a ≡ m a
  unfolding step_where
  beyond out = rw (undimmed wf i a out, unreferenced wf i a out)

  effects : step_all (statement_effects f i a) (m a) ≡ step_all (kind_effects (kind f i) a) (step_where (λ a. elem a (references f i)) Reference m a)
  unfolding statement_effects step_where
  effects =
      step_all-append (cond (elem a (references f i)) (Reference ∷ []) []) (kind_effects (kind f i) a) (m a)
      ∙ ap (step_all (kind_effects (kind f i) a)) (step_all-if (elem a (references f i)) Reference (m a))

  within : resets (kind f i) ≡ false
      → stepped f i m a ≡ step_all (kind_effects (kind f i) a) (step_where (λ a. elem a (references f i)) Reference m a)
  unfolding step_where
  within e = kind-steps (kind f i) a (step_where (λ a. elem a (references f i)) Reference m a) e

  acted-stays : resets (kind f i) ≡ false → stepped f i m a ≡ acted f.arrays (statement_effects f i) m a
  unfolding acted
  acted-stays e = at (dec_lt a f.arrays)
    where
      at : Dec (a < f.arrays) → stepped f i m a ≡ cond (ltb a f.arrays) (step_all (statement_effects f i a) (m a)) (m a)
      at (yes l) = rw (lt-ltb a f.arrays l) (within e ∙ sym effects)
      at (no l) = rw (le-ltb a f.arrays (omega (arith, l))) (beyond l)

  acted-resets : resets (kind f i) ≡ true → cond (ltb a f.arrays) 1 (m a) ≡ acted f.arrays (statement_effects f i) m a
  unfolding acted step_where
  acted-resets e = at (dec_lt a f.arrays)
    where
      at : Dec (a < f.arrays) → cond (ltb a f.arrays) 1 (m a) ≡ cond (ltb a f.arrays) (step_all (statement_effects f i a) (m a)) (m a)
      at (yes l) = rw (lt-ltb a f.arrays l) (kind-resets (kind f i) a (step_where (λ a. elem a (references f i)) Reference m a) e ∙ sym effects)
      at (no l) = rw (le-ltb a f.arrays (omega (arith, l)))

-- The row for the edges of the statement at hand

module _ {f : Flow} (wf : WellFormed f) (n w d i : ℕ) (below : d < 2 * n) {ws vs : List ℕ} where
  -- where only the set and the rows for edges were written
  around : length vs ≡ length ws → ((x : ℕ) → (set_row n ≤ x → x < mask_row_at n w 0 → ⊥) → get_or vs x 0 ≡ get_or ws x 0) → Keeps (set_row n) (mask_row_at n w 0) ws vs
  around size h = record { size = size; below = λ x l. h x (λ a b. omega arith); above = λ x l. h x (λ a b. omega arith) }

  pub acts_plain : resets (kind f i) ≡ false → items (kind f i) ≡ [] → RowSteps ws vs w (set_row n) (out_row n w) (mask_row_at n w d) (λ a. elem a (references f i)) Reference → Acted f ws vs n w d (statement_effects f i) (out_row n w)
  unfolding any step_where
  acts_plain e bare x =
      let first = row_first n w in
      record {
        keeps = around x.size (λ y out. x.elsewhere y (λ a b. out a (omega arith)) (λ a b. out (omega arith) (omega arith)));
        masks = λ a l. x.masks a l
            ∙ sym (ap (λ (its : List Item). cond (any (dims a) its) (step_of Dim (step_where (λ b. elem b (references f i)) Reference (masks_at ws n w d) a)) (step_where (λ b. elem b (references f i)) Reference (masks_at ws n w d) a)) bare)
            ∙ acted-stays wf i (masks_at ws n w d) a e;
      }

  pub acts_resets : {count : ℕ} → count ≡ f.arrays → resets (kind f i) ≡ true → RowSteps ws vs w (set_row n) (out_row n w) (mask_row_at n w d) (λ a. ltb a count) Reset → Acted f ws vs n w d (statement_effects f i) (out_row n w)
  unfolding step_where
  acts_resets {count} all e x =
      let first = row_first n w in
      record {
        keeps = around x.size (λ y out. x.elsewhere y (λ a b. out a (omega arith)) (λ a b. out (omega arith) (omega arith)));
        masks = λ a l. x.masks a l ∙ ap (λ (k : ℕ). cond (ltb a k) 1 (masks_at ws n w d a)) all ∙ reset a;
      }
    where
      reset : (a : ℕ) → cond (ltb a f.arrays) 1 (masks_at ws n w d a) ≡ acted f.arrays (statement_effects f i) (masks_at ws n w d) a
      reset a = acted-resets wf i (masks_at ws n w d) a e

  pub acts_dims : {us : List ℕ} → resets (kind f i) ≡ false
      → RowSteps ws us w (set_row n) (back_row n w) (mask_row_at n w d) (λ a. elem a (references f i)) Reference
      → RowSteps us vs w (set_row n) (out_row n w) (back_row n w) (λ a. any (dims a) (items (kind f i))) Dim → Acted f ws vs n w d (statement_effects f i) (out_row n w)
  unfolding step_where
  acts_dims {us} e x y =
      let first = row_first n w in
      record {
        keeps = around (y.size ∙ x.size) (λ z out.
            y.elsewhere z (λ a b. out a (omega arith)) (λ a b. out (omega arith) (omega arith)) ∙ x.elsewhere z (λ a b. out a (omega arith)) (λ a b. out (omega arith) (omega arith)));
        masks = λ a l. y.masks a l
            ∙ ap (λ (m : ℕ). cond (any (dims a) (items (kind f i))) (step_of Dim m) m) (x.masks a l)
            ∙ acted-stays wf i (masks_at ws n w d) a e;
      }

no_elements : {A : Type 0} (l : List A) → ltb 0 (length l) ≡ false → l ≡ []
no_elements [] e = refl
no_elements (x ∷ l) e = clash (ltb 0 (length (x ∷ l))) (lt-ltb 0 (length (x ∷ l)) (omega arith)) e

-- a statement that does nothing to masks: the number's own row serves
pub acts_not : {f : Flow} → WellFormed f → (n w d i : ℕ) {ws : List ℕ} → acts_in f i ≡ false → Acted f ws ws n w d (statement_effects f i) (mask_row_at n w d)
unfolding any elem step_where acts_in
acts_not {f} wf n w d i {ws} idle =
    let counts = or-second (resets (kind f i)) _ idle in
    let bare = no_elements (items (kind f i)) (or-first _ _ counts) in
    let refs = no_elements (references f i) (or-second (ltb 0 (length (items (kind f i)))) _ counts) in
    record {
      keeps = keeps-refl;
      masks = λ a l.
          sym (ap₂ (λ (its : List Item) (rs : List ℕ). step_where (λ b. any (dims b) its) Dim (step_where (λ b. elem b rs) Reference (masks_at ws n w d)) a) bare refs)
          ∙ acted-stays wf i (masks_at ws n w d) a (or-first _ _ idle);
    }

-- and then the handler's touched step: without a handler there is none

pub unkeyed-step : (f : Flow) (a v : ℕ) → f.handler ≡ none → step_all (key_effects f a) v ≡ v
unfolding key_effects handler_touches step_all
unkeyed-step f a v e = rw e refl

pub acts_unkeyed : (f : Flow) (i : ℕ) {ws vs : List ℕ} {n w d row : ℕ} → f.handler ≡ none → Acted f ws vs n w d (statement_effects f i) row → Acted f ws vs n w d (plain_effects f i) row
unfolding acted
acts_unkeyed f i {ws} {n = n} {w = w} {d = d} e x = record {
  keeps = x.keeps;
  masks = λ a l.
      x.masks a l
      ∙ ap (λ (v : ℕ). cond (ltb a f.arrays) v (masks_at ws n w d a))
      (sym (step_all-append (statement_effects f i a) (key_effects f a) (masks_at ws n w d a) ∙ unkeyed-step f a (step_all (statement_effects f i a) (masks_at ws n w d a)) e));
}

pub acts_keyed : {f : Flow} → WellFormed f → (i : ℕ) {ws us vs : List ℕ} {n w d row : ℕ} → Acted f ws us n w d (statement_effects f i) row
    → RowIs us vs w (out_row n w) (step_where (in_set us (key_at n w)) Touched (mask_at us w row)) → ((a : ℕ) → a < 64 * w → in_set us (key_at n w) a ≡ handler_touches f a)
    → Acted f ws vs n w d (plain_effects f i) (out_row n w)
unfolding acted step_where
acts_keyed {f} wf i {ws} {us} {vs} {n} {w} {d} {row} x y says = record {
  keeps = keeps-trans x.keeps (keeps_widen (omega arith) (let first = row_first n w in omega arith) y.keeps);
  masks = λ a l. y.masks a l ∙ ap₂ (λ (b : Bool) (v : ℕ). cond b (step_of Touched v) v) (says a l) (x.masks a l) ∙ at a (dec_lt a f.arrays);
}
  where
    m : ℕ → ℕ
    m = masks_at ws n w d

    at : (a : ℕ) → Dec (a < f.arrays) → cond (handler_touches f a) (step_of Touched (cond (ltb a f.arrays) (step_all (statement_effects f i a) (m a)) (m a))) (cond (ltb a f.arrays) (step_all (statement_effects f i a) (m a)) (m a))
        ≡ cond (ltb a f.arrays) (step_all (statement_effects f i a ++ key_effects f a) (m a)) (m a)
    at a (yes l) =
        rw (lt-ltb a f.arrays l)
        (key_step f a (step_all (statement_effects f i a) (m a)) ∙ sym (step_all-append (statement_effects f i a) (key_effects f a) (m a)))
    at a (no l) = rw (le-ltb a f.arrays (omega (arith, l)), handler-below wf a l) refl
