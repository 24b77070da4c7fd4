-- Sets of arrays, noted word by word or element by element, and rows of masks that step by them: what is in the set so far, and that the row steps where the set has
-- an array. The set lies below the rows.
use Prim.Native.Nat.{ℕ, ◌+◌, ◌*◌, ◌/◌, ◌%◌, ◌≤◌, ◌<◌, zero-le, max}
use mathlib.Core.Bool.{Bool, true, false, cond, ◌&&◌, ◌||◌, or-false}
use mathlib.Core.List.{List, [], ◌∷◌}
use mathlib.Core.Logic.{inl, inr}
use mathlib.Core.Path.{◌≡◌, refl, sym, ap, ap₂, subst, ◌∙◌}
use native.Mathlib.Decide.{dec_lt, ℕ_discrete}
use native.Mathlib.Numerals.{add-one}
use native.Mathlib.Omega.{arith}
use borrow.Author.Tests.{eq-eqb, ne_eqb}
use lib.Dec.{eqb}
use lib.ListN.{length, get_or, set, take}
use lib.Seq.{take-suc, take-length, get_or-set_same, get_or-set_other}
use Rattle.words.specs.Clauses.Row.{bit, has}
use Rattle.words.specs.Clauses.Change.{inserted}
use Rattle.words.proofs.Row.{has-lt}
use Rattle.words.proofs.Inserted.{insert_same, insert_other}
use Rattle.masks.specs.declared.Effect.{Effect}
use Rattle.masks.specs.Step.{step_of}
use Rattle.theory.specs.Lists.{any}
use Rattle.theory.proofs.Lists.{any_append, says_one}
use Rattle.statements.specs.Clauses.Layout.{max_width}
use Rattle.statements.specs.Clauses.Ready.{Keeps}
use Rattle.statements.proofs.Keeps.{keeps-refl, keeps-trans, keeps-word, keeps-set, keeps-inserted}
use Rattle.solve.specs.Clauses.Rows.{mask_at, RowIs, Aside, Beside, step_where, member}
use Rattle.solve.specs.Clauses.Layout.{set_row, out_row, back_row, mask_row_at, nodes_end, area_end}
use Rattle.solve.proofs.Room.{row_from, row_fits, nodes-within}
use Rattle.solve.proofs.Masks.{mask-cong}
use Rattle.dataflow.specs.Clauses.Transfer.{SetIs, SetGains, RowsApart, RowSteps}

-- A set noted word by word

-- the first k words are noted
pub record Noting (ws₀ : List ℕ) (at w : ℕ) (p : ℕ → Bool) (ws : List ℕ) (k : ℕ) : Type 0 where
  pub some : k ≤ w
  pub keeps : Keeps at (at + w) ws₀ ws
  pub member : (a : ℕ) → a < 64 * k → has ws at a ≡ cond (p a) 1 0

pub noting_none : {ws : List ℕ} {at w : ℕ} {p : ℕ → Bool} → Noting ws at w p ws 0
noting_none = record { some = zero-le; keeps = keeps-refl; member = λ a l. absurd (omega arith) }

pub noting_more : (v : ℕ) {ws₀ ws : List ℕ} {at w k : ℕ} {p : ℕ → Bool} → Noting ws₀ at w p ws k → at + w ≤ length ws₀ → k < w
    → ((j : ℕ) → j < 64 → bit v j ≡ cond (p (64 * k + j)) 1 0) → Noting ws₀ at w p (set ws (at + k) v) (k + 1)
unfolding has
noting_more v {ws₀} {ws} {at} {w} {k} {p} s fits l h = record {
  some = omega arith;
  keeps = keeps-trans s.keeps (keeps-set ws (at + k) v (omega arith) (omega arith));
  member = λ a m. in_word a m (dec_lt a (64 * k));
}
  where
    in_word : (a : ℕ) → a < 64 * (k + 1) → Dec (a < 64 * k) → bit (get_or (set ws (at + k) v) (at + a / 64) 0) (a % 64) ≡ cond (p a) 1 0
    in_word a m (yes b) = ap (λ (x : ℕ). bit x (a % 64)) (get_or-set_other ws (at + k) (at + a / 64) v 0 (λ e. omega arith)) ∙ s.member a b
    in_word a m (no b) =
        let word : a / 64 ≡ k = omega (arith, b) in
        let whole : 64 * k + a % 64 ≡ a = omega (arith, b) in
        ap (λ (x : ℕ). bit (get_or (set ws (at + k) v) (at + x) 0) (a % 64)) word
        ∙ ap (λ (x : ℕ). bit x (a % 64)) (get_or-set_same ws (at + k) v 0 (omega (arith, s.keeps.size)))
        ∙ h (a % 64) (omega arith) ∙ ap (λ (x : ℕ). cond (p x) 1 0) whole

pub noting_all : {ws₀ ws : List ℕ} {at w k : ℕ} {p : ℕ → Bool} → Noting ws₀ at w p ws k → k ≡ w → SetIs ws₀ ws at w p
noting_all s e = record { keeps = s.keeps; member = λ a l. s.member a (omega arith) }

-- A set noted element by element of a list

any_next : {A : Type 0} (p : A → Bool) (l : List A) (k : ℕ) (d : A) → k < length l → (any p (take k l) || p (get_or l k d)) ≡ any p (take (k + 1) l)
unfolding any
any_next p l k d h = sym (ap (λ (j : ℕ). any p (take j l)) (add-one k) ∙ ap (any p) (take-suc l k d h) ∙ any_append p (take k l) (get_or l k d ∷ []) ∙ ap (λ b. any p (take k l) || b) (or-false (p (get_or l k d))))

any-all : {A : Type 0} (p : A → Bool) (l : List A) (k : ℕ) → k ≡ length l → any p (take k l) ≡ any p l
any-all p l k e = ap (λ (j : ℕ). any p (take j l)) e ∙ ap (any p) (take-length l)

max-or : (b c : Bool) → max (cond b 1 0) (cond c 1 0) ≡ cond (b || c) 1 0
max-or true true = refl
max-or true false = refl
max-or false true = refl
max-or false false = refl

-- the arrays that pass the test at one of the first k elements are noted
pub record Gathering {A : Type 0} (test : ℕ → A → Bool) (l : List A) (ws₀ : List ℕ) (at w : ℕ) (ws : List ℕ) (k : ℕ) : Type 0 where
  pub some : k ≤ length l
  pub set_is : SetIs ws₀ ws at w (λ a. any (test a) (take k l))

module _ {A : Type 0} (test : ℕ → A → Bool) (l : List A) where
  pub gathering_none : {ws₀ ws : List ℕ} {at w : ℕ} → Keeps at (at + w) ws₀ ws → ((a : ℕ) → a < 64 * w → has ws at a ≡ 0) → Gathering test l ws₀ at w ws 0
  unfolding any
  gathering_none k h = record { some = zero-le; set_is = record { keeps = k; member = h } }

  pub gathering_more : (q : ℕ → Bool) (x : A) {ws₀ ws vs : List ℕ} {at w k : ℕ} → Gathering test l ws₀ at w ws k → k < length l → SetGains ws vs at w q
      → ((a : ℕ) → q a ≡ test a (get_or l k x)) → Gathering test l ws₀ at w vs (k + 1)
  gathering_more q x {k = k} s h g is = record {
    some = omega arith;
    set_is = record {
      keeps = keeps-trans s.set_is.keeps g.keeps;
      member = λ a m. g.member a m ∙ ap₂ max (s.set_is.member a m) (ap (λ (b : Bool). cond b 1 0) (is a)) ∙ max-or (any (test a) (take k l)) (test a (get_or l k x))
          ∙ ap (λ (b : Bool). cond b 1 0) (any_next (test a) l k x h);
    };
  }

  pub gathering_all : {ws₀ ws : List ℕ} {at w k : ℕ} → Gathering test l ws₀ at w ws k → k ≡ length l → SetIs ws₀ ws at w (λ a. any (test a) l)
  gathering_all s e = record { keeps = s.set_is.keeps; member = λ a m. s.set_is.member a m ∙ ap (λ (b : Bool). cond b 1 0) (any-all (test a) l _ e) }

-- an item joins the set if it has dimensions

pub gains-item : (ws : List ℕ) (at w x : ℕ) (f : Bool) → at + w ≤ length ws → x < 64 * w → f ≡ true → SetGains ws (inserted ws at x) at w (λ a. eqb x a && f)
gains-item ws at w x f fits l e = record {
  keeps = keeps-inserted ws at x (omega arith) (omega arith);
  member = λ a m. in_set a (ℕ_discrete a x);
}
  where
    in_set : (a : ℕ) → Dec (a ≡ x) → has (inserted ws at x) at a ≡ max (has ws at a) (cond (eqb x a && f) 1 0)
    in_set a (yes q) = ap (has (inserted ws at x) at) q ∙ insert_same ws at x (omega arith) ∙ rw (eq-eqb x a (sym q), e) (omega (arith, has-lt ws at a))
    in_set a (no d) = insert_other ws at x a (omega arith) d ∙ rw (ne_eqb x a (λ q. d (sym q))) (omega arith)

-- A row that steps by a set

pub row-steps : {ws us vs : List ℕ} {w set to from : ℕ} {p : ℕ → Bool} {e : Effect} → RowsApart ws w set to from → SetIs ws us set w p
    → RowIs us vs w to (step_where (member us set) e (mask_at us w from)) → RowSteps ws vs w set to from p e
unfolding step_where member
row-steps {ws} {us} {vs} {w} {set} {to} {from} {p} {e} r s x = record {
  size = x.keeps.size ∙ s.keeps.size;
  masks = λ a l.
      x.masks a l
      ∙ ap₂ (λ (b : Bool) (m : ℕ). cond b (step_of e m) m) (ap (λ (k : ℕ). eqb k 1) (s.member a l) ∙ says_one (p a))
      (mask-cong ws us w from a l (λ y lo hi. s.keeps.above y (let low = r.below_from in omega arith)));
  elsewhere = λ y a b. keeps-word x.keeps y b ∙ keeps-word s.keeps y a;
}

-- a row goes apart from the set also where words were written elsewhere
pub apart-again : (ws vs : List ℕ) {w set to from : ℕ} → length vs ≡ length ws → RowsApart ws w set to from → RowsApart vs w set to from
apart-again ws vs e r = record {
  below_to = r.below_to;
  below_from = r.below_from;
  to_fits = let h = r.to_fits in omega arith;
  from_fits = let h = r.from_fits in omega arith;
  apart = r.apart;
}

-- what the step asks for
pub steps-by : (vs : List ℕ) {ws : List ℕ} {w set to from : ℕ} → length vs ≡ length ws → w ≤ max_width → RowsApart ws w set to from
    → (w ≤ max_width) × Aside w set to × (set + w ≤ length vs) × (to + 3 * w ≤ length vs) × (from + 3 * w ≤ length vs) × Beside w to from
steps-by vs e thin r = let low = r.below_to in let to = r.to_fits in let from = r.from_fits in (thin, inl low, omega arith, omega arith, omega arith, inl r.apart)

-- the same at places that were computed
pub steps-at : {ws vs : List ℕ} {w set set' to to' from from' : ℕ} {p : ℕ → Bool} {e : Effect} → set ≡ set' → to ≡ to' → from ≡ from'
    → RowSteps ws vs w set to from p e → RowSteps ws vs w set' to' from' p e
steps-at {ws} {vs} {w} {set} {set'} {to} {to'} {from} {from'} {p} {e} a b c x =
    subst (λ (y : ℕ). RowSteps ws vs w y to' from' p e) a (subst (λ (y : ℕ). RowSteps ws vs w set y from' p e) b (subst (λ (y : ℕ). RowSteps ws vs w set to y p e) c x))

-- the rows for the edges of the statement at hand stand between the set and the rows of the doubled numbers

pub hand_apart : (ws : List ℕ) (n w d : ℕ) {set to from : ℕ} → area_end n w ≤ length ws → d < 2 * n → set ≡ set_row n → out_row n w ≤ to → to ≤ back_row n w → from ≡ mask_row_at n w d
    → RowsApart ws w set to from
hand_apart ws n w d {set} {to} {from} room below a b h c =
    let low = row_from n w d in
    let fits = row_fits n w below in
    record { below_to = omega arith; below_from = omega arith; to_fits = omega arith; from_fits = omega arith; apart = inl (omega arith) }

pub edges-apart : (ws : List ℕ) (n w : ℕ) {set to from : ℕ} → area_end n w ≤ length ws → set ≡ set_row n → to ≡ out_row n w → from ≡ back_row n w → RowsApart ws w set to from
edges-apart ws n w room a b c =
    let low = row_from n w (2 * n) in
    record { below_to = omega arith; below_from = omega arith; to_fits = omega arith; from_fits = omega arith; apart = inl (omega arith) }

pub entry-apart : (ws : List ℕ) (n w to : ℕ) {set from : ℕ} → area_end n w ≤ length ws → back_row n w ≤ to → to + 3 * w ≤ nodes_end n w → set ≡ set_row n → from ≡ out_row n w → RowsApart ws w set to from
entry-apart ws n w to room low high a c =
    let end = nodes-within n w in
    record { below_to = omega arith; below_from = omega arith; to_fits = omega arith; from_fits = omega arith; apart = inr (omega arith) }
