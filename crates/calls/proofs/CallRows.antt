-- Laws of `Notes`, what noting changes in the rows of the statements of which P holds: nothing, one row, and one change after another.
-- By the layout of the work area: rows are apart. Assumes nothing.
use Prim.Native.Nat.{ℕ, ◌+◌, ◌≤◌, ◌<◌}
use mathlib.Core.Bool.{cond}
use mathlib.Core.List.{List}
use mathlib.Core.Logic.{◌≢◌}
use mathlib.Core.Path.{◌≡◌, refl, sym, ◌∙◌, subst}
use native.Mathlib.Decide.{dec_lt}
use native.Mathlib.Omega.{arith}
use Rattle.words.specs.Clauses.Row.{has}
use Rattle.theory.specs.Lists as lists
use Rattle.statements.specs.Clauses.Layout.{row_at, row_words}
use Rattle.statements.specs.Clauses.Ready.{Keeps}
use Rattle.statements.proofs.WorkArea.{member-word, row_from, row_fits, rows_apart}
use Rattle.statements.proofs.Keeps.{keeps-refl, keeps-trans, keeps_widen, keeps-has}
use Rattle.calls.specs.Clauses.Joins.{Notes}

module _ {P : ℕ → Type 0} {members : ℕ → List ℕ} {ws : List ℕ} {n : ℕ} where
  pub notes_none : (lo : ℕ) → Notes P members ws ws n lo lo
  notes_none lo = record { kept = keeps-refl; noted = λ c j a b l q. absurd (omega arith); others = λ e j l m h. refl }

  -- a statement of which P does not hold has no such row
  pub notes_skip : {i : ℕ} → (P i → ⊥) → Notes P members ws ws n i (i + 1)
  notes_skip {i} other = record {
    kept = keeps-refl;
    noted = λ c j a b l q. let same : c ≡ i = omega arith in absurd (other (subst P same q));
    others = λ e j l m h. refl;
  }

  -- P may read words that no change touches: after the first it is Q
  pub notes_then : {Q : ℕ → Type 0} {vs us : List ℕ} {lo m hi : ℕ} → ((c : ℕ) → c < n → P c → Q c) → ((c : ℕ) → c < n → Q c → P c)
      → lo ≤ m → m ≤ hi → hi ≤ n → Notes P members ws vs n lo m → Notes Q members vs us n m hi → Notes P members ws us n lo hi
  notes_then {Q} {vs} {us} {lo} {m} {hi} to from low high top x y = record {
    kept = keeps-trans x.kept y.kept;
    noted = λ c j a b l q. go c j a b l q (dec_lt c m);
    others = λ e j l k h. y.others e j l k (λ a b q. h (omega arith) b (from e l q)) ∙ x.others e j l k (λ a b q. h a (omega arith) q);
  }
    where
      go : (c j : ℕ) → lo ≤ c → c < hi → j < n → P c → Dec (c < m) → has us (row_at n c) j ≡ cond (lists.elem j (members c)) 1 0
      go c j a b l q (yes d) = y.others c j (omega arith) l (λ p r s. absurd (omega arith)) ∙ x.noted c j a d l q
      go c j a b l q (no d) = y.noted c j (omega (arith, d)) b l (to c (omega arith) q)

  -- the row of statement i is written
  pub notes_row : {vs : List ℕ} {i : ℕ} → i < n → P i → Keeps (row_at n i) (row_at n i + row_words n) ws vs
      → ((j : ℕ) → j < n → has vs (row_at n i) j ≡ cond (lists.elem j (members i)) 1 0) → Notes P members ws vs n i (i + 1)
  notes_row {vs} {i} l is k holds = record {
    kept = keeps_widen (row_from n i) (omega (arith, row_fits n l)) k;
    noted = λ c j a b lj q. subst (λ (x : ℕ). has vs (row_at n x) j ≡ cond (lists.elem j (members x)) 1 0) (omega arith) (holds j lj);
    others = λ e j le lj h. apart e j lj (λ same. h (omega arith) (omega arith) (subst P (sym same) is));
  }
    where
      apart : (e j : ℕ) → j < n → e ≢ i → has vs (row_at n e) j ≡ has ws (row_at n e) j
      apart e j lj other = go (dec_lt e i)
        where
          go : Dec (e < i) → has vs (row_at n e) j ≡ has ws (row_at n e) j
          go (yes d) = keeps-has k (row_at n e) j (λ a b. omega (arith, rows_apart n d, member-word lj))
          go (no d) = keeps-has k (row_at n e) j (λ a b. omega (arith, rows_apart n {i = i} {j = e} (omega (arith, d, other)), member-word lj))
