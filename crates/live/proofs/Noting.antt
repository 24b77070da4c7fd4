-- Noting a statement's predecessors one successor at a time: after k of them, its column holds the first k, and the other columns are as they were.
-- A number inserted into a row is there, and nothing else changes. Assumes nothing.
use Prim.Native.Nat.{ℕ, ◌+◌, ◌/◌, ◌<◌, ◌≤◌}
use mathlib.Core.Bool.{Bool}
use mathlib.Core.List.{List, [], ◌∷◌, ◌++◌}
use mathlib.Core.Logic.{◌≢◌}
use mathlib.Core.Path.{◌≡◌, refl, sym, ◌∙◌, ap, subst}
use native.Mathlib.Decide.{ℕ_discrete}
use native.Mathlib.Numerals.{add-one}
use native.Mathlib.Omega.{arith}
use lib.ListN.{length, take, get_or}
use lib.Seq.{take-suc, take_all}
use Rattle.words.specs.Clauses.Row.{has}
use Rattle.words.specs.Clauses.Change.{Inserted, inserted}
use Rattle.words.proofs.Inserted.{insert_same, insert_other}
use Rattle.flow.specs.Flow.{Flow}
use Rattle.theory.specs.Lists as lists
use Rattle.theory.specs.Body.{successors}
use Rattle.theory.specs.Live.{bit_of}
use Rattle.theory.proofs.Lists.{elem-last, elem-before}
use Rattle.statements.specs.Clauses.Layout.{row_at, matrix_at, queue_at}
use Rattle.statements.specs.Clauses.Ready.{Keeps}
use Rattle.statements.proofs.WorkArea.{member-word, row_fits, row_from, insert_row}
use Rattle.statements.proofs.Keeps.{keeps-refl, keeps-trans, keeps-inserted}
use Rattle.live.specs.Clauses.Predecessors.{Column, Noted}

pub record Noting (l ws₀ ws : List ℕ) (n i k : ℕ) : Type 0 where
  pub low : k ≤ length l
  pub column : Column ws n i (take k l)
  pub others : (j m : ℕ) → j < n → m < n → m ≢ i → has ws (row_at n j) m ≡ has ws₀ (row_at n j) m
  pub kept : Keeps (matrix_at n) (queue_at n) ws₀ ws

pub noting_none : {l ws : List ℕ} {n i : ℕ} → Column ws n i [] → Noting l ws ws n i 0
noting_none h = record { low = omega arith; column = h; others = λ j m a b d. refl; kept = keeps-refl }

module _ {l ws₀ ws vs : List ℕ} {n i k t base : ℕ} {r : Bool} (s : Noting l ws₀ ws n i k) (short : k < length l) (small : i < n) (is : t ≡ get_or l k 0) (target : t < n)
    (fits : queue_at n ≤ length ws) (place : base ≡ row_at n t) (change : Inserted ws vs base i r) where
  in_area : row_at n t + i / 64 < length ws
  in_area = omega (arith, member-word small, row_fits n target)

  column-more : (j : ℕ) → j < n → Dec (j ≡ t) → has (inserted ws (row_at n t) i) (row_at n j) i ≡ bit_of (lists.elem j (take k l ++ (t ∷ [])))
  column-more j b (yes e) =
      ap (λ z. has (inserted ws (row_at n t) i) (row_at n z) i) e
      ∙ insert_same ws (row_at n t) i in_area
      ∙ sym (ap (λ z. bit_of (lists.elem z (take k l ++ (t ∷ [])))) e ∙ ap bit_of (elem-last (take k l) t))
  column-more j b (no d) = insert_row ws d small small ∙ s.column j b ∙ sym (ap bit_of (elem-before (take k l) d))

  others_same : (j m : ℕ) → j < n → m < n → m ≢ i → Dec (j ≡ t) → has (inserted ws (row_at n t) i) (row_at n j) m ≡ has ws (row_at n j) m
  others_same j m a b d (yes e) =
      ap (λ z. has (inserted ws (row_at n t) i) (row_at n z) m) e
      ∙ insert_other ws (row_at n t) i m in_area d
      ∙ sym (ap (λ z. has ws (row_at n z) m) e)
  others_same j m a b d (no e) = insert_row ws e small b

  pub noting_more : Noting l ws₀ vs n i (k + 1)
  noting_more = subst (λ z. Noting l ws₀ z n i (k + 1)) (sym (change.slice ∙ ap (λ z. inserted ws z i) place)) (record {
    low = omega arith;
    column = λ j b. column-more j b (ℕ_discrete j t) ∙ sym (ap (λ z. bit_of (lists.elem j z)) (ap (λ z. take z l) (add-one k) ∙ take-suc l k 0 short ∙ ap (λ z. take k l ++ (z ∷ [])) (sym is)));
    others = λ j m a b d. others_same j m a b d (ℕ_discrete j t) ∙ s.others j m a b d;
    kept = keeps-trans s.kept (keeps-inserted ws (row_at n t) i (row_from n t) (omega (arith, member-word small, row_fits n target)));
  })

-- the whole list is noted
pub noting_all : {f : Flow} {ws₀ ws : List ℕ} {n i k : ℕ} → Noting (successors f i) ws₀ ws n i k → length (successors f i) ≤ k → Noted f ws₀ ws n i
noting_all {f} {ws₀} {ws} {n} {i} {k} s l = record {
  column = subst (λ z. Column ws n i z) (take_all k (successors f i) l) s.column;
  others = s.others;
  kept = s.kept;
}
