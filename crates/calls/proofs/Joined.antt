-- Laws of `Joins`, what noting changes in the rows of RETURNs: nothing, one change after another, and the same test in other words; of `Gains`, where k joins
-- rows of the matrix, one insertion after the other; and of `Adds`, the same for a row that bodies are joined to. By the laws of rows.
use Prim.Native.Nat.{ℕ, ◌+◌, ◌/◌, ◌≤◌, ◌<◌, max}
use mathlib.Core.Bool.{Bool, true, false, cond, ◌&&◌, ◌||◌, or-false, and-true, and-false, and-or_distrib_right}
use mathlib.Core.List.{List, [], ◌∷◌, ◌++◌}
use mathlib.Core.Path.{◌≡◌, refl, sym, ◌∙◌, ap, ap₂, subst}
use native.Mathlib.Omega.{arith}
use borrow.Author.Tests.{eqb-true, eqb-false}
use lib.Dec.{eqb}
use lib.ListN.{length}
use Rattle.words.specs.Clauses.Row.{has}
use Rattle.words.specs.Clauses.Change.{Inserted, inserted, Unioned, unioned}
use Rattle.words.proofs.Row.{has-lt}
use Rattle.words.proofs.Inserted.{insert_same, insert_other}
use Rattle.words.proofs.Unioned.{unioned-has}
use Rattle.flow.specs.Flow.{Flow}
use Rattle.theory.specs.Lists as lists
use Rattle.theory.specs.Body.{kind, is_return}
use Rattle.theory.proofs.Lists.{elem-append}
use Rattle.statements.specs.Clauses.Layout.{row_at, row_words, queue_at, entered_row_at, solver_at}
use Rattle.statements.specs.Clauses.Ready.{Keeps}
use Rattle.statements.proofs.WorkArea.{member-word, row-holds, row_from, row_fits, insert_row}
use Rattle.statements.proofs.Keeps.{keeps-refl, keeps-trans, keeps_widen, keeps-has, keeps-inserted, keeps-unioned}
use Rattle.calls.specs.Clauses.Held.{Empty}
use Rattle.calls.specs.Clauses.Joins.{Joins, Gains, Adds, Target}

max-or : (a : ℕ) (p q : Bool) → max (max a (cond p 1 0)) (cond q 1 0) ≡ max a (cond (p || q) 1 0)
max-or a true true = omega arith
max-or a true false = omega arith
max-or a false true = omega arith
max-or a false false = omega arith

-- one insertion, among the members of its row
inserted-bit : (ws : List ℕ) (base i : ℕ) → base + i / 64 < length ws → (j : ℕ) → has (inserted ws base i) base j ≡ max (has ws base j) (cond (eqb j i) 1 0)
inserted-bit ws base i l j = go (eqb j i) refl
  where
    go : (b : Bool) → eqb j i ≡ b → has (inserted ws base i) base j ≡ max (has ws base j) (cond b 1 0)
    go true e = rw (eqb-true j i e) (insert_same ws base i l ∙ omega (arith, has-lt ws base i))
    go false e = insert_other ws base i j l (eqb-false j i e) ∙ omega arith

-- a change above the matrix leaves its rows
pub row_stays : {ws vs : List ℕ} {n lo hi e i : ℕ} → Keeps lo hi ws vs → queue_at n ≤ lo → e < n → i < n → has vs (row_at n e) i ≡ has ws (row_at n e) i
row_stays {n = n} {e = e} {i = i} a h l m = keeps-has a (row_at n e) i (λ x y. omega (arith, row_fits n l, member-word m))

pub joins-none : {f : Flow} {ws : List ℕ} {n hi : ℕ} → Joins f ws ws n hi (λ r k. false)
joins-none = record { kept = keeps-refl; others = λ e i l m h. refl; joined = λ r k l m h. omega arith }

pub joins-then : {f : Flow} {ws vs us : List ℕ} {n hi : ℕ} {p q : ℕ → ℕ → Bool} → Joins f ws vs n hi p → Joins f vs us n hi q → Joins f ws us n hi (λ r k. p r k || q r k)
joins-then {ws = ws} {n = n} {p = p} {q = q} a b = record {
  kept = keeps-trans a.kept b.kept;
  others = λ e i l m h. b.others e i l m h ∙ a.others e i l m h;
  joined = λ r k l m h. b.joined r k l m h ∙ ap (λ (x : ℕ). max x (cond (q r k) 1 0)) (a.joined r k l m h) ∙ max-or (has ws (row_at n r) k) (p r k) (q r k);
}

pub joins-same : {f : Flow} {ws vs : List ℕ} {n hi : ℕ} {p q : ℕ → ℕ → Bool} → Joins f ws vs n hi p
    → ((r k : ℕ) → r < n → k < n → is_return (kind f r) ≡ true → p r k ≡ q r k) → Joins f ws vs n hi q
joins-same {ws = ws} {n = n} a e = record {
  kept = a.kept;
  others = a.others;
  joined = λ r k l m h. a.joined r k l m h ∙ ap (λ (t : Bool). max (has ws (row_at n r) k) (cond t 1 0)) (e r k l m h);
}

-- Rows of the matrix that k joins

pub gains-none : {ws : List ℕ} {n hi k : ℕ} {p : ℕ → Bool} → ((r : ℕ) → r < n → p r ≡ false) → Gains ws ws n hi p k
gains-none h = record { kept = keeps-refl; rows = λ r j l m. rw (h r l) (omega arith) }

pub gains-same : {ws vs : List ℕ} {n hi k : ℕ} {p q : ℕ → Bool} → Gains ws vs n hi p k → ((r : ℕ) → r < n → p r ≡ q r) → Gains ws vs n hi q k
gains-same {ws = ws} {n = n} {k = k} g e = record {
  kept = g.kept;
  rows = λ r j l m. g.rows r j l m ∙ ap (λ (t : Bool). max (has ws (row_at n r) j) (cond (t && eqb j k) 1 0)) (e r l);
}

-- one row more, and more after more

pub gains_insert : {ws us : List ℕ} {n r k : ℕ} {b : Bool} → Inserted ws us (row_at n r) k b → r < n → k < n → queue_at n ≤ length ws → Gains ws us n (queue_at n) (λ s. eqb s r) k
gains_insert {ws} {us} {n} {r} {k} i lr lk room = subst (λ (xs : List ℕ). Gains ws xs n (queue_at n) (λ s. eqb s r) k) (sym i.slice) (record {
  kept = keeps-inserted ws (row_at n r) k (row_from n r) inside;
  rows = λ s j ls lj. go s j ls lj (eqb s r) refl;
})
  where
    inside : row_at n r + k / 64 < queue_at n
    inside = omega (arith, row_fits n lr, member-word lk)

    go : (s j : ℕ) → s < n → j < n → (t : Bool) → eqb s r ≡ t → has (inserted ws (row_at n r) k) (row_at n s) j ≡ max (has ws (row_at n s) j) (cond (t && eqb j k) 1 0)
    go s j ls lj true e = rw (eqb-true s r e) (inserted-bit ws (row_at n r) k (omega (arith, inside)) j)
    go s j ls lj false e = insert_row ws (eqb-false s r e) lk lj ∙ omega arith

pub gains-then : {ws us vs : List ℕ} {n hi k : ℕ} {p q : ℕ → Bool} → Gains ws us n hi p k → Gains us vs n hi q k → Gains ws vs n hi (λ s. p s || q s) k
gains-then {ws} {n = n} {k = k} {p = p} {q = q} a b = record {
  kept = keeps-trans a.kept b.kept;
  rows = λ s j ls lj.
      b.rows s j ls lj ∙ ap (λ (x : ℕ). max x (cond (q s && eqb j k) 1 0)) (a.rows s j ls lj) ∙ max-or (has ws (row_at n s) j) (p s && eqb j k) (q s && eqb j k)
      ∙ ap (λ (t : Bool). max (has ws (row_at n s) j) (cond t 1 0)) (sym (and-or_distrib_right (p s) (q s) (eqb j k)));
}

-- a change of the row of entered statements may come before
pub gains-after : {ws vs us : List ℕ} {n hi k : ℕ} {p : ℕ → Bool} → Keeps (entered_row_at n) (solver_at n) ws vs → hi ≤ solver_at n → Gains vs us n hi p k
    → Gains ws us n (solver_at n) p k
gains-after {n = n} {k = k} {p = p} a h g = record {
  kept = keeps-trans (keeps_widen (omega (arith, row_from n n)) (omega arith) a) (keeps_widen (omega arith) h g.kept);
  rows = λ r j l m. g.rows r j l m ∙ ap (λ (x : ℕ). max x (cond (p r && eqb j k) 1 0)) (row_stays a (omega arith) l m);
}

-- where only RETURNs pass the test, only their rows change
pub gains-joins : {f : Flow} {ws vs : List ℕ} {n hi k : ℕ} {p : ℕ → Bool} (q : ℕ → Bool) → Gains ws vs n hi p k → ((r : ℕ) → r < n → p r ≡ (q r && is_return (kind f r)))
    → Joins f ws vs n hi (λ r j. q r && eqb j k)
gains-joins {f} {ws} {vs} {n} {hi} {k} {p} q g e = record {
  kept = g.kept;
  others = λ r j l m no. row r j l m (e r l ∙ ap (λ (t : Bool). q r && t) no ∙ and-false (q r)) ∙ omega arith;
  joined = λ r j l m is. row r j l m (e r l ∙ ap (λ (t : Bool). q r && t) is ∙ and-true (q r));
}
  where
    row : (r j : ℕ) → r < n → j < n → {t : Bool} → p r ≡ t → has vs (row_at n r) j ≡ max (has ws (row_at n r) j) (cond (t && eqb j k) 1 0)
    row r j l m same = g.rows r j l m ∙ ap (λ (t : Bool). max (has ws (row_at n r) j) (cond (t && eqb j k) 1 0)) same

-- A row that bodies are joined to

module _ {to : ℕ} where
  pub adds_none : {ws : List ℕ} {n : ℕ} → Adds to ws ws n []
  unfolding lists.elem
  adds_none = record { kept = keeps-refl; joined = λ j l. omega arith }

  pub adds_then : {ws vs us : List ℕ} {n : ℕ} {xs ys : List ℕ} → Adds to ws vs n xs → Adds to vs us n ys → Adds to ws us n (xs ++ ys)
  adds_then {ws} {n = n} {xs = xs} {ys = ys} a b = record {
    kept = keeps-trans a.kept b.kept;
    joined = λ j l.
        b.joined j l ∙ ap (λ (x : ℕ). max x (cond (lists.elem j ys) 1 0)) (a.joined j l) ∙ max-or (has ws to j) (lists.elem j xs) (lists.elem j ys)
        ∙ ap (λ (t : Bool). max (has ws to j) (cond t 1 0)) (sym (elem-append j xs ys));
  }

  pub adds_insert : {ws vs : List ℕ} {n b : ℕ} {t : Bool} → Inserted ws vs to b t → b < n → to + row_words n ≤ length ws → Adds to ws vs n (b ∷ [])
  unfolding lists.elem
  adds_insert {ws} {vs} {n} {b} i l room = subst (λ (us : List ℕ). Adds to ws us n (b ∷ [])) (sym i.slice) (record {
    kept = keeps-inserted ws to b (omega arith) (omega (arith, member-word l));
    joined = λ j lj. inserted-bit ws to b (omega (arith, member-word l)) j ∙ ap (λ (t : Bool). max (has ws to j) (cond t 1 0)) (sym (or-false (eqb j b)));
  })

  -- the row e of the matrix joins it
  pub adds_union : {ws vs : List ℕ} {n e from width : ℕ} {t : Bool} (xs : List ℕ) → Unioned ws vs to from width t → from ≡ row_at n e → width ≡ row_words n → e < n → queue_at n ≤ to → to + row_words n ≤ length ws
      → ((j : ℕ) → j < n → has ws (row_at n e) j ≡ cond (lists.elem j xs) 1 0) → Adds to ws vs n xs
  adds_union {ws} {vs} {n} {e} xs u p q l apart room holds = subst (λ (us : List ℕ). Adds to ws us n xs) (sym (u.slice ∙ ap₂ (λ (x y : ℕ). unioned ws to x y) p q)) (record {
    kept = keeps-unioned ws to (row_at n e) (row_words n) (omega arith) (omega arith);
    joined = λ j lj.
        unioned-has ws to (row_at n e) (row_words n) room (λ i k a b z. omega (arith, row_fits n l)) j (omega (arith, row-holds n))
        ∙ ap (max (has ws to j)) (holds j lj);
  })

  pub adds_same : {ws vs : List ℕ} {n : ℕ} {xs ys : List ℕ} → Adds to ws vs n xs → ((j : ℕ) → lists.elem j xs ≡ lists.elem j ys) → Adds to ws vs n ys
  adds_same {ws} {n = n} a e = record {
    kept = a.kept;
    joined = λ j l. a.joined j l ∙ ap (λ (t : Bool). max (has ws to j) (cond t 1 0)) (e j);
  }

  -- where the row was empty, it holds what was joined
  pub adds_all : {ws vs : List ℕ} {n : ℕ} {xs : List ℕ} → Empty ws n to → Adds to ws vs n xs → (j : ℕ) → j < n → has vs to j ≡ cond (lists.elem j xs) 1 0
  adds_all {xs = xs} empty a j l =
      let t : ℕ = cond (lists.elem j xs) 1 0 in
      let only : max 0 t ≡ t = omega arith in
      a.joined j l ∙ ap (λ (x : ℕ). max x t) (empty j l) ∙ only

  pub adds_target : {ws vs : List ℕ} {n : ℕ} {xs : List ℕ} {whole : Bool} → Adds to ws vs n xs → Target ws n to whole → Target vs n to whole
  adds_target a h = record { low = h.low; high = let z = a.kept.size in let r = h.high in omega arith; apart = h.apart }
