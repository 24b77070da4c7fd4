-- What is read from a word says what the word is: which body is asked, and which statement follows first.
-- By the tests that the reading makes. Assumes nothing.
use Prim.Native.Nat.{ℕ, ◌+◌, ◌-◌, ◌%◌, ◌<◌, ◌≤◌}
use mathlib.Core.Bool.{true, false}
use mathlib.Core.List.{List}
use mathlib.Core.Logic.{⊎_elim}
use mathlib.Core.Path.{◌≡◌, refl, sym, ◌∙◌, ap}
use native.Mathlib.Decide.{ℕ_discrete}
use native.Mathlib.Omega.{arith}
use borrow.Author.Tests.{eq-eqb, ne_eqb}
use lib.ListN.{get_or}
use Rattle.std.specs.Prelude.{Option, Some, None, leb}
use Rattle.std.proofs.lemmas.Bool.{leb-true, leb-false}
use Rattle.flow.specs.declared.StmtId.{StmtId}
use Rattle.flow.specs.Clauses.Answers.{statement_in}
use Rattle.statements.specs.Clauses.Layout.{sure_at}
use Rattle.statements.proofs.StatementIn.{statement_in-some, statement_in-none}
use Rattle.sure.specs.declared.encoding.Followers.{Followers}
use Rattle.sure.specs.Clauses.Layout.{first_at, more}
use Rattle.sure.specs.Clauses.Encoding.{followers_of}
use Rattle.sure.specs.Clauses.Noting.{body_of, body_word, asked, Firsts}
use Rattle.sure.proofs.Bodies.{word_some, word_none}

-- The body that statement i asks, whose word is read at the place `at + i`

asked-word : (w : ℕ) → body_word (asked w) ≡ w
asked-word w = go (ℕ_discrete w 0)
  where
    go : Dec (w ≡ 0) → body_word (asked w) ≡ w
    go (yes d) = rw d refl
    go (no d) = rw (ne_eqb w 0 d) (omega (arith, d))

module _ (ws : List ℕ) (n i : ℕ) {at : ℕ} {o : Option StmtId} (place : at ≡ sure_at n) (read : o ≡ statement_in (body_of (asked (get_or ws (at + i) 0)))) where
  asks : get_or ws (sure_at n + i) 0 ≡ get_or ws (at + i) 0
  asks = ap (λ z. get_or ws (z + i) 0) (sym place)

  pub asks_body : (b : StmtId) → o ≡ Some b → get_or ws (sure_at n + i) 0 ≡ b.0 + 1
  asks_body b e = asks ∙ sym (asked-word (get_or ws (at + i) 0)) ∙ word_some (asked (get_or ws (at + i) 0)) (statement_in-some _ b (sym read ∙ e))

  pub asks_none : o ≡ None → get_or ws (sure_at n + i) 0 ≡ 0
  asks_none e = asks ∙ sym (asked-word (get_or ws (at + i) 0)) ∙ word_none (asked (get_or ws (at + i) 0)) (statement_in-none _ (sym read ∙ e))

-- The followers of statement j, whose word is read at the place `at`

first-read : (w : ℕ) {f : Followers} → followers_of w ≡ Some f → (w % more ≡ f.first.0 + 1) × (leb more w ≡ f.more)
first-read w {f} e = go (ℕ_discrete (w % more) 0)
  where
    go : Dec (w % more ≡ 0) → (w % more ≡ f.first.0 + 1) × (leb more w ≡ f.more)
    go (yes d) = let no : ◌≡◌ {A = Option Followers} None (Some f) = rw (eq-eqb (w % more) 0 d) at e in cc
    go (no d) =
        let some : ◌≡◌ {A = Option Followers} (Some (record { first = record { 0 = w % more - 1 }; more = leb more w })) (Some f) = rw (ne_eqb (w % more) 0 d) at e in
        let is : ◌≡◌ {A = Followers} (record { first = record { 0 = w % more - 1 }; more = leb more w }) f = cc in
        (omega (arith, d, ap (λ z. z.first.0) is), ap (λ z. z.more) is)

none-read : (w : ℕ) → followers_of w ≡ None → w % more ≡ 0
none-read w e = go (ℕ_discrete (w % more) 0)
  where
    go : Dec (w % more ≡ 0) → w % more ≡ 0
    go (yes d) = d
    go (no d) = let some : ◌≡◌ {A = Option Followers} (Some (record { first = record { 0 = w % more - 1 }; more = leb more w })) None = rw (ne_eqb (w % more) 0 d) at e in cc

module _ (ws : List ℕ) (n j : ℕ) {at : ℕ} {o : Option Followers} (place : at ≡ first_at n j) (read : o ≡ followers_of (get_or ws at 0)) where
  there : get_or ws (first_at n j) 0 ≡ get_or ws at 0
  there = ap (λ z. get_or ws z 0) (sym place)

  pub no_follower : Firsts ws n → j < n → o ≡ None → get_or ws (first_at n j) 0 ≡ 0
  no_follower firsts l e = ⊎_elim (λ d. d) (λ t. absurd (omega (arith, there, t.0, none-read (get_or ws at 0) (sym read ∙ e)))) (firsts j l)

  pub first-is : Firsts ws n → j < n → (f : Followers) → o ≡ Some f → (get_or ws (first_at n j) 0 % more ≡ f.first.0 + 1) × (f.first.0 < n)
  first-is firsts l f e =
      let is = (first-read (get_or ws at 0) (sym read ∙ e)).0 in
      (omega (arith, there, is), ⊎_elim (λ d. absurd (omega (arith, there, is))) (λ t. omega (arith, there, is, t.1)) (firsts j l))

  pub are_more : (f : Followers) → o ≡ Some f → f.more ≡ true → more ≤ get_or ws (first_at n j) 0
  are_more f e t = let is = (first-read (get_or ws at 0) (sym read ∙ e)).1 in let up : more ≤ get_or ws at 0 = leb-true more (get_or ws at 0) (is ∙ t) in omega (arith, there)

  pub no_more : (f : Followers) → o ≡ Some f → f.more ≡ false → (get_or ws (first_at n j) 0 ≡ f.first.0 + 1) × (f.first.0 + 1 < more)
  no_more f e t =
      let is = first-read (get_or ws at 0) (sym read ∙ e) in
      let low : get_or ws at 0 < more = leb-false more (get_or ws at 0) (is.1 ∙ t) in
      (omega (arith, there, is.0), omega (arith, is.0))
