-- What stays where only the sets and the row of those that wait change: what is noted of the file, the bodies that are asked, and the statements that are noted at others.
-- By the words that stay. Assumes nothing.
use Prim.Native.Nat.{ℕ, ◌+◌, ◌/◌, ◌%◌, ◌<◌, ◌≤◌}
use mathlib.Core.Bool.{Bool}
use mathlib.Core.List.{List}
use mathlib.Core.Logic.{◌⊎◌, inl, inr, ⊎_elim}
use mathlib.Core.Path.{◌≡◌, refl, sym, ◌∙◌, ap, subst}
use native.Mathlib.Nat.{le_refl}
use native.Mathlib.Omega.{arith}
use lib.ListN.{length, get_or}
use Rattle.words.specs.Clauses.Row.{has}
use Rattle.words.specs.Clauses.Change.{PairJoined, removed}
use Rattle.words.proofs.Pair.{pair-other}
use Rattle.flow.specs.Flow.{Flow}
use Rattle.statements.specs.Clauses.Layout.{row_words, sure_at, row_at}
use Rattle.statements.specs.Clauses.Ready.{Ready, Keeps}
use Rattle.statements.proofs.WorkArea.{member-word, row-words-le, row_from, row_fits}
use Rattle.statements.proofs.Keeps.{keeps-refl, keeps-trans, keeps_widen, keeps-has, keeps-pair, keeps-removed, ready-keeps}
use Rattle.sure.specs.Clauses.Layout.{set_at, first_at, waiting_at, words_end, mirror, more}
use Rattle.sure.specs.Clauses.Noting.{Asks, Noted, Firsts, Followers}
use Rattle.sure.specs.Clauses.Missing.{Bodies, OnlySets}

pub only-refl : {ws : List ℕ} {n : ℕ} → OnlySets ws ws n
only-refl = record { firsts = λ x l m. refl; kept = keeps-refl }

pub only-trans : {ws vs us : List ℕ} {n : ℕ} → OnlySets ws vs n → OnlySets vs us n → OnlySets ws us n
only-trans a b = record { firsts = λ x l m. b.firsts x l m ∙ a.firsts x l m; kept = keeps-trans a.kept b.kept }

-- The steps of a visit

module _ {ws vs : List ℕ} {n : ℕ} where
  -- a change of the row of those that wait
  pub only-waiting : Keeps (waiting_at n) (words_end n) ws vs → OnlySets ws vs n
  only-waiting k = record { firsts = λ x l m. k.below x m; kept = keeps_widen (omega arith) (le_refl _) k }

  pub only-removed : {i row place : ℕ} → i < n → row ≡ waiting_at n → place ≡ mirror n i → vs ≡ removed ws row place → OnlySets ws vs n
  only-removed {i} {row} {place} l row_is place_is out =
      let word : place / 64 < row_words n = member-word (omega arith) in
      only-waiting (subst (λ z. Keeps (waiting_at n) (words_end n) ws z) (sym out) (keeps-removed ws row place (omega arith) (omega (arith, row-words-le n))))

  -- two words joined to a set
  pub only-pair : {i at a b : ℕ} {r : Bool} → i < n → words_end n ≤ length ws → at ≡ set_at n i → PairJoined ws vs at a b r → OnlySets ws vs n
  only-pair l room at-is p = record {
    firsts = λ x from to. pair-other p (omega arith) x (λ e. omega arith) (λ e. omega arith);
    kept = keeps-pair p (omega arith) (omega arith);
  }

-- What stays

module _ {ws vs : List ℕ} {n : ℕ} (o : OnlySets ws vs n) where
  pub only-ready : {s : List ℕ} → Ready s ws n → Ready s vs n
  only-ready r = ready-keeps r o.kept (omega (arith, row_from n n))

  pub only-room : words_end n ≤ length ws → words_end n ≤ length vs
  only-room l = omega (arith, o.kept.size)

  sure-word : (c : ℕ) → c < n → get_or vs (sure_at n + c) 0 ≡ get_or ws (sure_at n + c) 0
  sure-word c l = o.kept.below (sure_at n + c) (omega (arith, row_from n n))

  pub only-bodies : Bodies ws n → Bodies vs n
  only-bodies b c l = omega (arith, sure-word c l, b c l)

  pub only-asks : (bodies : ℕ → List ℕ) → Asks bodies ws n → Asks bodies vs n
  only-asks bodies a c l = sure-word c l ∙ a c l

  first_word : (j : ℕ) → j < n → get_or vs (first_at n j) 0 ≡ get_or ws (first_at n j) 0
  first_word j l = o.firsts (first_at n j) (omega arith) (omega arith)

  pub only-firsts : Firsts ws n → Firsts vs n
  only-firsts f j l = subst (λ z. (z ≡ 0) ⊎ ((0 < z % more) × (z % more ≤ n))) (sym (first_word j l)) (f j l)

  row_same : (j k : ℕ) → j < n → k < n → has vs (row_at n j) (mirror n k) ≡ has ws (row_at n j) (mirror n k)
  row_same j k l m =
      let low : mirror n k < n = omega arith in
      keeps-has o.kept (row_at n j) (mirror n k) (λ a b. omega (arith, row_fits n l, member-word low))

  pub only-noted : (j k : ℕ) → j < n → k < n → Noted ws n j k → Noted vs n j k
  only-noted j k l m =
      ⊎_elim (λ e. inl (ap (λ z. z % more) (first_word j l) ∙ e)) (λ t. inr (omega (arith, first_word j l, t.0), row_same j k l m ∙ t.1))

  pub only-followers : {f : Flow} {bodies : ℕ → List ℕ} → Followers f bodies ws n → Followers f bodies vs n
  only-followers g = record { words = only-firsts g.words; noted = λ j k l m t. only-noted j k l m (g.noted j k l m t) }
