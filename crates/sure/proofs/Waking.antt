-- Those wait whose sets follow from a statement's: the one that is noted first, and where there are more, those of the statement's row.
-- By a number inserted into the row of those that wait, and a union into it. Assumes nothing.
use Prim.Native.Nat.{ℕ, ◌+◌, ◌/◌, ◌%◌, ◌<◌, ◌≤◌}
use mathlib.Core.Bool.{Bool}
use mathlib.Core.List.{List}
use mathlib.Core.Logic.{◌⊎◌, inl, inr, ⊎_elim}
use mathlib.Core.Path.{◌≡◌, sym, ◌∙◌, ap, subst}
use native.Mathlib.Decide.{ℕ_discrete}
use native.Mathlib.Omega.{arith}
use lib.ListN.{length, get_or}
use Rattle.words.specs.Clauses.Row.{has}
use Rattle.words.specs.Clauses.Change.{Inserted, inserted, Unioned, unioned}
use Rattle.words.proofs.Row.{has-lt}
use Rattle.words.proofs.Inserted.{length_inserted, insert_same, insert_other, insert_else}
use Rattle.words.proofs.Unioned.{unioned-has}
use Rattle.statements.specs.Clauses.Layout.{row_words, row_at}
use Rattle.statements.specs.Clauses.Ready.{Keeps}
use Rattle.statements.proofs.WorkArea.{member-word, row-holds, row-words-le, row_fits}
use Rattle.statements.proofs.Keeps.{keeps-refl, keeps-trans, keeps-inserted, keeps-unioned}
use Rattle.sure.specs.Clauses.Layout.{first_at, waiting_at, words_end, mirror, more}
use Rattle.sure.specs.Clauses.Noting.{Waits}
use Rattle.sure.specs.Clauses.Missing.{Woken}

module _ {ws : List ℕ} {n j : ℕ} (l : j < n) where
  -- nothing follows
  pub woken_none : get_or ws (first_at n j) 0 ≡ 0 → Woken ws ws n j
  woken_none e = record {
    wakes = λ k m t. absurd (⊎_elim (λ d. omega arith) (λ d. omega (arith, d.0)) t);
    stays = λ k m w. w;
    kept = keeps-refl;
  }

  -- statement i follows first
  module _ {us : List ℕ} {i row place : ℕ} {fresh : Bool} (room : words_end n ≤ length ws) (is : (get_or ws (first_at n j) 0 % more ≡ i + 1) × (i < n)) (row_is : row ≡ waiting_at n)
      (place_is : place ≡ mirror n i) (new : Inserted ws us row place fresh) where
    us_is : us ≡ inserted ws (waiting_at n) (mirror n i)
    us_is = new.slice ∙ ap (λ z. inserted ws z place) row_is ∙ ap (inserted ws (waiting_at n)) place_is

    at_place : mirror n i < n
    at_place = omega (arith, l)

    in_row : waiting_at n + mirror n i / 64 < length ws
    in_row = omega (arith, member-word at_place, row-words-le n, room)

    size_us : length us ≡ length ws
    size_us = ap length us_is ∙ length_inserted ws (waiting_at n) (mirror n i)

    first-waits : (k : ℕ) → k ≡ i → Waits us n k
    first-waits k e =
        subst (λ z. Waits us n z) (sym e) (ap (λ z. has z (waiting_at n) (mirror n i)) us_is ∙ insert_same ws (waiting_at n) (mirror n i) in_row)

    stays_us : (k : ℕ) → k < n → Waits ws n k → Waits us n k
    stays_us k m w = go (ℕ_discrete k i)
      where
        go : Dec (k ≡ i) → Waits us n k
        go (yes e) = first-waits k e
        go (no d) = ap (λ z. has z (waiting_at n) (mirror n k)) us_is ∙ insert_other ws (waiting_at n) (mirror n i) (mirror n k) in_row (λ e. omega (arith, d, is.1)) ∙ w

    kept_us : Keeps (waiting_at n) (words_end n) ws us
    kept_us =
        subst (λ z. Keeps (waiting_at n) (words_end n) ws z) (sym us_is)
        (keeps-inserted ws (waiting_at n) (mirror n i) (omega arith) (omega (arith, member-word at_place, row-words-le n)))

    -- there are no more
    pub woken_first : get_or ws (first_at n j) 0 < more → Woken ws us n j
    woken_first few = record {
      wakes = λ k m t. ⊎_elim (λ e. first-waits k (omega (arith, is.0))) (λ d. absurd (omega (arith, d.0))) t;
      stays = stays_us;
      kept = kept_us;
    }

    -- those of the row as well
    module _ {vs : List ℕ} {to from width : ℕ} {r : Bool} (to_is : to ≡ waiting_at n) (from_is : from ≡ row_at n j) (width_is : width ≡ row_words n) (all : Unioned us vs to from width r) where
      vs-is : vs ≡ unioned us (waiting_at n) (row_at n j) (row_words n)
      vs-is = all.slice ∙ ap (λ z. unioned us z from width) to_is ∙ ap (λ z. unioned us (waiting_at n) z width) from_is ∙ ap (unioned us (waiting_at n) (row_at n j)) width_is

      either : (k : ℕ) → k < n → (has us (waiting_at n) (mirror n k) ≡ 1) ⊎ (has us (row_at n j) (mirror n k) ≡ 1) → Waits vs n k
      either k m t =
          let both = unioned-has us (waiting_at n) (row_at n j) (row_words n) (omega (arith, size_us, room, row-words-le n)) (λ a b c d e. omega (arith, row_fits n l)) (mirror n k) (omega (arith, row-holds n)) in
          ap (λ z. has z (waiting_at n) (mirror n k)) vs-is ∙ both
          ∙ ⊎_elim (λ e. omega (arith, has-lt us (row_at n j) (mirror n k))) (λ e. omega (arith, has-lt us (waiting_at n) (mirror n k))) t

      same_row : (k : ℕ) → k < n → has us (row_at n j) (mirror n k) ≡ has ws (row_at n j) (mirror n k)
      same_row k m =
          let low : mirror n k < n = omega arith in
          ap (λ z. has z (row_at n j) (mirror n k)) us_is
          ∙ insert_else ws (waiting_at n) (mirror n i) (row_at n j) (mirror n k) (λ e. omega (arith, row_fits n l, member-word low))

      pub woken_more : Woken ws vs n j
      woken_more = record {
        wakes = λ k m t. either k m (⊎_elim (λ e. inl (first-waits k (omega (arith, is.0)))) (λ d. inr (same_row k m ∙ d.1)) t);
        stays = λ k m w. either k m (inl (stays_us k m w));
        kept = keeps-trans kept_us (subst (λ z. Keeps (waiting_at n) (words_end n) us z) (sym vs-is) (keeps-unioned us (waiting_at n) (row_at n j) (row_words n) (omega arith) (omega (arith, row-words-le n))));
      }
