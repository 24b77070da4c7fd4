-- A statement noted at another: as the first there, or in the row there, which is zeroed when it is first used. So it is at each statement of a list, one after another.
-- By the words that a change leaves: rows of the matrix lie apart, and the first words behind them all. Assumes nothing.
use Prim.Native.Nat.{ℕ, ◌+◌, ◌-◌, ◌/◌, ◌%◌, ◌<◌, ◌≤◌}
use mathlib.Core.List.Memᴰ
use mathlib.Core.List.{List, [], ◌∷◌, ◌++◌}
use mathlib.Core.Logic.{◌⊎◌, inl, inr, ⊎_elim, ◌≢◌}
use mathlib.Core.Path.{◌≡◌, refl, sym, ◌∙◌, ap, subst}
use native.Mathlib.Decide.{ℕ_discrete, dec_lt}
use native.Mathlib.Numerals.{add-one}
use native.Mathlib.Omega.{arith}
use borrow.Author.Tests.{ne_eqb}
use lib.ListN.{length, get_or, set, take, drop, length-set, take-append-drop}
use lib.Seq.{get_or-set_same, get_or-set_other, take-suc, take_all}
use Rattle.words.specs.Clauses.Row.{has}
use Rattle.words.specs.Clauses.Change.{inserted, zeroed}
use Rattle.words.proofs.Row.{has-cong}
use Rattle.words.proofs.Inserted.{length_inserted, inserted-other, insert_same, insert_other}
use Rattle.words.proofs.Zeroed.{length-zeroed, zeroed-other}
use Rattle.flow.specs.Limits.{max_statements}
use Rattle.theory.specs.Lists.{In}
use Rattle.statements.specs.Clauses.Layout.{row_words, row_at}
use Rattle.statements.proofs.Keeps.{keeps-refl, keeps-trans}
use Rattle.statements.proofs.WorkArea.{member-word, row_from, rows_apart, row_fits}
use Rattle.sure.specs.Clauses.Layout.{first_at, words_end, mirror, more}
use Rattle.sure.specs.Clauses.Noting.{asked, Noted, Firsts, NotesFollower}

-- The words at statement j: its first follower, and its row. No other word changes
pub record OnlyAt (ws vs : List ℕ) (n j : ℕ) : Type 0 where
  pub size : length vs ≡ length ws
  pub others : (x : ℕ) → x ≢ first_at n j → (row_at n j ≤ x → x < row_at n j + row_words n → ⊥) → get_or vs x 0 ≡ get_or ws x 0

only-refl : {ws : List ℕ} {n j : ℕ} → OnlyAt ws ws n j
only-refl = record { size = refl; others = λ x d out. refl }

only-trans : {ws vs us : List ℕ} {n j : ℕ} → OnlyAt ws vs n j → OnlyAt vs us n j → OnlyAt ws us n j
only-trans a b = record { size = b.size ∙ a.size; others = λ x d out. b.others x d out ∙ a.others x d out }

only-first : (ws : List ℕ) (n j v : ℕ) → OnlyAt ws (set ws (first_at n j) v) n j
only-first ws n j v = record { size = length-set ws (first_at n j) v; others = λ x d out. get_or-set_other ws (first_at n j) x v 0 d }

only-zeroed : (ws : List ℕ) (n j : ℕ) → OnlyAt ws (zeroed ws (row_at n j) (row_words n)) n j
only-zeroed ws n j = record { size = length-zeroed ws (row_at n j) (row_words n); others = λ x d out. zeroed-other ws (row_at n j) (row_words n) x (λ k l e. out (omega arith) (omega arith)) }

only-inserted : (ws : List ℕ) (n j : ℕ) {m : ℕ} → m < n → OnlyAt ws (inserted ws (row_at n j) m) n j
only-inserted ws n j {m} l = record {
  size = length_inserted ws (row_at n j) m;
  others = λ x d out. inserted-other ws (row_at n j) m x (λ e. out (omega arith) (omega (arith, member-word l)));
}

-- the place of a statement in a row
pub mirror-low : {n i : ℕ} → i < n → mirror n i < n
mirror-low l = omega arith

-- a member stays with another inserted
pub insert_stays : (ws : List ℕ) (base i k : ℕ) → base + i / 64 < length ws → has ws base k ≡ 1 → has (inserted ws base i) base k ≡ 1
insert_stays ws base i k fits h = go (ℕ_discrete k i)
  where
    go : Dec (k ≡ i) → has (inserted ws base i) base k ≡ 1
    go (yes e) = subst (λ z. has (inserted ws base i) base z ≡ 1) (sym e) (insert_same ws base i fits)
    go (no d) = insert_other ws base i k fits d ∙ h

-- what is noted at a statement whose words stay
pub noted-same : (ws vs : List ℕ) (n j k : ℕ) → get_or vs (first_at n j) 0 ≡ get_or ws (first_at n j) 0 → has vs (row_at n j) (mirror n k) ≡ has ws (row_at n j) (mirror n k) → Noted ws n j k → Noted vs n j k
noted-same ws vs n j k e d (inl a) = inl (ap (λ z. z % more) e ∙ a)
noted-same ws vs n j k e d (inr b) = inr (omega (arith, b.0), d ∙ b.1)

module _ {ws vs : List ℕ} {n j : ℕ} (lj : j < n) (only : OnlyAt ws vs n j) where
  -- at the other statements nothing changes

  other-first : (k : ℕ) → k ≢ j → get_or vs (first_at n k) 0 ≡ get_or ws (first_at n k) 0
  other-first k d = only.others (first_at n k) (λ e. d (omega arith)) (λ a b. omega (arith, row_fits n lj))

  other_row : (k m : ℕ) → k ≢ j → k < n → m < n → has vs (row_at n k) m ≡ has ws (row_at n k) m
  other_row k m d lk lm = has-cong vs ws (row_at n k) m (only.others (row_at n k + m / 64) (λ e. omega (arith, row_fits n lk, member-word lm)) (go (dec_lt j k)))
    where
      go : Dec (j < k) → row_at n j ≤ row_at n k + m / 64 → row_at n k + m / 64 < row_at n j + row_words n → ⊥
      go (yes l) a b = omega (arith, rows_apart n l)
      go (no l) a b = let less : k < j = omega (arith, l, d) in omega (arith, rows_apart n less, member-word lm)

  module _ {i : ℕ} (firsts : Firsts ws n) (low : 0 < get_or vs (first_at n j) 0 % more) (high : get_or vs (first_at n j) 0 % more ≤ n) (here : Noted vs n j i)
      (still : (k : ℕ) → k < n → Noted ws n j k → Noted vs n j k) where
    notes_at : NotesFollower ws vs n i (j ∷ [])
    notes_at = record {
      words = λ k l. word k l (ℕ_discrete k j);
      here = λ k m. subst (λ z. Noted vs n z i) (sym (Memᴰ.eq_of_singleton m)) here;
      stays = λ k m lk lm. stays k m lk lm (ℕ_discrete k j);
      sets = λ x a b. only.others x (λ e. omega arith) (λ c d. omega (arith, row_fits n lj));
      kept = record {
        size = only.size;
        below = λ x l. only.others x (λ e. omega (arith, row_from n j, row_fits n lj)) (λ a b. omega (arith, row_from n j));
        above = λ x l. only.others x (λ e. omega arith) (λ a b. omega (arith, row_fits n lj));
      };
    }
      where
        word : (k : ℕ) → k < n → Dec (k ≡ j) → (get_or vs (first_at n k) 0 ≡ 0) ⊎ ((0 < get_or vs (first_at n k) 0 % more) × (get_or vs (first_at n k) 0 % more ≤ n))
        word k l (yes e) = subst (λ z. (get_or vs (first_at n z) 0 ≡ 0) ⊎ ((0 < get_or vs (first_at n z) 0 % more) × (get_or vs (first_at n z) 0 % more ≤ n))) (sym e) (inr (low, high))
        word k l (no d) = subst (λ z. (z ≡ 0) ⊎ ((0 < z % more) × (z % more ≤ n))) (sym (other-first k d)) (firsts k l)

        stays : (k m : ℕ) → k < n → m < n → Dec (k ≡ j) → Noted ws n k m → Noted vs n k m
        stays k m lk lm (yes e) = subst (λ z. Noted ws n z m → Noted vs n z m) (sym e) (still m lm)
        stays k m lk lm (no d) = noted-same ws vs n k m (other-first k d) (other_row k (mirror n m) d lk (mirror-low lm))

-- Noted as the first
pub first-noted : {ws : List ℕ} {n i j : ℕ} → n ≤ max_statements → words_end n ≤ length ws → j < n → i < n → Firsts ws n → get_or ws (first_at n j) 0 ≡ 0
    → NotesFollower ws (set ws (first_at n j) (i + 1)) n i (j ∷ [])
first-noted {ws} {n} {i} {j} most room lj li firsts none =
    let word : get_or (set ws (first_at n j) (i + 1)) (first_at n j) 0 ≡ i + 1 = get_or-set_same ws (first_at n j) (i + 1) 0 (omega arith) in
    notes_at lj (only-first ws n j (i + 1)) firsts (omega arith) (omega arith) (inl (omega arith))
    (λ k l. ⊎_elim (λ e. absurd (omega arith)) (λ b. absurd (omega (arith, b.0))))

-- The row of j is in use: nothing that was noted there is lost
pub record InUse (ws vs : List ℕ) (n j : ℕ) : Type 0 where
  pub only : OnlyAt ws vs n j
  pub high : more ≤ get_or vs (first_at n j) 0
  pub same : get_or vs (first_at n j) 0 % more ≡ get_or ws (first_at n j) 0 % more
  pub row : more ≤ get_or ws (first_at n j) 0 → (k : ℕ) → has vs (row_at n j) k ≡ has ws (row_at n j) k

pub used_already : {ws : List ℕ} {n j : ℕ} → more ≤ get_or ws (first_at n j) 0 → InUse ws ws n j
used_already h = record { only = only-refl; high = h; same = refl; row = λ l k. refl }

pub used-first : {ws vs : List ℕ} {n j : ℕ} (i : ℕ) → words_end n ≤ length ws → j < n → get_or ws (first_at n j) 0 ≡ i + 1 → i + 1 < more → vs ≡ zeroed ws (row_at n j) (row_words n)
    → InUse ws (set vs (first_at n j) (i + 1 + more)) n j
used-first {ws} {vs} {n} {j} i room lj is low e =
    let only : OnlyAt ws vs n j = subst (λ z. OnlyAt ws z n j) (sym e) (only-zeroed ws n j) in
    let word : get_or (set vs (first_at n j) (i + 1 + more)) (first_at n j) 0 ≡ i + 1 + more = get_or-set_same vs (first_at n j) (i + 1 + more) 0 (omega (arith, only.size)) in
    record {
      only = only-trans only (only-first vs n j (i + 1 + more));
      high = omega arith;
      same = omega arith;
      row = λ h k. absurd (omega arith);
    }

-- Noted in the row
pub row-noted : {ws vs : List ℕ} {n i j : ℕ} → words_end n ≤ length ws → j < n → i < n → Firsts ws n → get_or ws (first_at n j) 0 ≢ 0 → InUse ws vs n j
    → NotesFollower ws (inserted vs (row_at n j) (mirror n i)) n i (j ∷ [])
row-noted {ws} {vs} {n} {i} {j} room lj li firsts some used =
    notes_at lj (only-trans used.only (only-inserted vs n j (mirror-low li))) firsts (omega (arith, first-same, used.same, bounds.0)) (omega (arith, first-same, used.same, bounds.1))
    (inr (omega (arith, first-same, used.high), insert_same vs (row_at n j) (mirror n i) fits))
    (λ k l. ⊎_elim (λ e. inl (omega (arith, first-same, used.same))) (λ b. inr (omega (arith, first-same, used.high), insert_stays vs (row_at n j) (mirror n i) (mirror n k) fits (used.row b.0 (mirror n k) ∙ b.1))))
  where
    fits : row_at n j + mirror n i / 64 < length vs
    fits = omega (arith, used.only.size, row_fits n lj, member-word (mirror-low li))

    first-same : get_or (inserted vs (row_at n j) (mirror n i)) (first_at n j) 0 ≡ get_or vs (first_at n j) 0
    first-same = inserted-other vs (row_at n j) (mirror n i) (first_at n j) (λ e. omega (arith, row_fits n lj, member-word (mirror-low li)))

    bounds : (0 < get_or ws (first_at n j) 0 % more) × (get_or ws (first_at n j) 0 % more ≤ n)
    bounds = ⊎_elim (λ e. absurd (some e)) (λ b. b) (firsts j lj)

-- At each statement of a list, one after another

pub notes_none : {ws : List ℕ} {n i : ℕ} → Firsts ws n → NotesFollower ws ws n i []
notes_none firsts = record { words = firsts; here = λ j m. absurd (Memᴰ.not-nil m); stays = λ j k lj lk h. h; sets = λ x a b. refl; kept = keeps-refl }

pub notes_then : {ws vs us : List ℕ} {n i : ℕ} {js ks : List ℕ} → i < n → ((j : ℕ) → In j js → j < n) → NotesFollower ws vs n i js → NotesFollower vs us n i ks
    → NotesFollower ws us n i (js ++ ks)
notes_then {i = i} {js = js} li low p q = record {
  words = q.words;
  here = λ j m. ⊎_elim (λ a. q.stays j i (low j a) li (p.here j a)) (q.here j) (Memᴰ.append_cases js m);
  stays = λ j k lj lk h. q.stays j k lj lk (p.stays j k lj lk h);
  sets = λ x a b. q.sets x a b ∙ p.sets x a b;
  kept = keeps-trans p.kept q.kept;
}

-- the first k elements

pub notes_more : (l : List ℕ) (k : ℕ) {ws vs us : List ℕ} {n i : ℕ} → i < n → ((j : ℕ) → In j l → j < n) → k < length l → NotesFollower ws vs n i (take k l)
    → NotesFollower vs us n i (get_or l k 0 ∷ []) → NotesFollower ws us n i (take (k + 1) l)
notes_more l k {ws} {us = us} {n = n} {i} li low short p q =
    let list : take k l ++ (get_or l k 0 ∷ []) ≡ take (k + 1) l = sym (ap (λ z. take z l) (add-one k) ∙ take-suc l k 0 short) in
    subst (λ z. NotesFollower ws us n i z) list
    (notes_then li (λ j m. low j (subst (λ z. In j z) (take-append-drop k l) (Memᴰ.append_left (drop k l) m))) p q)

pub notes_all : (l : List ℕ) (k : ℕ) {ws vs : List ℕ} {n i : ℕ} → length l ≤ k → NotesFollower ws vs n i (take k l) → NotesFollower ws vs n i l
notes_all l k {ws} {vs} {n} {i} h p = subst (λ z. NotesFollower ws vs n i z) (take_all k l h) p

-- A call: its continuation, and the body of the word w if that names one

pub asked-some : (w b : ℕ) → w ≡ b + 1 → asked w ≡ b ∷ []
asked-some w b e = let place : w - 1 ≡ b = omega arith in rw (ne_eqb w 0 (λ z. omega arith), place) refl

pub call_asks : {ws vs us : List ℕ} {n i k w : ℕ} (b : ℕ) → i < n → k < n → w ≡ b + 1 → NotesFollower ws vs n i (k ∷ []) → NotesFollower vs us n i (b ∷ []) → NotesFollower ws us n i (k ∷ asked w)
call_asks {ws} {us = us} {n = n} {i} {k} {w} b li lk e p q =
    subst (λ z. NotesFollower ws us n i (k ∷ z)) (sym (asked-some w b e))
    (notes_then li (λ j m. subst (λ z. z < n) (sym (Memᴰ.eq_of_singleton m)) lk) p q)
