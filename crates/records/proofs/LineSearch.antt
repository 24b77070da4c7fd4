-- The search for a line among the FL records of a fit file: what is below and above the part that is left to search, and that the first
-- record with the line is the one at the line's rank. By the records' rising order, and by induction on their number.
use Prim.Native.Nat.{ℕ, zero, suc, ◌+◌, ◌-◌, ◌*◌, ◌/◌, ◌≤◌, ◌<◌, max}
use native.Mathlib.Omega.{arith}
use native.Mathlib.Nat.{eq-or-lt_of_le, le_of_suc-le-suc}
use mathlib.Core.List.{List, [], ◌∷◌, ◌++◌}
use mathlib.Core.Logic.{⊎_elim}
use mathlib.Core.Option.{Option, none, some}
use mathlib.Core.Bool.{Bool, true, false, cond}
use mathlib.Core.Path.{◌≡◌, refl, sym, ap, ◌∙◌}
use lib.Dec.{eqb, ltb}
use lib.ListN.{length, get_or}
use mir.Syntax.{w8}
use mir.Val.{Fits}
use borrow.Author.Tests.{eq-eqb, ne_eqb, ltb-true, ltb-false}
use Rattle.flow.specs.Flow.{Line, first_of, enters}
use Rattle.flow.specs.Format.{u16_at, tabulate, flow_of, line_count, lines_place, line_place, line_number, line_first}
use Rattle.flow.specs.Clauses.Answers.{FitFile}
use Rattle.records.specs.Clauses.Fields.{LineRank}
use Rattle.flow.proofs.Numbers.{le_at-lt}
use Rattle.records.proofs.Files.{line-fits, lines_rise}

-- of the records from `first` to below `end`, p is the place of record lo; those below lo have lower lines, and those from lo + len on have not
pub record Between (s : List ℕ) (first end l p len : ℕ) : Type 0 where
  pub lo : ℕ
  pub place : p ≡ line_place s lo
  pub from : first ≤ lo
  pub all : lo + len ≤ end
  pub below : (j : ℕ) → first ≤ j → j < lo → line_number s j < l
  pub above : (j : ℕ) → lo + len ≤ j → j < end → l ≤ line_number s j

-- what is passed over in a step: a half, or nothing
pub passed-most : (half : ℕ) (t : Bool) → half * cond t 1 0 ≤ half
passed-most half true = omega arith
passed-most half false = omega arith

-- the last record of the lower half, which is the longer, lies within the file and decides a step
module _ {s : List ℕ} {first end l p len : ℕ} (fits : FitFile s) (within : end ≤ line_count s) (b : Between s first end l p len) (left : 0 < len) where
  pub middle-fits : p + 6 * (len - len / 2) ≤ length s
  middle-fits =
      let place = b.place in
      let all = b.all in
      let h = line-fits fits (b.lo + (len - len / 2) - 1) (omega arith) in omega arith

  pub halved : Between s first end l (p + 6 * (len - len / 2) * cond (ltb (u16_at s (p + 6 * (len - len / 2) - 4)) l) 1 0) (len - (len - len / 2))
  halved = go (ltb (u16_at s (p + 6 * half - 4)) l) refl
    where
      half : ℕ
      half = len - len / 2

      m : ℕ
      m = b.lo + half - 1

      inside : m < line_count s
      inside = let all = b.all in omega arith

      read : u16_at s (p + 6 * half - 4) ≡ line_number s m
      read = let place = b.place in let at : p + 6 * half - 4 ≡ line_place s m + 2 = omega arith in ap (u16_at s) at

      up_to : line_number s m < l → (j : ℕ) → j ≤ m → line_number s j < l
      up_to h j k = ⊎_elim (λ e. rw e h) (λ q. omega (arith, lines_rise fits j m q inside)) (eq-or-lt_of_le k)

      from : l ≤ line_number s m → (j : ℕ) → m ≤ j → j < end → l ≤ line_number s j
      from h j k q = ⊎_elim (λ e. rw (← e) h) (λ r. omega (arith, lines_rise fits m j r (omega arith))) (eq-or-lt_of_le k)

      go : (t : Bool) → ltb (u16_at s (p + 6 * half - 4)) l ≡ t → Between s first end l (p + 6 * half * cond t 1 0) (len - half)
      go true e = record {
        lo = b.lo + half;
        place = let place = b.place in omega arith;
        from = let from = b.from in omega arith;
        all = let all = b.all in omega arith;
        below = λ j h k. up_to (omega (arith, read, ltb-true (u16_at s (p + 6 * half - 4)) l e)) j (omega arith);
        above = λ j k. b.above j (omega arith);
      }
      go false e = record {
        lo = b.lo;
        place = let place = b.place in omega arith;
        from = b.from;
        all = let all = b.all in omega arith;
        below = b.below;
        above = λ j k. from (omega (arith, read, ltb-false (u16_at s (p + 6 * half - 4)) l e)) j (omega arith);
      }

-- where the records end, if there are any
pub lines_end : {s : List ℕ} → FitFile s → lines_place s + 6 * line_count s ≤ max (lines_place s) (length s)
lines_end {s} fits = go (line_count s) refl
  where
    go : (n : ℕ) → line_count s ≡ n → lines_place s + 6 * n ≤ max (lines_place s) (length s)
    go zero e = omega arith
    go (suc n) e = omega (arith, line-fits fits n (omega arith))

-- the first record with a line

abbrev or_else : Option ℕ → Option ℕ → Option ℕ
or_else none b = b
or_else (some t) b = some t

first_of-append : (xs ys : List Line) (l : ℕ) → first_of (xs ++ ys) l ≡ or_else (first_of xs l) (first_of ys l)
unfolding first_of
first_of-append [] ys l = refl
first_of-append (x ∷ xs) ys l = go (eqb x.number l) (first_of-append xs ys l)
  where
    go : (t : Bool) → first_of (xs ++ ys) l ≡ or_else (first_of xs l) (first_of ys l)
        → cond t (some x.first) (first_of (xs ++ ys) l) ≡ or_else (cond t (some x.first) (first_of xs l)) (first_of ys l)
    go true e = refl
    go false e = e

module _ (f : ℕ → Line) (l : ℕ) where
  one : (n : ℕ) (o : Option ℕ) → first_of (tabulate n f) l ≡ o → first_of (tabulate (suc n) f) l ≡ or_else o (cond (eqb (f n).number l) (some (f n).first) none)
  unfolding tabulate first_of
  one n o h = first_of-append (tabulate n f) (f n ∷ []) l ∙ ap (λ x. or_else x (cond (eqb (f n).number l) (some (f n).first) none)) h

  first-none : (n : ℕ) → ((j : ℕ) → j < n → (f j).number ≡ l → ⊥) → first_of (tabulate n f) l ≡ none
  unfolding tabulate first_of
  first-none zero h = refl
  first-none (suc n) h =
      let here = ne_eqb (f n).number l (h n (omega arith)) in
      one n none (first-none n (λ j k. h j (omega arith))) ∙ rw here

  first_some : (n k : ℕ) → k < n → (f k).number ≡ l → ((j : ℕ) → j < k → (f j).number ≡ l → ⊥) → first_of (tabulate n f) l ≡ some (f k).first
  first_some zero k m e h = absurd (omega arith)
  first_some (suc n) k m e h =
      ⊎_elim (λ q. last q) (λ b. one n (some (f k).first) (first_some n k b e h)) (eq-or-lt_of_le (le_of_suc-le-suc m))
    where
      last : k ≡ n → first_of (tabulate (suc n) f) l ≡ some (f k).first
      last q =
          let none_before = first-none n (λ j b. h j (omega arith)) in
          one n none none_before ∙ rw (← q) (rw (eq-eqb (f k).number l e) refl)

  -- the statement found is that of a record
  pub found_in : (n e : ℕ) → first_of (tabulate n f) l ≡ some e → (k : ℕ) × (k < n) × ((f k).first ≡ e)
  unfolding tabulate first_of
  found_in zero e h = absurd (cc)
  found_in (suc n) e h = go (first_of (tabulate n f) l) refl (λ q. found_in n e q)
    where
      last : (b : Bool) → cond b (some (f n).first) none ≡ some e → (k : ℕ) × (k < suc n) × ((f k).first ≡ e)
      last true q = (n, omega arith, cc)
      last false q = absurd (cc)

      go : (o : Option ℕ) → first_of (tabulate n f) l ≡ o → (first_of (tabulate n f) l ≡ some e → (k : ℕ) × (k < n) × ((f k).first ≡ e))
          → (k : ℕ) × (k < suc n) × ((f k).first ≡ e)
      go none q found = last (eqb (f n).number l) (sym (one n none q) ∙ h)
      go (some t) q found =
          let r = found (q ∙ (sym (one n (some t) q) ∙ h)) in
          let below = r.1 in
          (r.0, omega arith, r.2)

-- no record has a line that two bytes do not hold
pub line_past : (s : List ℕ) (l : ℕ) → ((i : ℕ) → Fits w8 (get_or s i 0)) → 65535 < l → enters (flow_of s) l ≡ none
unfolding flow_of
line_past s l bytes h =
    first-none (λ k. record { number = line_number s k; first = line_first s k }) l (line_count s)
    (λ j b e. omega (arith, le_at-lt 2 s (line_place s j + 2) bytes))

-- among the records of its part, the one at a line's rank is the first of all with the line, or no record has the line

module _ {s : List ℕ} {first end l r : ℕ} (rank : LineRank s first end l r) (within : end ≤ line_count s) (part : (j : ℕ) → j < line_count s → line_number s j ≡ l → (first ≤ j) × (j < end)) where
  pub entered : r < end → line_number s r ≡ l → enters (flow_of s) l ≡ some (line_first s r)
  unfolding flow_of
  entered h e =
      first_some (λ k. record { number = line_number s k; first = line_first s k }) l (line_count s) r (omega arith) e
      (λ j b q. omega (arith, rank.below j (part j (omega arith) q).0 b))

  pub not_entered : FitFile s → (r < end → line_number s r ≡ l → ⊥) → enters (flow_of s) l ≡ none
  unfolding flow_of
  not_entered fits h =
      first-none (λ k. record { number = line_number s k; first = line_first s k }) l (line_count s)
      (λ j b e. other j b e (ltb j r) refl)
    where
      high : (j : ℕ) → j < line_count s → line_number s j ≡ l → r ≤ j → ⊥
      high j b e q =
          let last = (part j b e).1 in
          let here : line_number s r ≡ l → ⊥ = h (omega arith) in
          ⊎_elim (λ m. here (rw m e))
          (λ m. omega (arith, lines_rise fits r j m b, rank.above r (omega arith) (omega arith)))
          (eq-or-lt_of_le q)

      other : (j : ℕ) → j < line_count s → line_number s j ≡ l → (t : Bool) → ltb j r ≡ t → ⊥
      other j b e true q = omega (arith, rank.below j (part j b e).0 (ltb-true j r q))
      other j b e false q = high j b e (ltb-false j r q)
