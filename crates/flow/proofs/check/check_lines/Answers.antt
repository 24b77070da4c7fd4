-- The FL records passed are fit, and those of the file are as many as were passed and are left. Assumes nothing.
use native.Mathlib.Omega.{arith}
use Prim.Native.Nat.{ℕ, zero, suc, ◌+◌, ◌-◌, ◌*◌, ◌≤◌, ◌<◌}
use mathlib.Core.Bool.{true, false, ◌||◌}
use mathlib.Core.List.{List}
use mathlib.Core.Path.{◌≡◌, refl, sym, ◌∙◌, ap, subst}
use borrow.Author.Tests.{le-leb, lt-leb}
use lib.Dec.{eqb, ltb}
use lib.ListN.{length}
use Rattle.std.specs.Prelude.{Ok, Err}
use Rattle.flow.specs.declared.Refusal.{Refusal}
use Rattle.flow.specs.declared.Refusal.TheVariants.{Record, Order, Target}
use Rattle.flow.specs.Format as format
use Rattle.flow.specs.Format.{verdict, fit, each, u16_at, letter_l, line_record_checks, line_count, count_lines, statements_of, lines_place, line_place, line_number, line_first, key_place}
use Rattle.flow.specs.Clauses.Answers.{answer_of}
use Rattle.flow.proofs.Numbers.{le_at-lt}
use Rattle.flow.proofs.Tests.{tests, rises_first, rises_next, marked-within}
use Rattle.flow.proofs.Verdicts.{StopsAt, refusal_at, stops_at, unfit-at, fit_none}
use Rattle.flow.proofs.Answers.{refused_by, passed_by, one_more}
use Rattle.flow.proofs.check.check_lines.Invariants.{Passing}
use Rattle.flow.proofs.check.check_lines.Goals as goal

count-more : (f : ℕ) (s : List ℕ) (q : ℕ) → format.marked s q letter_l ≡ true → count_lines (suc f) s q ≡ suc (count_lines f s (q + 6))
unfolding count_lines
count-more f s q h = ap (λ b. elim b as (λ _. ℕ) [ true ↦ suc (count_lines f s (q + 6)) | false ↦ 0 ]) h

count_none : (f : ℕ) (s : List ℕ) (q : ℕ) → format.marked s q letter_l ≡ false → count_lines f s q ≡ 0
unfolding count_lines
count_none zero s q h = refl
count_none (suc f) s q h = ap (λ b. elim b as (λ _. ℕ) [ true ↦ suc (count_lines f s (q + 6)) | false ↦ 0 ]) h

none-counted : (s : List ℕ) → line_count s ≡ 0 + count_lines (length s - 0) s (line_place s 0)
none-counted s =
    let all : length s - 0 ≡ length s = omega arith in
    let start : line_place s 0 ≡ lines_place s = omega arith in
    let same = ap (λ f. count_lines f s (line_place s 0)) all ∙ ap (count_lines (length s) s) start in
    omega (arith, same)

-- one more FL record is counted
one-counted : (s : List ℕ) (k : ℕ) → line_count s ≡ k + count_lines (length s - k) s (line_place s k) → format.marked s (line_place s k) letter_l ≡ true → k < length s
    → line_count s ≡ k + 1 + count_lines (length s - (k + 1)) s (line_place s (k + 1))
one-counted s k h m l =
    let left : length s - k ≡ suc (length s - (k + 1)) = omega arith in
    let next : line_place s k + 6 ≡ line_place s (k + 1) = omega arith in
    let more = ap (λ f. count_lines f s (line_place s k)) left ∙ count-more (length s - (k + 1)) s (line_place s k) m
    ∙ ap (λ q. suc (count_lines (length s - (k + 1)) s q)) next in
    omega (arith, more)

-- FL record k stands in the file, whose lines begin at `at`
module _ {s : List ℕ} {at least k : ℕ} (inv : Passing s least k) (place : at ≡ lines_place s) (mark : format.marked s (at + 6 * k) letter_l ≡ true) where
  here : format.marked s (line_place s k) letter_l ≡ true
  here = ap (λ (p : ℕ). format.marked s (p + 6 * k) letter_l) (sym place) ∙ mark

  inside : line_place s k + 2 ≤ length s
  inside = marked-within s (line_place s k) letter_l here

  more : line_count s ≡ k + 1 + count_lines (length s - (k + 1)) s (line_place s (k + 1))
  more = one-counted s k inv.counted here (omega (arith, inside))

  abbrev Refused : (ℕ → Refusal) → Type 0
  Refused R = Err (R (at + 6 * k)) ≡ answer_of (verdict (each (line_count s) (line_record_checks s))) (key_place s)

  -- it is unfit by its check j
  refuse : (j : ℕ) (R : ℕ → Refusal) → refusal_at j (line_record_checks s k) ≡ R (line_place s k) → StopsAt j (line_record_checks s k) → Refused R
  refuse j R e u =
      ap (λ (p : ℕ). Err (R (p + 6 * k))) place ∙ ap Err (sym e)
      ∙ refused_by (each (line_count s) (line_record_checks s)) _
      (unfit-at k _ (line_record_checks s) (omega (arith, more)) inv.fits (stops_at j (line_record_checks s k) u))

  -- the numbers that were read are its line and its first statement

  number : {x : ℕ} → x ≡ u16_at s (at + 6 * k + 2) → x ≡ line_number s k
  number e = e ∙ ap (λ (p : ℕ). u16_at s (p + 6 * k + 2)) place

  first : {x : ℕ} → x ≡ u16_at s (at + 6 * k + 4) → x ≡ line_first s k
  first e = e ∙ ap (λ (p : ℕ). u16_at s (p + 6 * k + 4)) place

  -- its line comes before the one that may stand there
  falls : {x : ℕ} → x ≡ u16_at s (at + 6 * k + 2) → x < least → at + 6 * k + 4 ≤ length s → Refused Order
  unfolding line_record_checks
  falls e low l =
      refuse 1 Order refl (omega (arith, tests, place), inv.rises.follows (line_number s k) ∙ lt-leb _ _ (omega (arith, number e)))

  -- or may stand there
  module _ {x : ℕ} (e : x ≡ u16_at s (at + 6 * k + 2)) (high : least ≤ x) (l : at + 6 * k + 4 ≤ length s) where
    rising : (eqb k 0 || ltb (line_number s (k - 1)) (line_number s k)) ≡ true
    rising = inv.rises.follows (line_number s k) ∙ le-leb _ _ (omega (arith, number e))

    short : length s < at + 6 * k + 6 → Refused Record
    unfolding line_record_checks
    short h = refuse 2 Record refl (omega (arith, tests, place), (rising, omega (arith, tests, place)))

    module _ {y : ℕ} (e' : y ≡ u16_at s (at + 6 * k + 4)) (l' : at + 6 * k + 6 ≤ length s) where
      astray : statements_of s ≤ y → Refused Target
      unfolding line_record_checks
      astray h = refuse 3 Target refl (omega (arith, tests, place), (rising, omega (arith, tests, place, first e')))

      passing : y < statements_of s → Passing s (x + 1) (k + 1)
      unfolding line_record_checks
      passing h = record {
        counted = more;
        within = omega (arith, place);
        fits = one_more k (line_record_checks s) inv.fits (omega (arith, tests, place), (rising, omega (arith, tests, place, first e')));
        rises = rises_next (line_number s) k _ (number e);
      }

pub loop-q-init : goal.loop-q-init
loop-q-init c = record { counted = none-counted c.args.file.now; within = omega arith; fits = fit_none _; rises = rises_first _ }

pub returns-then-file-q : goal.returns-then-file-q
unfolding line_record_checks
returns-then-file-q c =
    let place = c.requires.2 in
    let mark = sym c.marked.ensures ∙ c.loop-q-test.true in
    refuse c.loop-q.invariant place mark 0 Record refl (omega (arith, tests, place))

pub returns-then-line-least : goal.returns-then-line-least
returns-then-line-least c =
    let mark = sym c.marked.ensures ∙ c.loop-q-test.true in
    falls c.loop-q.invariant c.requires.2 mark c.u16_at-line.ensures c.if-line-least.true c.if-file-q.false

pub returns-then-file-q-2 : goal.returns-then-file-q-2
returns-then-file-q-2 c =
    let mark = sym c.marked.ensures ∙ c.loop-q-test.true in
    short c.loop-q.invariant c.requires.2 mark c.u16_at-line.ensures c.if-line-least.false c.if-file-q.false c.if-file-q-2.true

pub returns-then-u16_at-n : goal.returns-then-u16_at-n
returns-then-u16_at-n c =
    let mark = sym c.marked.ensures ∙ c.loop-q-test.true in
    astray c.loop-q.invariant c.requires.2 mark c.u16_at-line.ensures c.if-line-least.false c.if-file-q.false c.u16_at.ensures c.if-file-q-2.false
    (omega (arith, c.u16_at-n.ensures))

pub overflow_add-least : goal.overflow_add-least
overflow_add-least c = omega (arith, c.u16_at-line.ensures, le_at-lt 2 c.args.file.now (c.args.at + 6 * c.loop-q.k + 2) c.type_inv.file)

pub loop-q-preserved : goal.loop-q-preserved
loop-q-preserved c =
    let mark = sym c.marked.ensures ∙ c.loop-q-test.true in
    passing c.loop-q.invariant c.requires.2 mark c.u16_at-line.ensures c.if-line-least.false c.if-file-q.false c.u16_at.ensures c.if-file-q-2.false
    (omega (arith, c.u16_at-n.ensures))

pub returns : goal.returns
returns c =
    let s = c.args.file.now in
    let k = c.loop-q.k in
    let inv = c.loop-q.invariant in
    let place = c.requires.2 in
    let unmarked = ap (λ at. format.marked s (at + 6 * k) letter_l) (sym place) ∙ sym c.marked.ensures ∙ c.loop-q-test.false in
    let all : k ≡ line_count s = omega (arith, count_none (length s - k) s (line_place s k) unmarked, inv.counted) in
    ap (λ at. Ok (at + 6 * k)) place ∙ ap (λ n. Ok (line_place s n)) all
    ∙ passed_by (each (line_count s) (line_record_checks s)) (key_place s)
    (subst (λ n. verdict (each n (line_record_checks s)) ≡ fit) all inv.fits)
