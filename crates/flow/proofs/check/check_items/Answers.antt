-- The first unfit check of the first unfit item is the answer, and where there is none all items are fit. Assumes nothing.
use native.Mathlib.Omega.{arith}
use Prim.Native.Nat.{ℕ, ◌<◌, ◌+◌, ◌*◌}
use mathlib.Core.List.{List, [], ◌∷◌}
use mathlib.Core.Path.{◌≡◌, ◌∙◌, ap}
use lib.ListN.{length}
use Rattle.std.specs.Prelude.{Err}
use Rattle.flow.specs.Format.{Check, verdict, fit, each, u8_at, present, dim_checks, item_checks, data_place, data_count, element_place, elements_end}
use Rattle.flow.specs.Clauses.Answers.{Reached, answer_of}
use Rattle.flow.proofs.Tests.{tests}
use Rattle.flow.proofs.Verdicts.{StopsAt, refusal_at, all_fit}
use Rattle.flow.proofs.Answers.{refused_element, one_more}
use Rattle.flow.proofs.check.check_items.Goals as goal

-- the data of the record at p, which begin at `at`: the count was read
module _ {s : List ℕ} {p at count : ℕ} (r : Reached s p at (data_place s p)) (inside : at < length s) (read : count ≡ u8_at s at) where
  front : List Check
  front = present s p (data_place s p + 1) ∷ []

  front_fits : verdict front ≡ fit
  unfolding front
  front_fits = all_fit (present s p (data_place s p + 1) ∷ []) (omega (arith, tests, r.there))

  counted : count ≡ data_count s p
  counted = read ∙ ap (u8_at s) r.there

  -- item k is unfit, by its check j
  refuse : {k : ℕ} (j : ℕ) → k < count → verdict (each k (item_checks s p)) ≡ fit → StopsAt j (item_checks s p k)
      → Err (refusal_at j (item_checks s p k)) ≡ answer_of (verdict (dim_checks s p)) (elements_end s p)
  unfolding dim_checks front
  refuse {k} j below before u = refused_element front k (data_count s p) j (item_checks s p) _ front_fits (omega (arith, counted)) before u

  -- the two bytes that were read are item k

  array : (k : ℕ) {x : ℕ} → x ≡ u8_at s (at + 1 + 2 * k) → x ≡ u8_at s (element_place s p k)
  array k e = e ∙ ap (λ (b : ℕ). u8_at s (b + 1 + 2 * k)) r.there

  flag : (k : ℕ) {x : ℕ} → x ≡ u8_at s (at + 1 + 2 * k + 1) → x ≡ u8_at s (element_place s p k + 1)
  flag k e = e ∙ ap (λ (b : ℕ). u8_at s (b + 1 + 2 * k + 1)) r.there

pub returns-then-file-q : goal.returns-then-file-q
unfolding item_checks
returns-then-file-q c = refuse c.requires c.if-file-at.false c.u8_at-count.ensures 0 c.loop-k-test.true c.loop-k.invariant (omega (arith, tests))

pub returns-then-u8_at-arrays : goal.returns-then-u8_at-arrays
unfolding item_checks
returns-then-u8_at-arrays c =
    let array = array c.requires c.if-file-at.false c.u8_at-count.ensures c.loop-k.k c.u8_at.ensures in
    refuse c.requires c.if-file-at.false c.u8_at-count.ensures 1 c.loop-k-test.true c.loop-k.invariant (omega (arith, tests, array))

pub returns-then-file-q-2 : goal.returns-then-file-q-2
unfolding item_checks
returns-then-file-q-2 c =
    let array = array c.requires c.if-file-at.false c.u8_at-count.ensures c.loop-k.k c.u8_at.ensures in
    refuse c.requires c.if-file-at.false c.u8_at-count.ensures 2 c.loop-k-test.true c.loop-k.invariant (omega (arith, tests, array))

pub returns-then-u8_at-gt1 : goal.returns-then-u8_at-gt1
unfolding item_checks
returns-then-u8_at-gt1 c =
    let array = array c.requires c.if-file-at.false c.u8_at-count.ensures c.loop-k.k c.u8_at.ensures in
    let flag = flag c.requires c.if-file-at.false c.u8_at-count.ensures c.loop-k.k c.u8_at-in-loop-k.ensures in
    refuse c.requires c.if-file-at.false c.u8_at-count.ensures 3 c.loop-k-test.true c.loop-k.invariant (omega (arith, tests, array, flag))

pub loop-k-preserved : goal.loop-k-preserved
unfolding item_checks
loop-k-preserved c =
    let array = array c.requires c.if-file-at.false c.u8_at-count.ensures c.loop-k.k c.u8_at.ensures in
    let flag = flag c.requires c.if-file-at.false c.u8_at-count.ensures c.loop-k.k c.u8_at-in-loop-k.ensures in
    one_more c.loop-k.k (item_checks c.args.file.now c.args.p) c.loop-k.invariant (omega (arith, tests, array, flag))
