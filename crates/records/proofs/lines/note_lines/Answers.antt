-- The record at hand lies within the file, and its line falls into one of the n parts. Assumes nothing.
use native.Mathlib.Omega.{arith}
use native.Mathlib.Nat.{mul-le-mul_right}
use Prim.Native.Nat.{ℕ, ◌+◌, ◌*◌, ◌≤◌, ◌<◌}
use mathlib.Core.List.{List}
use mathlib.Core.Path.{◌≡◌, refl, ap, ◌∙◌}
use lib.ListN.{length, get_or}
use mir.Syntax.{w8}
use mir.Val.{Fits}
use Rattle.flow.specs.Format.{u16_at, lines_place, line_count, line_number, line_place}
use Rattle.flow.specs.Clauses.Answers.{FitFile}
use Rattle.records.specs.Clauses.Fields.{part_of}
use Rattle.records.proofs.Files.{line-fits}
use Rattle.records.proofs.LineParts.{part_none, part_below, lines-few, line_small, first_small, met_made, parts-met}
use Rattle.records.proofs.lines.note_lines.Goals as goal

-- record r of the file's lines, of which the first stands at `at`
record Here (s : List ℕ) (at r : ℕ) : Type 0 where
  fits : at + 6 * r + 6 ≤ length s
  few : r < 65535
  place : at + 6 * r + 2 ≡ line_place s r + 2

here : {s : List ℕ} {at r lines : ℕ} → FitFile s → (at ≡ lines_place s) × (lines ≡ line_count s) → r < lines → Here s at r
here {s} {at} {r} f p l = record { fits = omega (arith, line-fits f r (omega arith)); few = omega (arith, lines-few f); place = omega arith }

-- what is read is the record's line
record Line (s : List ℕ) (n r x : ℕ) : Type 0 where
  is : x ≡ line_number s r
  small : x < 65536
  inside : part_of n x < n

line : {s : List ℕ} {at n r x : ℕ} → Here s at r → 0 < n → ((i : ℕ) → Fits w8 (get_or s i 0)) → x ≡ u16_at s (at + 6 * r + 2) → Line s n r x
line {s} {at} {n} {r} {x} h some bytes e =
    let is : x ≡ line_number s r = e ∙ ap (u16_at s) h.place in
    let small : x < 65536 = omega (arith, line_small s r bytes) in
    record { is = is; small = small; inside = part_below n x some small }

pub loop-r-init : goal.loop-r-init
loop-r-init c = record { size = refl; below = λ x l. refl; above = λ x l. refl; parts = λ k l. part_none c.args.file.now c.args.n k _ (c.requires.5 k l) }

pub overflow_mul-r : goal.overflow_mul-r
overflow_mul-r c = let h = here c.requires.0 c.requires.1 c.loop-r-test.true in omega arith

pub overflow_add-at : goal.overflow_add-at
overflow_add-at c = let h = here c.requires.0 c.requires.1 c.loop-r-test.true in omega arith

pub overflow_add-at-in-loop-r : goal.overflow_add-at-in-loop-r
overflow_add-at-in-loop-r c = let h = here c.requires.0 c.requires.1 c.loop-r-test.true in omega arith

pub u16_at-requires : goal.u16_at-requires
u16_at-requires c = let h = here c.requires.0 c.requires.1 c.loop-r-test.true in omega arith

pub overflow_mul-k : goal.overflow_mul-k
overflow_mul-k c =
    let l = line (here c.requires.0 c.requires.1 c.loop-r-test.true) c.requires.2 c.type_inv.file c.u16_at.ensures in
    let most : c.u16_at.result * c.args.n ≤ 65535 * c.args.n = mul-le-mul_right c.args.n (omega arith) in
    omega (arith, c.requires.3)

pub bounds-work-k : goal.bounds-work-k
bounds-work-k c = let l = line (here c.requires.0 c.requires.1 c.loop-r-test.true) c.requires.2 c.type_inv.file c.u16_at.ensures in omega (arith, c.requires.4)

pub extended-requires : goal.extended-requires
extended-requires c = let h = here c.requires.0 c.requires.1 c.loop-r-test.true in omega arith

pub part_word-requires : goal.part_word-requires
part_word-requires c =
    let h = here c.requires.0 c.requires.1 c.loop-r-test.true in
    let is = c.extended.ensures in
    (rw is.0 (first_small c.part_records.result.start c.part_records.result.end c.loop-r.r (omega arith) (omega arith)), omega arith)

pub bounds-work-k-in-loop-r : goal.bounds-work-k-in-loop-r
bounds-work-k-in-loop-r c = let l = line (here c.requires.0 c.requires.1 c.loop-r-test.true) c.requires.2 c.type_inv.file c.u16_at.ensures in omega (arith, c.requires.4)

pub loop-r-preserved : goal.loop-r-preserved
loop-r-preserved c =
    let a = c.args in
    let h = here c.requires.0 c.requires.1 c.loop-r-test.true in
    let l = line h c.requires.2 c.type_inv.file c.u16_at.ensures in
    let part : part_of a.n c.u16_at.result ≡ part_of a.n (line_number a.file.now c.loop-r.r) = ap (part_of a.n) l.is in
    rw (met_made _ _ c.part_records.ensures c.extended.ensures c.part_word.ensures)
    (parts-met c.loop-r.invariant h.few c.requires.4 (omega (arith, l.inside, part)) (ap (λ (k : ℕ). a.base + k) part))
