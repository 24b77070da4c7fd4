-- No record has a line that two bytes do not hold; else, among the records of the line's part, the one at the line's rank is the first with that line, or none has it.
-- Assumes nothing.
use native.Mathlib.Omega.{arith}
use Prim.Native.Nat.{ℕ, ◌+◌, ◌-◌, ◌*◌, ◌/◌, ◌%◌, ◌<◌, ◌≤◌, max}
use mathlib.Core.List.{List}
use mathlib.Core.Option.{none, some}
use mathlib.Core.Path.{◌≡◌, sym, ap, subst, ◌∙◌}
use lib.ListN.{length, get_or}
use Rattle.flow.specs.Flow.{enters}
use Rattle.flow.specs.Format.{u16_at, flow_of, lines_place, line_place, line_count, line_number}
use Rattle.flow.specs.Clauses.Answers.{FitFile}
use Rattle.records.specs.Clauses.Fields.{part_of, LineRank, LineParts}
use Rattle.records.proofs.Files.{line-fits}
use Rattle.records.proofs.LineParts.{part_below}
use Rattle.records.proofs.LineSearch.{entered, not_entered, line_past, lines_end}
use Rattle.records.proofs.lines.line_entry.Goals as goal
use Rattle.records.proofs.lines.line_entry.Goals.{else-p-at-via-then-p-at+else-u16_at-line, else-p-at-via-else-p-at}

-- the part of the line is one of those noted, and its word says where its records stand: from `first` to below `end`
record Part (s : List ℕ) (line first end : ℕ) : Type 0 where
  some : first ≤ end
  all : end ≤ line_count s
  holds : (j : ℕ) → j < line_count s → line_number s j ≡ line → (first ≤ j) × (j < end)

part : {s : List ℕ} (ws : List ℕ) (base n line : ℕ) {first end : ℕ} → 0 < n → line ≤ 65535 → LineParts s ws base n (line_count s)
    → (first ≡ get_or ws (base + part_of n line) 0 % 65536) × (end ≡ get_or ws (base + part_of n line) 0 / 65536) → Part s line first end
part ws base n line pos small parts is =
    let w = parts (part_of n line) (part_below n line pos (omega arith)) in
    record {
      some = omega (arith, is.0, is.1, w.some);
      all = omega (arith, is.1, w.all);
      holds = λ j l e. let h = w.holds j l (ap (part_of n) e) in (omega (arith, is.0, h.0), omega (arith, is.1, h.1));
    }

-- and they lie within the file, if there are any
up_to : {s : List ℕ} {at r : ℕ} → FitFile s → at ≡ lines_place s → r ≤ line_count s → at + 6 * r ≤ max at (length s)
up_to fits start h = omega (arith, lines_end fits)

-- record j, at p, stands at the line's rank among those of the part
record Found (s : List ℕ) (line first end p : ℕ) : Type 0 where
  j : ℕ
  place : p ≡ line_place s j
  rank : LineRank s first end line j

found : {s : List ℕ} {at line first end p : ℕ} → at ≡ lines_place s → Part s line first end
    → ((k j : ℕ) × (at + 6 * first ≡ line_place s k) × (p ≡ line_place s j) × LineRank s k (k + (end - first)) line j)
    → Found s line first end p
found {s} {at} {line} {first} {end} e w f =
    let from : f.0 ≡ first = omega (arith, f.2, e) in
    let to : f.0 + (end - first) ≡ end = omega (arith, from, w.some) in
    record { j = f.1; place = f.3; rank = subst (λ k. LineRank s k end line f.1) from (subst (λ k. LineRank s f.0 k line f.1) to f.4) }

module _ {s : List ℕ} {at line first end p : ℕ} (fits : FitFile s) (start : at ≡ lines_place s) (w : Part s line first end) (f : Found s line first end p) where
  -- it is one of the part where it stands before the part's end
  one : p < at + 6 * end → f.j < end
  one l = omega (arith, f.place, start)

  within : p < at + 6 * end → p + 6 ≤ length s
  within l = omega (arith, f.place, line-fits fits f.j (omega (arith, one l, w.all)))

  enters-it : p < at + 6 * end → {x t : ℕ} → x ≡ u16_at s (p + 2) → x ≡ line → t ≡ u16_at s (p + 4) → enters (flow_of s) line ≡ some t
  enters-it l {x} {t} e q h =
      let number : line_number s f.j ≡ line = sym (e ∙ ap (λ y. u16_at s (y + 2)) f.place) ∙ q in
      entered f.rank w.all w.holds (one l) number ∙ ap some (sym (h ∙ ap (λ y. u16_at s (y + 4)) f.place))

  passes-it : at + 6 * end ≤ p → enters (flow_of s) line ≡ none
  passes-it l = not_entered f.rank w.all w.holds fits (λ m e. omega (arith, f.place, start))

  differs : {x : ℕ} → x ≡ u16_at s (p + 2) → (x ≡ line → ⊥) → enters (flow_of s) line ≡ none
  differs e other = not_entered f.rank w.all w.holds fits (λ m q. other (e ∙ ap (λ y. u16_at s (y + 2)) f.place ∙ q))

pub returns-then-line-gt65535 : goal.returns-then-line-gt65535
returns-then-line-gt65535 c = rw (line_past c.args.file.now c.args.line c.type_inv.file c.if-line-gt65535.true)

pub overflow_add-at : goal.overflow_add-at
overflow_add-at c =
    let a = c.args in
    let w = part a.work.now a.base a.n a.line c.requires.2 c.if-line-gt65535.false c.requires.5 c.part_records-part.ensures in
    omega (arith, up_to {r = c.part_records-part.result.start} c.requires.0 c.requires.1 (omega (arith, w.some, w.all)))

pub overflow_add-at-2 : goal.overflow_add-at-2
overflow_add-at-2 c =
    let a = c.args in
    let w = part a.work.now a.base a.n a.line c.requires.2 c.if-line-gt65535.false c.requires.5 c.part_records-part.ensures in
    omega (arith, up_to c.requires.0 c.requires.1 w.all)

pub overflow_add-p : goal.overflow_add-p
overflow_add-p c =
    let a = c.args in
    let w = part a.work.now a.base a.n a.line c.requires.2 c.if-line-gt65535.false c.requires.5 c.part_records-part.ensures in
    omega (arith, within c.requires.0 c.requires.1 w (found c.requires.1 w c.line_place-p.ensures) c.if-p-at.true)

pub u16_at-requires : goal.u16_at-requires
u16_at-requires c =
    let a = c.args in
    let w = part a.work.now a.base a.n a.line c.requires.2 c.if-line-gt65535.false c.requires.5 c.part_records-part.ensures in
    omega (arith, within c.requires.0 c.requires.1 w (found c.requires.1 w c.line_place-p.ensures) c.if-p-at.true)

pub overflow_add-p-then-u16_at-line : goal.overflow_add-p-then-u16_at-line
overflow_add-p-then-u16_at-line c =
    let a = c.args in
    let w = part a.work.now a.base a.n a.line c.requires.2 c.if-line-gt65535.false c.requires.5 c.part_records-part.ensures in
    omega (arith, within c.requires.0 c.requires.1 w (found c.requires.1 w c.line_place-p.ensures) c.if-p-at.true)

pub u16_at-requires-then-u16_at-line : goal.u16_at-requires-then-u16_at-line
u16_at-requires-then-u16_at-line c =
    let a = c.args in
    let w = part a.work.now a.base a.n a.line c.requires.2 c.if-line-gt65535.false c.requires.5 c.part_records-part.ensures in
    omega (arith, within c.requires.0 c.requires.1 w (found c.requires.1 w c.line_place-p.ensures) c.if-p-at.true)

pub returns-then-u16_at-line : goal.returns-then-u16_at-line
returns-then-u16_at-line c =
    let a = c.args in
    let w = part a.work.now a.base a.n a.line c.requires.2 c.if-line-gt65535.false c.requires.5 c.part_records-part.ensures in
    let f = found c.requires.1 w c.line_place-p.ensures in
    rw (enters-it c.requires.0 c.requires.1 w f c.if-p-at.true c.u16_at.ensures c.if-u16_at-line.true c.u16_at-then-u16_at-line.ensures)

pub returns : goal.returns
returns c =
    let a = c.args in
    let w = part a.work.now a.base a.n a.line c.requires.2 c.if-line-gt65535.false c.requires.5 c.part_records-part.ensures in
    let f = found c.requires.1 w c.line_place-p.ensures in
    elim c.else-p-at.branch [
      | else-p-at-via-then-p-at+else-u16_at-line u ↦ rw (differs c.requires.0 c.requires.1 w f u.u16_at.ensures u.if-u16_at-line.false)
      | else-p-at-via-else-p-at u ↦ rw (passes-it c.requires.0 c.requires.1 w f u.if-p-at.false)
    ]
