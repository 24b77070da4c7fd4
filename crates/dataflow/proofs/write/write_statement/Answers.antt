-- `write_statement` meets its contract: the same sets make the same masks, and those of the statement before stand just before the row. Assumes nothing.
use native.Mathlib.Omega.{arith}
use native.Mathlib.Nat.{suc-mul}
use Prim.Native.Nat.{ℕ, suc, ◌+◌, ◌-◌, ◌*◌, ◌<◌, ◌≤◌}
use mathlib.Core.List.{List, ◌++◌}
use mathlib.Core.Path.{◌≡◌, sym, ap, ◌∙◌}
use lib.ListN.{length, get_or, take, drop}
use lib.Seq.{paste}
use Rattle.std.proofs.lemmas.List.{append_assoc, get_or-take, get_or-drop, length-take-le, length-drop}
use Rattle.flow.specs.Format.{tabulate}
use Rattle.words.specs.Clauses.Change.{noted}
use Rattle.statements.specs.Clauses.Layout.{set_words}
use Rattle.dataflow.specs.Clauses.Bytes.{RowBefore, SameSets, both_copies}
use Rattle.dataflow.proofs.MaskBytes.{same_masks}
use Rattle.dataflow.proofs.NotedRows.{tabulated, noted-paste, noted-part}
use Rattle.dataflow.proofs.write.write_statement.Goals as goal

-- the row starts where the one before ends
row_on : (i w : ℕ) → 0 < i → (i - 1) * w + w ≡ i * w
row_on i w l =
    let one : i ≡ suc (i - 1) = omega arith in
    sym (suc-mul (i - 1) w) ∙ ap (λ (k : ℕ). k * w) (sym one)

-- so what is copied are the masks
copied : (masks ws : List ℕ) (n arrays i : ℕ) → 0 < i → RowBefore masks ws n arrays i → SameSets ws n (set_words arrays) (i - 1) i → i * arrays + arrays ≤ length masks
    → paste masks (i * arrays) (drop (i * arrays - arrays) masks) (i * arrays - (i * arrays - arrays)) ≡ noted masks (i * arrays) arrays (both_copies ws n (set_words arrays) i)
copied masks ws n arrays i some row same fits =
    let at = i * arrays in
    let f = both_copies ws n (set_words arrays) i in
    let before = row_on i arrays some in
    let size : at - (at - arrays) ≡ arrays = omega arith in
    let place : (a : ℕ) → at - arrays + a ≡ (i - 1) * arrays + a = λ a. omega arith in
    let part = take arrays (drop (at - arrays) masks) in
    let is : part ≡ tabulate arrays f =
    tabulated part f (length-take-le arrays (drop (at - arrays) masks) (omega (arith, length-drop (at - arrays) masks)))
    (λ a l. get_or-take arrays (drop (at - arrays) masks) a 0 l ∙ get_or-drop (at - arrays) masks a 0 ∙ ap (λ (x : ℕ). get_or masks x 0) (place a)
    ∙ row a some l ∙ same_masks ws n (set_words arrays) (i - 1) i a same (omega arith)) in
    ap (paste masks at (drop (at - arrays) masks)) size
    ∙ ap (λ (xs : List ℕ). (take at masks ++ xs) ++ drop (at + arrays) masks) is
    ∙ rw append_assoc (noted-paste masks at arrays f fits)

pub returns-then-same_sets : goal.returns-then-same_sets
returns-then-same_sets c =
    let a = c.args in
    c.copy_within.ensures.after
    ∙ copied a.masks.now a.work.now a.n a.arrays a.i c.if-i-gt0.true c.requires.4
    (rw (c.if-same_sets.true, c.set_words-width.ensures) at c.same_sets.ensures) c.requires.3

pub returns : goal.returns
returns c =
    let a = c.args in
    let at = a.i * a.arrays in
    let size : at + a.arrays - at ≡ a.arrays = omega arith in
    let masks = both_copies a.work.now a.n in
    let long : length (take (at + a.arrays - at) (drop at a.masks.now)) ≡ a.arrays = length-take-le _ _ (omega (arith, c.requires.3, length-drop at a.masks.now)) ∙ size in
    noted-part a.masks.now at _ (masks (set_words a.arrays) a.i) (omega (arith, c.requires.3))
    (c.write_row.ensures ∙ ap (λ (x : ℕ). tabulate (length (take (at + a.arrays - at) (drop at a.masks.now))) (masks (set_words x) a.i)) long)
    ∙ ap (λ (m : ℕ). noted a.masks.now at m (masks (set_words a.arrays) a.i)) size
