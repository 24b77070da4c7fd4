-- One row more is noted, and the row before it is that of the statement before. Assumes nothing.
use native.Mathlib.Omega.{arith}
use native.Mathlib.Nat.{suc-mul, mul-le-mul_right}
use native.Mathlib.Numerals.{add-one}
use Prim.Native.Nat.{ℕ, ◌+◌, ◌-◌, ◌*◌, ◌≤◌, ◌<◌}
use mathlib.Core.List.{List}
use mathlib.Core.Path.{◌≡◌, refl, ap, ◌∙◌}
use lib.ListN.{length, get_or}
use Rattle.words.specs.Clauses.Change.{noted}
use Rattle.statements.specs.Clauses.Layout.{set_words}
use Rattle.dataflow.specs.Clauses.Bytes.{RowBefore, both_copies, noted_rows}
use Rattle.dataflow.proofs.NotedRows.{length-rows, rows_at}
use Rattle.dataflow.proofs.write.write_masks.Goals as goal

-- the rows up to this one lie within the area
fits : (n arrays size i : ℕ) → i < n → n * arrays ≤ size → i * arrays + arrays ≤ size
fits n arrays size i l h = omega (arith, mul-le-mul_right arrays l, suc-mul i arrays)

module _ (ws work : List ℕ) (n arrays i : ℕ) {masks : List ℕ} (rows : masks ≡ noted_rows ws arrays (both_copies work n (set_words arrays)) i) where
  size : length masks ≡ length ws
  size = ap length rows ∙ length-rows ws arrays (both_copies work n (set_words arrays)) i

  row_before : i * arrays + arrays ≤ length ws → RowBefore masks work n arrays i
  row_before h a some l =
      ap (λ (v : List ℕ). get_or v ((i - 1) * arrays + a) 0) rows
      ∙ rows_at ws arrays (both_copies work n (set_words arrays)) i (i - 1) a (omega arith) l (omega arith)

pub loop-i-init : goal.loop-i-init
unfolding noted_rows
loop-i-init c = refl

pub write_statement-requires : goal.write_statement-requires
write_statement-requires c =
    let a = c.args in
    let loop = c.loop-i in
    let last = fits a.n a.arrays (length a.masks.now) loop.i c.loop-i-test.true c.requires.2 in (
      c.requires.1,
      record { most = c.requires.0; narrow = omega arith; room = c.requires.3 },
      c.loop-i-test.true,
      omega (arith, last, size a.masks.now a.work.now a.n a.arrays loop.i loop.invariant),
      row_before a.masks.now a.work.now a.n a.arrays loop.i loop.invariant last,
    )

pub loop-i-preserved : goal.loop-i-preserved
unfolding noted_rows
loop-i-preserved c =
    let a = c.args in
    let loop = c.loop-i in
    rw (add-one loop.i)
    (c.write_statement.ensures
    ∙ ap (λ (l : List ℕ). noted l (loop.i * a.arrays) a.arrays (both_copies a.work.now a.n (set_words a.arrays) loop.i)) loop.invariant)
