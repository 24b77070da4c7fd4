-- The masks before are joined where the bytes are the same, and else the row is loaded. Assumes nothing.
use Prim.Native.Nat.{ℕ, ◌+◌, ◌*◌}
use mathlib.Core.List.{List}
use mathlib.Core.Path.{sym, ap, subst, ◌∙◌}
use native.Mathlib.Omega.{arith}
use Rattle.std.specs.List.{between}
use Rattle.words.specs.Clauses.Change.{Unioned}
use Rattle.statements.specs.Clauses.Layout.{set_words}
use Rattle.solve.specs.Clauses.Layout.{mask_row_at}
use Rattle.solve.specs.Clauses.Rows.{RowIs}
use Rattle.solve.proofs.Room.{row_fits}
use Rattle.dataflow.specs.Clauses.Sent.{masks_below}
use Rattle.accept.specs.Clauses.Rows.{row_of}
use Rattle.accept.proofs.Loading.{row-room, row-size, row-at, row-masks, repeats, repeated, loaded_row}
use Rattle.accept.proofs.rows.load_next.Goals as goal

pub slice_bounds-own-end : goal.slice_bounds-own-end
slice_bounds-own-end c = let a = c.args in omega (arith, row-room a.layout.n a.arrays c.requires.4 c.requires.2, c.requires.4.room)

pub returns-then-join_apart-eq0 : goal.returns-then-join_apart-eq0
returns-then-join_apart-eq0 c =
    let a = c.args in
    let d : ℕ = a.d.0 in
    let ws : List ℕ = a.work.now in
    let vs : List ℕ = c.union.new.ws in
    repeated c.requires.2 c.if-d-gt0.true c.requires.3 c.requires.5 (repeats a.layout.n a.arrays c.requires.4 c.requires.2 c.if-d-gt0.true (sym c.join_apart.ensures ∙ c.if-join_apart-eq0.true))
    (subst (λ (x : ℕ). Unioned ws vs (mask_row_at a.layout.n a.layout.width d) x (3 * a.layout.width) c.union.result) c.mask_row-before.ensures
    (subst (λ (x : ℕ). Unioned ws vs x c.mask_row-before.result (3 * a.layout.width) c.union.result) c.mask_row-row.ensures c.union.ensures))

pub load_row-requires : goal.load_row-requires
load_row-requires c =
    let a = c.args in
    let size = row-size a.layout.n a.arrays c.requires.4 c.requires.2 in
    (c.requires.1 ∙ sym (ap set_words size), omega (arith, size, c.requires.0), omega (arith, c.mask_row-row.ensures, row_fits a.layout.n a.layout.width c.requires.2, c.requires.3), row-masks a.layout.n a.arrays c.requires.4 c.requires.2)

pub returns : goal.returns
returns c =
    let a = c.args in
    let d : ℕ = a.d.0 in
    let own : List ℕ = between (d * a.arrays) (d * a.arrays + a.arrays) a.s.now in
    subst (λ (x : ℕ). RowIs a.work.now c.load_row.new.work a.layout.width x (masks_below a.arrays (row_of a.s.now a.arrays d))) c.mask_row-row.ensures
    (loaded_row a.s.now own d (row-size a.layout.n a.arrays c.requires.4 c.requires.2) (row-at a.s.now a.arrays d) c.load_row.ensures)
