-- By the statement's kind, the row for its edges is the number's row with its references, its items or all arrays stepped. By the laws of the act of a statement.
use Prim.Native.Nat.{ℕ, ◌*◌, ◌<◌, ◌≤◌}
use mathlib.Core.List.{List, [], ◌∷◌}
use mathlib.Core.Path.{◌≡◌, refl, sym, ap, ◌∙◌}
use native.Mathlib.Omega.{arith}
use lib.ListN.{length}
use Rattle.flow.specs.declared.Header.{Header}
use Rattle.flow.specs.Flow.{Item, items}
use Rattle.flow.specs.Format.{flow_of}
use Rattle.theory.specs.Body.{kind}
use Rattle.statements.specs.Clauses.Layout.{set_words}
use Rattle.statements.specs.Clauses.Ready.{Indexed}
use Rattle.statements.proofs.WellFormed.{well_formed}
use Rattle.solve.specs.Clauses.Layout.{set_row, out_row, back_row, mask_row_at, area_end}
use Rattle.dataflow.specs.Clauses.Transfer.{RowsApart}
use Rattle.dataflow.proofs.Acted.{acts_plain, acts_resets, acts_dims}
use Rattle.dataflow.proofs.Sets.{row-steps, apart-again, steps-by, steps-at, hand_apart, edges-apart}
use Rattle.dataflow.proofs.Headers.{arrays_told, arrays-few, narrow, room}
use Rattle.dataflow.proofs.transfer.transfer.Goals as goal

-- the set, the rows for the edges and the number's own lie apart
module _ {s ws : List ℕ} {h : Header} {w d set : ℕ} (x : Indexed s h ws) (width : w ≡ set_words h.arrays) (low : d < 2 * h.statements) (at : set ≡ set_row h.statements) where
  fits : area_end h.statements w ≤ length ws
  fits = room x width (omega arith)

  own : {out from : ℕ} → out ≡ out_row h.statements w → from ≡ mask_row_at h.statements w d → RowsApart ws w set out from
  own o f = hand_apart ws h.statements w d fits low at (omega (arith, o)) (omega (arith, o)) f

  own-back : {back from : ℕ} → back ≡ back_row h.statements w → from ≡ mask_row_at h.statements w d → RowsApart ws w set back from
  own-back b f = hand_apart ws h.statements w d fits low at (omega (arith, b)) (omega (arith, b)) f

  both : (us : List ℕ) {out back : ℕ} → length us ≡ length ws → out ≡ out_row h.statements w → back ≡ back_row h.statements w → RowsApart us w set out back
  both us e o b = apart-again ws us e (edges-apart ws h.statements w fits at o b)

pub reset_row-requires : goal.reset_row-requires
reset_row-requires c = (arrays-few c.requires.1, narrow c.requires.1 c.requires.0, own c.requires.1 c.requires.0 c.requires.2 c.set_row-set.ensures c.out_row-out.ensures c.mask_row-from.ensures)

pub returns-then-resets : goal.returns-then-resets
returns-then-resets c =
    acts_resets (well_formed c.requires.1.ready.fit) c.args.h.statements c.args.width c.args.d.0 c.args.i.0 c.requires.2 (arrays_told c.requires.1)
    (sym c.resets.ensures ∙ c.if-resets.true) (steps-at c.set_row-set.ensures c.out_row-out.ensures c.mask_row-from.ensures c.reset_row.ensures)

pub step_members-requires : goal.step_members-requires
step_members-requires c = steps-by _ c.note_references.ensures.keeps.size (narrow c.requires.1 c.requires.0) (own c.requires.1 c.requires.0 c.requires.2 c.set_row-set.ensures c.out_row-out.ensures c.mask_row-from.ensures)

empty-list : (l : List Item) → length l ≡ 0 → l ≡ []
empty-list [] e = refl
empty-list (x ∷ l) e = absurd (omega arith)

pub returns-then-item_count-eq0 : goal.returns-then-item_count-eq0
returns-then-item_count-eq0 c =
    acts_plain (well_formed c.requires.1.ready.fit) c.args.h.statements c.args.width c.args.d.0 c.args.i.0 c.requires.2
    (sym c.resets.ensures ∙ c.if-resets.false) (empty-list (items (kind (flow_of c.args.file.now) c.args.i.0)) (c.requires.3.items.count ∙ sym c.item_count.ensures ∙ c.if-item_count-eq0.true))
    (steps-at c.set_row-set.ensures c.out_row-out.ensures c.mask_row-from.ensures (row-steps (own c.requires.1 c.requires.0 c.requires.2 c.set_row-set.ensures c.out_row-out.ensures c.mask_row-from.ensures) c.note_references.ensures c.step_members.ensures))

pub step_members-requires-2 : goal.step_members-requires-2
step_members-requires-2 c = steps-by _ c.note_references.ensures.keeps.size (narrow c.requires.1 c.requires.0) (own-back c.requires.1 c.requires.0 c.requires.2 c.set_row-set.ensures c.back_row-back.ensures c.mask_row-from.ensures)

pub note_items-requires : goal.note_items-requires
note_items-requires c =
    let set = c.set_row-set.ensures in
    let apart = both c.requires.1 c.requires.0 c.requires.2 set c.step_members-2.new.work (c.step_members-2.ensures.keeps.size ∙ c.note_references.ensures.keeps.size) c.out_row-out.ensures c.back_row-back.ensures in
    (c.requires.1.ready.fit, c.requires.3, c.requires.0 ∙ ap set_words (arrays_told c.requires.1), omega (arith, apart.below_to, apart.to_fits))

pub returns : goal.returns
returns c =
    let set = c.set_row-set.ensures in
    let out = c.out_row-out.ensures in
    let from = c.mask_row-from.ensures in
    let back = c.back_row-back.ensures in
    let size = c.step_members-2.ensures.keeps.size ∙ c.note_references.ensures.keeps.size in
    acts_dims (well_formed c.requires.1.ready.fit) c.args.h.statements c.args.width c.args.d.0 c.args.i.0 c.requires.2
    (sym c.resets.ensures ∙ c.if-resets.false)
    (steps-at set back from (row-steps (own-back c.requires.1 c.requires.0 c.requires.2 set back from) c.note_references.ensures c.step_members-2.ensures))
    (steps-at set out back (row-steps (both c.requires.1 c.requires.0 c.requires.2 set c.step_members-2.new.work size out back) c.note_items.ensures c.step_members-3.ensures))
