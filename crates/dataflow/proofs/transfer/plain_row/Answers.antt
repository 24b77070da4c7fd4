-- The row of the act, and where there is a handler that row with its touched step. By the laws of the act of a statement.
use Prim.Native.Nat.{ℕ, ◌+◌, ◌*◌, ◌<◌, ◌≤◌}
use mathlib.Core.List.{List}
use mathlib.Core.Logic.{◌⊎◌, inl, inr}
use mathlib.Core.Path.{◌≡◌, sym, subst, ◌∙◌}
use native.Mathlib.Nat.{le_refl}
use native.Mathlib.Omega.{arith}
use Rattle.masks.specs.declared.Effect.TheVariants.{Touched}
use Rattle.flow.specs.Format.{flow_of}
use Rattle.statements.proofs.Keeps.{keeps_widen}
use Rattle.statements.proofs.WellFormed.{well_formed}
use Rattle.solve.specs.Clauses.Layout.{out_row, mask_row_at, key_at}
use Rattle.solve.specs.Clauses.Rows.{RowIs, Beside, mask_at, step_where, member}
use Rattle.solve.proofs.Room.{key-room, row_first, row_from, row_fits, nodes-within}
use Rattle.dataflow.specs.Clauses.Transfer.{Acted, plain_effects}
use Rattle.dataflow.proofs.Kept.{key-stays, key_says}
use Rattle.dataflow.proofs.Acted.{acts_unkeyed, acts_keyed}
use Rattle.dataflow.proofs.Headers.{narrow, handled, unhandled}
use Rattle.dataflow.proofs.transfer.plain_row.Goals as goal

-- where the act stands: before the rows of the numbers, or in that of d

own-fits : (n w : ℕ) {d row : ℕ} → d < 2 * n → (row ≡ out_row n w) ⊎ (row ≡ mask_row_at n w d) → row + 3 * w ≤ key_at n w
own-fits n w below (inl e) = let low = row_from n w (2 * n) in let end = nodes-within n w in omega arith
own-fits n w below (inr e) = let fits = row_fits n w below in let end = nodes-within n w in omega arith

beside : (n w d : ℕ) {row out : ℕ} → out ≡ out_row n w → (row ≡ out_row n w) ⊎ (row ≡ mask_row_at n w d) → Beside w out row
beside n w d o (inl e) = inr (o ∙ sym e)
beside n w d o (inr e) = let low = row_from n w d in inl (inl (omega (arith, o)))

pub returns-then-is_none : goal.returns-then-is_none
returns-then-is_none c =
    (acts_unkeyed (flow_of c.args.file.now) c.args.i.0 (unhandled c.requires.1 (sym c.if-is_none.ensures)) c.act_row-own.ensures.0, c.act_row-own.ensures.1)

pub step_key-requires : goal.step_key-requires
step_key-requires c =
    let n : ℕ = c.args.h.statements in
    let w : ℕ = c.args.width in
    let low = row_from n w (2 * n) in
    let end = nodes-within n w in
    let out = c.out_row-out.ensures in
    let at = c.requires.5 in
    let width = narrow c.requires.1 c.requires.0 in
    let own = c.act_row-own.ensures.1 in
    (omega (arith, key-room c.requires.1.ready (omega arith) width, c.act_row-own.ensures.0.keeps.size), omega arith, own-fits n w c.requires.3 own, beside n w c.args.d.0 out own)

pub returns : goal.returns
returns c =
    let f = flow_of c.args.file.now in
    let n : ℕ = c.args.h.statements in
    let w : ℕ = c.args.width in
    let ws : List ℕ = c.args.work.now in
    let us : List ℕ = c.act_row-own.new.work in
    let vs : List ℕ = c.step_key.new.work in
    let row : ℕ = c.act_row-own.result in
    let out = c.out_row-out.ensures in
    let low = row_from n w (2 * n) in
    let end = nodes-within n w in
    let first = row_from n w 0 in
    let made : mask_row_at n w 0 ≤ key_at n w = omega (arith, row_first n w, c.requires.5) in (
      subst (λ (r : ℕ). Acted f ws vs n w c.args.d.0 (plain_effects f c.args.i.0) r) (sym out)
          (acts_keyed (well_formed c.requires.1.ready.fit) c.args.i.0 c.act_row-own.ensures.0
          (subst (λ (to : ℕ). RowIs us vs w to (step_where (member us (key_at n w)) Touched (mask_at us w row))) out c.step_key.ensures)
          (key_says (key-stays (keeps_widen (le_refl _) made c.act_row-own.ensures.0.keeps) c.requires.2) (handled c.requires.1 (sym c.if-is_none.ensures)).1)),
      inl out,
    )
