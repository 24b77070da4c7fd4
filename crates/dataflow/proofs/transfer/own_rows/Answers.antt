-- The act of the statement is in the one row, and with the call's own step in the other. By the summary of the call.
use Prim.Native.Nat.{ℕ, ◌+◌, ◌<◌, ◌≤◌}
use mathlib.Core.Bool.{true, false}
use mathlib.Core.List.{List}
use mathlib.Core.Logic.{inl}
use mathlib.Core.Path.{◌≡◌, sym, subst, ◌∙◌}
use native.Mathlib.Omega.{arith}
use lib.ListN.{get_or}
use Rattle.masks.specs.declared.Effect.{Effect}
use Rattle.masks.specs.declared.Effect.TheVariants.{Reference, Touched}
use Rattle.flow.specs.Flow.{Flow}
use Rattle.flow.specs.Format.{flow_of}
use Rattle.theory.specs.Body.{call_touches}
use Rattle.theory.specs.Sure.{sure}
use Rattle.theory.specs.Doubled.{node, statement_effects, own_effects}
use Rattle.statements.specs.Clauses.Layout.{sure_at, call_touched_at, max_width}
use Rattle.statements.specs.Clauses.Ready.{MembersWord}
use Rattle.statements.proofs.WorkArea as area
use Rattle.calls.specs.Clauses.Held.{Linked}
use Rattle.calls.specs.Clauses.Class.{transparent_call}
use Rattle.solve.specs.Clauses.Layout.{out_row, back_row}
use Rattle.solve.specs.Clauses.Rows.{RowIs, step_where, member, mask_at}
use Rattle.dataflow.specs.Clauses.Transfer.{enters_again, Acted}
use Rattle.dataflow.specs.Clauses.Sent.{edge_row, Prepared}
use Rattle.dataflow.proofs.Sends.{prepared_again, prepared_sure, call-touches, call-sure}
use Rattle.dataflow.proofs.Headers.{narrow, room}
use Rattle.dataflow.proofs.transfer.own_rows.Goals as goal

pub step_back-requires : goal.step_back-requires
step_back-requires c =
    let n : ℕ = c.args.h.statements in
    let low = area.row_from n n in
    let at = c.requires.6 in
    (omega (arith, room c.requires.1 c.requires.0 (omega arith), c.transfer.ensures.keeps.size), omega (arith, c.call_touched.ensures), inl c.out_row-out.ensures)

-- the row after a step by a set and a row that were found
stepped : (n i : ℕ) (effect : Effect) {us vs : List ℕ} {w set set' from from' : ℕ} → set ≡ set' → from ≡ from' → RowIs us vs w (back_row n w) (step_where (member us (set + i)) effect (mask_at us w from))
    → RowIs us vs w (back_row n w) (step_where (member us (set' + i)) effect (mask_at us w from'))
stepped n i effect {us} {vs} {w} {set} {from' = from'} s f r =
    subst (λ (set : ℕ). RowIs us vs w (back_row n w) (step_where (member us (set + i)) effect (mask_at us w from'))) s
    (subst (λ (from : ℕ). RowIs us vs w (back_row n w) (step_where (member us (set + i)) effect (mask_at us w from))) f r)

-- the act leaves the words of the call, and its row takes the touched step
module _ (f : Flow) {ws us vs : List ℕ} {n w d i set out : ℕ} (stmt : i ≡ (node f d).stmt) (call : transparent_call f i ≡ true) (linked : Linked f ws n) (low : i < n) (thin : w ≤ max_width)
    (act : Acted f ws us n w d (statement_effects f i) (out_row n w)) (at : set ≡ call_touched_at n) (from : out ≡ out_row n w)
    (step : RowIs us vs w (back_row n w) (step_where (member us (set + i)) Touched (mask_at us w out))) where
  touched-word : MembersWord (get_or us (call_touched_at n + i) 0) (call_touches f i)
  touched-word = let first = area.row_from n n in subst (λ (v : ℕ). MembersWord v (call_touches f i)) (sym (act.keeps.below (call_touched_at n + i) (omega arith))) (call-touches call linked low)

  sure-word : MembersWord (get_or us (sure_at n + i) 0) (sure f i)
  sure-word = let first = area.row_from n n in subst (λ (v : ℕ). MembersWord v (sure f i)) (sym (act.keeps.below (sure_at n + i) (omega arith))) (call-sure call linked low)

  touched : RowIs us vs w (back_row n w) (step_where (member us (call_touched_at n + i)) Touched (mask_at us w (out_row n w)))
  touched = stepped n i Touched at from step

  again : enters_again f (node f d).base i ≡ true → Prepared f ws vs n w d (own_effects f (node f d).stmt) (edge_row n w)
  again = prepared_again f ws us n w d i stmt call act thin touched-word sure-word low vs touched

  -- and after it, for its sure arrays, that of a reference
  once : {qs : List ℕ} {sures back : ℕ} → sures ≡ sure_at n → back ≡ back_row n w → RowIs vs qs w (back_row n w) (step_where (member vs (sures + i)) Reference (mask_at vs w back))
      → enters_again f (node f d).base i ≡ false → Prepared f ws qs n w d (own_effects f (node f d).stmt) (edge_row n w)
  once {qs} s b r = prepared_sure f ws us n w d i stmt call act thin touched-word sure-word low vs qs touched (stepped n i Reference s b r)

pub returns-then-again : goal.returns-then-again
returns-then-again c =
    again (flow_of c.args.file.now) c.requires.5 c.requires.7 c.requires.2 c.requires.6 (narrow c.requires.1 c.requires.0) c.transfer.ensures c.call_touched.ensures c.out_row-out.ensures c.step_back.ensures
    (sym c.requires.8 ∙ c.if-again.true)

pub returns : goal.returns
returns c =
    once (flow_of c.args.file.now) c.requires.5 c.requires.7 c.requires.2 c.requires.6 (narrow c.requires.1 c.requires.0) c.transfer.ensures c.call_touched.ensures c.out_row-out.ensures c.step_back.ensures
    c.sure.ensures c.back_row-back.ensures c.step_back-2.ensures (sym c.requires.8 ∙ c.if-again.false)
