-- The row of the act, or that of the number where there is none. By the laws of the act of a statement.
use Prim.Native.Nat.{ℕ}
use mathlib.Core.Logic.{inl, inr}
use mathlib.Core.Path.{sym, subst, ◌∙◌}
use Rattle.flow.specs.Format.{flow_of}
use Rattle.theory.specs.Doubled.{statement_effects}
use Rattle.statements.proofs.WellFormed.{well_formed}
use Rattle.dataflow.specs.Clauses.Transfer.{Acted}
use Rattle.dataflow.proofs.Acted.{acts_not}
use Rattle.dataflow.proofs.transfer.act_row.Goals as goal

pub returns-then-acts : goal.returns-then-acts
returns-then-acts c =
    let a = c.args in
    (subst (λ (r : ℕ). Acted (flow_of a.file.now) a.work.now c.transfer.new.work a.h.statements a.width a.d.0 (statement_effects (flow_of a.file.now) a.i.0) r) (sym c.out_row.ensures) c.transfer.ensures, inl c.out_row.ensures)

pub returns : goal.returns
returns c =
    let a = c.args in
    let idle = sym c.acts.ensures ∙ c.if-acts.false in (
      subst (λ (r : ℕ). Acted (flow_of a.file.now) a.work.now a.work.now a.h.statements a.width a.d.0 (statement_effects (flow_of a.file.now) a.i.0) r) (sym c.mask_row.ensures)
          (acts_not (well_formed c.requires.1.ready.fit) a.h.statements a.width a.d.0 a.i.0 idle),
      inr c.mask_row.ensures,
    )
