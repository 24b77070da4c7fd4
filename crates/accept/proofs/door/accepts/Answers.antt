-- With an opaque handler the bytes alone are asked, and else the edges. Assumes nothing.
use Prim.Native.Nat.{ℕ, ◌*◌, ◌<◌}
use mathlib.Core.List.{List}
use mathlib.Core.Path.{◌≡◌, sym, ap, ap₂, subst, ◌∙◌}
use lib.Dec.{eqb}
use lib.ListN.{get_or}
use Rattle.flow.specs.declared.Header.{Header}
use Rattle.flow.specs.Flow.{size}
use Rattle.flow.specs.Format.{flow_of}
use Rattle.records.proofs.Statements.{size_is}
use Rattle.theory.specs.Lists.{all_below}
use Rattle.theory.specs.Masks.{any_state}
use Rattle.theory.specs.Accept.{proposed}
use Rattle.theory.proofs.Accept.{accepted-any, accepted-held}
use Rattle.statements.proofs.WellFormed.{arrays-is}
use Rattle.dataflow.specs.Clauses.Phases.{FitFlow}
use Rattle.accept.proofs.Judging.{any-part, any-rows}
use Rattle.accept.proofs.door.accepts.Goals as goal

-- what the header says
module _ {s work : List ℕ} {h : Header} (r : FitFlow s h work) where
  sized : h.statements ≡ size (flow_of s)
  sized = ap (λ h. h.statements) r.header ∙ sym (size_is s)

  count : h.arrays ≡ (flow_of s).arrays
  count = ap (λ h. h.arrays) r.header ∙ sym (arrays-is s)

  some : 0 < size (flow_of s)
  some = subst (λ (n : ℕ). 0 < n) sized r.some

pub returns-then-opaque_handler : goal.returns-then-opaque_handler
returns-then-opaque_handler c =
    let f = flow_of c.args.file.now in
    let p = c.args.proposal.now in
    let r = c.requires.0 in
    c.all_any.ensures ∙ any-part p (2 * (c.args.h.statements * c.args.h.arrays)) c.requires.1.room ∙ ap₂ (λ (n k : ℕ). all_below (2 * (n * k)) (λ j. eqb (get_or p j 0) any_state)) (sized r) (count r) ∙ any-rows f p
    ∙ sym (accepted-any f (proposed f p) (some r) (sym c.opaque_handler.ensures ∙ c.if-opaque_handler.true))

pub returns : goal.returns
returns c =
    let f = flow_of c.args.file.now in
    c.holds.ensures ∙ sym (accepted-held f (proposed f c.args.proposal.now) (some c.requires.0) (sym c.opaque_handler.ensures ∙ c.if-opaque_handler.false))
