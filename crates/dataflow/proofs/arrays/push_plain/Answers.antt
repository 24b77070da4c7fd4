-- The successors of a statement that is no RETURN, the members of its row in base 0, and nothing in base n. By the slots of each kind of statement.
use Prim.Native.Nat.{ℕ}
use mathlib.Core.Bool.{true, false}
use mathlib.Core.List.{List}
use mathlib.Core.Option.{Option}
use mathlib.Core.Path.{◌≡◌, sym, ap, subst, ◌∙◌}
use borrow.Author.Tests.{eq-eqb, ne_eqb}
use Rattle.flow.specs.declared.Base.{Base}
use Rattle.flow.specs.Format.{flow_of, kind_at, kind_return}
use Rattle.theory.specs.Lists.{concat_map}
use Rattle.theory.specs.Body.{kind, is_return}
use Rattle.theory.specs.Doubled.{Edge}
use Rattle.calls.specs.Clauses.Slots.{return_slots, present}
use Rattle.calls.proofs.Classes.{slots-return, slots_listed, plain_says}
use Rattle.dataflow.specs.Clauses.Sent.{Goes}
use Rattle.dataflow.proofs.Sending.{sent-none}
use Rattle.dataflow.proofs.Sharing.{goes_sent}
use Rattle.flow.specs.declared.kind.Kind.{Kind}
use Rattle.flow.specs.declared.kind.Kind.TheVariants.{Return}
use Rattle.flow.specs.Clauses.Kinds.{kind_number}
use Rattle.flow.proofs.KindNumbers.{number-not, same-unlike, other-unlike}
use Rattle.statements.specs.Clauses.Ready.{RecordOf}
use Rattle.dataflow.proofs.arrays.push_plain.Goals as goal

-- whether the statement is a RETURN, by its kind

returned : {s : List ℕ} {i p : ℕ} {k : Kind} → RecordOf s i p → kind_number k ≡ kind_at s p → k ≡ Return → is_return (kind (flow_of s) i) ≡ true
returned {s} {p = p} r e same = sym r.return ∙ eq-eqb (kind_at s p) kind_return (sym e ∙ ap kind_number same)

listed : {s : List ℕ} {i p : ℕ} {k : Kind} → RecordOf s i p → kind_number k ≡ kind_at s p → (k ≡ Return → ⊥) → is_return (kind (flow_of s) i) ≡ false
listed {s} {p = p} r e other = sym r.return ∙ ne_eqb (kind_at s p) kind_return (number-not Return e other)

pub returns-then-ne : goal.returns-then-ne
returns-then-ne c =
    let f = flow_of c.args.file.now in
    let slots-are = slots_listed f c.args.copy.base c.args.copy.stmt.0 (listed c.requires.2 c.kind.ensures (other-unlike _ _ c.if-ne.ensures)) (plain_says f c.args.copy.stmt.0 c.requires.4) in
    subst (λ (xs : List (Option Edge)). Goes f c.args.work.now c.push_listed.new.work c.args.layout.n c.args.layout.width (λ b. c.args.from) c.args.first c.args.copy.stmt.0 (present xs) c.push_listed.result)
    (sym slots-are) (goes_sent c.requires.6 c.push_listed.ensures)

pub returns-in-Zero : goal.returns-in-Zero
returns-in-Zero c =
    let f = flow_of c.args.file.now in
    let back = returned c.requires.2 c.kind.ensures (same-unlike _ _ c.if-ne.ensures) in
    subst (λ (xs : List (Option Edge)). Goes f c.args.work.now c.push_return.new.work c.args.layout.n c.args.layout.width (λ b. c.args.from) c.args.first c.args.copy.stmt.0 (present xs) c.push_return.result)
    (sym (slots-return f c.args.copy.base c.args.copy.stmt.0 back ∙ ap (λ (b : Base). return_slots f b c.args.copy.stmt.0) c.in-Zero.is)) c.push_return.ensures

pub returns-in-N : goal.returns-in-N
unfolding return_slots present concat_map
returns-in-N c =
    let f = flow_of c.args.file.now in
    let back = returned c.requires.2 c.kind.ensures (same-unlike _ _ c.if-ne.ensures) in
    subst (λ (xs : List (Option Edge)). Goes f c.args.work.now c.args.work.now c.args.layout.n c.args.layout.width (λ b. c.args.from) c.args.first c.args.copy.stmt.0 (present xs) c.args.first)
    (sym (slots-return f c.args.copy.base c.args.copy.stmt.0 back ∙ ap (λ (b : Base). return_slots f b c.args.copy.stmt.0) c.in-N.is)) (goes_sent c.requires.6 sent-none)
