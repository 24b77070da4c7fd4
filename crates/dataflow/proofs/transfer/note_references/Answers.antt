-- One word more is noted, and the record's references are the statement's. Assumes nothing.
use Prim.Native.Nat.{ℕ}
use mathlib.Core.List.{List}
use mathlib.Core.Bool.{cond}
use mathlib.Core.Path.{◌≡◌, refl, sym, ap, subst, ◌∙◌}
use native.Mathlib.Nat.{add-zero}
use native.Mathlib.Omega.{arith}
use lib.ListN.{set}
use Rattle.words.specs.Clauses.Row.{bit}
use Rattle.flow.specs.Format.{flow_of, tabulate, reference_count, reference_at}
use Rattle.theory.specs.Lists.{elem}
use Rattle.theory.specs.Body.{references}
use Rattle.statements.specs.Clauses.Ready.{RecordOf}
use Rattle.statements.proofs.MembersWord.{word-bit}
use Rattle.dataflow.specs.Clauses.Transfer.{SetIs}
use Rattle.dataflow.proofs.Sets.{noting_none, noting_more, noting_all}
use Rattle.dataflow.proofs.transfer.note_references.Goals as goal

-- the record's references are the statement's
of-statement : {s : List ℕ} {i p : ℕ} {ws vs : List ℕ} {at w : ℕ} → RecordOf s i p → SetIs ws vs at w (λ a. elem a (tabulate (reference_count s p) (reference_at s p)))
    → SetIs ws vs at w (λ a. elem a (references (flow_of s) i))
of-statement r x = record { keeps = x.keeps; member = λ a l. x.member a l ∙ ap (λ (l : List ℕ). cond (elem a l) 1 0) (sym r.references.list) }

pub returns-then-width-eq1 : goal.returns-then-width-eq1
returns-then-width-eq1 c =
    let a = c.args in
    let one : a.width ≡ 1 = c.if-width-eq1.true in
    of-statement c.requires.0
    (subst (λ (w : ℕ). SetIs a.work.now (set a.work.now a.set c.references_word.result) a.set w (λ x. elem x (tabulate (reference_count a.file.now a.p) (reference_at a.file.now a.p)))) (sym one)
    (subst (λ (x : ℕ). SetIs a.work.now (set a.work.now x c.references_word.result) a.set 1 (λ x. elem x (tabulate (reference_count a.file.now a.p) (reference_at a.file.now a.p)))) (add-zero a.set)
    (noting_all (noting_more c.references_word.result noting_none (omega (arith, c.requires.2)) (omega arith)
    (λ j l. ap (λ (x : ℕ). bit x j) c.references_word.ensures ∙ word-bit (reference_at a.file.now a.p) (reference_count a.file.now a.p) 0 j l)) refl)))
