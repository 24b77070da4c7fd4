-- `references_word` meets its contract: the bits of the word are the references that the record lists (`members-word`).
-- Assumes nothing.
use mathlib.Core.Path.{sym, subst}
use Rattle.flow.specs.Format.{flow_of, reference_count, reference_at}
use Rattle.records.specs.Clauses.Fields.{set_word}
use Rattle.theory.specs.Body.{references}
use Rattle.theory.specs.Lists.{elem}
use Rattle.statements.specs.Clauses.Ready.{MembersWord}
use Rattle.statements.proofs.MembersWord.{members-word}
use Rattle.statements.proofs.fields.references_word.Goals as goal

pub returns : goal.returns
returns c = let start = c in
    let s = start.args.file.now in
    let p = c.offset.result in
    subst (λ w. MembersWord w (λ a. elem a (references (flow_of s) start.args.i.0))) (sym c.references_word.ensures)
    (subst (λ l. MembersWord (set_word (reference_count s p) (reference_at s p) 0) (λ a. elem a l)) (sym c.offset.ensures.references.list)
    (members-word (reference_at s p) (reference_count s p)))
