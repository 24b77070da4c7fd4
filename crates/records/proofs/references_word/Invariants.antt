-- The word is that of the set of the references passed.
use Rattle.std.specs.Prelude.{◌≡◌}
use Rattle.flow.specs.Format.{reference_at}
use Rattle.records.specs.Clauses.Fields.{set_word}
use Rattle.records.proofs.references_word.Given as goal

abbrev pub invariant-loop-a : goal.invariant-loop-a
invariant-loop-a l = l.word ≡ set_word l.a-index (reference_at l.fn.file l.fn.p) l.w
