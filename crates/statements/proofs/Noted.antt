-- With its records noted, the work area is ready for a fit file.
-- By the laws of what is noted.
use Prim.Native.Nat.{ℕ, ◌+◌, ◌≤◌}
use native.Mathlib.Omega.{arith}
use mathlib.Core.List.{List}
use mathlib.Core.Path.{◌≡◌, sym, ap, subst, ◌∙◌}
use lib.ListN.{length, get_or}
use Rattle.flow.specs.Limits.{work_words}
use Rattle.flow.specs.Format.{statements_of}
use Rattle.flow.specs.Clauses.Answers.{FitFile}
use Rattle.words.specs.Clauses.Change.{noted}
use Rattle.records.specs.Clauses.Fields.{noted_word}
use Rattle.records.proofs.Noting.{length-noted, noted-at}
use Rattle.statements.specs.Clauses.Ready.{Ready}

pub ready-noted : {s vs : List ℕ} {n : ℕ} (ws : List ℕ) → FitFile s → n ≡ statements_of s → work_words n ≤ length ws → vs ≡ noted ws 0 n (noted_word s) → Ready s vs n
ready-noted {s} {vs} {n} ws f c r e = record {
  fit = f;
  count = c;
  room = subst (λ l. work_words n ≤ length l) (sym e) (subst (λ k. work_words n ≤ k) (sym (length-noted ws 0 (noted_word s) n)) r);
  offsets = λ i l. ap (λ v. get_or v (0 + i) 0) e ∙ noted-at ws 0 (noted_word s) n i 0 l (omega arith);
}
