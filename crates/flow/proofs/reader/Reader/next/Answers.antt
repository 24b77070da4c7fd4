-- Where the answer so far is a place, the part is due there and its answer counts, and a refusal stands. Assumes nothing.
use Prim.Native.Nat.{ℕ}
use mathlib.Core.Path.{◌≡◌, sym, refl, ap, ◌∙◌}
use Rattle.std.specs.Prelude.{Result, Ok, Err}
use Rattle.std.specs.Result.{result_unwrap_or}
use Rattle.flow.specs.declared.Refusal.{Refusal}
use Rattle.flow.specs.Clauses.Parts.{place_after}
use Rattle.flow.proofs.Answers.{handed_on}
use Rattle.flow.proofs.FileVerdict.{due, counts, stands}
use Rattle.flow.proofs.reader.Reader.next.Goals as goal

-- the place after a part that is fit is in its answer
moves : (x : Result ℕ Refusal) (at : ℕ) → result_unwrap_or x at ≡ place_after x at
moves (Ok q) at = refl
moves (Err r) at = refl

pub returns-in_err-at : goal.returns-in_err-at
returns-in_err-at c =
    let refused = c.in_err-at.was in
    (handed_on c.from_residual.ensures.1 (stands c.args.self.now.file.now c.args.part (sym refused ∙ c.requires)), refl, sym (handed_on c.from_residual.ensures.1 (sym refused)), sym (ap (λ t. place_after t c.args.self.now.at) (handed_on c.from_residual.ensures.1 refl)))

pub check_part-self-requires : goal.check_part-self-requires
check_part-self-requires c = due c.args.self.now.file.now c.args.part (sym c.in_ok-at.was ∙ c.requires)

pub returns : goal.returns
returns c = (c.check_part-self.ensures ∙ counts c.args.self.now.file.now c.args.part (sym c.in_ok-at.was ∙ c.requires), refl, refl, c.unwrap_or-self.ensures ∙ moves c.check_part-self.result c.args.self.now.at)
