-- `masks::holders_by_none` meets its contract: the set of NONE chooses between the words of two masks, each of which has one bit throughout. Assumes nothing.
use mathlib.Core.Path.{refl, ap, ◌∙◌}
use native.Mathlib.Omega.{arith}
use Prim.Native.Nat.{ℕ}
use Rattle.words.specs.Clauses.Row.{bit}
use Rattle.masks.specs.Clauses.Sets.{bit_of}
use Rattle.masks.proofs.Sets.{chosen_bits}
use Rattle.masks.proofs.holders_by_none.Goals as goal

pub returns : goal.returns
returns c =
    let with = c in
    let without = c in
    let s : ℕ = bit_of with.args.state in
    chosen_bits 1 (record { member = λ j l. with.spread-with.ensures j l ∙ ap (λ (m : ℕ). bit m s) with.step.ensures })
    (record { member = λ j l. without.spread-without.ensures j l ∙ ap (λ (m : ℕ). bit m s) without.step-2.ensures })
    c.choose.ensures (λ j. refl) (λ j. omega arith)
