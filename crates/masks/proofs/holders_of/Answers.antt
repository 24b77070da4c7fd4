-- `masks::holders_of` meets its contract: the set of DIMMED chooses between the words of masks with DIMMED and without, which makes the whole mask. Assumes nothing.
use native.Mathlib.Omega.{arith}
use Rattle.words.specs.Clauses.Row.{bit}
use Rattle.masks.specs.Clauses.Sets.{bit_of, mask_of, StepBits}
use Rattle.masks.proofs.Sets.{chosen_bits}
use Rattle.masks.proofs.holders_of.Goals as goal

pub returns : goal.returns
returns c =
    let a = c.args in
    let whole : StepBits a.effect (λ j. mask_of (bit a.none j) (bit a.auto j) (bit a.dimmed j)) (bit_of a.state) c.choose.result =
    chosen_bits 4 c.holders_by_auto-with.ensures c.holders_by_auto-without.ensures c.choose.ensures (λ j. omega arith) (λ j. omega arith) in
    record { member = whole.member }
