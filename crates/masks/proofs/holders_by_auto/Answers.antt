-- `masks::holders_by_auto` meets its contract: the set of AUTO chooses between the words of masks with AUTO and without. Assumes nothing.
use native.Mathlib.Omega.{arith}
use Rattle.masks.proofs.Sets.{chosen_bits}
use Rattle.masks.proofs.holders_by_auto.Goals as goal

pub returns : goal.returns
returns c = chosen_bits 2 c.holders_by_none-with.ensures c.holders_by_none-without.ensures c.choose.ensures (λ j. omega arith) (λ j. omega arith)
