-- What the readers of a fit record need: where its fields lie, and that the number of a known kind is no other kind's.
-- Gathered from what the checks of a record give. Assumes nothing.
use Prim.Native.Nat.{ℕ, ◌≤◌}
use native.Mathlib.Omega.{arith}
use mathlib.Core.List.{List}
use Rattle.std.proofs.lemmas.Grind.{common_steps}
use Rattle.flow.specs.Format.{record_end}
use Rattle.flow.proofs.Records.{start_fits, references-fit, data-fits, end_fits, data-before-end}
use Rattle.records.proofs.KindData.{items_counted, lines_counted}
use Rattle.records.proofs.KindNumber.{no_number}

pub starts_before : (s : List ℕ) (p : ℕ) → p ≤ record_end s p
starts_before s p = omega (arith, data-before-end s p)

pub ruleset fits = (common_steps, start_fits, references-fit, data-fits, end_fits, starts_before, items_counted, lines_counted, no_number)
