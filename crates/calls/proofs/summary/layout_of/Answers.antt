-- `layout_of` meets its contract: the header has the number, which is within the limit.
-- By what a fit file gives its readers. Assumes nothing.
use native.Mathlib.Omega.{arith}
use Rattle.records.proofs.Files.{header-fits, limited}
use Rattle.calls.proofs.summary.layout_of.Goals as goal

pub u16_at-n-requires : goal.u16_at-n-requires
u16_at-n-requires c = omega (arith, header-fits c.requires)

pub invariant_of-result : goal.invariant_of-result
invariant_of-result c = record { few = omega (arith, c.u16_at-n.ensures, (limited c.requires).statements) }
