-- `noted_at` meets its contract: a file is short, so that the place of a record in it has 32 bits.
-- Assumes nothing.
use native.Mathlib.Omega.{arith}
use Rattle.flow.proofs.Records.{start_fits}
use Rattle.records.proofs.Files.{limited}
use Rattle.records.proofs.offsets.noted_at.Goals as goal

pub overflow_cast-result : goal.overflow_cast-result
overflow_cast-result c = omega (arith, start_fits c.requires.1, (limited c.requires.0).file)
