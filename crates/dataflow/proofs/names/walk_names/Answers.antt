-- `walk_names` meets its contract: with the places noted the work area is ready, and the entry is a statement.
-- Assumes nothing.
use mathlib.Core.Path.{ap}
use native.Mathlib.Omega.{arith}
use Rattle.flow.specs.declared.Header.{Header}
use Rattle.records.proofs.Files.{limited}
use Rattle.dataflow.proofs.JudgingWork.{certain-start}
use Rattle.dataflow.proofs.names.walk_names.Goals as goal

pub certain_names-requires : goal.certain_names-requires
certain_names-requires c =
    let p = c.requires in
    certain-start p.0 p.1 c.note_offsets.ensures

pub invariant_of-certain_names : goal.invariant_of-certain_names
invariant_of-certain_names c = let p = c.requires.0 in record { few = omega (arith, (limited p.fit).statements, ap (λ (x : Header). x.statements) p.header) }
