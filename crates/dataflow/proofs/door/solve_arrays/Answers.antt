-- `solve_arrays` meets its contract: the rows that the solver left are written as the masks of each statement.
-- Assumes nothing.
use Prim.Native.Nat.{◌≤◌}
use mathlib.Core.Path.{sym, subst}
use Rattle.flow.specs.declared.Header.{Header}
use Rattle.flow.specs.Limits.{max_arrays}
use Rattle.records.proofs.Files.{limited}
use native.Mathlib.Omega.{arith}
use Rattle.statements.specs.Clauses.Layout.{set_words}
use Rattle.statements.proofs.Keeps.{ready-most}
use Rattle.solve.specs.Clauses.Layout.{area_end}
use Rattle.solve.proofs.Room.{solver_room}
use Rattle.dataflow.proofs.Phases.{masked}
use Rattle.dataflow.proofs.door.solve_arrays.Goals as goal

pub write_masks-requires : goal.write_masks-requires
write_masks-requires c =
    let blank = c.requires.0 in
    let few : c.args.h.arrays ≤ max_arrays = subst (λ (x : Header). x.arrays ≤ max_arrays) (sym blank.indexed.header) (limited blank.indexed.ready.fit).arrays in (
      ready-most blank.indexed.ready,
      few,
      c.requires.1,
      subst (λ k. area_end c.args.h.statements (set_words c.args.h.arrays) ≤ k) (sym c.array_states-visits.ensures.keeps.size) (solver_room blank.indexed.ready blank.some (omega arith)),
    )

pub returns : goal.returns
returns c =
    masked c.requires.0 c.requires.1 c.requires.2 c.array_states-visits.ensures c.write_masks.ensures
