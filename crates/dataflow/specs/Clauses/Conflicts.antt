-- What the names that get in each other's way are found from, and what is found of them.
use Rattle.std.specs.Prelude.{ℕ, ◌≤◌, List, ◌≡◌, length}
use Rattle.flow.specs.declared.Header.{Header}
use Rattle.flow.specs.Limits.{max_statements}
use Rattle.flow.specs.Flow.{Flow}
use Rattle.theory.specs.Interference.{most_live}
use Rattle.interference.specs.Clauses.Rows.{Rows}
use Rattle.dataflow.specs.Clauses.Phases.{FitFlow}

-- a fit file, its header, and areas with room
pub record FitRows (s : List ℕ) (h : Header) (rows work : List ℕ) : Type 0 where
  pub flow_fit : FitFlow s h work
  pub statements_few : h.statements ≤ max_statements
  pub rows_room : h.names ≤ length rows

pub record ConflictsFound (f : Flow) (rows rows' : List ℕ) (most : ℕ) : Type 0 where
  pub rows_are : Rows f rows rows'
  pub most_is : most ≡ most_live f
