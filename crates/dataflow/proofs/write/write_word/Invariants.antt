-- The masks of the groups before g are written, and the words are shifted past them.
use Rattle.std.specs.Prelude.{◌≡◌, ℕ, List, ◌*◌, ◌/◌, ◌^◌}
use Rattle.words.specs.Clauses.Change.{noted}
use Rattle.dataflow.specs.Clauses.Bytes.{mask_in}
use Rattle.dataflow.proofs.write.write_word.Given as goal

pub record Filled (ws : List ℕ) (none auto dimmed : ℕ) (out : List ℕ) (x y z g : ℕ) : Type 0 where
  pub first : x ≡ none / 2 ^ (8 * g)
  pub second : y ≡ auto / 2 ^ (8 * g)
  pub third : z ≡ dimmed / 2 ^ (8 * g)
  pub bytes : out ≡ noted ws 0 (8 * g) (mask_in none auto dimmed)

abbrev pub invariant-loop-g : goal.invariant-loop-g
invariant-loop-g l = Filled l.initial.out l.none l.auto' l.dimmed l.out l.x l.y l.z l.g
