-- The records passed are noted, and the next one is at p.
use Rattle.std.specs.Prelude.{◌≡◌, ℕ, List}
use Rattle.flow.specs.Format.{record_place}
use Rattle.words.specs.Clauses.Change.{noted}
use Rattle.records.specs.Clauses.Fields.{noted_word}
use Rattle.records.proofs.offsets.note_offsets.Given as goal

-- i records were passed and their places noted, and the next one is at p
pub record Noted (s ws : List ℕ) (base : ℕ) (offsets : List ℕ) (p i : ℕ) : Type 0 where
  pub place : p ≡ record_place s i
  pub words : offsets ≡ noted ws base i (noted_word s)

abbrev pub invariant-loop-i : goal.invariant-loop-i
invariant-loop-i l = Noted l.file l.initial.offsets l.base l.offsets l.p l.i
