-- A record that was given out as a part of the file says the line that it says in the file.
-- Its bytes are those of the file from its place on, and its start lies within it.
use Prim.Native.Nat.{ℕ, ◌+◌, ◌-◌, ◌≤◌, ◌<◌}
use mathlib.Core.List.{List}
use mathlib.Core.Path.{◌≡◌, ◌∙◌}
use native.Mathlib.Nat.{add_assoc}
use native.Mathlib.Omega.{arith}
use lib.ListN.{length, get_or, drop, length-take, length-drop}
use lib.Seq.{get_or-take, get_or-drop}
use Rattle.flow.specs.Format.{le_at, line_at, record_end}
use Rattle.flow.specs.Clauses.Answers.{FitRecord}
use Rattle.records.specs.Clauses.Fields.{record_part}
use Rattle.flow.proofs.Records.{end_fits, data-before-end}

module _ {s : List ℕ} {p : ℕ} (h : FitRecord s p) where
  pub part_start : 4 ≤ length (record_part s p)
  part_start = simp (length-take, length-drop) (omega (arith, end_fits h, data-before-end s p))

  byte_at : (k : ℕ) → k < 4 → get_or (record_part s p) k 0 ≡ get_or s (p + k) 0
  byte_at k l = get_or-take (record_end s p - p) (drop p s) k 0 (omega (arith, data-before-end s p)) ∙ get_or-drop p s k 0

  pub part_line : line_at (record_part s p) 0 ≡ line_at s p
  unfolding le_at
  part_line = rw (byte_at 2 (omega arith), byte_at 3 (omega arith), add_assoc p 2 1)
