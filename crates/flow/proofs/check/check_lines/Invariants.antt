-- The FL records before k are fit, and the rest of them is counted from the place of record k on. The measure is what is left of the file.
use Rattle.std.specs.Prelude.{◌≡◌, ◌+◌, ◌≤◌, ℕ, List, length}
use Prim.Native.Nat.{◌-◌}
use Rattle.flow.specs.Format.{verdict, fit, each, line_record_checks, line_count, count_lines, line_place, line_number}
use Rattle.flow.proofs.Tests.{Rises}
use Rattle.flow.proofs.check.check_lines.Given as goal

pub record Passing (s : List ℕ) (least k : ℕ) : Type 0 where
  pub counted : line_count s ≡ k + count_lines (length s - k) s (line_place s k)
  pub within : line_place s k ≤ length s
  pub fits : verdict (each k (line_record_checks s)) ≡ fit
  pub rises : Rises (line_number s) k least

abbrev pub invariant-loop-q : goal.invariant-loop-q
invariant-loop-q l = Passing l.file l.least l.k

abbrev pub decreases-loop-q : goal.decreases-loop-q
decreases-loop-q l = length l.file - l.k
