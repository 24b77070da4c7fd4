-- The references before k are fit, and the next must be `least` or more.
use Rattle.std.specs.Prelude.{◌≡◌, ℕ, List}
use Rattle.flow.specs.Format.{verdict, fit, each, reference_checks, reference_at}
use Rattle.flow.proofs.Tests.{Rises}
use Rattle.flow.proofs.check.check_references.Given as goal

pub record Passing (s : List ℕ) (p least k : ℕ) : Type 0 where
  pub fits : verdict (each k (reference_checks s p)) ≡ fit
  pub rises : Rises (reference_at s p) k least

abbrev pub invariant-loop-k : goal.invariant-loop-k
invariant-loop-k l = Passing l.file l.p l.least l.k
