-- The field lies within the file and holds the number of a kind, since the record was found fit. Assumes nothing.
use native.Mathlib.Omega.{arith}
use Prim.Native.Nat.{ℕ, ◌≤◌}
use mathlib.Core.Logic.{inl, inr}
use mathlib.Core.Path.{◌≡◌}
use Rattle.flow.specs.declared.kind.Kind.{Kind}
use Rattle.flow.specs.Limits.{max_kind}
use Rattle.flow.specs.Clauses.Kinds.{kind_number, Tells}
use Rattle.records.proofs.Values.{in_range}
use Rattle.records.proofs.kind.Goals as goal

known : {n : ℕ} {k : Kind} → Tells n k → n ≤ max_kind → kind_number k ≡ n
known (inl e) h = e
known (inr o) h = absurd (omega (arith, o.1))

pub returns : goal.returns
returns c = known c.at.ensures (in_range c.requires).kind
