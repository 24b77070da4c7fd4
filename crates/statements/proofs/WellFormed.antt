-- The flow of a fit file is well formed, and its header's numbers are the flow's.
-- By the ranges of the flow's numbers, which the checks of the file's records gave.
use mathlib.Core.List.{List}
use mathlib.Core.Path.{◌≡◌, refl, sym, ap, subst}
use Prim.Native.Nat.{ℕ}
use Rattle.flow.specs.Flow.{items}
use Rattle.flow.specs.Format.{flow_of, arrays_of, names_of, entry_of}
use Rattle.flow.specs.Clauses.Answers.{FitFile}
use Rattle.records.proofs.Ranged.{ranged}
use Rattle.theory.specs.Lists.{In}
use Rattle.theory.specs.Clauses.WellFormed.{WellFormed}
pub use Rattle.records.proofs.Ranged.{statement_in}

-- what the header says of the flow
pub arrays-is : (s : List ℕ) → (flow_of s).arrays ≡ arrays_of s
unfolding flow_of
arrays-is s = refl

pub names_is : (s : List ℕ) → (flow_of s).names ≡ names_of s
unfolding flow_of
names_is s = refl

pub entry_is : (s : List ℕ) → (flow_of s).entry ≡ entry_of s
unfolding flow_of
entry_is s = refl

pub well_formed : {s : List ℕ} → FitFile s → WellFormed (flow_of s)
well_formed h =
    let r = ranged h in
    record {
      entry = r.entry;
      successor = r.successor;
      continuation = r.continuation;
      first = r.first;
      reference = r.reference;
      dimmed = λ i is x e m. r.dimmed i x (subst (λ l. In x l) (sym (ap items e)) m);
      handler = r.handler;
    }
