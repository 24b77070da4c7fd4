-- An answer that may be no statement: what the flow's `Option` is, by the answer.
-- By cases on it. Assumes nothing.
use Prim.Native.Nat.{ℕ}
use mathlib.Core.Option.{Option, none, some}
use mathlib.Core.Path.{◌≡◌, refl}
use Rattle.flow.specs.declared.StmtId.{StmtId}
use Rattle.std.specs.Prelude.{Some, None}
use Rattle.flow.specs.Clauses.Answers.{statement_in}

pub statement_in-some : (o : Option ℕ) (k : StmtId) → statement_in o ≡ Some k → o ≡ some k.0
statement_in-some none k e = absurd (cc)
statement_in-some (some t) k e = let same : record { 0 = t } ≡ k = cc in rw (← same)

pub statement_in-none : (o : Option ℕ) → statement_in o ≡ None → o ≡ none
statement_in-none none e = refl
statement_in-none (some t) e = absurd (cc)
