-- What the certain names are found from: the names that are read too early.
use Rattle.std.specs.Prelude.{ℕ, ◌<◌, true, List, ◌≡◌}
use mathlib.Core.Option.{none}
use Rattle.words.specs.Clauses.Row.{bit}
use Rattle.flow.specs.Flow.{Flow}
use Rattle.flow.specs.Format.{flow_of}
use Rattle.theory.specs.Live.{reads}
use Rattle.theory.specs.Certain.{Reached, Unwritten}
use Rattle.statements.specs.Clauses.Ready.{Ready}

pub record CertainStart (s ws : List ℕ) (n entry : ℕ) : Type 0 where
  pub ready : Ready s ws n
  pub no_handler : (flow_of s).handler ≡ none
  pub entry_is : entry ≡ (flow_of s).entry
  pub small : entry < n

-- a walk comes to statement i, and each of them has a write of x earlier
abbrev pub Covered : Flow → ℕ → ℕ → Type 0
Covered f i x = Reached f i × (Unwritten f x i → ⊥)

-- the word of the names that one of the first n statements reads too early
pub record Early (f : Flow) (n early : ℕ) : Type 0 where
  pub reader : (x : ℕ) → bit early x ≡ 1 → (k : ℕ) × (k < n) × (reads f k x ≡ true) × (Covered f k x → ⊥)
  pub others : (x k : ℕ) → k < n → reads f k x ≡ true → bit early x ≡ 0 → Covered f k x
