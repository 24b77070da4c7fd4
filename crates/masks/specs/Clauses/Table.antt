-- "32 stored entries, whose rule is shown over the table: each entry is what document 01 gives for that effect on that mask": the effects of the rows, and what
-- a row holds. Assumes nothing.
use Rattle.std.specs.Prelude.{List, [], ◌≡◌, ℕ, zero, suc, ◌<◌, get_or}
use Rattle.masks.specs.declared.Effect.{Effect}
use Rattle.masks.specs.declared.Effect.TheVariants.{None, Reference, Dim, Touched}
use Rattle.masks.specs.Step.{step_of}

-- "none, reference, DIM and touched": the effect of each row
abbrev pub row_effect : ℕ → Effect
row_effect zero = None
row_effect (suc zero) = Reference
row_effect (suc (suc zero)) = Dim
row_effect (suc (suc (suc k))) = Touched

-- the entries are what the effect makes of the masks 0 to 7
pub record RowOf (e : Effect) (entries : List ℕ) : Type 0 where
  pub entry : (m : ℕ) → m < 8 → get_or entries m 0 ≡ step_of e m

-- and every row of the table is that of its effect
pub record TableOf (t : List (List ℕ)) : Type 0 where
  pub row : (k : ℕ) → k < 4 → RowOf (row_effect k) (get_or t k [])
