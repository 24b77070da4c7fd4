-- "A reference turns NONE into AUTO and keeps other states; DIM makes its array's mask DIMMED, CLR and RUN make all masks NONE", and on the edge to a
-- continuation "a touched array holding NONE gains AUTO and keeps NONE": each effect on a whole mask. NONE is the mask's lowest bit. Assumes nothing.
use Rattle.std.specs.Prelude.{ℕ, ◌-◌, ◌%◌, Bool, cond, eqb}
use Rattle.std.specs.Int.Bits.{bit_or}
use Rattle.masks.specs.declared.Effect.{Effect}
use Rattle.masks.specs.declared.Effect.TheVariants.{None, Reference, Dim, Reset, Touched}

-- the mask holds NONE
abbrev pub holds_none : ℕ → Bool
holds_none m = eqb (m % 2) 1

abbrev pub step_of : Effect → ℕ → ℕ
step_of None m = m
step_of Reference m = cond (holds_none m) (bit_or (m - 1) 2) m
step_of Dim m = 4
step_of Reset m = 1
step_of Touched m = cond (holds_none m) (bit_or m 2) m
