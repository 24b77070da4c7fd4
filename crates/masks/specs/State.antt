-- "States: NONE 1, AUTO 2, DIMMED 4. A mask is a union of them, 0 to 7": the states, which of them a mask holds, and what an effect may turn one into.
-- Assumes nothing.
use Rattle.std.specs.Prelude.{ℕ, ◌/◌, ◌%◌, ◌^◌, Bool, true, false, ◌&&◌, ◌||◌, eqb}
use Rattle.masks.specs.declared.Effect.{Effect}
use Rattle.masks.specs.declared.Effect.TheVariants.{None, Reference, Dim, Reset, Touched}

pub data State : Type 0 where
  none auto dimmed : State

-- the bit of a mask that stands for the state
abbrev pub state_bit : State → ℕ
state_bit none = 0
state_bit auto = 1
state_bit dimmed = 2

-- the mask that holds this state alone: 1, 2, 4
abbrev pub state_mask : State → ℕ
state_mask s = 2 ^ state_bit s

abbrev pub holds : ℕ → State → Bool
holds m s = eqb (m / 2 ^ state_bit s % 2) 1

abbrev pub same : State → State → Bool
same none none = true
same none auto = false
same none dimmed = false
same auto none = false
same auto auto = true
same auto dimmed = false
same dimmed none = false
same dimmed auto = false
same dimmed dimmed = true

-- a reference turns NONE into AUTO and keeps other states
abbrev pub referenced : State → State
referenced none = auto
referenced auto = auto
referenced dimmed = dimmed

-- the effect may turn the first state into the second
abbrev pub turns : Effect → State → State → Bool
turns None s t = same s t
turns Reference s t = same (referenced s) t
turns Dim s t = same dimmed t
turns Reset s t = same none t
turns Touched s t = same s t || same (referenced s) t

-- some state of the mask turns into t
abbrev pub brought : Effect → ℕ → State → Bool
brought e m t = (holds m none && turns e none t) || ((holds m auto && turns e auto t) || (holds m dimmed && turns e dimmed t))
