-- The masks of 64 arrays as three sets, one for each state: a word each, in which bit j says of array j whether its mask holds the state.
-- Assumes nothing.
use Rattle.std.specs.Prelude.{ℕ, ◌+◌, ◌*◌, ◌<◌, ◌≡◌}
use Rattle.words.specs.Clauses.Row.{bit}
use Rattle.masks.specs.declared.Effect.{Effect}
use Rattle.masks.specs.declared.State.{State}
use Rattle.masks.specs.declared.State.TheVariants.{None, Auto, Dimmed}
use Rattle.masks.specs.Step.{step_of}

-- the bit of a mask that stands for a state
abbrev pub bit_of : State → ℕ
bit_of None = 0
bit_of Auto = 1
bit_of Dimmed = 2

-- the mask of an array, from whether it is in the sets of NONE, AUTO and DIMMED: 1 or 0 each
abbrev pub mask_of : ℕ → ℕ → ℕ → ℕ
mask_of none auto dimmed = none + 2 * auto + 4 * dimmed

-- bit j of the word r is bit s of what the effect makes of mask j
pub record StepBits (effect : Effect) (mask : ℕ → ℕ) (s r : ℕ) : Type 0 where
  pub member : (j : ℕ) → j < 64 → bit r j ≡ bit (step_of effect (mask j)) s

-- the word r is the set of the arrays that hold state s, a bit of a mask, once all 64 have taken the effect
pub record Holders (effect : Effect) (s none auto dimmed r : ℕ) : Type 0 where
  pub member : (j : ℕ) → j < 64 → bit r j ≡ bit (step_of effect (mask_of (bit none j) (bit auto j) (bit dimmed j))) s

-- every bit of the word w is b
abbrev pub Alike : ℕ → ℕ → Type 0
Alike w b = (j : ℕ) → j < 64 → bit w j ≡ b
