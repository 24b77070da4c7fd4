-- A statement's mask is the union over both copies of what the queue rule leaves at them. A state is in it exactly when a walk of the doubled
-- graph brings it to one of the two.
use Rattle.std.specs.Prelude.{ℕ}
use Rattle.std.specs.Int.Bits.{bit_or}
use Rattle.masks.specs.State.{State}
use Rattle.flow.specs.declared.Base.{Base}
use Rattle.flow.specs.declared.Base.TheVariants.{Zero, N}
use Rattle.flow.specs.Flow.{Flow}
use Rattle.theory.specs.Queue.{Solver}
use Rattle.theory.specs.Walks.{Brings}
use Rattle.theory.specs.Doubled.{doubled, number, at}

-- the mask that leaves no state out
abbrev pub any_state : ℕ
any_state = 7

-- the mask of array a at statement i, where the queue rule leaves this state
unfoldable pub mask_left : Flow → Solver → ℕ → ℕ → ℕ
mask_left f st i a = bit_or (st.masks (number f (at Zero i)) a) (st.masks (number f (at N i)) a)

-- a walk brings state s of array a to statement i, in one of its two copies
pub data BringsTo (f : Flow) (a i : ℕ) (s : State) : Type 0 where
  copy : (b : Base) → Brings (doubled f) a (number f (at b i)) s → BringsTo f a i s
