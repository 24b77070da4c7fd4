-- `solve::wrap` meets its contract: the test picks the place.
-- Assumes nothing.
use mathlib.Core.Path.{sym}
use Rattle.solve.proofs.Wrapped.{wrapped_in, wrapped_past}
use Rattle.solve.proofs.wrap.Goals as goal

pub returns-then-i-capacity : goal.returns-then-i-capacity
returns-then-i-capacity c = sym (wrapped_in c.if-i-capacity.true)

pub returns-else-i-capacity : goal.returns-else-i-capacity
returns-else-i-capacity c = sym (wrapped_past c.if-i-capacity.false)
