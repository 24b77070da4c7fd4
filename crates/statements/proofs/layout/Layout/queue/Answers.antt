-- `queue` meets its contract: rows and lists together end at one place (`queue-place`), and with no statements there are none.
-- Assumes nothing.
use native.Mathlib.Omega.{arith}
use Prim.Native.Nat.{ℕ, zero, suc, ◌-◌, ◌*◌, ◌<◌, ◌≤◌}
use mathlib.Core.Path.{◌≡◌, ◌∙◌}
use Rattle.flow.specs.Limits.{max_statements}
use Rattle.statements.specs.Clauses.Layout.{queue_at}
use Rattle.statements.proofs.WorkArea.{queue-place, queue-below}
use Rattle.statements.proofs.layout.Layout.queue.Goals as goal

place : (n : ℕ) → n ≤ max_statements → 48 * n - 7 ≡ queue_at n
place zero h = omega (arith, queue-below h)
place (suc n) h = omega (arith, queue-place (let some : 0 < suc n = omega arith in some) h)

pub returns : goal.returns
returns c = c.saturating_sub.ensures ∙ place c.args.self.n c.args.self.few
