-- `accept::table::all_settled` meets its contract. The invariant: the first d numbers are settled.
-- The measure is what is left of them.
use Prim.Native.Nat.{◌*◌}
use borrow.Author.Tests.{eqb-false}
use mathlib.Core.Logic.{◌≢◌}
use mathlib.Core.Path.{sym, ◌∙◌}
use Rattle.solve.specs.Clauses.Layout.{settled_in}
use Rattle.accept.specs.Clauses.Table.{all_settled}
use Rattle.accept.proofs.Filled.{fails_at}
use Rattle.accept.proofs.Passing.{settled-all}
use native.Mathlib.Omega.{arith}
use Rattle.accept.proofs.table.all_settled.Goals as goal

-- the number at which the loop ends
other : (c : goal.Then-not-settled) → let s = c.args in settled_in s.work.now s.layout.n s.layout.width c.loop-d.d ≢ 1
other c = eqb-false _ 1 (sym c.settled.ensures ∙ c.if-not-settled.true)

pub returns-then-not-settled : goal.returns-then-not-settled
unfolding all_settled
returns-then-not-settled c =
    let s = c.args in
    sym (fails_at (2 * s.layout.n) (settled_in s.work.now s.layout.n s.layout.width) 1 c.loop-d.d (omega arith) (other c))

pub returns : goal.returns
returns c =
    let s = c.args in
    sym (settled-all s.layout.n s.layout.width s.work.now (λ x l. c.loop-d.invariant.1 x (omega arith)))
