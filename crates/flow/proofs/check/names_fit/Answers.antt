-- `names_fit` meets its contract: every word is below 2 ^ 64, and shifting a word right leaves 0 exactly where it is below the power.
-- Assumes nothing.
use mathlib.Core.Path.{sym, ◌∙◌}
use native.Mathlib.Nat.{lt_of_lt_of_le}
use borrow.Author.Tests.{le-leb, lt-ltb}
use lib.Pow.{pow_mono, pow_pos}
use Rattle.flow.proofs.Numbers.{div-is-zero}
use Rattle.flow.proofs.check.names_fit.Goals as goal

pub returns-then-names-ge64 : goal.returns-then-names-ge64
returns-then-names-ge64 c = le-leb _ _ c.if-names-ge64.true ∙ sym (lt-ltb _ _ (lt_of_lt_of_le c.ranges.w.fits (pow_mono c.if-names-ge64.true)))

pub returns-else-names-ge64 : goal.returns-else-names-ge64
returns-else-names-ge64 c = div-is-zero c.args.w _ (pow_pos c.args.names)
