-- The items before k are fit.
use Rattle.std.specs.Prelude.{◌≡◌}
use Rattle.flow.specs.Format.{verdict, fit, each, item_checks}
use Rattle.flow.proofs.check.check_items.Given as goal

abbrev pub invariant-loop-k : goal.invariant-loop-k
invariant-loop-k l = verdict (each l.k (item_checks l.file l.p)) ≡ fit
