-- `words::forward` meets its contract: the step fits below the bound just where the sum is below it. Assumes nothing.
use Prim.Native.Nat.{ℕ, ◌+◌, ◌-◌, ◌≤◌}
use mathlib.Core.Path.{◌≡◌, sym, ap, ◌∙◌}
use native.Mathlib.Omega.{arith}
use borrow.Author.Rules.{rules}
use lib.Dec.{ltb}
use Rattle.std.specs.Prelude.{Option, Some, None, is_some, IfSome}
use Rattle.std.proofs.lemmas.Bool.{ltb-true, ltb-false}
use Rattle.words.specs.Clauses.Row.{found_below}
use Rattle.words.proofs.Found.{found-at, found-past}
use Rattle.words.proofs.forward.Goals as goal

by_test : {P : ℕ → Type 0} (i step bound : ℕ) (r : Option ℕ) → i ≤ bound → is_some r ≡ ltb step (bound - i) → IfSome r P → ((k : ℕ) → P k → k ≡ i + step) → r ≡ found_below (i + step) bound
by_test i step bound (Some k) l e p same = ap Some (same k p) ∙ found-at (omega (arith, ltb-true step (bound - i) (sym e)))
by_test i step bound None l e p same = found-past (omega (arith, ltb-false step (bound - i) (sym e)))

pub returns : goal.returns
returns c = by_test c.args.i c.args.step c.args.bound c.then.result c.requires c.then.ensures.variant c.then.ensures.some (λ k p. search rules)
