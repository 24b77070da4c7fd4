-- One word more. Assumes nothing.
use Prim.Native.Nat.{ℕ, ◌+◌, max}
use mathlib.Core.Path.{◌≡◌, refl, ap}
use native.Mathlib.Numerals.{add-one}
use native.Mathlib.Omega.{arith}
use Rattle.std.specs.Ordering.{ord_max}
use Rattle.std.proofs.Common.{nat_cmp}
use Rattle.std.proofs.lemmas.Grind.{common_steps}
use lib.Count.{ones}
use lib.ListN.{get_or}
use Rattle.theory.specs.Lists.{max_below}
use Rattle.interference.proofs.most_live.Goals as goal

pub loop-i-init : goal.loop-i-init
unfolding max_below
loop-i-init c = refl

max-more : (k : ℕ) (f : ℕ → ℕ) → max_below (k + 1) f ≡ max (max_below k f) (f k)
unfolding max_below
max-more k f = ap (λ z. max_below z f) (add-one k)

larger : (a b : ℕ) → ord_max nat_cmp a b ≡ max a b
larger a b = grind (arith, common_steps)

pub loop-i-preserved : goal.loop-i-preserved
loop-i-preserved c =
    let more = max-more c.loop-i.i (λ k. ones (get_or c.args.live_in.now k 0)) in
    omega (arith, more, c.loop-i.invariant, c.max-most.ensures, larger c.loop-i.most c.from.result, c.from.ensures)
