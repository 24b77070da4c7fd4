-- A step keeps what lies between, since the lines rise, and its middle record lies within the file. Assumes nothing.
use native.Mathlib.Omega.{arith}
use Prim.Native.Nat.{ℕ, ◌-◌, ◌*◌, ◌/◌, ◌≤◌}
use mathlib.Core.Bool.{Bool, cond}
use mathlib.Core.Path.{◌≡◌}
use Rattle.records.proofs.LineSearch.{passed-most, middle-fits, halved}
use Rattle.records.proofs.lines.line_place.Goals as goal

-- what is passed over, a half or nothing
passed : (half : ℕ) {r : ℕ} (t : Bool) → r ≡ cond t 1 0 → half * r ≤ half
passed half {r} t e = rw e (passed-most half t)

pub overflow_mul-step : goal.overflow_mul-step
overflow_mul-step c = let fits = middle-fits c.requires.0 c.loop-len.invariant.2 c.loop-len.invariant.3 c.loop-len-test.true in omega arith

pub overflow_add-p : goal.overflow_add-p
overflow_add-p c = let fits = middle-fits c.requires.0 c.loop-len.invariant.2 c.loop-len.invariant.3 c.loop-len-test.true in omega arith

pub below-requires : goal.below-requires
below-requires c = let fits = middle-fits c.requires.0 c.loop-len.invariant.2 c.loop-len.invariant.3 c.loop-len-test.true in (omega arith, c.requires.1)

pub overflow_mul-p : goal.overflow_mul-p
overflow_mul-p c =
    let len = c.loop-len.len in
    let fits = middle-fits c.requires.0 c.loop-len.invariant.2 c.loop-len.invariant.3 c.loop-len-test.true in
    omega (arith, passed (6 * (len - len / 2)) _ c.below.ensures)

pub overflow_add-p-in-loop-len : goal.overflow_add-p-in-loop-len
overflow_add-p-in-loop-len c =
    let len = c.loop-len.len in
    let fits = middle-fits c.requires.0 c.loop-len.invariant.2 c.loop-len.invariant.3 c.loop-len-test.true in
    omega (arith, passed (6 * (len - len / 2)) _ c.below.ensures)

pub loop-len-preserved : goal.loop-len-preserved
loop-len-preserved c =
    let inv = c.loop-len.invariant in
    (inv.0, inv.1, inv.2, rw c.below.ensures (halved c.requires.0 inv.2 inv.3 c.loop-len-test.true))
