-- One byte more stands before the others; fewer than seven are a small number, so that nothing wraps. Assumes nothing.
use Prim.Native.Nat.{ℕ, suc, ◌+◌, ◌-◌, ◌^◌, ◌≤◌, ◌<◌}
use mathlib.Core.List.{List}
use mathlib.Core.Path.{◌≡◌, sym, ap, ◌∙◌}
use native.Mathlib.Nat.{sub_self, sub-zero, pow-le-pow_right}
use native.Mathlib.Omega.{arith}
use lib.Dec.{lit<}
use lib.ListN.{length, get_or}
use Rattle.flow.specs.Format.{le_at}
use Rattle.accept.proofs.Gathering.{le-small}
use Rattle.accept.proofs.rows.short_word.Goals as goal

small : (s : List ℕ) → ((a : ℕ) → get_or s a 0 < 256) → length s < 8 → (k : ℕ) → 0 < k → le_at (length s - k) s k < 256 ^ 6
small s byte short k some =
    let few : length s - k ≤ 6 = omega arith in
    omega (arith, le-small (length s - k) s k (λ a l. byte (k + a)), pow-le-pow_right {n = 256} (lit< tt) few)

pub loop-k-init : goal.loop-k-init
unfolding le_at
loop-k-init c = (omega arith, sym (ap (λ (w : ℕ). le_at w c.args.s.now (length c.args.s.now)) (sub_self (length c.args.s.now))))

pub overflow_mul-word : goal.overflow_mul-word
overflow_mul-word c = omega (arith, small c.args.s.now (λ a. omega (arith, c.type_inv.s a)) c.requires c.loop-k.k c.loop-k-test.true, c.loop-k.invariant.1)

pub overflow_add-word : goal.overflow_add-word
overflow_add-word c = omega (arith, small c.args.s.now (λ a. omega (arith, c.type_inv.s a)) c.requires c.loop-k.k c.loop-k-test.true, c.loop-k.invariant.1)

pub loop-k-preserved : goal.loop-k-preserved
unfolding le_at
loop-k-preserved c =
    let x = c.loop-k in
    let s = c.args.s.now in
    let more : length s - (x.k - 1) ≡ suc (length s - x.k) = omega (arith, x.invariant.0) in
    let next : x.k - 1 + 1 ≡ x.k = omega arith in
    let rest : le_at (length s - x.k) s (x.k - 1 + 1) ≡ x.word = ap (le_at (length s - x.k) s) next ∙ sym x.invariant.1 in
    (omega arith, omega (arith, rest) ∙ sym (ap (λ (w : ℕ). le_at w s (x.k - 1)) more))

pub returns : goal.returns
returns c =
    let x = c.loop-k in
    let s = c.args.s.now in
    let none : x.k ≡ 0 = omega arith in
    x.invariant.1 ∙ ap (λ (k : ℕ). le_at (length s - k) s k) none ∙ ap (λ (w : ℕ). le_at w s 0) (sub-zero (length s))
