-- The branch says what the bit is, and every bit of the word is that. Assumes nothing.
use Prim.Native.Nat.{ℕ, ◌/◌, ◌%◌, ◌^◌}
use mathlib.Core.Path.{sym, ap, ◌∙◌}
use native.Mathlib.Omega.{arith}
use Rattle.words.specs.Clauses.Row.{bit}
use Rattle.words.proofs.Bit.{bit_not, bit_of_zero}
use Rattle.masks.proofs.spread.Goals as goal

pub returns-then-mask-bit-eq1 : goal.returns-then-mask-bit-eq1
unfolding bit
returns-then-mask-bit-eq1 c j l =
    let m : ℕ = c.args.mask in
    let held = ap (λ (s : ℕ). m / 2 ^ s % 2) (sym c.bit.ensures) ∙ c.if-mask-bit-eq1.true in
    bit_not 64 0 j (omega arith) l ∙ omega (arith, bit_of_zero j, held)

pub returns-else-mask-bit-eq1 : goal.returns-else-mask-bit-eq1
unfolding bit
returns-else-mask-bit-eq1 c j l =
    let m : ℕ = c.args.mask in
    let held = ap (λ (s : ℕ). m / 2 ^ s % 2) (sym c.bit.ensures) in
    bit_of_zero j ∙ omega (arith, held, c.if-mask-bit-eq1.false)
