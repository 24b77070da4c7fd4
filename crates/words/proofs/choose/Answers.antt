-- `words::choose` meets its contract: of the two parts that are joined, one has no bit where the set has it, and the other none elsewhere.
-- Assumes nothing.
use borrow.Author.Rules.{rules}
use mathlib.Core.Bool.{cond}
use mathlib.Core.Path.{◌≡◌, ap, ap₂, ◌∙◌}
use Prim.Native.Nat.{ℕ, zero, suc, ◌-◌, ◌<◌, min, max}
use native.Mathlib.Omega.{arith}
use lib.Bits.{bit_and}
use lib.Dec.{eqb}
use Rattle.words.specs.Clauses.Row.{bit}
use Rattle.words.proofs.Bit.{bit-lt, bit-or, bit-and, bit-without}
use Rattle.words.proofs.choose.Goals as goal

chosen : (s x y : ℕ) → s < 2 → x < 2 → y < 2 → max (min x s) (min y (1 - s)) ≡ cond (eqb s 1) x y
chosen zero x y hs hx hy = omega arith
chosen (suc zero) x y hs hx hy = omega arith
chosen (suc (suc s)) x y hs hx hy = absurd (omega arith)

pub returns : goal.returns
returns c =
    let a = c.args in
    let e = c.difference.ensures in
    record {
      member = λ j.
          bit-or (bit_and a.b a.set) c.difference.result j
          ∙ ap₂ max (bit-and a.b a.set j) (ap (λ (w : ℕ). bit w j) e ∙ bit-without a.a a.set j (search rules) (search rules))
          ∙ chosen (bit a.set j) (bit a.b j) (bit a.a j) (bit-lt a.set j) (bit-lt a.b j) (bit-lt a.a j);
    }
