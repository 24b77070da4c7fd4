-- `eight_masks` meets its contract: three words of bytes 0 or 1 sum up to a word of masks, byte by byte. Assumes nothing.
use Prim.Native.Nat.{ℕ, ◌+◌, ◌*◌, ◌%◌}
use native.Mathlib.Omega.{arith}
use mathlib.Core.Path.{◌≡◌, ap, ◌∙◌}
use Rattle.words.specs.Clauses.Byte.{byte_of, bytes}
use Rattle.words.specs.Clauses.Row.{bit}
use Rattle.words.proofs.Bit.{bit-lt, bit-mod}
use Rattle.words.proofs.Bytes.{byte_at}
use Rattle.dataflow.specs.Clauses.Bytes.{mask_in}
use Rattle.dataflow.proofs.MaskBytes.{bits_most, sum_bytes}
use Rattle.dataflow.proofs.write.eight_masks.Goals as goal

pub overflow_mul-result : goal.overflow_mul-result
overflow_mul-result c = omega (arith, bits_most (c.args.auto % 256))

pub overflow_add-result : goal.overflow_add-result
overflow_add-result c =
    let a = c.args in
    omega (arith, bits_most (a.none % 256), bits_most (a.auto % 256))

pub overflow_mul-result-2 : goal.overflow_mul-result-2
overflow_mul-result-2 c = omega (arith, bits_most (c.args.dimmed % 256))

pub overflow_add-result-2 : goal.overflow_add-result-2
overflow_add-result-2 c =
    let a = c.args in
    omega (arith, bits_most (a.none % 256), bits_most (a.auto % 256), bits_most (a.dimmed % 256))

pub returns : goal.returns
returns c j l =
    let a = c.args in
    let x = a.none % 256 in
    let y = a.auto % 256 in
    let z = a.dimmed % 256 in
    let sum : c.spread.result + 2 * c.spread-2.result + 4 * c.spread-3.result ≡ bytes (mask_in x y z) 8 = omega (arith, sum_bytes (bit x) (bit y) (bit z) 8) in
    ap (λ (w : ℕ). byte_of w j) sum ∙ byte_at (mask_in x y z) 8 j (λ i. omega (arith, bit-lt x i, bit-lt y i, bit-lt z i)) l
    ∙ omega (arith, bit-mod 8 a.none j l, bit-mod 8 a.auto j l, bit-mod 8 a.dimmed j l)
