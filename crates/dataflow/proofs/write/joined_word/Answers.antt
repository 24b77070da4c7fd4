-- `joined_word` meets its contract: both rows of the statement lie within the area, by their law. Assumes nothing.
use native.Mathlib.Nat.{zero-add}
use Prim.Native.Nat.{ℕ, ◌+◌}
use mathlib.Core.Path.{ap, ap₂, ◌∙◌}
use lib.Bits.{bit_or}
use lib.ListN.{get_or}
use Rattle.solve.specs.Clauses.Layout.{mask_row_at}
use Rattle.dataflow.specs.Clauses.Bytes.{both_words}
use Rattle.dataflow.proofs.write.joined_word.Goals as goal

pub returns : goal.returns
unfolding both_words
returns c =
    let a = c.args in
    let zero = c.mask_row-zero.ensures ∙ ap (mask_row_at a.layout.n a.layout.width) (c.node.ensures ∙ zero-add a.i) in
    let other = c.mask_row-other.ensures ∙ ap (mask_row_at a.layout.n a.layout.width) c.node-2.ensures in
    ap₂ (λ (x y : ℕ). bit_or (get_or a.work.now (x + a.k) 0) (get_or a.work.now (y + a.k) 0)) zero other
