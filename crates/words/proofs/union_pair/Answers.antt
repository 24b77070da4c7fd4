-- `union_pair` meets its contract: the first word is joined, and then the other, which is as it was.
-- Assumes nothing.
use Prim.Native.Nat.{◌+◌}
use mathlib.Core.Bool.{not, ◌||◌}
use mathlib.Core.Path.{◌≡◌, ap, ap₂, ◌∙◌}
use native.Mathlib.Omega.{arith}
use lib.Bits.{bit_or}
use lib.Dec.{eqb}
use lib.ListN.{get_or}
use Rattle.words.specs.Clauses.Change.{joined}
use Rattle.words.proofs.Inserted.{joined-other}
use Rattle.words.proofs.union_pair.Goals as goal

pub returns : goal.returns
returns c =
    let a = c.args in
    let low = c.union_word-first.ensures in
    let high = c.union_word-second.ensures in
    let same : get_or c.union_word-first.new.ws (a.at + 1) 0 ≡ get_or a.ws.now (a.at + 1) 0 = ap (λ z. get_or z (a.at + 1) 0) low.slice ∙ joined-other a.ws.now a.at a.low (a.at + 1) (λ e. omega arith) in
    record {
      slice = high.slice ∙ ap (λ z. joined z (a.at + 1) a.high) low.slice;
      grew = ap₂ ◌||◌ low.grew (high.grew ∙ ap (λ z. not (eqb (bit_or z a.high) z)) same);
    }
