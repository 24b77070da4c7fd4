-- `words::insert` meets its contract: the shifted 1 is the power of two, and joining it changes the word when i was no member.
-- Assumes nothing.
use mathlib.Core.Path.{◌≡◌, ap, ◌∙◌}
use mathlib.Core.Bool.{not}
use Prim.Native.Nat.{ℕ, ◌+◌, ◌*◌, ◌/◌, ◌%◌, ◌^◌}
use native.Mathlib.Omega.{arith}
use lib.Bits.{bit_or}
use lib.Dec.{eqb}
use lib.ListN.{get_or}
use Rattle.words.specs.Clauses.Row.{has}
use Rattle.words.specs.Clauses.Change.{joined, inserted}
use Rattle.words.proofs.Bit.{one_shl, or_changes}
use Rattle.words.proofs.insert.Goals as goal

pub returns : goal.returns
unfolding inserted has
returns c =
    let a = c.args in
    let e = c.union_word.ensures in
    let one : 1 * 2 ^ (a.i % 64) % 2 ^ 64 ≡ 2 ^ (a.i % 64) = one_shl (a.i % 64) (omega arith) in
    record {
      slice = e.slice ∙ ap (joined a.ws.now (a.base + a.i / 64)) one;
      fresh = e.grew ∙ ap (λ (x : ℕ). not (eqb (bit_or (get_or a.ws.now (a.base + a.i / 64) 0) x) (get_or a.ws.now (a.base + a.i / 64) 0))) one
          ∙ or_changes (get_or a.ws.now (a.base + a.i / 64) 0) (a.i % 64);
    }
