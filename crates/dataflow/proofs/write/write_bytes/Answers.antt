-- One byte more of the word is noted, up to the last of the slice. Assumes nothing.
use Prim.Native.Nat.{ℕ, ◌+◌}
use native.Mathlib.Numerals.{add-one}
use native.Mathlib.Nat.{zero-add}
use native.Mathlib.Omega.{arith}
use mathlib.Core.List.{List}
use mathlib.Core.Path.{◌≡◌, refl, ap, ◌∙◌}
use lib.ListN.{length, set}
use Rattle.words.specs.Clauses.Byte.{byte_of}
use Rattle.words.specs.Clauses.Change.{noted}
use Rattle.dataflow.proofs.NotedRows.{noted-whole}
use Rattle.dataflow.proofs.write.write_bytes.Goals as goal

pub loop-k-init : goal.loop-k-init
unfolding noted
loop-k-init c = refl

pub loop-k-preserved : goal.loop-k-preserved
unfolding noted byte_of
loop-k-preserved c = rw add-one (rw zero-add (ap (λ (l : List ℕ). set l c.loop-k.k (byte_of c.args.word c.loop-k.k)) c.loop-k.invariant))

pub returns : goal.returns
returns c =
    let a = c.args in
    let all : c.loop-k.k ≡ length a.out.now = omega arith in
    c.loop-k.invariant ∙ ap (λ (k : ℕ). noted a.out.now 0 k (byte_of a.word)) all ∙ noted-whole a.out.now (byte_of a.word)
