-- `words::union_three` meets its contract: one word after the other joins, as in the loop of any width.
-- Assumes nothing.
use Prim.Native.Nat.{ℕ, ◌+◌}
use native.Mathlib.Nat.{add-zero}
use native.Mathlib.Omega.{arith}
use mathlib.Core.Path.{sym, subst}
use lib.ListN.{get_or}
use Rattle.words.specs.Clauses.Change.{Joined}
use Rattle.words.proofs.Unioned.{joining_none, joining_more}
use Rattle.words.proofs.union_three.Goals as goal

pub returns : goal.returns
returns c =
    let ws = c.args.ws.now in
    let to : ℕ = c.args.to in
    let from : ℕ = c.args.from in
    let first = subst (λ (x : ℕ). Joined ws c.union_word-first.new.ws x (get_or ws (from + 0) 0) c.union_word-first.result) (sym (add-zero to))
    (subst (λ (x : ℕ). Joined ws c.union_word-first.new.ws to (get_or ws x 0) c.union_word-first.result) (sym (add-zero from)) c.union_word-first.ensures) in
    let one = joining_more (joining_none ws to from 3) c.requires.0 (omega arith) first in
    let two = joining_more one c.requires.0 (omega arith) c.union_word-second.ensures in
    let three = joining_more two c.requires.0 (omega arith) c.union_word-third.ensures in
    record { slice = three.slice; grew = three.grown }
