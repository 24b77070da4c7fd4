-- What the search finds is the first, by what std says of `position`.
use Prim.Native.Nat.{ℕ, ◌≤◌, ◌<◌, zero-le}
use mathlib.Core.List.{List}
use native.Mathlib.Nat.{le_refl}
use native.Mathlib.Omega.{arith}
use borrow.Author.Rules.{rules}
use borrow.Author.Tests.{tests}
use lib.ListN.{length}
use Rattle.std.specs.Prelude.{Option, Some, None, MatchOption}
use Rattle.std.specs.List.{AllWithin, HoldsAt}
use Rattle.std.proofs.lemmas.Iterator.{IsFirst-from_position, YieldsList-from_slice}
use Rattle.accept.specs.Clauses.Bytes.{Over}
use Rattle.accept.proofs.bytes.seek_over.Goals as goal

found : (s : List ℕ) (r : Option ℕ)
    → MatchOption r (AllWithin (λ x. x < 8) s 0 (length s)) (λ i. (i < length s) × HoldsAt (λ x. 8 ≤ x) s i × AllWithin (λ x. x < 8) s 0 i) → Over s (length s) r
found s None h = record { high = le_refl (length s); before = λ j l. h j 0 zero-le l; over = λ l. absurd (omega arith) }
found s (Some i) h = (record { high = omega (arith, h.0); before = λ j l. h.2 j 0 zero-le l; over = λ l. h.1 0 }, h.0)

pub returns : goal.returns
returns c =
    found c.args.s.now c.position.result
    (IsFirst-from_position _ _ c.position.result (λ x. 8 ≤ x) (λ x. x < 8) c.position.ensures.ran (YieldsList-from_slice c.args.s.now cc) (λ x q k. search (rules, tests)) (λ x q k. search (rules, tests)))
