-- `next_around` meets its contract: a member from there on, or the first one of all.
-- Assumes nothing.
use Prim.Native.Nat.{ℕ, ◌≤◌, zero-le}
use borrow.Author.Rules.{rules}
use mathlib.Core.Path.{◌≡◌, sym, subst}
use mathlib.Core.List.{List}
use Rattle.std.specs.Prelude.{Option, Some, None, MatchOption}
use Rattle.words.specs.Clauses.Row.{SomeMember, next_member, found_below}
use Rattle.words.proofs.Found.{next-some, next-none}
use Rattle.words.proofs.next_around.Goals as goal

module _ (ws : List ℕ) (base from bound : ℕ) (l : from ≤ bound) where
  -- the second search begins at 0, so that it passes over no number
  or_first : {P : Type 0} (r s : Option ℕ) → r ≡ found_below (next_member ws base from bound) bound
      → (P → s ≡ found_below (next_member ws base 0 bound) bound) → MatchOption r P (λ x. s ≡ Some x) → SomeMember ws base bound s
  or_first (Some k) s e h q =
      let found = next-some ws base from bound l e in
      subst (SomeMember ws base bound) (sym q) (found.1, found.0.member found.1)
  or_first None (Some k) e h q =
      let found = next-some ws base 0 bound zero-le (h q) in
      (found.1, found.0.member found.1)
  or_first None None e h q = λ j b. next-none ws base 0 bound zero-le (h q) j zero-le b

pub returns : goal.returns
returns c =
    let a = c.args in
    or_first a.ws.now a.base a.from a.bound c.requires.1 c.next.result c.or_else.result c.next.ensures (λ p. search rules) c.or_else.ensures
