-- Where a RETURN goes on from: the next member of its row is the next continuation, and the slots between are empty.
-- By what the rows of RETURNs hold.
use Prim.Native.Nat.{ℕ, ◌≤◌, ◌<◌}
use mathlib.Core.Bool.{Bool, true, false, cond}
use mathlib.Core.List.{List, []}
use mathlib.Core.Path.{◌≡◌, refl, sym, subst, ◌∙◌}
use native.Mathlib.Nat.{le_refl}
use native.Mathlib.Omega.{arith}
use Rattle.std.specs.Prelude.{Option, Some, None}
use Rattle.words.specs.Clauses.Row.{has, next_member, found_below}
use Rattle.words.proofs.Found.{next-some, next-none}
use Rattle.flow.specs.declared.Base.TheVariants.{Zero}
use Rattle.flow.specs.Flow.{Flow, size}
use Rattle.theory.specs.Lists.{any, up_to}
use Rattle.theory.specs.Body.{kind, is_return}
use Rattle.theory.specs.Doubled.{returns_to}
use Rattle.statements.specs.Clauses.Layout.{row_at}
use Rattle.calls.specs.Clauses.Held.{Linked}
use Rattle.calls.specs.Clauses.Slots.{return_slots}
use Rattle.calls.proofs.Found.{left_from, member-next, member-end}

-- k is the next continuation from c on
pub record NextReturn (f : Flow) (n i c k : ℕ) : Type 0 where
  pub low : c ≤ k
  pub high : k < n
  pub member : any (returns_to f i k) (up_to (size f)) ≡ true
  pub passed : left_from c (return_slots f Zero i) ≡ left_from k (return_slots f Zero i)

one : (b : Bool) → ◌≡◌ {A = ℕ} (cond b 1 0) 1 → b ≡ true
one true e = refl
one false e = absurd (omega arith)

none : (b : Bool) → ◌≡◌ {A = ℕ} (cond b 1 0) 0 → b ≡ false
none true e = absurd (omega arith)
none false e = refl

module _ {f : Flow} {ws : List ℕ} {n i c row : ℕ} (h : Linked f ws n) (z : size f ≡ n) (r : is_return (kind f i) ≡ true) (l : i < n) (few : c ≤ n) (e : row ≡ row_at n i) where
  at_row : {o : Option ℕ} → o ≡ found_below (next_member ws row c n) n → o ≡ found_below (next_member ws (row_at n i) c n) n
  at_row {o} = subst (λ (x : ℕ). o ≡ found_below (next_member ws x c n) n) e

  -- those that are no members are passed
  skipped : (k : ℕ) → c ≤ k → k ≤ n → ((j : ℕ) → c ≤ j → j < k → has ws (row_at n i) j ≡ 0) → left_from c (return_slots f Zero i) ≡ left_from k (return_slots f Zero i)
  skipped k low high empty = member-next f i c k low (omega arith) (λ j a b. none _ (sym (h.returns i j l (omega arith) r) ∙ empty j a b))

  pub next-return : {k : ℕ} → Some k ≡ found_below (next_member ws row c n) n → NextReturn f n i c k
  next-return {k} is =
      let next = next-some ws (row_at n i) c n few (at_row is) in
      record {
        low = next.0.low;
        high = next.1;
        member = one _ (sym (h.returns i k l next.1 r) ∙ next.0.member next.1);
        passed = skipped k next.0.low (omega (arith, next.1)) next.0.none;
      }

  pub last-return : None ≡ found_below (next_member ws row c n) n → left_from c (return_slots f Zero i) ≡ []
  last-return is = skipped n few (le_refl n) (next-none ws (row_at n i) c n few (at_row is)) ∙ member-end f i n (omega arith)
