-- Rounds of numbers below n, each made by a rule that asks the round before, stand still after n of them where the rule grows with what it asks. A round that is not closed is
-- followed by one with a member more, and no round has more than n. Assumes nothing.
use Prim.Native.Nat.{ℕ, zero, suc, ◌<◌, ◌≤◌}
use mathlib.Core.Bool.{Bool, true, false, cond, not}
use mathlib.Core.List.Memᴰ
use mathlib.Core.List.{List, []}
use mathlib.Core.Logic.{◌⊎◌, inl, inr}
use mathlib.Core.Path.{◌≡◌, refl, subst}
use native.Mathlib.Omega.{arith}
use borrow.Author.Tests.{not-true, not-false}
use Rattle.theory.specs.Lists.{In, any, elem, select, up_to}
use Rattle.theory.proofs.Lists.{any_none, any_find, elem-In, select-In, In-select, up_to-In, In-up_to, sum_below-le, members, members-lt}
use Rattle.theory.proofs.Below.{sum_below_const}

-- each round is what the rule gives of the one before, from nothing on
pub record Rounds (n : ℕ) (rule : List ℕ → ℕ → Bool) (rounds : ℕ → List ℕ) : Type 0 where
  pub first : rounds 0 ≡ []
  pub next : (k : ℕ) → rounds (suc k) ≡ select (rule (rounds k)) (up_to n)
  pub grows : (l m : List ℕ) → ((i : ℕ) → In i l → In i m) → (i : ℕ) → rule l i ≡ true → rule m i ≡ true

one_at_most : (b : Bool) → cond b 1 0 ≤ 1
one_at_most true = omega arith
one_at_most false = omega arith

members-le : (n : ℕ) (l : List ℕ) → members n l ≤ n
unfolding members
members-le n l =
    let h = sum_below-le n (λ i. cond (elem i l) 1 0) (λ i. 1) (λ i k. one_at_most (elem i l)) in
    let c = sum_below_const n 1 in
    omega arith

module _ {n : ℕ} {rule : List ℕ → ℕ → Bool} {rounds : ℕ → List ℕ} (r : Rounds n rule rounds) where
  in_next : (k : ℕ) {i : ℕ} → i < n → rule (rounds k) i ≡ true → In i (rounds (suc k))
  in_next k {i} h e = rw (r.next k) (select-In (rule (rounds k)) (up_to-In n i h) e)

  next_in : (k : ℕ) {i : ℕ} → In i (rounds (suc k)) → (i < n) × (rule (rounds k) i ≡ true)
  next_in k {i} m =
      let s = In-select (rule (rounds k)) (up_to n) (subst (λ l. In i l) (r.next k) m) in
      (In-up_to n s.0, s.1)

  rises : (k i : ℕ) → In i (rounds k) → In i (rounds (suc k))
  rises zero i m = absurd (Memᴰ.not-nil (subst (λ l. In i l) r.first m))
  rises (suc k) i m =
      let s = next_in k m in
      in_next (suc k) s.0 (r.grows (rounds k) (rounds (suc k)) (rises k) i s.1)

  -- the next round brings nothing
  Still : ℕ → Type 0
  Still k = (i : ℕ) → In i (rounds (suc k)) → In i (rounds k)

  still-next : (k : ℕ) → Still k → Still (suc k)
  unfolding Still
  still-next k s i m =
      let q = next_in (suc k) m in
      in_next k q.0 (r.grows (rounds (suc k)) (rounds k) s i q.1)

  still-or-more : (k : ℕ) → Still k ⊎ (members n (rounds k) < members n (rounds (suc k)))
  unfolding Still
  still-or-more k = go (any new (rounds (suc k))) refl
    where
      new : ℕ → Bool
      new i = not (elem i (rounds k))

      go : (b : Bool) → any new (rounds (suc k)) ≡ b → Still k ⊎ (members n (rounds k) < members n (rounds (suc k)))
      go true e =
          let q = any_find new (rounds (suc k)) e in
          inr (members-lt n (rounds k) (rounds (suc k)) q.0 (next_in k q.1).0 (rises k) (not-true _ q.2) q.1)
      go false e = inl (λ i m. elem-In i (rounds k) (not-false _ (any_none new e m)))

  counted : (k : ℕ) → Still k ⊎ (k < members n (rounds (suc k)))
  counted zero = go (still-or-more zero)
    where
      go : Still 0 ⊎ (members n (rounds 0) < members n (rounds 1)) → Still 0 ⊎ (0 < members n (rounds 1))
      go (inl s) = inl s
      go (inr h) = inr (omega arith)
  counted (suc k) = go (counted k) (still-or-more (suc k))
    where
      go : Still k ⊎ (k < members n (rounds (suc k))) → Still (suc k) ⊎ (members n (rounds (suc k)) < members n (rounds (suc (suc k))))
          → Still (suc k) ⊎ (suc k < members n (rounds (suc (suc k))))
      go (inl s) x = inl (still-next k s)
      go (inr h) (inl s) = inl s
      go (inr h) (inr q) = inr (omega arith)

  -- after n rounds the rule gives nothing that is not there
  pub rounds_closed : (i : ℕ) → i < n → rule (rounds n) i ≡ true → In i (rounds n)
  unfolding Still
  rounds_closed i h e = go (counted n) i (in_next n h e)
    where
      go : Still n ⊎ (n < members n (rounds (suc n))) → Still n
      go (inl s) = s
      go (inr q) = let m = members-le n (rounds (suc n)) in absurd (omega arith)
