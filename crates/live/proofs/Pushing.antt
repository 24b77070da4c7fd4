-- A set goes to the members of a row one by one: after those below i, it is joined to their words and to no others.
-- The next member is the next one to handle, since the numbers between are no members. Assumes nothing.
use Prim.Native.Nat.{ℕ, ◌+◌, ◌<◌, ◌≤◌, zero-le}
use mathlib.Core.List.{List}
use mathlib.Core.Logic.{◌⊎◌, inl, inr, ⊎_elim}
use mathlib.Core.Path.{◌≡◌, sym, ◌∙◌, subst}
use native.Mathlib.Decide.{dec_lt, ℕ_discrete}
use native.Mathlib.Omega.{arith}
use Rattle.std.specs.Prelude.{Some, None}
use Rattle.words.specs.Clauses.Row.{has, next_member, found_below, First}
use Rattle.words.proofs.Found.{next-some, next-none}
use Rattle.statements.specs.Clauses.Layout.{row_at}
use Rattle.statements.proofs.WorkArea.{member-word, row_fits}
use Rattle.statements.proofs.Keeps.{keeps-has}
use Rattle.solve.specs.declared.Queue.{Queue}
use Rattle.solve.specs.Clauses.Waiting.{KeepsRest}
use Rattle.solve.proofs.Waiting.{rest-keeps}
use Rattle.live.specs.Clauses.Spread.{Spread, PushedTo, PushedLive}
use Rattle.live.proofs.Spread.{spread_none, spread-then}

pub record Pushing (ws₀ ws before after : List ℕ) (n : ℕ) (q₀ q : Queue) (row live from : ℕ) : Type 0 where
  pub low : from ≤ n
  pub spread : Spread ws₀ ws before after n q₀ q (λ k. (k < from) × (has ws₀ row k ≡ 1)) live

-- no row of the matrix changes with the queue
pub rest-row : {ws vs : List ℕ} {n : ℕ} → KeepsRest n 0 ws vs → {j k : ℕ} → j < n → k < n → has vs (row_at n j) k ≡ has ws (row_at n j) k
rest-row {ws} {vs} {n} s {j} {k} l m = keeps-has (rest-keeps s) (row_at n j) k (λ a b. omega (arith, row_fits n l, member-word m))

pub pushing_none : {ws before : List ℕ} {n row live : ℕ} {q : Queue} → Pushing ws ws before before n q q row live 0
pushing_none = record { low = zero-le; spread = spread_none (λ k t. omega (arith, t.0)) }

module _ {ws₀ ws before after : List ℕ} {n row : ℕ} {q₀ q : Queue} {j live from : ℕ} (s : Pushing ws₀ ws before after n q₀ q row live from) (small : j < n) (e : row ≡ row_at n j) where
  same_row : (k : ℕ) → k < n → has ws row k ≡ has ws₀ row k
  same_row k m = subst (λ r. has ws r k ≡ has ws₀ r k) (sym e) (rest-row s.spread.kept small m)

  module _ {i : ℕ} (d : Some i ≡ found_below (next_member ws row from n) n) where
    found : First ws row from n i × (i < n)
    found = next-some ws row from n s.low d

    -- the members up to this one are those below `from`, and it

    split : (k : ℕ) → (k < i + 1) × (has ws₀ row k ≡ 1) → Dec (k < from) → Dec (k ≡ i) → ((k < from) × (has ws₀ row k ≡ 1)) ⊎ (k ≡ i)
    split k m (yes a) b = inl (a, m.1)
    split k m (no a) (yes b) = inr b
    split k m (no a) (no b) =
        let small : k < i = omega (arith, m.0, b) in
        absurd (omega (arith, found.1, same_row k (omega (arith, found.1)), found.0.none k (omega (arith, a)) small, m.1))

    both : (k : ℕ) → ((k < from) × (has ws₀ row k ≡ 1)) ⊎ (k ≡ i) → (k < i + 1) × (has ws₀ row k ≡ 1)
    both k (inl m) = (omega (arith, m.0, found.0.low), m.1)
    both k (inr b) = (omega arith, rw b (sym (same_row i found.1) ∙ found.0.member found.1))

    pub pushing_more : {vs final : List ℕ} {p : Queue} → PushedTo ws vs after final n q p i live → Pushing ws₀ vs before final n q₀ p row live (i + 1)
    pushing_more t = record { low = omega (arith, found.1); spread = spread-then s.spread t (λ k m. split k m (dec_lt k from) (ℕ_discrete k i)) both }

  -- where no member is left, all have the set

  module _ (d : None ≡ found_below (next_member ws row from n) n) where
    before_end : (k : ℕ) → (k < n) × (has ws₀ row k ≡ 1) → Dec (k < from) → ((k < from) × (has ws₀ row k ≡ 1)) ⊎ ⊥
    before_end k m (yes a) = inl (a, m.1)
    before_end k m (no a) = absurd (omega (arith, same_row k m.0, next-none ws row from n s.low d k (omega (arith, a)) m.0, m.1))

    pub pushing_all : PushedLive ws₀ ws before after n q₀ q j live
    pushing_all =
        rw (← e)
        (spread-then s.spread (spread_none (λ k b. b)) (λ k m. before_end k m (dec_lt k from)) (λ k. ⊎_elim (λ m. (omega (arith, m.0, s.low), m.1)) (λ b. absurd b)))
