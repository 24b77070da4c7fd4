-- Places of a ring: a place that has gone past the end at most once lies in the ring, one step on from a place is the next, and places less than a turn apart differ.
-- By cases on whether the end was passed. Assumes nothing.
use Prim.Native.Nat.{ℕ, suc, ◌+◌, ◌-◌, ◌≤◌, ◌<◌}
use mathlib.Core.Logic.{◌⊎◌, inl, inr, ◌≢◌}
use mathlib.Core.Path.{◌≡◌}
use native.Mathlib.Decide.{dec_lt}
use native.Mathlib.Omega.{arith}
use borrow.Author.Tests.{lt-ltb, le-ltb}
use Rattle.solve.specs.Clauses.Waiting.{wrapped}

pub wrapped_in : {c i : ℕ} → i < c → wrapped c i ≡ i
unfolding wrapped
wrapped_in {c} {i} l = rw (lt-ltb i c l)

pub wrapped_past : {c i : ℕ} → c ≤ i → wrapped c i ≡ i - c
unfolding wrapped
wrapped_past {c} {i} l = rw (le-ltb i c l)

-- the place, and where it stands
wrapped-cases : (c i : ℕ) → ((i < c) × (wrapped c i ≡ i)) ⊎ ((c ≤ i) × (wrapped c i ≡ i - c))
wrapped-cases c i = go (dec_lt i c)
  where
    go : Dec (i < c) → ((i < c) × (wrapped c i ≡ i)) ⊎ ((c ≤ i) × (wrapped c i ≡ i - c))
    go (yes l) = inl (l, wrapped_in l)
    go (no l) = let past : c ≤ i = omega (arith, l) in inr (past, wrapped_past past)

pub wrapped-lt : (c i : ℕ) → i < c + c → wrapped c i < c
wrapped-lt c i l = go (wrapped-cases c i)
  where
    go : ((i < c) × (wrapped c i ≡ i)) ⊎ ((c ≤ i) × (wrapped c i ≡ i - c)) → wrapped c i < c
    go (inl h) = omega arith
    go (inr h) = omega arith

pub wrapped-next : (c h k : ℕ) → h < c → suc k < c → wrapped c (wrapped c (h + 1) + k) ≡ wrapped c (h + suc k)
wrapped-next c h k l m = go (wrapped-cases c (h + 1)) (wrapped-cases c (h + suc k)) (wrapped-cases c (wrapped c (h + 1) + k))
  where
    go : ((h + 1 < c) × (wrapped c (h + 1) ≡ h + 1)) ⊎ ((c ≤ h + 1) × (wrapped c (h + 1) ≡ h + 1 - c))
        → ((h + suc k < c) × (wrapped c (h + suc k) ≡ h + suc k)) ⊎ ((c ≤ h + suc k) × (wrapped c (h + suc k) ≡ h + suc k - c))
        → ((wrapped c (h + 1) + k < c) × (wrapped c (wrapped c (h + 1) + k) ≡ wrapped c (h + 1) + k)) ⊎ ((c ≤ wrapped c (h + 1) + k) × (wrapped c (wrapped c (h + 1) + k) ≡ wrapped c (h + 1) + k - c))
        → wrapped c (wrapped c (h + 1) + k) ≡ wrapped c (h + suc k)
    go (inl a) (inl b) (inl d) = omega arith
    go (inl a) (inl b) (inr d) = omega arith
    go (inl a) (inr b) (inl d) = omega arith
    go (inl a) (inr b) (inr d) = omega arith
    go (inr a) (inl b) (inl d) = omega arith
    go (inr a) (inl b) (inr d) = omega arith
    go (inr a) (inr b) (inl d) = omega arith
    go (inr a) (inr b) (inr d) = omega arith

pub wrapped-apart : (c h k j : ℕ) → h < c → k < j → j < c → wrapped c (h + k) ≢ wrapped c (h + j)
wrapped-apart c h k j l m o e = go (wrapped-cases c (h + k)) (wrapped-cases c (h + j))
  where
    go : ((h + k < c) × (wrapped c (h + k) ≡ h + k)) ⊎ ((c ≤ h + k) × (wrapped c (h + k) ≡ h + k - c))
        → ((h + j < c) × (wrapped c (h + j) ≡ h + j)) ⊎ ((c ≤ h + j) × (wrapped c (h + j) ≡ h + j - c)) → ⊥
    go (inl a) (inl b) = omega arith
    go (inl a) (inr b) = omega arith
    go (inr a) (inl b) = omega arith
    go (inr a) (inr b) = omega arith
