-- Sets of names bit by bit: a union has what one of its sets has, and live-in has the names read and those live after and not written.
-- By the laws of bits. Assumes nothing.
use Prim.Native.Nat.{ℕ, zero, suc, ◌^◌, ◌<◌}
use mathlib.Core.Bool.{true, false}
use mathlib.Core.Logic.{◌⊎◌, inl, inr, ⊎_elim}
use mathlib.Core.Path.{◌≡◌, refl, ap₂, subst}
use native.Mathlib.Decide.{ℕ_discrete}
use native.Mathlib.Omega.{arith}
use lib.Bits.{bit_or}
use Rattle.words.specs.Clauses.Row.{bit}
use Rattle.words.specs.Clauses.Change.{without}
use Rattle.words.proofs.Bit.{bit_of_zero}
use Rattle.flow.specs.Flow.{Flow, statement}
use Rattle.theory.specs.Queue.{union_below}
use Rattle.theory.specs.Live.{reads, writes}
use Rattle.statements.proofs.Names.{member-bit, bit-member, or-first, or-second, or_either, kept-cases, kept-bit}
use Rattle.live.specs.Clauses.Solving.{transfer}

-- unions of g 0, g 1, .. of k sets

pub union_has : (k : ℕ) (g : ℕ → ℕ) (x m : ℕ) → m < k → bit (g m) x ≡ 1 → bit (union_below k g) x ≡ 1
unfolding union_below
union_has zero g x m l e = absurd (omega arith)
union_has (suc k) g x m l e = go (union_has k g x m) (ℕ_discrete m k)
  where
    go : (m < k → bit (g m) x ≡ 1 → bit (union_below k g) x ≡ 1) → Dec (m ≡ k) → bit (bit_or (union_below k g) (g k)) x ≡ 1
    go rest (yes d) = or-second (union_below k g) (g k) x (subst (λ z. bit (g z) x ≡ 1) d e)
    go rest (no d) = or-first (union_below k g) (g k) x (rest (omega (arith, d)) e)

pub has_union : (k : ℕ) (g : ℕ → ℕ) (x : ℕ) → bit (union_below k g) x ≡ 1 → (m : ℕ) × (m < k) × (bit (g m) x ≡ 1)
unfolding union_below
has_union zero g x e = absurd (omega (arith, bit_of_zero x))
has_union (suc k) g x e = ⊎_elim (λ d. let r = has_union k g x d in (r.0, omega (arith, r.1), r.2)) (λ d. (k, omega arith, d)) (or_either (union_below k g) (g k) x e)

pub union_cong : (k : ℕ) (g h : ℕ → ℕ) → ((m : ℕ) → m < k → g m ≡ h m) → union_below k g ≡ union_below k h
unfolding union_below
union_cong zero g h e = refl
union_cong (suc k) g h e = ap₂ bit_or (union_cong k g h (λ m l. e m (omega arith))) (e k (omega arith))

-- live-in from live-out

module _ (f : Flow) (j a x : ℕ) (word : a < 2 ^ 64) (written : (statement f j).written < 2 ^ 64) where
  pub transfer-cases : bit (transfer f j a) x ≡ 1 → (reads f j x ≡ true) ⊎ ((writes f j x ≡ false) × (bit a x ≡ 1))
  transfer-cases e =
      ⊎_elim (λ d. inl (bit-member (statement f j).read x d)) (λ d. inr (kept-cases f j a x word written d))
      (or_either (statement f j).read (without a (statement f j).written) x e)

  pub transfer-has : (reads f j x ≡ true) ⊎ ((writes f j x ≡ false) × (bit a x ≡ 1)) → bit (transfer f j a) x ≡ 1
  transfer-has (inl e) = or-first (statement f j).read (without a (statement f j).written) x (member-bit (statement f j).read x e)
  transfer-has (inr d) = or-second (statement f j).read (without a (statement f j).written) x (kept-bit f j a x word written d.0 d.1)
