-- The words of the names that are written or read, statement by statement: a word that grows by that of the next statement has the names that one of them uses. For either use alike.
-- Assumes nothing.
use Prim.Native.Nat.{ℕ, ◌+◌, ◌<◌}
use mathlib.Core.Bool.{Bool, true}
use mathlib.Core.Logic.{⊎_elim}
use mathlib.Core.Path.{◌≡◌, sym, subst}
use native.Mathlib.Decide.{ℕ_discrete}
use native.Mathlib.Omega.{arith}
use lib.Bits.{bit_or}
use Rattle.words.specs.Clauses.Row.{bit}
use Rattle.words.proofs.Bit.{bit_of_zero}
use Rattle.flow.specs.Flow.{Flow, statement}
use Rattle.theory.specs.Live.{member}
use Rattle.statements.specs.Clauses.Uses.{UsedWord, Gathered}
use Rattle.statements.proofs.Names.{member-bit, bit-member, or-first, or-second, or_either}

used-none : {uses : ℕ → ℕ → Bool} → UsedWord uses 0 0
used-none = record { user = λ x e. absurd (omega (arith, bit_of_zero x)); all = λ x k l. absurd (omega arith) }

pub gathered_none : {f : Flow} → Gathered f 0 0 0
gathered_none = record { written = used-none; read = used-none }

-- one statement more, with its word
module _ (names : ℕ → ℕ) {i word w : ℕ} (u : UsedWord (λ k x. member (names k) x) i word) (p : names i ≡ w) where
  used-more : UsedWord (λ k x. member (names k) x) (i + 1) (bit_or word w)
  used-more = record {
    user = λ x e.
        ⊎_elim (λ d. let t = u.user x d in (t.0, omega (arith, t.1), t.2)) (λ d. (i, omega arith, bit-member (names i) x (subst (λ z. bit z x ≡ 1) (sym p) d)))
        (or_either word w x e);
    all = λ x k l e. go x k l e (ℕ_discrete k i);
  }
    where
      go : (x k : ℕ) → k < i + 1 → member (names k) x ≡ true → Dec (k ≡ i) → bit (bit_or word w) x ≡ 1
      go x k l e (yes d) = or-second word w x (subst (λ z. bit z x ≡ 1) p (member-bit (names i) x (subst (λ z. member (names z) x ≡ true) d e)))
      go x k l e (no d) = or-first word w x (u.all x k (omega (arith, d)) e)

pub gathered-more : {f : Flow} {i written read w r : ℕ} → Gathered f i written read → (statement f i).written ≡ w → (statement f i).read ≡ r → Gathered f (i + 1) (bit_or written w) (bit_or read r)
gathered-more {f} g p q = record { written = used-more (λ k. (statement f k).written) g.written p; read = used-more (λ k. (statement f k).read) g.read q }
