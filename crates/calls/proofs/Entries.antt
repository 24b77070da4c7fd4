-- Numbers of 12 bits in a word: one is put above those before it, which stay, and is read again.
-- By its place, of which there are five. Assumes nothing.
use Prim.Native.Nat.{ℕ, ◌+◌, ◌*◌, ◌/◌, ◌%◌, ◌^◌, ◌<◌}
use mathlib.Core.List.{List}
use mathlib.Core.Path.{◌≡◌, sym, ap, subst, ◌∙◌}
use native.Mathlib.Decide.{dec_lt, ℕ_discrete}
use native.Mathlib.Omega.{arith}
use lib.ListN.{length, get_or, set}
use lib.Seq.{get_or-set_same, get_or-set_other}
use Rattle.statements.proofs.Keeps.{keeps-set}
use Rattle.calls.specs.Clauses.Orders.{entry_at, Put}

-- what holds at the five places
five : (P : ℕ → Type 0) → P 0 → P 1 → P 2 → P 3 → P 4 → (q : ℕ) → q < 5 → P q
five P a b c d e q l = go (dec_lt q 1) (dec_lt q 2) (dec_lt q 3) (dec_lt q 4)
  where
    at : {m : ℕ} → q ≡ m → P m → P q
    at z x = subst P (sym z) x

    go : Dec (q < 1) → Dec (q < 2) → Dec (q < 3) → Dec (q < 4) → P q
    go (yes z) y x w = at (omega arith) a
    go (no z) (yes y) x w = at (omega (arith, z)) b
    go (no z) (no y) (yes x) w = at (omega (arith, y)) c
    go (no z) (no y) (no x) (yes w) = at (omega (arith, x)) d
    go (no z) (no y) (no x) (no w) = at (omega (arith, w)) e

-- the word w with b at place q, and nothing above it
abbrev packed : ℕ → ℕ → ℕ → ℕ
packed w b q = w % (1 * 2 ^ (12 * q) % 2 ^ 64) + b * 2 ^ (12 * q) % 2 ^ 64

pub unit_some : (q : ℕ) → q < 5 → 0 < 1 * 2 ^ (12 * q) % 2 ^ 64
unit_some = five (λ q. 0 < 1 * 2 ^ (12 * q) % 2 ^ 64) (omega arith) (omega arith) (omega arith) (omega arith) (omega arith)

module _ (w b : ℕ) (small : b < 4096) where
  pub packed-fits : (q : ℕ) → q < 5 → packed w b q < 2 ^ 64
  packed-fits = five (λ q. packed w b q < 2 ^ 64) (omega arith) (omega arith) (omega arith) (omega arith) (omega arith)

  packed-here : (q : ℕ) → q < 5 → packed w b q / 2 ^ (12 * q) % 4096 ≡ b
  packed-here = five (λ q. packed w b q / 2 ^ (12 * q) % 4096 ≡ b) (omega arith) (omega arith) (omega arith) (omega arith) (omega arith)

  Stays : ℕ → ℕ → Type 0
  Stays q j = j < q → packed w b q / 2 ^ (12 * j) % 4096 ≡ w / 2 ^ (12 * j) % 4096

  packed-before : (q j : ℕ) → q < 5 → j < q → packed w b q / 2 ^ (12 * j) % 4096 ≡ w / 2 ^ (12 * j) % 4096
  unfolding Stays
  packed-before q j l m =
      five (λ q. (j : ℕ) → j < 5 → Stays q j)
      (five (Stays 0) (λ l. omega arith) (λ l. omega arith) (λ l. omega arith) (λ l. omega arith) (λ l. omega arith))
      (five (Stays 1) (λ l. omega arith) (λ l. omega arith) (λ l. omega arith) (λ l. omega arith) (λ l. omega arith))
      (five (Stays 2) (λ l. omega arith) (λ l. omega arith) (λ l. omega arith) (λ l. omega arith) (λ l. omega arith))
      (five (Stays 3) (λ l. omega arith) (λ l. omega arith) (λ l. omega arith) (λ l. omega arith) (λ l. omega arith))
      (five (Stays 4) (λ l. omega arith) (λ l. omega arith) (λ l. omega arith) (λ l. omega arith) (λ l. omega arith)) q l j (omega arith) m

-- an entry of a list
module _ (ws : List ℕ) (p k b : ℕ) (small : b < 4096) (room : p + k / 5 < length ws) where
  abbrev at : ℕ
  at = p + k / 5

  abbrev word : ℕ
  word = get_or ws at 0

  pub put : Put ws (set ws at (packed word b (k % 5))) p k b
  put = record {
    here = ap (λ (w : ℕ). w / 2 ^ (12 * (k % 5)) % 4096) (get_or-set_same ws at (packed word b (k % 5)) 0 room) ∙ packed-here word b small (k % 5) (omega arith);
    before = λ j l. go j l (ℕ_discrete (j / 5) (k / 5));
    kept = keeps-set ws at (packed word b (k % 5)) (omega arith) (omega arith);
  }
    where
      go : (j : ℕ) → j < k → Dec (j / 5 ≡ k / 5) → entry_at (set ws at (packed word b (k % 5))) p j ≡ entry_at ws p j
      go j l (yes e) =
          subst (λ (q : ℕ). get_or (set ws at (packed word b (k % 5))) (p + q) 0 / 2 ^ (12 * (j % 5)) % 4096 ≡ get_or ws (p + q) 0 / 2 ^ (12 * (j % 5)) % 4096) (sym e)
          (ap (λ (w : ℕ). w / 2 ^ (12 * (j % 5)) % 4096) (get_or-set_same ws at (packed word b (k % 5)) 0 room) ∙ packed-before word b small (k % 5) (j % 5) (omega arith) (omega arith))
      go j l (no d) = ap (λ (w : ℕ). w / 2 ^ (12 * (j % 5)) % 4096) (get_or-set_other ws at (p + j / 5) (packed word b (k % 5)) 0 (λ e. d (omega arith)))
