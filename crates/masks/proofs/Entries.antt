-- The rule of the table of steps: one test, which antt computes over the whole table, lists the entries that are not what the definition gives, and there are none. And the test
-- finds every wrong entry: where one bit of one entry of the right table is changed, it lists that entry and no other. Assumes nothing.
use mathlib.Core.Path.{◌≡◌, refl, sym, ap, subst}
use mathlib.Core.Bool.{Bool, true, false, cond}
use mathlib.Core.List.{List, [], ◌∷◌}
use Prim.Native.Nat.{ℕ, zero, suc, ◌+◌, ◌-◌, ◌*◌, ◌/◌, ◌%◌, ◌^◌, ◌<◌}
use native.Mathlib.Decide.{ℕ_discrete}
use native.Mathlib.Nat.{not-suc-le-zero}
use native.Mathlib.Omega.{arith}
use lib.Dec.{T, eqb, eqb→eq}
use lib.ListN.{get_or}
use borrow.Author.Tests.{eqb-true}
use Rattle.masks.specs.declared.Effect.{Effect}
use Rattle.masks.specs.Step.{step_of}
use Rattle.masks.specs.Clauses.Table.{row_effect, RowOf, TableOf}
use Rattle.masks.proofs.Finite.{every_below, at-below}

-- places of the table count its entries row by row: row p / 8, mask p % 8
abbrev entry_at : List (List ℕ) → ℕ → ℕ
entry_at t p = get_or (get_or t (p / 8) []) (p % 8) 0

-- what the paper gives there
abbrev given : ℕ → ℕ
given p = step_of (row_effect (p / 8)) (p % 8)

-- place p joins the list unless it passes
abbrev unless : Bool → ℕ → List ℕ → List ℕ
unless true p ps = ps
unless false p ps = p ∷ ps

-- the places below n whose entries are others, the last one first
abbrev pub differing : ℕ → List (List ℕ) → List ℕ
differing zero t = []
differing (suc n) t = unless (eqb (entry_at t n) (given n)) n (differing n t)

-- where none is listed, each is what the paper gives
same : (n : ℕ) (t : List (List ℕ)) → differing n t ≡ [] → (p : ℕ) → p < n → entry_at t p ≡ given p
same zero t h p l = absurd (not-suc-le-zero l)
same (suc n) t h p l = at (eqb (entry_at t n) (given n)) refl h (λ r. same n t r p)
  where
    older : (p < n → entry_at t p ≡ given p) → entry_at t n ≡ given n → Dec (p ≡ n) → entry_at t p ≡ given p
    older r e (yes q) = subst (λ (x : ℕ). entry_at t x ≡ given x) (sym q) e
    older r e (no d) = r (omega (arith, d))

    at : (b : Bool) → eqb (entry_at t n) (given n) ≡ b → unless b n (differing n t) ≡ [] → (differing n t ≡ [] → p < n → entry_at t p ≡ given p) → entry_at t p ≡ given p
    at true e none r = older (r none) (eqb-true _ _ e) (ℕ_discrete p n)
    at false e none r = let z : ◌≡◌ {A = ℕ} 0 1 = cc in absurd (omega arith)

-- a table of which no entry differs has the rows of the four effects
pub right_table : (t : List (List ℕ)) → differing 32 t ≡ [] → TableOf t
right_table t none = record { row = λ k l. record { entry = at k l } }
  where
    at : (k : ℕ) → k < 4 → (m : ℕ) → m < 8 → get_or (get_or t k []) m 0 ≡ step_of (row_effect k) m
    at k l m q =
        let row : (8 * k + m) / 8 ≡ k = omega arith in
        let mask : (8 * k + m) % 8 ≡ m = omega arith in
        subst (λ (y : ℕ). get_or (get_or t k []) y 0 ≡ step_of (row_effect k) y) mask
        (subst (λ (x : ℕ). get_or (get_or t x []) ((8 * k + m) % 8) 0 ≡ step_of (row_effect x) ((8 * k + m) % 8)) row
        (same 32 t none (8 * k + m) (omega arith)))

-- a row that is none of the table, by the test of its own entries
pub computed_row : (e : Effect) (entries : List ℕ) → T (every_below 8 (λ m. eqb (get_or entries m 0) (step_of e m))) → RowOf e entries
computed_row e entries t = record { entry = λ m l. eqb→eq _ _ (at-below 8 (λ m. eqb (get_or entries m 0) (step_of e m)) t m l) }

-- the table with f p at place p, row by row
abbrev table_of : (ℕ → ℕ) → List (List ℕ)
table_of f = row_at 0 ∷ row_at 8 ∷ row_at 16 ∷ row_at 24 ∷ []
  where
    row_at : ℕ → List ℕ
    row_at p = f p ∷ f (p + 1) ∷ f (p + 2) ∷ f (p + 3) ∷ f (p + 4) ∷ f (p + 5) ∷ f (p + 6) ∷ f (p + 7) ∷ []

-- x with its bit b changed
abbrev flipped : ℕ → ℕ → ℕ
flipped b x = cond (eqb (x / 2 ^ b % 2) 1) (x - 2 ^ b) (x + 2 ^ b)

-- the right table, but for bit b of the entry at place p
abbrev pub one_bit : ℕ → ℕ → List (List ℕ)
one_bit p b = table_of (λ q. cond (eqb q p) (flipped b (given q)) (given q))

-- p stands in the list, alone
abbrev alone : ℕ → List ℕ → Bool
alone p [] = false
alone p (q ∷ []) = eqb q p
alone p (q ∷ r ∷ rs) = false

alone→eq : (p : ℕ) (ps : List ℕ) → T (alone p ps) → ps ≡ p ∷ []
alone→eq p [] t = absurd t
alone→eq p (q ∷ []) t = ap (λ (x : ℕ). x ∷ []) (eqb→eq q p t)
alone→eq p (q ∷ r ∷ rs) t = absurd t

-- a table with one bit of one of its 32 entries changed differs in that entry and in no other
pub one-bit-differs : (p b : ℕ) → p < 32 → b < 8 → differing 32 (one_bit p b) ≡ p ∷ []
one-bit-differs p b h l =
    alone→eq p _
    (at-below 8 (λ b. alone p (differing 32 (one_bit p b)))
    (at-below 32 (λ p. every_below 8 (λ b. alone p (differing 32 (one_bit p b)))) tt p h) b l)
