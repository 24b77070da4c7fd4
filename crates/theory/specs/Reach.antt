-- Reachability over lists of next numbers: body walks and calls between bodies are instances of it. `Reach` is the definition; `reached`
-- is the list that decides it for numbers below n.
use Rattle.std.specs.Prelude.{ℕ, zero, suc, true, false, List, [], ◌∷◌, ◌++◌, length}
use Rattle.theory.specs.Lists.{In, elem, sum_below}

-- a walk of any length from e to i
pub data Reach (next : ℕ → List ℕ) (e : ℕ) : ℕ → Type 0 where
  here : Reach next e e
  on : {i j : ℕ} → Reach next e i → In j (next i) → Reach next e j

-- a worklist closure: what is still to be looked at, and what was seen
unfoldable pub closure : ℕ → (ℕ → List ℕ) → List ℕ → List ℕ → List ℕ
closure zero next seen todo = seen
closure (suc fuel) next seen [] = seen
closure (suc fuel) next seen (x ∷ todo) =
    elim (elem x seen) [ true ↦ closure fuel next seen todo | false ↦ closure fuel next (x ∷ seen) (next x ++ todo) ]

-- each number is looked at once for each way to it, and once as the start
unfoldable pub closure_fuel : ℕ → (ℕ → List ℕ) → ℕ
closure_fuel n next = suc (suc (sum_below n (λ i. length (next i))))

-- the numbers that a walk from e reaches, where every number on the way is below n
unfoldable pub reached : (ℕ → List ℕ) → ℕ → ℕ → List ℕ
reached next n e = closure (closure_fuel n next) next [] (e ∷ [])
