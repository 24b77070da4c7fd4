-- Visits until nothing waits: each keeps the law's invariant, whatever bodies are asked, and where nothing waits the sets are those of the walks.
-- Assumes nothing.
use Prim.Native.Nat.{ℕ, ◌<◌, ◌≤◌}
use mathlib.Core.List.{List}
use mathlib.Core.Path.{◌≡◌, subst}
use native.Mathlib.Omega.{arith}
use Rattle.std.specs.Prelude.{None}
use Rattle.words.specs.Clauses.Row.{has, SomeMember}
use Rattle.flow.specs.Flow.{Flow}
use Rattle.solve.specs.Clauses.Sets.{Within}
use Rattle.solve.proofs.Sets.{settling_full, full_complete}
use Rattle.sure.specs.Clauses.Layout.{waiting_at, mirror}
use Rattle.sure.specs.Clauses.Noting.{Asks, Followers}
use Rattle.sure.specs.Clauses.Missing.{backward, Held, ReturnsAskNone, OnlySets, Visited, Exact, Solved}
use Rattle.sure.proofs.Kept.{only-refl, only-trans, only-asks, only-followers}

-- from ws₀ on, visits came to ws, and the last was at place `last` of the row of those that wait
pub record Solving (f : Flow) (ws₀ ws : List ℕ) (n last : ℕ) : Type 0 where
  pub held : (bodies : ℕ → List ℕ) → ReturnsAskNone f bodies n → Asks bodies ws₀ n → Followers f bodies ws₀ n → Within (backward f bodies) n → Held f bodies ws₀ n → Held f bodies ws n
  pub low : last ≤ n
  pub only : OnlySets ws₀ ws n

pub solving-first : {f : Flow} {ws : List ℕ} {n : ℕ} → Solving f ws ws n 0
solving-first = record { held = λ bodies none asks followers within start. start; low = omega arith; only = only-refl }

pub solving-more : {f : Flow} {ws₀ ws vs : List ℕ} {n last k i : ℕ} → Solving f ws₀ ws n last → Visited f ws vs n i → k < n → Solving f ws₀ vs n k
solving-more h v l = record {
  held = λ bodies none asks followers within start.
      v.held bodies none (only-asks h.only bodies asks) (only-followers h.only followers) within (h.held bodies none asks followers within start);
  low = omega arith;
  only = only-trans h.only v.only;
}

-- where no statement waits
pub solved : {f : Flow} {ws₀ ws : List ℕ} {n last row : ℕ} → Solving f ws₀ ws n last → row ≡ waiting_at n → SomeMember ws row n None → Solved f ws₀ ws n
solved {f} {ws₀} {ws} {n} h e none = record { exact = λ bodies asks_none asks followers within start. exact bodies within (h.held bodies asks_none asks followers within start); only = h.only }
  where
    still : (j : ℕ) → j < n → has ws (waiting_at n) j ≡ 0
    still = subst (λ z. SomeMember ws z n None) e none

    exact : (bodies : ℕ → List ℕ) → Within (backward f bodies) n → Held f bodies ws n → Exact f bodies ws n
    exact bodies within held = record {
      sound = held.sound;
      complete = λ i x a b c. full_complete (settling_full held (λ j m w. absurd (omega (arith, still (mirror n j) (omega arith), w)))) within a b c;
    }
