-- Request E6, "Masks worked out on the office machine": a proposed table has a mask byte for each doubled number and array. It is accepted exactly when the entry's masks hold NONE (after the handler's touched step, if
-- there is a handler) and, for each edge leaving a row that is not all zero (DIM, CLR and RUN act on its zero bytes too), the target holds the edge's mask; with an opaque handler, exactly when all bytes are 7; with n 0, always.
use Rattle.std.specs.Prelude.{ℕ, ◌+◌, ◌*◌, ◌<◌, Bool, true, cond, not, ◌&&◌, ◌||◌, List, [], ◌∷◌, ◌≡◌, eqb, ltb, length, get_or}
use mathlib.Core.Option.{some}
use Rattle.masks.specs.State.{State, none, auto, dimmed, holds}
use Rattle.flow.specs.declared.Base.TheVariants.{Zero, N}
use Rattle.flow.specs.declared.Refusal.TheVariants.{Mask}
use Rattle.flow.specs.Limits.{work_words}
use Rattle.flow.specs.Flow.{Flow, size}
use Rattle.flow.specs.Format.{Check, check, each, area_check}
use Rattle.theory.specs.Lists.{In, any, all_below}
use Rattle.theory.specs.Key.{OpaqueHandler, opaque_handler}
use Rattle.theory.specs.Queue.{Arc, Solver, Over, step_all}
use Rattle.theory.specs.Doubled.{Node, Edge, at, number, edges, edge_effects, boundary, arcs_of, doubled}
use Rattle.theory.specs.Masks.{any_state}

-- a mask for each doubled number and array
abbrev pub Proposal : Type 0
Proposal = ℕ → ℕ → ℕ

-- row by row from number 0
abbrev pub proposed : Flow → List ℕ → Proposal
proposed f bytes d a = get_or bytes (d * f.arrays + a) 0

-- the proposal's bytes: 2 × n × arrays
abbrev pub proposal_bytes : Flow → ℕ
proposal_bytes f = 2 * (size f * f.arrays)

-- what is judged after the file: the work area; the proposal's length; and a byte over 7 within it is 11, at the index of the first

unfoldable pub mask_checks : List ℕ → ℕ → List Check
mask_checks bytes k = each k (λ j. check (ltb (get_or bytes j 0) 8) (Mask j) ∷ [])

abbrev pub proposal_checks : Flow → List ℕ → ℕ → List Check
proposal_checks f bytes work = area_check (work_words (size f)) work ∷ area_check (proposal_bytes f) (length bytes) ∷ mask_checks bytes (proposal_bytes f)

-- the byte holds every state of the mask m
abbrev pub Holds : ℕ → ℕ → Type 0
Holds byte m = (s : State) → holds m s ≡ true → holds byte s ≡ true

-- the row of v is not all zero
pub data Filled (f : Flow) (t : Proposal) (v : Node) : Type 0 where
  not_zero : {a : ℕ} → a < f.arrays → (t (number f v) a ≡ 0 → ⊥) → Filled f t v

-- the entry's masks hold NONE after the handler's touched step; for each edge that leaves a row which is not all zero, the key's too, the target holds the edge's mask
pub record Holding (f : Flow) (t : Proposal) : Type 0 where
  pub entry : (a : ℕ) → a < f.arrays → Holds (t (number f (at Zero f.entry)) a) (boundary f a)
  pub edge : (v : Node) (x : Edge) (a : ℕ) → v.stmt < size f → Filled f t v → In x (edges f v) → a < f.arrays
      → Holds (t (number f x.to) a) (step_all (edge_effects f v.stmt x a) (t (number f v) a))
  pub key : (v : Node) (h a : ℕ) → v.stmt < size f → Filled f t v → f.handler ≡ some h → a < f.arrays
      → Holds (t (number f (at N h)) a) (t (number f v) a)

pub data Accepted (f : Flow) (t : Proposal) : Type 0 where
  no_statements : size f ≡ 0 → Accepted f t
  all_any : OpaqueHandler f → ((v : Node) (a : ℕ) → v.stmt < size f → a < f.arrays → t (number f v) a ≡ any_state) → Accepted f t
  holding : 0 < size f → (OpaqueHandler f → ⊥) → Holding f t → Accepted f t

-- our own masks by doubled number: those that the queue rule leaves or, where the handler's body is opaque, 7
pub data Own (f : Flow) (t : Proposal) : Type 0 where
  left : {k : ℕ} {st : Solver} → (OpaqueHandler f → ⊥) → Over (doubled f) k st → ((d a : ℕ) → d < size f + size f → a < f.arrays → t d a ≡ st.masks d a) → Own f t
  all_any : OpaqueHandler f → ((d a : ℕ) → d < size f + size f → a < f.arrays → t d a ≡ any_state) → Own f t

-- the tests

abbrev pub state_held : ℕ → ℕ → State → Bool
state_held byte m s = not (holds m s) || holds byte s

unfoldable pub mask_held : ℕ → ℕ → Bool
mask_held byte m = state_held byte m none && (state_held byte m auto && state_held byte m dimmed)

unfoldable pub filled : Flow → Proposal → ℕ → Bool
filled f t d = not (all_below f.arrays (λ a. eqb (t d a) 0))

unfoldable pub arc_held : Flow → Proposal → ℕ → Arc → Bool
arc_held f t d e = all_below f.arrays (λ a. mask_held (t e.to a) (step_all (e.effects a) (t d a)))

-- every edge of the number d, where its row is not all zero
unfoldable pub row_held : Flow → Proposal → ℕ → Bool
row_held f t d = not (filled f t d && any (λ e. not (arc_held f t d e)) (arcs_of f d))

unfoldable pub entry_held : Flow → Proposal → Bool
entry_held f t = all_below f.arrays (λ a. mask_held (t (number f (at Zero f.entry)) a) (boundary f a))

unfoldable pub is_all_any : Flow → Proposal → Bool
is_all_any f t = all_below (size f + size f) (λ d. all_below f.arrays (λ a. eqb (t d a) any_state))

unfoldable pub all_held : Flow → Proposal → Bool
all_held f t = entry_held f t && all_below (size f + size f) (row_held f t)

unfoldable pub accepted : Flow → Proposal → Bool
accepted f t = cond (eqb (size f) 0) true (cond (opaque_handler f) (is_all_any f t) (all_held f t))
