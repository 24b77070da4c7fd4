-- Request E2, "Subroutines that always lay a table out": the arrays that are sure for a plain GOSUB that is not opaque. The paper's sentence speaks of sure arrays in saying which are: `Sentence`
-- has it as the paper does. `Missed` says the contrary by rules of its own; that `sure` satisfies the sentence, and nothing else does, is proved (proofs/Sure).
use Rattle.std.specs.Prelude.{ℕ, zero, suc, Bool, true, false, cond, not, ◌&&◌, ◌||◌, List, [], ◌⊎◌, ◌≡◌}
use Rattle.flow.specs.Flow.{Flow, Kind, size}
use Rattle.theory.specs.Lists.{In, any, elem, select, up_to}
use Rattle.theory.specs.Reach.{Reach}
use Rattle.theory.specs.Body.{kind, references, callees, is_return, walk_next, Walks, walked, OpaqueCall, opaque_call}

-- a plain GOSUB; an ON GOSUB has no sure arrays, also not with one line
abbrev pub is_gosub : Kind → Bool
is_gosub Kind.other = false
is_gosub Kind.return = false
is_gosub Kind.clr = false
is_gosub Kind.run = false
is_gosub (Kind.dim items) = false
is_gosub (Kind.gosub l c) = true
is_gosub (Kind.on_gosub ls c) = false

-- the body that a plain GOSUB with a continuation enters, if its line enters one
unfoldable pub gosub_body : Flow → ℕ → List ℕ
gosub_body f c = cond (is_gosub (kind f c)) (callees f c) []

-- the body has a RETURN on its walk
pub data Returns (f : Flow) (b : ℕ) : Type 0 where
  at : {r : ℕ} → Walks f b r → is_return (kind f r) ≡ true → Returns f b

-- a walk meets a statement of which P holds
pub data Meets {next : ℕ → List ℕ} {e : ℕ} (P : ℕ → Type 0) : (i : ℕ) → Reach next e i → Type 0 where
  last : {i : ℕ} {w : Reach next e i} → P i → Meets P i w
  before : {i j : ℕ} {w : Reach next e i} {m : In j (next i)} → Meets P i w → Meets P j (Reach.on w m)

-- "the body has a RETURN on its walk and every body walk to a RETURN meets a reference to it, or a plain GOSUB with a continuation for which it is sure", where S says what is sure
pub record AlwaysMet (f : Flow) (S : ℕ → ℕ → Bool) (c a : ℕ) : Type 0 where
  pub body : ℕ
  pub enters : In body (gosub_body f c)
  pub not_opaque : OpaqueCall f c → ⊥
  pub returns : Returns f body
  pub every : (r : ℕ) → is_return (kind f r) ≡ true → (w : Walks f body r) → Meets (λ i. In a (references f i) ⊎ (S i a ≡ true)) r w

-- the paper's sentence, of every call and array: S is what it asks
pub record Sentence (f : Flow) (S : ℕ → ℕ → Bool) : Type 0 where
  pub only : (c a : ℕ) → S c a ≡ true → AlwaysMet f S c a
  pub all : (c a : ℕ) → AlwaysMet f S c a → S c a ≡ true

unfoldable pub can_return : Flow → ℕ → Bool
can_return f b = any (λ r. is_return (kind f r)) (walked f b)

-- the body that a plain GOSUB with a continuation enters, if it has a RETURN on its walk
unfoldable pub returning : Flow → ℕ → List ℕ
returning f c = select (can_return f) (gosub_body f c)

-- Some body walk from a statement to a RETURN meets neither a reference to a nor a plain GOSUB whose body always does: at such a GOSUB its body is missed too
pub data Missed (f : Flow) (a : ℕ) : ℕ → Type 0 where
  at_return : {i : ℕ} → elem a (references f i) ≡ false → is_return (kind f i) ≡ true → Missed f a i
  on : {i j : ℕ} → elem a (references f i) ≡ false → ((b : ℕ) → In b (returning f i) → Missed f a b) → In j (walk_next f i) → Missed f a j → Missed f a i

pub record Sure (f : Flow) (c a : ℕ) : Type 0 where
  pub body : ℕ
  pub enters : In body (returning f c)
  pub not_opaque : OpaqueCall f c → ⊥
  pub met : Missed f a body → ⊥

-- Decided in rounds: each asks the rules of the statements that the round before found missed. There are no more rounds than statements

unfoldable pub missed_from : Flow → ℕ → List ℕ → ℕ → Bool
missed_from f a l i =
    not (elem a (references f i))
    && (is_return (kind f i) || (not (any (λ b. not (elem b l)) (returning f i)) && any (λ j. elem j l) (walk_next f i)))

unfoldable pub missed_after : ℕ → Flow → ℕ → List ℕ
missed_after zero f a = []
missed_after (suc k) f a = select (missed_from f a (missed_after k f a)) (up_to (size f))

unfoldable pub missed : Flow → ℕ → ℕ → Bool
missed f a i = elem i (missed_after (size f) f a)

unfoldable pub sure : Flow → ℕ → ℕ → Bool
sure f c a = not (opaque_call f c) && any (λ b. not (missed f a b)) (returning f c)
