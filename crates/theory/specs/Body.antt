-- Document 01, "Subroutines and the doubled graph", first paragraph: lines that enter, body walk, touched arrays, opaque bodies and calls.
-- Each term is an inductive type with one constructor a rule; beside it stands the function that decides it.
use Rattle.std.specs.Prelude.{ℕ, Bool, true, false, cond, ◌||◌, List, [], ◌∷◌, ◌≡◌}
use mathlib.Core.Option.{Option, none, some}
use Rattle.flow.specs.Flow.{Flow, Kind, Item, size, statement, enters}
pub use Rattle.flow.specs.Flow.{call_lines, continuation as continuation_of}
use Rattle.theory.specs.Lists.{In, any, elem, concat_map, option_list}
use Rattle.theory.specs.Reach.{Reach, reached}

abbrev pub kind : Flow → ℕ → Kind
kind f i = (statement f i).kind

abbrev pub successors : Flow → ℕ → List ℕ
successors f i = (statement f i).successors

abbrev pub references : Flow → ℕ → List ℕ
references f i = (statement f i).references

-- the statements that a call's lines enter, in listed order: other lines enter nothing
unfoldable pub entered : Flow → ℕ → List ℕ
entered f i = concat_map (λ l. option_list (enters f l)) (call_lines (kind f i))

abbrev pub if_some : {A : Type 0} → Option ℕ → A → A → A
if_some none a b = b
if_some (some k) a b = a

-- the bodies that a statement calls: those its lines enter, where it has a continuation. A call without one is an ordinary statement here
unfoldable pub callees : Flow → ℕ → List ℕ
callees f i = if_some (continuation_of (kind f i)) (entered f i) []

abbrev pub is_return : Kind → Bool
is_return Kind.other = false
is_return Kind.return = true
is_return Kind.clr = false
is_return Kind.run = false
is_return (Kind.dim items) = false
is_return (Kind.gosub l c) = false
is_return (Kind.on_gosub ls c) = false

abbrev pub or_else : Option ℕ → List ℕ → List ℕ
or_else none l = l
or_else (some k) l = k ∷ []

-- Body walk: follows successors, stops at RETURN, and at a call with a continuation goes to the continuation only
unfoldable pub walk_next : Flow → ℕ → List ℕ
walk_next f i = cond (is_return (kind f i)) [] (or_else (continuation_of (kind f i)) (successors f i))

-- the body walk from e meets i
abbrev pub Walks : Flow → ℕ → ℕ → Type 0
Walks f e i = Reach (walk_next f) e i

unfoldable pub walked : Flow → ℕ → List ℕ
walked f e = reached (walk_next f) (size f) e

-- the bodies that the calls on e's walk enter
pub data Calls (f : Flow) (e : ℕ) : ℕ → Type 0 where
  calls : {c b : ℕ} → Walks f e c → In b (callees f c) → Calls f e b

unfoldable pub called : Flow → ℕ → List ℕ
called f e = concat_map (callees f) (walked f e)

-- Touched arrays of a body: the references of statements walked, and those of the bodies its calls enter
pub data Touches (f : Flow) (a : ℕ) : ℕ → Type 0 where
  own : {e i : ℕ} → Walks f e i → In a (references f i) → Touches f a e
  nested : {e b : ℕ} → Calls f e b → Touches f a b → Touches f a e

-- a DIM that counts has at least one item, of either flag
abbrev pub counts : List Item → Bool
counts [] = false
counts (x ∷ xs) = true

-- CLR, RUN, and a DIM with at least one item
abbrev pub wipes : Kind → Bool
wipes Kind.other = false
wipes Kind.return = false
wipes Kind.clr = true
wipes Kind.run = true
wipes (Kind.dim items) = counts items
wipes (Kind.gosub l c) = false
wipes (Kind.on_gosub ls c) = false

-- one or more calls lead from e to b
pub data Calls⁺ (f : Flow) (e : ℕ) : ℕ → Type 0 where
  one : {b : ℕ} → Calls f e b → Calls⁺ f e b
  more : {b c : ℕ} → Calls⁺ f e b → Calls f b c → Calls⁺ f e c

-- Opaque body: its walk meets CLR, RUN or a DIM that counts, or it calls an opaque body, or it lies on a cycle of calls
pub data Opaque (f : Flow) : ℕ → Type 0 where
  own : {e i : ℕ} → Walks f e i → wipes (kind f i) ≡ true → Opaque f e
  calls : {e b : ℕ} → Calls f e b → Opaque f b → Opaque f e
  cycle : {e : ℕ} → Calls⁺ f e e → Opaque f e

-- Opaque call: some body that it enters is opaque
pub data OpaqueCall (f : Flow) (c : ℕ) : Type 0 where
  enters_opaque : {b : ℕ} → In b (callees f c) → Opaque f b → OpaqueCall f c

-- some body that the call enters touches the array
pub data CallTouches (f : Flow) (c a : ℕ) : Type 0 where
  enters_touching : {b : ℕ} → In b (callees f c) → Touches f a b → CallTouches f c a

-- Deciders: a body and the bodies that its calls lead to
unfoldable pub bodies : Flow → ℕ → List ℕ
bodies f e = reached (called f) (size f) e

unfoldable pub touches : Flow → ℕ → ℕ → Bool
touches f e a = any (λ b. any (λ i. elem a (references f i)) (walked f b)) (bodies f e)

unfoldable pub on_cycle : Flow → ℕ → Bool
on_cycle f e = any (λ b. elem e (bodies f b)) (called f e)

unfoldable pub opaque : Flow → ℕ → Bool
opaque f e = any (λ b. any (λ i. wipes (kind f i)) (walked f b) || on_cycle f b) (bodies f e)

unfoldable pub opaque_call : Flow → ℕ → Bool
opaque_call f c = any (opaque f) (callees f c)

unfoldable pub call_touches : Flow → ℕ → ℕ → Bool
call_touches f c a = any (λ b. touches f b a) (callees f c)
