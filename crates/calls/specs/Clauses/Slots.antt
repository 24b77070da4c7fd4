-- The edges of a doubled number as slots, one for each that is gone through: an edge, or nothing where a line enters no statement or a successor is left out.
-- Up to repeats, the present slots are the edges of the doubled graph, but for the key's.
use Rattle.std.specs.Prelude.{ℕ, cond, not, ◌||◌, List, [], ◌∷◌, ◌++◌, map, eqb}
use mathlib.Core.Option.{Option, none, some}
use Rattle.flow.specs.declared.Base.{Base}
use Rattle.flow.specs.declared.Base.TheVariants.{Zero, N}
use Rattle.flow.specs.Flow.{Flow, size, enters}
use Rattle.theory.specs.Lists.{any, elem, concat_map, option_list, up_to}
use Rattle.theory.specs.Body.{kind, successors, call_lines, continuation_of, entered, is_return, opaque_call}
use Rattle.theory.specs.Doubled.{Node, Edge, at, plain, number, same_node, returns_to, edge_effects}
use Rattle.theory.specs.Queue.{Arc}

abbrev pub edge_to : Node → Node → Edge
edge_to back v = record { to = v; continues = same_node v back }

abbrev pub if_entered : Node → Option ℕ → Option Edge
if_entered back none = none
if_entered back (some e) = some (edge_to back (at N e))

-- the successors of a call with the continuation k, less those that are entered and the continuation

abbrev pub other_slot : Flow → Base → ℕ → ℕ → ℕ → Option Edge
other_slot f b i k j = cond (not (elem j (entered f i) || eqb j k)) (some (edge_to (at b k) (at b j))) none

unfoldable pub other_slots : Flow → Base → ℕ → ℕ → List (Option Edge)
other_slots f b i k = map (other_slot f b i k) (successors f i)

-- the statements that its lines enter

abbrev pub line_slot : Flow → Base → ℕ → ℕ → Option Edge
line_slot f b k l = if_entered (at b k) (enters f l)

unfoldable pub line_slots : Flow → Base → ℕ → ℕ → List (Option Edge)
line_slots f b i k = map (line_slot f b k) (call_lines (kind f i))

-- a call that is not opaque, with the continuation k
unfoldable pub call_slots : Flow → Base → ℕ → ℕ → List (Option Edge)
call_slots f b i k = line_slots f b i k ++ (some (edge_to (at b k) (at b k)) ∷ other_slots f b i k)

unfoldable pub return_slots : Flow → Base → ℕ → List (Option Edge)
return_slots f Zero r = map (λ k. cond (any (returns_to f r k) (up_to (size f))) (some (plain (at Zero k))) none) (up_to (size f))
return_slots f N r = []

unfoldable pub listed_slots : Flow → Base → ℕ → List (Option Edge)
listed_slots f b i = map (λ j. some (plain (at b j))) (successors f i)

-- by the kind of statement i and what its call is: what a RETURN has, what a statement that goes to its successors has, and what a call with a
-- continuation that is not opaque has
abbrev pub by_kind : {A : Type 0} → Flow → ℕ → A → A → (ℕ → A) → Option ℕ → A
by_kind f i r l c none = cond (is_return (kind f i)) r l
by_kind f i r l c (some k) = cond (opaque_call f i) l (c k)

unfoldable pub slots_of : Flow → Base → ℕ → Option ℕ → List (Option Edge)
slots_of f b i o = by_kind f i (return_slots f b i) (listed_slots f b i) (call_slots f b i) o

unfoldable pub slots : Flow → Node → List (Option Edge)
slots f v = slots_of f v.base v.stmt (continuation_of (kind f v.stmt))

-- the present slots
unfoldable pub present : List (Option Edge) → List Edge
present xs = concat_map option_list xs

-- the arc of the doubled graph that an edge of statement i is
abbrev pub to_arc : Flow → ℕ → Edge → Arc
to_arc f i x = record { to = number f x.to; effects = edge_effects f i x }
