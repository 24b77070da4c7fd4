-- Document 01, the doubled graph: statements exist twice, as doubled numbers i and n + i; each doubled number's edges, in the paper's order, with the
-- effect of each edge on each array. Order and repeats count for the visits and the bound.
use Rattle.std.specs.Prelude.{ℕ, ◌+◌, ◌-◌, Bool, true, false, cond, not, ◌&&◌, ◌||◌, List, [], ◌∷◌, ◌++◌, map, eqb, ltb}
use mathlib.Core.Option.{Option, none, some}
use Rattle.masks.specs.declared.Effect.{Effect}
use Rattle.masks.specs.declared.Effect.TheVariants.{Reference, Dim, Reset, Touched}
use Rattle.flow.specs.declared.Base.{Base}
use Rattle.flow.specs.declared.Base.TheVariants.{Zero, N}
use Rattle.flow.specs.Flow.{Flow, Kind, Item, size}
use Rattle.theory.specs.Lists.{any, elem, select, up_to}
use Rattle.theory.specs.Body.{kind, successors, references, continuation_of, entered, callees, is_return, walked, opaque_call, call_touches}
use Rattle.theory.specs.Key.{on_handler, handler_touches}
use Rattle.theory.specs.Sure.{sure}
use Rattle.theory.specs.Queue.{Arc, Graph, step_all}

-- a doubled number: a statement in base 0 or in base n. A statement number is no doubled number
pub record Node : Type 0 where
  pub base : Base
  pub stmt : ℕ

abbrev pub at : Base → ℕ → Node
at b i = record { base = b; stmt = i }

-- the doubled number as a number from 0 to 2 n - 1, and back: of n statements, and of a flow

abbrev pub offset_in : ℕ → Base → ℕ
offset_in n Zero = 0
offset_in n N = n

abbrev pub number_in : ℕ → Node → ℕ
number_in n v = offset_in n v.base + v.stmt

abbrev pub node_in : ℕ → ℕ → Node
node_in n d = cond (ltb d n) (at Zero d) (at N (d - n))

abbrev pub offset : Flow → Base → ℕ
offset f b = offset_in (size f) b

abbrev pub number : Flow → Node → ℕ
number f v = number_in (size f) v

abbrev pub node : Flow → ℕ → Node
node f d = node_in (size f) d

-- an edge: where it goes, and whether it is the edge to base + continuation of a call that is not opaque
pub record Edge : Type 0 where
  pub to : Node
  pub continues : Bool

abbrev pub plain : Node → Edge
plain v = record { to = v; continues = false }

abbrev pub same_base : Base → Base → Bool
same_base Zero Zero = true
same_base Zero N = false
same_base N Zero = false
same_base N N = true

abbrev pub same_node : Node → Node → Bool
same_node v w = same_base v.base w.base && eqb v.stmt w.stmt

abbrev pub is_some : Option ℕ → ℕ → Bool
is_some none k = false
is_some (some j) k = eqb j k

-- an opaque call with the continuation k that enters a body whose walk meets r
unfoldable pub returns_to : Flow → ℕ → ℕ → ℕ → Bool
returns_to f r k c = is_some (continuation_of (kind f c)) k && (opaque_call f c && any (λ b. elem r (walked f b)) (callees f c))

-- RETURN: base 0 goes to the continuations of opaque calls that enter a body whose walk meets it, rising, each once; base n goes nowhere
unfoldable pub return_edges : Flow → Base → ℕ → List Edge
return_edges f Zero r = map (λ k. plain (at Zero k)) (select (λ k. any (returns_to f r k) (up_to (size f))) (up_to (size f)))
return_edges f N r = []

-- each target once, the first of its edges
unfoldable pub once : List Edge → List Edge
once [] = []
once (e ∷ es) = e ∷ select (λ x. not (same_node x.to e.to)) (once es)

-- a call that is not opaque, with the continuation k: to n + each entered statement, in listed order; to base + continuation; to base + each listed
-- successor that is neither entered nor the continuation; each once. The edge to base + continuation carries the call's step, also where it is an entered one
unfoldable pub call_edges : Flow → Base → ℕ → ℕ → List Edge
call_edges f b i k =
    once (map (λ v. record { to = v; continues = same_node v (at b k) })
    (map (at N) (entered f i)
    ++ (at b k ∷ map (at b) (select (λ j. not (elem j (entered f i) || eqb j k)) (successors f i)))))

-- all others: base + listed successors
unfoldable pub listed_edges : Flow → Base → ℕ → List Edge
listed_edges f b i = map (λ j. plain (at b j)) (successors f i)

unfoldable pub edges_of : Flow → Base → ℕ → Option ℕ → List Edge
edges_of f b i none = cond (is_return (kind f i)) (return_edges f b i) (listed_edges f b i)
edges_of f b i (some k) = cond (opaque_call f i) (listed_edges f b i) (call_edges f b i k)

unfoldable pub edges : Flow → Node → List Edge
edges f v = edges_of f v.base v.stmt (continuation_of (kind f v.stmt))

-- At a statement, a reference steps its array; then a DIM with flag 1 steps its array, CLR and RUN step all

abbrev pub dims : ℕ → Item → Bool
dims a x = eqb x.array a && eqb x.flag 1

-- CLR and RUN: every array becomes NONE
abbrev pub resets : Kind → Bool
resets Kind.other = false
resets Kind.return = false
resets Kind.clr = true
resets Kind.run = true
resets (Kind.dim items) = false
resets (Kind.gosub l c) = false
resets (Kind.on_gosub ls c) = false

unfoldable pub kind_effects : Kind → ℕ → List Effect
kind_effects Kind.other a = []
kind_effects Kind.return a = []
kind_effects Kind.clr a = Reset ∷ []
kind_effects Kind.run a = Reset ∷ []
kind_effects (Kind.dim items) a = cond (any (dims a) items) (Dim ∷ []) []
kind_effects (Kind.gosub l c) a = []
kind_effects (Kind.on_gosub ls c) a = []

unfoldable pub statement_effects : Flow → ℕ → ℕ → List Effect
statement_effects f i a = cond (elem a (references f i)) (Reference ∷ []) [] ++ kind_effects (kind f i) a

-- the edge goes to n + a statement that statement i enters
unfoldable pub entering : Flow → ℕ → Edge → Bool
entering f i e = any (λ b. same_node e.to (at N b)) (entered f i)

-- the step on the edge to base + continuation (request E2): a sure array takes that of a reference, unless the edge is also one to an entered statement; any other touched array takes the touched step
unfoldable pub continuation_effects : Flow → ℕ → Edge → ℕ → List Effect
continuation_effects f i e a = cond (sure f i a && not (entering f i e)) (Reference ∷ []) (cond (call_touches f i a) (Touched ∷ []) [])

-- what statement i has done to array a where an edge leaves it: the statement's effect, then on the edge to base + continuation that of the call
unfoldable pub own_effects : Flow → ℕ → Edge → ℕ → List Effect
own_effects f i e a = statement_effects f i a ++ cond e.continues (continuation_effects f i e a) []

-- Request E3: the handler may have run in between, and may have touched what its body touches
unfoldable pub key_effects : Flow → ℕ → List Effect
key_effects f a = cond (handler_touches f a) (Touched ∷ []) []

-- the effect of an edge of statement i on array a: its own, and last the handler's touched step
unfoldable pub edge_effects : Flow → ℕ → Edge → ℕ → List Effect
edge_effects f i e a = own_effects f i e a ++ key_effects f a

-- every array is NONE at the entry, and takes the handler's touched step
unfoldable pub boundary : Flow → ℕ → ℕ
boundary f a = step_all (key_effects f a) 1

-- the key's edge: to n + handler, with the mask as it is, neither by the statement nor by the touched step
unfoldable pub key_arcs : Flow → List Arc
key_arcs f = on_handler f.handler [] (λ h. record { to = number f (at N h); effects = λ a. [] } ∷ [])

-- a doubled number's edges: its statement's, and the key's, which is the last
unfoldable pub arcs_of : Flow → ℕ → List Arc
arcs_of f d = map (λ e. record { to = number f e.to; effects = edge_effects f (node f d).stmt e }) (edges f (node f d)) ++ key_arcs f

unfoldable pub doubled : Flow → Graph
doubled f = record {
  nodes = size f + size f;
  arrays = f.arrays;
  entry = number f (at Zero f.entry);
  boundary = boundary f;
  arcs = arcs_of f;
}
