-- An edge carries the touched step only where the call is not opaque. By the edges of each kind of statement.
use Prim.Native.Nat.{ℕ}
use mathlib.Core.Bool.{Bool, true, false, cond}
use mathlib.Core.List.Memᴰ
use mathlib.Core.List.{List, map}
use mathlib.Core.Option.{Option, none, some}
use mathlib.Core.Path.{◌≡◌, refl, ap}
use Rattle.flow.specs.declared.Base.{Base}
use Rattle.flow.specs.declared.Base.TheVariants.{Zero, N}
use Rattle.flow.specs.Flow.{Flow, size}
use Rattle.theory.specs.Lists.{In, any, select, up_to}
use Rattle.theory.specs.Body.{kind, successors, continuation_of, is_return, opaque_call}
use Rattle.theory.specs.Doubled.{Node, Edge, at, plain, returns_to, return_edges, listed_edges, edges_of, edges}
use Rattle.theory.proofs.Lists.{In-map}

-- a statement that is no call, and an opaque call, have no edge that carries the touched step

plain-only : {A : Type 0} (g : A → Node) (l : List A) {x : Edge} → In x (map (λ j. plain (g j)) l) → x.continues ≡ false
plain-only g l m = let r = In-map (λ j. plain (g j)) l m in ap (λ (y : Edge). y.continues) r.2

none_continue : (f : Flow) (b : Base) (i : ℕ) {x : Edge} (o : Option ℕ) → ((k : ℕ) → o ≡ some k → opaque_call f i ≡ true) → In x (edges_of f b i o) → x.continues ≡ false
unfolding edges_of return_edges listed_edges
none_continue f b i {x} none h m = go (is_return (kind f i)) b m
  where
    go : (r : Bool) (b : Base) → In x (cond r (return_edges f b i) (listed_edges f b i)) → x.continues ≡ false
    go true Zero m = plain-only (at Zero) (select (λ k. any (returns_to f i k) (up_to (size f))) (up_to (size f))) m
    go true N m = absurd (Memᴰ.not-nil m)
    go false b m = plain-only (at b) (successors f i) m
none_continue f b i {x} (some k) h m = plain-only (at b) (successors f i) (rw (h k refl) at m)

pub plain-edge : (f : Flow) (v : Node) {x : Edge} → ((k : ℕ) → continuation_of (kind f v.stmt) ≡ some k → opaque_call f v.stmt ≡ true) → In x (edges f v) → x.continues ≡ false
unfolding edges
plain-edge f v op m = none_continue f v.base v.stmt (continuation_of (kind f v.stmt)) op m
