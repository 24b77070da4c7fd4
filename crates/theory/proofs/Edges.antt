-- Which edges the doubled graph has: listed successors, the entered statements and the continuation of a call that is not opaque, and the continuations
-- that a RETURN goes to. A call's edge to a target is the first of those with that target, and all of these say the same of it. Every edge stays within the statements.
use Prim.Native.Nat.{ℕ, ◌<◌, ◌≤◌}
use mathlib.Core.Bool.{Bool, true, false, cond, not, ◌&&◌, ◌||◌}
use mathlib.Core.List.Memᴰ
use mathlib.Core.List.{List, [], ◌∷◌, ◌++◌, map}
use mathlib.Core.Logic.{◌⊎◌, inl, inr}
use mathlib.Core.Option.{Option, none, some}
use mathlib.Core.Path.{◌≡◌, refl, sym, ap, ap₂, subst}
use lib.Dec.{eqb}
use lib.ListN.{get_or-eq_default}
use native.Mathlib.Decide.{dec_lt}
use native.Mathlib.Omega.{arith}
use borrow.Author.Tests.{eq-eqb, eqb-true}
use Rattle.flow.specs.declared.Base.{Base}
use Rattle.flow.specs.declared.Base.TheVariants.{Zero, N}
use Rattle.flow.specs.Flow.{Flow, Kind, size, statement, no_statement}
use Rattle.theory.specs.Lists.{In, any, elem, select, up_to}
use Rattle.theory.specs.Body.{kind, successors, continuation_of, entered, callees, is_return, walked, opaque_call}
use Rattle.theory.specs.Clauses.WellFormed.{WellFormed}
use Rattle.theory.specs.Doubled.{Node, Edge, at, plain, same_base, same_node, returns_to, return_edges, once, call_edges, listed_edges, edges_of, edges, entering}
use Rattle.theory.proofs.Lists.{any-In, In-elem, select-In, In-select, up_to-In, In-up_to}
use Rattle.theory.proofs.Body.{entered_below}

-- a test of two nodes is true of equal ones and of no others

pub same_base_lem : (b c : Base) → same_base b c ≡ true → b ≡ c
same_base_lem Zero Zero h = refl
same_base_lem Zero N h = cc
same_base_lem N Zero h = cc
same_base_lem N N h = refl

base_same : (b : Base) → same_base b b ≡ true
base_same Zero = refl
base_same N = refl

pub same-node : (v w : Node) → same_node v w ≡ true → v ≡ w
same-node v w h = go (same_base v.base w.base) refl h
  where
    go : (t : Bool) → same_base v.base w.base ≡ t → (t && eqb v.stmt w.stmt) ≡ true → v ≡ w
    go true e h = ap₂ at (same_base_lem v.base w.base e) (eqb-true v.stmt w.stmt h)
    go false e h = cc

pub node-same : (v : Node) → same_node v v ≡ true
node-same v = rw (base_same v.base) (eq-eqb v.stmt v.stmt refl)

-- an edge of a call that is not opaque; it is the one to the continuation when its target is w
abbrev pub call_edge : Node → Node → Edge
call_edge w v = record { to = v; continues = same_node v w }

pub once_in : (w : Node) {v : Node} {l : List Node} → In v l → In (call_edge w v) (once (map (call_edge w) l))
unfolding once
once_in w (Memᴰ.head e) = Memᴰ.head (ap (call_edge w) e)
once_in w {v} (Memᴰ.tail {x = u} {xs = us} m) = go (same_node v u) refl (once_in w m)
  where
    apart : Edge → Bool
    apart x = not (same_node x.to u)

    go : (t : Bool) → same_node v u ≡ t → In (call_edge w v) (once (map (call_edge w) us))
        → In (call_edge w v) (call_edge w u ∷ select apart (once (map (call_edge w) us)))
    go true e r = Memᴰ.head (ap (call_edge w) (same-node v u e))
    go false e r = Memᴰ.tail (select-In apart r (ap not e))

pub in_once : {x : Edge} (l : List Edge) → In x (once l) → In x l
unfolding once
in_once [] m = m
in_once {x} (e ∷ es) m = go (in_once es) (Memᴰ.cases_cons m)
  where
    apart : Edge → Bool
    apart y = not (same_node y.to e.to)

    go : (In x (once es) → In x es) → (x ≡ e) ⊎ In x (select apart (once es)) → In x (e ∷ es)
    go rest (inl h) = Memᴰ.head h
    go rest (inr h) = Memᴰ.tail (rest (In-select apart (once es) h).0)

-- where a call that is not opaque goes: the listed successors that are neither entered nor the continuation come last
abbrev others : Flow → ℕ → ℕ → ℕ → Bool
others f i k j = not (elem j (entered f i) || eqb j k)

abbrev targets : Flow → Base → ℕ → ℕ → List Node
targets f b i k = map (at N) (entered f i) ++ (at b k ∷ map (at b) (select (others f i k) (successors f i)))

in_call_edges : (f : Flow) (b : Base) (i k : ℕ) {x : Edge} → In x (call_edges f b i k) → (v : Node) × In v (targets f b i k) × (call_edge (at b k) v ≡ x)
unfolding call_edges
in_call_edges f b i k m = Memᴰ.of_map (call_edge (at b k)) (targets f b i k) (in_once (map (call_edge (at b k)) (targets f b i k)) m)

-- the edges of a node, by what its statement is

module _ (f : Flow) (b : Base) (i : ℕ) where
  pub listed_edge : {j : ℕ} → continuation_of (kind f i) ≡ none → is_return (kind f i) ≡ false → In j (successors f i) → In (plain (at b j)) (edges f (at b i))
  unfolding edges edges_of listed_edges
  listed_edge {j} c r m =
      subst (λ (o : Option ℕ). In (plain (at b j)) (edges_of f b i o)) (sym c)
      (rw r (Memᴰ.map (λ j. plain (at b j)) m))

  pub opaque-edge : {j k : ℕ} → continuation_of (kind f i) ≡ some k → opaque_call f i ≡ true → In j (successors f i) → In (plain (at b j)) (edges f (at b i))
  unfolding edges edges_of listed_edges
  opaque-edge {j} c o m =
      subst (λ (o : Option ℕ). In (plain (at b j)) (edges_of f b i o)) (sym c)
      (rw o (Memᴰ.map (λ j. plain (at b j)) m))

  module _ {k : ℕ} (c : continuation_of (kind f i) ≡ some k) (o : opaque_call f i ≡ false) where
    from-call : {x : Edge} → In x (call_edges f b i k) → In x (edges f (at b i))
    unfolding edges edges_of
    from-call {x} m = subst (λ (o : Option ℕ). In x (edges_of f b i o)) (sym c) (rw o m)

    pub entered-edge : {e : ℕ} → In e (entered f i) → In (call_edge (at b k) (at N e)) (edges f (at b i))
    unfolding call_edges
    entered-edge m = from-call (once_in (at b k) (Memᴰ.append_left _ (Memᴰ.map (at N) m)))

    pub continuation-edge : In (call_edge (at b k) (at b k)) (edges f (at b i))
    unfolding call_edges
    continuation-edge = from-call (once_in (at b k) (Memᴰ.append_right (map (at N) (entered f i)) (Memᴰ.head refl)))

    -- each edge to base + continuation carries the call's step, the one to an entered statement too, and no other does
    pub continues-at : {x : Edge} → In x (edges f (at b i)) → x.continues ≡ same_node x.to (at b k)
    unfolding edges edges_of
    continues-at {x} m =
        let called : In x (call_edges f b i k) = rw o at (subst (λ (o : Option ℕ). In x (edges_of f b i o)) c m) in
        let r = in_call_edges f b i k called in
        subst (λ (x : Edge). x.continues ≡ same_node x.to (at b k)) r.2 refl

-- an edge to n + an entered statement is known as one
pub entered_known : (f : Flow) (i : ℕ) (w : Node) {e : ℕ} → In e (entered f i) → entering f i (call_edge w (at N e)) ≡ true
unfolding entering
entered_known f i w {e} m = any-In (λ b. same_node (at N e) (at N b)) m (node-same (at N e))

-- a RETURN in base n goes nowhere
pub return_nowhere : (f : Flow) (r : ℕ) → kind f r ≡ Kind.return → edges f (at N r) ≡ []
unfolding edges edges_of return_edges
return_nowhere f r h = rw (ap continuation_of h, ap is_return h)

-- a RETURN in base 0 goes to the continuation of each opaque call that enters a body whose walk meets it
pub return-edge : (f : Flow) (r : ℕ) {c k e : ℕ} → continuation_of (kind f r) ≡ none → is_return (kind f r) ≡ true → c < size f → k < size f
    → continuation_of (kind f c) ≡ some k → opaque_call f c ≡ true → In e (callees f c) → In r (walked f e)
    → In (plain (at Zero k)) (edges f (at Zero r))
unfolding edges edges_of return_edges returns_to
return-edge f r {c} {k} {e} cr rr cn kn ck o m w =
    subst (λ (o : Option ℕ). In (plain (at Zero k)) (edges_of f Zero r o)) (sym cr)
    (rw rr (Memᴰ.map (λ k. plain (at Zero k))
    (select-In (λ k. any (returns_to f r k) (up_to (size f))) (up_to-In (size f) k kn)
    (any-In (returns_to f r k) (up_to-In (size f) c cn) passes))))
  where
    passes : returns_to f r k c ≡ true
    passes = rw (ck, eq-eqb k k refl, o) (any-In (λ b. elem r (walked f b)) m (In-elem w))

-- only a statement has a continuation
pub statement_of : (f : Flow) (c : ℕ) {k : ℕ} → continuation_of (kind f c) ≡ some k → c < size f
statement_of f c {k} e = go (dec_lt c (size f))
  where
    go : Dec (c < size f) → c < size f
    go (yes h) = h
    go (no h) =
        let above : size f ≤ c = omega (arith, h) in
        let missing : statement f c ≡ no_statement = get_or-eq_default f.statements no_statement above in
        let same : continuation_of (kind f c) ≡ none = ap (λ s. continuation_of s.kind) missing in
        let z : ◌≡◌ {A = ℕ} 0 1 = cc in
        omega arith

-- within the statements
module _ (f : Flow) (wf : WellFormed f) where
  stays : Edge → Type 0
  stays x = x.to.stmt < size f

  listed_stays : (b : Base) (i : ℕ) {x : Edge} → In x (listed_edges f b i) → stays x
  unfolding stays listed_edges
  listed_stays b i m =
      let r = Memᴰ.of_map (λ j. plain (at b j)) (successors f i) m in
      subst (λ x. x.to.stmt < size f) r.2 (wf.successor i r.0 r.1)

  return-stays : (b : Base) (i : ℕ) {x : Edge} → In x (return_edges f b i) → stays x
  unfolding stays return_edges
  return-stays Zero i m =
      let meets : ℕ → Bool = λ k. any (returns_to f i k) (up_to (size f)) in
      let r = Memᴰ.of_map (λ k. plain (at Zero k)) (select meets (up_to (size f))) m in
      subst (λ x. x.to.stmt < size f) r.2 (In-up_to (size f) (In-select meets (up_to (size f)) r.1).0)
  return-stays N i m = absurd (Memᴰ.not-nil m)

  below : (c : Base) (l : List ℕ) {v : Node} → ((j : ℕ) → In j l → j < size f) → In v (map (at c) l) → v.stmt < size f
  below c l all m = let q = Memᴰ.of_map (at c) l m in subst (λ v. v.stmt < size f) q.2 (all q.0 q.1)

  call_stays : (b : Base) (i k : ℕ) {x : Edge} → k < size f → In x (call_edges f b i k) → stays x
  unfolding stays
  call_stays b i k h m =
      let r = in_call_edges f b i k m in
      subst (λ x. x.to.stmt < size f) r.2 (first (Memᴰ.append_cases (map (at N) (entered f i)) r.1))
    where
      rest : {v : Node} → (v ≡ at b k) ⊎ In v (map (at b) (select (others f i k) (successors f i))) → v.stmt < size f
      rest (inl e) = subst (λ v. v.stmt < size f) (sym e) h
      rest (inr m) =
          below b (select (others f i k) (successors f i)) (λ j m. wf.successor i j (In-select (others f i k) (successors f i) m).0) m

      first : {v : Node} → In v (map (at N) (entered f i)) ⊎ In v (at b k ∷ map (at b) (select (others f i k) (successors f i))) → v.stmt < size f
      first (inl m) = below N (entered f i) (entered_below wf i) m
      first (inr m) = rest (Memᴰ.cases_cons m)

  pub edge-below : (v : Node) {x : Edge} → In x (edges f v) → x.to.stmt < size f
  unfolding edges edges_of stays
  edge-below v {x} m = go (continuation_of (kind f v.stmt)) refl m
    where
      plainly : (t : Bool) → In x (cond t (return_edges f v.base v.stmt) (listed_edges f v.base v.stmt)) → x.to.stmt < size f
      plainly true m = return-stays v.base v.stmt m
      plainly false m = listed_stays v.base v.stmt m

      calling : (k : ℕ) → k < size f → (t : Bool) → In x (cond t (listed_edges f v.base v.stmt) (call_edges f v.base v.stmt k)) → x.to.stmt < size f
      calling k h true m = listed_stays v.base v.stmt m
      calling k h false m = call_stays v.base v.stmt k h m

      go : (o : Option ℕ) → continuation_of (kind f v.stmt) ≡ o → In x (edges_of f v.base v.stmt o) → x.to.stmt < size f
      go none e m = plainly (is_return (kind f v.stmt)) m
      go (some k) e m = calling k (wf.continuation v.stmt k e) (opaque_call f v.stmt) m
