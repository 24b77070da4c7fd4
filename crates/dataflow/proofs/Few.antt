-- The visits of a fit file's flow can be counted in a word: every list of the file lies within it, so a number has few edges, and the visits are within
-- Term 1's bound.
use Prim.Native.Nat.{ℕ, ◌+◌, ◌-◌, ◌*◌, ◌^◌, ◌≤◌, ◌<◌, zero-le}
use mathlib.Core.Bool.{Bool, true, false, cond, not, ◌||◌}
use mathlib.Core.List.{List, [], ◌∷◌, ◌++◌, map}
use mathlib.Core.Option.{Option, none, some}
use mathlib.Core.Path.{◌≡◌, refl, sym, subst}
use native.Mathlib.Decide.{dec_lt}
use native.Mathlib.Nat.{mul-le-mul_right}
use native.Mathlib.Omega.{arith}
use lib.Dec.{eqb}
use lib.ListN.{length, length-append, length-map}
use Rattle.flow.specs.declared.Base.{Base}
use Rattle.flow.specs.declared.Base.TheVariants.{Zero, N}
use Rattle.flow.specs.Flow.{Flow, size, enters}
use Rattle.flow.specs.Format.{flow_of}
use Rattle.flow.specs.Limits.{max_file, max_statements, max_arrays}
use Rattle.records.proofs.Files.{limited}
use Rattle.theory.specs.Lists.{any, elem, select, concat_map, option_list, up_to, sum_below}
use Rattle.theory.specs.Body.{kind, successors, call_lines, continuation_of, is_return, entered, opaque_call}
use Rattle.theory.specs.Doubled.{Node, Edge, at, plain, node, same_node, once, edges, edges_of, listed_edges, return_edges, call_edges, returns_to, number, edge_effects, key_arcs, arcs_of, doubled}
use Rattle.theory.specs.Queue.{Arc, arc_count, visit_bound}
use Rattle.theory.proofs.Lists.{length-up_to, sum_below-le}
use Rattle.theory.proofs.Below.{sum_below_const}
use Rattle.theory.proofs.Copies.{node-low, node-high}
use Rattle.statements.specs.Clauses.Ready.{Ready}
use Rattle.statements.proofs.WellFormed.{arrays-is}
use Rattle.statements.proofs.Keeps.{ready-size, ready-most}
use Rattle.calls.proofs.Checked.{successors-few, lines-few}

-- Lengths

length-select : {A : Type 0} (p : A → Bool) (l : List A) → length (select p l) ≤ length l
unfolding select
length-select p [] = zero-le
length-select p (x ∷ l) = at (p x) (length-select p l)
  where
    at : (b : Bool) → length (select p l) ≤ length l → length (cond b (x ∷ select p l) (select p l)) ≤ length (x ∷ l)
    at true h = omega arith
    at false h = omega arith

length-once : (es : List Edge) → length (once es) ≤ length es
unfolding once
length-once [] = zero-le
length-once (e ∷ es) =
    let h = length-select (λ x. not (same_node x.to e.to)) (once es) in
    let k = length-once es in
    omega arith

length_options : (f : Flow) (ls : List ℕ) → length (concat_map (λ l. option_list (enters f l)) ls) ≤ length ls
unfolding concat_map option_list
length_options f [] = zero-le
length_options f (l ∷ ls) = at (enters f l) (length_options f ls)
  where
    at : (o : Option ℕ) → length (concat_map (λ l. option_list (enters f l)) ls) ≤ length ls
        → length (option_list o ++ concat_map (λ l. option_list (enters f l)) ls) ≤ length (l ∷ ls)
    at none h = omega arith
    at (some e) h = omega arith

module _ (f : Flow) (b : Base) (i most : ℕ) (sized : size f ≤ most) (next : length (successors f i) ≤ most) (lines : length (call_lines (kind f i)) ≤ most) where
  listed_few : length (listed_edges f b i) ≤ most
  unfolding listed_edges
  listed_few = omega (arith, length-map (successors f i) (λ j. plain (at b j)))

  return-few : length (return_edges f b i) ≤ most
  unfolding return_edges
  return-few = go b
    where
      continuations : List ℕ
      continuations = select (λ k. any (returns_to f i k) (up_to (size f))) (up_to (size f))

      go : (c : Base) → length (return_edges f c i) ≤ most
      go Zero =
          let h = length-select (λ k. any (returns_to f i k) (up_to (size f))) (up_to (size f)) in
          omega (arith, length-map continuations (λ k. plain (at Zero k)), length-up_to (size f))
      go N = zero-le

  call-few : (k : ℕ) → length (call_edges f b i k) ≤ most + most + 1
  unfolding call_edges entered
  call-few k =
      let others : List ℕ = select (λ j. not (elem j (entered f i) || eqb j k)) (successors f i) in
      let nodes : List Node = map (at N) (entered f i) ++ (at b k ∷ map (at b) others) in
      let e : List Edge = map (λ v. record { to = v; continues = same_node v (at b k) }) nodes in
      let p = length-once e in
      let q = length-select (λ j. not (elem j (entered f i) || eqb j k)) (successors f i) in
      let r = length_options f (call_lines (kind f i)) in
      omega (
        arith,
        length-map {B = Edge} nodes (λ v. record { to = v; continues = same_node v (at b k) }),
        length-append (map (at N) (entered f i)) (at b k ∷ map (at b) others),
        length-map (entered f i) (at N),
        length-map others (at b),
      )

  edges_few : length (edges f (at b i)) ≤ most + most + 1
  unfolding edges edges_of
  edges_few = go (continuation_of (kind f i))
    where
      either : (c : Bool) → length (cond c (return_edges f b i) (listed_edges f b i)) ≤ most
      either true = return-few
      either false = listed_few

      called : (c : Bool) (k : ℕ) → length (cond c (listed_edges f b i) (call_edges f b i k)) ≤ most + most + 1
      called true k = let h = listed_few in omega arith
      called false k = call-few k

      go : (o : Option ℕ) → length (edges_of f b i o) ≤ most + most + 1
      go none = let h = either (is_return (kind f i)) in omega arith
      go (some k) = called (opaque_call f i) k

-- The lists of a fit file lie within it

module _ {s ws : List ℕ} {n : ℕ} (r : Ready s ws n) where
  node-few : (d : ℕ) → d < n + n → length (edges (flow_of s) (node (flow_of s) d)) ≤ max_file + max_file + 1
  node-few d l = go (dec_lt d (size (flow_of s)))
    where
      sized : size (flow_of s) ≤ max_file
      sized = let few = ready-most r in omega (arith, ready-size r)

      go : Dec (d < size (flow_of s)) → length (edges (flow_of s) (node (flow_of s) d)) ≤ max_file + max_file + 1
      go (yes h) =
          subst (λ (v : Node). length (edges (flow_of s) v) ≤ max_file + max_file + 1) (sym (node-low (size (flow_of s)) d h))
          (edges_few (flow_of s) Zero d max_file sized (successors-few r (omega (arith, ready-size r))) (lines-few r (omega (arith, ready-size r))))
      go (no h) =
          subst (λ (v : Node). length (edges (flow_of s) v) ≤ max_file + max_file + 1) (sym (node-high (size (flow_of s)) d (omega (arith, h))))
          (edges_few (flow_of s) N (d - size (flow_of s)) max_file sized (successors-few r (omega (arith, ready-size r, h))) (lines-few r (omega (arith, ready-size r, h))))

  -- Term 1's bound is a word, and so is one more
  pub visits-few : visit_bound (doubled (flow_of s)) < 2 ^ 63
  unfolding arc_count doubled arcs_of key_arcs
  visits-few =
      let f : Flow = flow_of s in
      let each : ℕ = max_file + max_file + 2 in
      let sum : arc_count (doubled f) ≤ sum_below (size f + size f) (λ d. each) =
      sum_below-le (size f + size f) (λ d. length ((doubled f).arcs d)) (λ d. each) (λ d l.
      let h = node-few d (omega (arith, ready-size r)) in
      omega (arith, length-append (map (arc_of f d) (edges f (node f d))) (key_arcs f), length-map (edges f (node f d)) (arc_of f d), key-few f f.handler refl)) in
      let all : sum_below (size f + size f) (λ d. each) ≡ (size f + size f) * each = sum_below_const (size f + size f) each in
      let few = ready-most r in
      let edges : arc_count (doubled f) ≤ 4096 * each = omega (arith, mul-le-mul_right each (nodes-few few), ready-size r) in
      let arrays : f.arrays ≤ max_arrays = subst (λ (k : ℕ). k ≤ max_arrays) (sym (arrays-is s)) (limited r.fit).arrays in
      let x : arc_count (doubled f) * (1 + 2 * f.arrays) ≤ 4096 * each * (1 + 2 * f.arrays) = mul-le-mul_right (1 + 2 * f.arrays) edges in
      omega arith
    where
      arc_of : (f : Flow) (d : ℕ) → Edge → Arc
      arc_of f d e = record { to = number f e.to; effects = edge_effects f (node f d).stmt e }

      key-few : (f : Flow) (o : Option ℕ) → f.handler ≡ o → length (key_arcs f) ≤ 1
      key-few f none e = rw e (omega arith)
      key-few f (some h) e = rw e (omega arith)

      nodes-few : n ≤ max_statements → size (flow_of s) + size (flow_of s) ≤ 4096
      nodes-few h = omega (arith, ready-size r)
