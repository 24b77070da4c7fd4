-- Document 01, the queue rule, over any graph of numbers whose edges have an effect on each array: the front of the queue is taken (a visit) and its
-- masks become the union over edges from numbers visited before, with the boundary at the entry; at its first visit, or if its masks changed, its successors not waiting join the back in order.
use Rattle.std.specs.Prelude.{ℕ, zero, suc, ◌+◌, ◌*◌, Bool, true, false, cond, not, ◌||◌, List, [], ◌∷◌, ◌++◌, ◌≡◌, eqb, length}
use Rattle.std.specs.Int.Bits.{bit_or}
use Rattle.masks.specs.declared.Effect.{Effect}
use Rattle.masks.specs.Step.{step_of}
use Rattle.theory.specs.Lists.{elem, sum_below, differ, upd}

-- an edge: the number it goes to, and what it does to each array, one effect after the other
pub record Arc : Type 0 where
  pub to : ℕ
  pub effects : ℕ → List Effect

-- numbers 0 to nodes - 1, the entry, each array's mask there, and each number's edges in order
pub record Graph : Type 0 where
  pub nodes : ℕ
  pub arrays : ℕ
  pub entry : ℕ
  pub boundary : ℕ → ℕ
  pub arcs : ℕ → List Arc

unfoldable pub step_all : List Effect → ℕ → ℕ
step_all [] m = m
step_all (e ∷ es) m = step_all es (step_of e m)

-- edges, repeats included
unfoldable pub arc_count : Graph → ℕ
arc_count g = sum_below g.nodes (λ d. length (g.arcs d))

-- the numbers that wait, those visited, and the masks as last set
pub record Solver : Type 0 where
  pub waiting : List ℕ
  pub visited : ℕ → Bool
  pub masks : ℕ → ℕ → ℕ

-- what the edges to d bring of the mask m of array a
unfoldable pub brings : ℕ → ℕ → ℕ → List Arc → ℕ
brings d a m [] = 0
brings d a m (e ∷ es) = bit_or (cond (eqb e.to d) (step_all (e.effects a) m) 0) (brings d a m es)

unfoldable pub union_below : ℕ → (ℕ → ℕ) → ℕ
union_below zero f = 0
union_below (suc k) f = bit_or (union_below k f) (f k)

-- the union over edges from numbers visited before, with the boundary at the entry
unfoldable pub pulled : Graph → Solver → ℕ → ℕ → ℕ
pulled g st d a =
    bit_or (cond (eqb d g.entry) (g.boundary a) 0)
    (union_below g.nodes (λ p. cond (st.visited p) (brings d a (st.masks p a) (g.arcs p)) 0))

unfoldable pub changed : Graph → Solver → ℕ → Bool
changed g st d = differ g.arrays (pulled g st d) (st.masks d)

-- the number joins the back unless it waits
abbrev pub join : List ℕ → ℕ → List ℕ
join w t = cond (elem t w) w (w ++ (t ∷ []))

-- the successors that do not wait join the back, in order
unfoldable pub enqueue : List Arc → List ℕ → List ℕ
enqueue [] w = w
enqueue (e ∷ es) w = enqueue es (join w e.to)

-- one visit, of d, with w waiting behind it
unfoldable pub visit : Graph → Solver → ℕ → List ℕ → Solver
visit g st d w = record {
  waiting = cond (not (st.visited d) || changed g st d) (enqueue (g.arcs d) w) w;
  visited = upd st.visited d true;
  masks = upd st.masks d (pulled g st d);
}

-- the entry waits first; with no numbers there are no visits
unfoldable pub initial : Graph → Solver
initial g = record {
  waiting = cond (eqb g.nodes 0) [] (g.entry ∷ []);
  visited = λ d. false;
  masks = λ d a. 0;
}

-- the rule's course: so many visits, each of the front, lead from the initial state to this one
pub data Course (g : Graph) : ℕ → Solver → Type 0 where
  begins : Course g 0 (initial g)
  next_visit : {k d : ℕ} {st : Solver} {w : List ℕ} → Course g k st → st.waiting ≡ d ∷ w → Course g (k + 1) (visit g st d w)

-- it is over when nothing waits
pub record Over (g : Graph) (k : ℕ) (st : Solver) : Type 0 where
  pub course : Course g k st
  pub nothing_waits : st.waiting ≡ []

-- Term 1's bound: 1 + edges × (1 + 2 × arrays)
abbrev pub visit_bound : Graph → ℕ
visit_bound g = 1 + arc_count g * (1 + 2 * g.arrays)
