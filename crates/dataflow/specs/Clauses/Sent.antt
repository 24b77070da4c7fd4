-- The masks of a number go on along its edges: each edge's row is joined to the masks of its target, which waits afterwards.
-- In the order of the edges; every other word is as it was.
use Rattle.std.specs.Prelude.{ℕ, ◌+◌, ◌*◌, ◌<◌, ◌≤◌, Bool, true, cond, List, [], ◌∷◌, map, ◌⊎◌, ◌≡◌, eqb, ltb, get_or}
use mathlib.Core.Option.{none, some}
use Rattle.std.specs.Int.Bits.{bit_or}
use Rattle.words.specs.Clauses.Row.{has}
use Rattle.masks.specs.declared.Effect.{Effect}
use Rattle.flow.specs.declared.Base.TheVariants.{N}
use Rattle.flow.specs.Flow.{Flow}
use Rattle.theory.specs.Lists.{In, differ}
use Rattle.theory.specs.Body.{kind, is_return}
use Rattle.theory.specs.Doubled.{Edge, at, node, number, edges}
use Rattle.theory.specs.Queue.{Arc, enqueue, brings, step_all}
use Rattle.statements.specs.Clauses.Layout.{bodies_at, row_at, queue_at}
use Rattle.statements.specs.Clauses.Ready.{Keeps}
use Rattle.calls.specs.Clauses.Slots.{to_arc}
use Rattle.solve.specs.declared.Queue.{Queue}
use Rattle.solve.specs.Clauses.Layout.{set_row, out_row, back_row, mask_row_at, settled_in, nodes_end, sent_row_at, area_end}
use Rattle.solve.specs.Clauses.Rows.{mask_at}
use Rattle.solve.specs.Clauses.Waiting.{Waits, Enqueued}
use Rattle.solve.specs.Clauses.Pushed.{masks_at, Grown}

-- where the row of a call's edge stands: that of the statement's act, or the one with the call's own step as well
abbrev pub edge_row : ℕ → ℕ → Bool → ℕ
edge_row n w continues = cond continues (back_row n w) (out_row n w)

-- the rows that edges carry: those for the edges at hand, or that of one number
abbrev pub Sources : ℕ → ℕ → (Bool → ℕ) → Type 0
Sources n w from = ((b : Bool) → (out_row n w ≤ from b) × (from b + 3 * w ≤ mask_row_at n w 0)) ⊎ ((e : ℕ) × (e < 2 * n) × ((b : Bool) → from b ≡ mask_row_at n w e))

-- masks of the arrays below the count; the others are 0
unfoldable pub masks_below : ℕ → (ℕ → ℕ) → ℕ → ℕ
masks_below count m a = cond (ltb a count) (m a) 0

-- the rows of d's edges are made, with these effects
pub record Prepared (f : Flow) (ws vs : List ℕ) (n w d : ℕ) (effects : Edge → ℕ → List Effect) (from : Bool → ℕ) : Type 0 where
  pub keeps : Keeps (set_row n) (mask_row_at n w 0) ws vs
  pub rows : (m : ℕ → ℕ) → ((a : ℕ) → a < 64 * w → masks_at ws n w d a ≡ masks_below f.arrays m a) → (x : Edge) → In x (edges f (node f d)) → (a : ℕ) → a < 64 * w
      → mask_at vs w (from x.continues) a ≡ masks_below f.arrays (λ b. step_all (effects x b) (m b)) a

-- what the rows of the edges bring to t
unfoldable pub carried : Flow → List ℕ → ℕ → (Bool → ℕ) → List Edge → ℕ → ℕ → ℕ
carried f ws w from [] t a = 0
carried f ws w from (x ∷ xs) t a = bit_or (cond (eqb (number f x.to) t) (mask_at ws w (from x.continues) a) 0) (carried f ws w from xs t a)

-- a number is settled no more where its masks grew, and else as before
abbrev pub SettledSet : ℕ → ℕ → List ℕ → List ℕ → Type 0
SettledSet n w ws vs = (t : ℕ) → t < 2 * n
    → settled_in vs n w t ≡ cond (differ (64 * w) (masks_at vs n w t) (masks_at ws n w t)) 0 (settled_in ws n w t)

-- masks only grow
abbrev pub Grows : List ℕ → List ℕ → ℕ → ℕ → Type 0
Grows ws vs n w = (t a : ℕ) → t < 2 * n → a < 64 * w → bit_or (masks_at vs n w t a) (masks_at ws n w t a) ≡ masks_at vs n w t a

-- the rows of the edges xs of statement i are pushed along them
pub record Sent (f : Flow) (ws vs : List ℕ) (n w : ℕ) (from : Bool → ℕ) (queue : Queue) (i : ℕ) (xs : List Edge) (r : Queue) : Type 0 where
  pub waits : (l : List ℕ) → Waits ws n w queue l → Waits vs n w r (enqueue (map (to_arc f i) xs) l)
  pub masks : (t a : ℕ) → t < 2 * n → a < 64 * w → masks_at vs n w t a ≡ bit_or (masks_at ws n w t a) (carried f ws w from xs t a)
  pub settled : SettledSet n w ws vs
  pub source : (b : Bool) (a : ℕ) → a < 64 * w → mask_at vs w (from b) a ≡ mask_at ws w (from b) a
  pub keeps : Keeps (queue_at n) (nodes_end n w) ws vs

-- the continuations of the RETURN i have every state that the row at `from` has
abbrev pub MembersHold : List ℕ → ℕ → ℕ → ℕ → ℕ → Type 0
MembersHold ws n w i from = (k a : ℕ) → k < n → has ws (row_at n i) k ≡ 1 → a < 64 * w → bit_or (masks_at ws n w k a) (mask_at ws w from a) ≡ masks_at ws n w k a

-- so it is of what the leader of each RETURN has sent
pub record Shared (f : Flow) (ws : List ℕ) (n w : ℕ) : Type 0 where
  pub held : (r : ℕ) → r < n → is_return (kind f r) ≡ true → MembersHold ws n w r (sent_row_at n w (get_or ws (bodies_at n + r) 0))

-- the same as `Sent`, where what was sent may be noted too
pub record Goes (f : Flow) (ws vs : List ℕ) (n w : ℕ) (from : Bool → ℕ) (queue : Queue) (i : ℕ) (xs : List Edge) (r : Queue) : Type 0 where
  pub waits : (l : List ℕ) → Waits ws n w queue l → Waits vs n w r (enqueue (map (to_arc f i) xs) l)
  pub masks : (t a : ℕ) → t < 2 * n → a < 64 * w → masks_at vs n w t a ≡ bit_or (masks_at ws n w t a) (carried f ws w from xs t a)
  pub settled : SettledSet n w ws vs
  pub shared : Shared f vs n w
  pub keeps : Keeps (queue_at n) (area_end n w) ws vs

-- the edges of d's statement: all that d has, but for the key's
abbrev pub statement_arcs : Flow → ℕ → List Arc
statement_arcs f d = map (to_arc f (node f d).stmt) (edges f (node f d))

-- what these edges of d bring of its masks m is joined to every number's
pub record Sends (f : Flow) (ws vs : List ℕ) (n w : ℕ) (queue : Queue) (d : ℕ) (arcs : List Arc) (r : Queue) : Type 0 where
  pub waits : (l : List ℕ) → Waits ws n w queue l → Waits vs n w r (enqueue arcs l)
  pub masks : (m : ℕ → ℕ) → ((a : ℕ) → a < 64 * w → masks_at ws n w d a ≡ masks_below f.arrays m a) → (t a : ℕ) → t < 2 * n → a < 64 * w
      → masks_at vs n w t a ≡ bit_or (masks_at ws n w t a) (masks_below f.arrays (λ b. brings t b (m b) arcs) a)
  pub grows : Grows ws vs n w
  pub settled : SettledSet n w ws vs
  pub shared : Shared f vs n w
  pub keeps : Keeps (queue_at n) (area_end n w) ws vs

-- the masks of d are joined to those of n + the handler, if there is one
pub data KeyGrown (f : Flow) (ws vs : List ℕ) (n w d : ℕ) : Type 0 where
  unkeyed : f.handler ≡ none → vs ≡ ws → KeyGrown f ws vs n w d
  keyed : {e : ℕ} → f.handler ≡ some e → Grown ws vs n w (mask_row_at n w d) (number f (at N e)) → KeyGrown f ws vs n w d

-- that number waits, if there is one
pub data KeyJoined (f : Flow) (ws vs : List ℕ) (n w : ℕ) (queue r : Queue) : Type 0 where
  unkeyed : f.handler ≡ none → vs ≡ ws → r ≡ queue → KeyJoined f ws vs n w queue r
  keyed : {e : ℕ} → f.handler ≡ some e → Enqueued ws vs n w queue (number f (at N e)) r → KeyJoined f ws vs n w queue r
