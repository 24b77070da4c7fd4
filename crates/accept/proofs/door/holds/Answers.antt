-- The table is loaded, the boundary joined to the entry's masks, and every row sent along its edges: all numbers are settled then exactly when the table is held.
-- Assumes nothing.
use Prim.Native.Nat.{ℕ, ◌+◌, ◌*◌, ◌<◌, ◌≤◌}
use mathlib.Core.Bool.{◌&&◌}
use mathlib.Core.List.{List}
use mathlib.Core.Logic.{inl}
use mathlib.Core.Path.{◌≡◌, sym, ap, subst, ◌∙◌}
use native.Mathlib.Nat.{zero-add}
use native.Mathlib.Omega.{arith}
use lib.ListN.{length}
use Rattle.flow.specs.declared.Header.{Header}
use Rattle.flow.specs.Flow.{size}
use Rattle.flow.specs.Format.{flow_of}
use Rattle.theory.specs.Lists.{all_below}
use Rattle.theory.specs.Accept.{proposed, entry_held, row_held, all_held}
use Rattle.statements.specs.Clauses.Layout.{queue_at, set_words}
use Rattle.statements.specs.Clauses.Ready.{Keeps}
use Rattle.statements.proofs.Keeps.{ready-most, ready-size}
use Rattle.statements.proofs.WellFormed.{well_formed, entry_is}
use Rattle.solve.specs.Clauses.Layout.{back_row, nodes_end, area_end}
use Rattle.solve.specs.Clauses.Pushed.{Grown}
use Rattle.solve.proofs.Room.{row_first, nodes-room}
use Rattle.dataflow.specs.Clauses.Phases.{SolverStart}
use Rattle.dataflow.specs.Clauses.Solving.{RowBegun}
use Rattle.dataflow.proofs.Headers.{narrow, arrays_told, arrays-few}
use Rattle.dataflow.proofs.Kept.{indexed_stays, linked-stays, key-stays}
use Rattle.accept.specs.Clauses.Bytes.{Masks}
use Rattle.accept.specs.Clauses.Rows.{Loaded}
use Rattle.accept.specs.Clauses.Table.{Bytes, nothing, Passing, Edged}
use Rattle.accept.proofs.Judging.{table_bytes}
use Rattle.accept.proofs.Starting.{zero_begun, passing_start, start_keeps}
use Rattle.accept.proofs.door.holds.Goals as goal

-- what the header says
module _ {s ws : List ℕ} {h : Header} (r : SolverStart s h ws) where
  wide : (flow_of s).arrays ≤ 64 * set_words h.arrays
  wide = omega (arith, arrays_told r.indexed)

  entry : h.entry.0 ≡ (flow_of s).entry
  entry = ap (λ h. h.entry.0) r.indexed.header ∙ sym (entry_is s)

  within : h.entry.0 < h.statements
  within =
      let e = (well_formed r.indexed.ready.fit).entry (subst (λ (k : ℕ). 0 < k) (sym (ready-size r.indexed.ready)) r.some) in
      omega (arith, e, entry, ready-size r.indexed.ready)

  -- an area of this length has room for the numbers' words
  roomy : {w : ℕ} (vs : List ℕ) → w ≡ set_words h.arrays → length vs ≡ length ws → nodes_end h.statements w ≤ length vs
  roomy vs is e = let room = nodes-room r.indexed.ready r.some (narrow r.indexed is) in omega (arith, room, e)

  bytes : {p : List ℕ} → Masks p (2 * (h.statements * h.arrays)) → Bytes (flow_of s) (proposed (flow_of s) p)
  bytes {p} m = table_bytes (flow_of s) p h.statements h.arrays (ready-size r.indexed.ready) (arrays_told r.indexed) m

-- the boundary stands in the row behind the edges at hand
begun : (s : List ℕ) (h : Header) {ws us : List ℕ} {w row : ℕ} → w ≡ set_words h.arrays → row ≡ back_row h.statements w → RowBegun (flow_of s) ws us h.statements w row
    → RowBegun (flow_of s) ws us h.statements (set_words h.arrays) (back_row h.statements (set_words h.arrays))
begun s h {ws} {us} {w} is at b =
    let n : ℕ = h.statements in
    subst (λ (w : ℕ). RowBegun (flow_of s) ws us n w (back_row n w)) is (subst (λ (row : ℕ). RowBegun (flow_of s) ws us n w row) at b)

-- and is joined to the masks of the entry
grown : (h : Header) {us vs : List ℕ} {w row d : ℕ} → w ≡ set_words h.arrays → row ≡ back_row h.statements w → d ≡ h.entry.0 → Grown us vs h.statements w row d
    → Grown us vs h.statements (set_words h.arrays) (back_row h.statements (set_words h.arrays)) h.entry.0
grown h {us} {vs} {w} {row} is at first g =
    let n : ℕ = h.statements in
    subst (λ (w : ℕ). Grown us vs n w (back_row n w) h.entry.0) is
    (subst (λ (row : ℕ). Grown us vs n w row h.entry.0) at (subst (λ (d : ℕ). Grown us vs n w row d) first g))

-- so the pass over the edges begins, with nothing waiting
module _ {s p ws us vs xs : List ℕ} {h : Header} {w row d : ℕ} (r : SolverStart s h ws) (m : Masks p (2 * (h.statements * h.arrays))) (is : w ≡ set_words h.arrays) (at : row ≡ back_row h.statements w)
    (b : RowBegun (flow_of s) ws us h.statements w row) (l : Loaded p us vs h.statements h.arrays (2 * h.statements)) (first : d ≡ 0 + h.entry.0) (g : Grown vs xs h.statements w row d) where
  passing : Passing (flow_of s) (proposed (flow_of s) p) xs h.statements w nothing 0
  passing =
      let n : ℕ = h.statements in
      subst (λ (w : ℕ). Passing (flow_of s) (proposed (flow_of s) p) xs n w nothing 0) (sym is)
      (passing_start (flow_of s) p ws us vs xs n h.arrays h.entry.0 (arrays_told r.indexed) (ready-size r.indexed.ready) r.some (entry r) (within r) (wide r) (bytes r m)
      r.linked r.zero (begun s h is at b) l (grown h is at (first ∙ zero-add h.entry.0) g))

  keeps : Keeps (queue_at h.statements) (area_end h.statements (set_words h.arrays)) ws xs
  keeps =
      start_keeps (flow_of s) p ws us vs xs h.statements h.arrays h.entry.0 (arrays_told r.indexed) (ready-size r.indexed.ready) r.some (entry r) (within r) (wide r) (bytes r m)
      r.linked r.zero (begun s h is at b) l (grown h is at (first ∙ zero-add h.entry.0) g)

  edged : Edged s h xs
  edged = record { indexed = indexed_stays keeps r.indexed; linked = linked-stays keeps r.linked; key = key-stays keeps r.key; some = r.some }

pub set_words-width-requires : goal.set_words-width-requires
set_words-width-requires c = arrays-few c.requires.0.indexed

pub invariant_of-layout : goal.invariant_of-layout
invariant_of-layout c = let x = c.requires.0.indexed in record { few = ready-most x.ready; narrow = narrow x c.set_words-width.ensures }

pub load_rows-requires : goal.load_rows-requires
load_rows-requires c =
    let r = c.requires.0 in
    let is = c.set_words-width.ensures in
    let us : List ℕ = c.begin_row.new.work in
    (ready-most r.indexed.ready, arrays-few r.indexed, subst (λ (w : ℕ). nodes_end c.args.h.statements w ≤ length us) is (roomy r us is c.begin_row.ensures.size), c.requires.1, zero_begun (begun c.args.file.now c.args.h is c.back_row-back.ensures c.begin_row.ensures) r.zero)

pub node-requires : goal.node-requires
node-requires c = (ready-most c.requires.0.indexed.ready, within c.requires.0)

pub grow-requires : goal.grow-requires
grow-requires c =
    let r = c.requires.0 in
    let n : ℕ = c.args.h.statements in
    let w : ℕ = c.set_words-width.result in
    let is = c.set_words-width.ensures in
    let row = c.back_row-back.ensures in
    (roomy r c.load_rows.new.work is (c.load_rows.ensures.keeps.size ∙ c.begin_row.ensures.size), omega (arith, c.node.ensures, within r), inl (omega arith, omega (arith, row_first n w)))

pub pass_rows-requires : goal.pass_rows-requires
pass_rows-requires c =
    let f = flow_of c.args.file.now in
    let r = c.requires.0 in
    let m = c.requires.1 in
    let is = c.set_words-width.ensures in
    let row = c.back_row-back.ensures in
    let b = c.begin_row.ensures in
    let l = c.load_rows.ensures in
    (is, edged r m is row b l c.node.ensures c.grow.ensures, (proposed f c.args.proposal.now, bytes r m, passing r m is row b l c.node.ensures c.grow.ensures))

pub all_settled-requires : goal.all_settled-requires
all_settled-requires c =
    let r = c.requires.0 in
    let is = c.set_words-width.ensures in
    let before = keeps r c.requires.1 is c.back_row-back.ensures c.begin_row.ensures c.load_rows.ensures c.node.ensures c.grow.ensures in
    (roomy r c.pass_rows.new.work is (c.pass_rows.ensures.keeps.size ∙ before.size))

pub returns : goal.returns
unfolding all_held
returns c =
    let f = flow_of c.args.file.now in
    let t = proposed f c.args.proposal.now in
    let r = c.requires.0 in
    let m = c.requires.1 in
    let twice : 2 * c.args.h.statements ≡ size f + size f = omega (arith, ready-size r.indexed.ready) in
    let passes = passing r m c.set_words-width.ensures c.back_row-back.ensures c.begin_row.ensures c.load_rows.ensures c.node.ensures c.grow.ensures in
    c.all_settled.ensures ∙ c.pass_rows.ensures.told t (bytes r m) passes ∙ ap (λ (k : ℕ). entry_held f t && all_below k (row_held f t)) twice
