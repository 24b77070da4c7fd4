-- The body was entered before, is a RETURN, or is opened and its walk put into its row, which is zeroed first. Assumes nothing.
use Prim.Native.Nat.{ℕ, ◌+◌, ◌<◌, ◌≤◌}
use mathlib.Core.List.{List}
use mathlib.Core.Path.{◌≡◌, sym, ap, ◌∙◌, subst}
use native.Mathlib.Omega.{arith}
use lib.ListN.{length, get_or, set}
use Rattle.flow.specs.Format.{flow_of, statements_of}
use Rattle.statements.specs.Clauses.Layout.{bodies_at, matrix_at, row_at, row_words}
use Rattle.statements.specs.Clauses.Ready.{Ready, Keeps}
use Rattle.statements.proofs.WorkArea.{row_from, row_fits}
use Rattle.statements.proofs.Keeps.{ready-keeps, ready-room, keeps-set, ready_formed, ready-size}
use Rattle.calls.specs.Clauses.Held.{opened, transparent, Empty, EmptyRow, Walked}
use Rattle.calls.specs.Clauses.Summing.{body, BodySummed}
use Rattle.calls.proofs.Checked.{ready-again}
use Rattle.calls.proofs.Walking.{walked-after}
use Rattle.calls.proofs.Summing.{body_open, onward_open, summing_open}
use Rattle.calls.proofs.BodySummary.{return_done}
use Rattle.calls.proofs.summary.enter.Goals as goal

-- where the state of body e stands, of n statements as they were counted

at-body : {n m at : ℕ} → at ≡ bodies_at n → n ≡ m → at ≡ bodies_at m
at-body place count = place ∙ ap bodies_at count

state : {at : ℕ} (m : ℕ) (ws : List ℕ) (e : ℕ) → at ≡ bodies_at m → get_or ws (at + e) 0 ≡ body ws m e
state m ws e place = ap (λ (x : ℕ). get_or ws (x + e) 0) place

-- the body is opened
module _ {s ws : List ℕ} {n at e : ℕ} (r : Ready s ws (statements_of s)) (below : e < statements_of s) (place : at ≡ bodies_at n) (count : n ≡ statements_of s) where
  opens-keeps : Keeps (statements_of s) (matrix_at (statements_of s)) ws (set ws (at + e) opened)
  opens-keeps = keeps-set ws (at + e) opened (omega (arith, at-body place count)) (omega (arith, at-body place count))

  -- its row is zeroed
  module _ {vs : List ℕ} {row : ℕ} (row_is : row ≡ row_at n e) (z : Empty vs n row × Keeps row (row + row_words n) (set ws (at + e) opened) vs) where
    emptied : EmptyRow vs (statements_of s) e × Keeps (row_at (statements_of s) e) (row_at (statements_of s) e + row_words (statements_of s)) (set ws (at + e) opened) vs
    emptied =
        subst (λ (m : ℕ). EmptyRow vs m e × Keeps (row_at m e) (row_at m e + row_words m) (set ws (at + e) opened) vs) count
        (subst (λ (x : ℕ). Empty vs n x × Keeps x (x + row_words n) (set ws (at + e) opened) vs) row_is z)

    ready : Ready s vs (statements_of s)
    ready = ready-keeps (ready-keeps r opens-keeps (omega arith)) emptied.1 (omega (arith, row_from (statements_of s) e))

    -- its walk is in its row
    is-walked : {us : List ℕ} → Walked (flow_of s) vs us n e → Walked (flow_of s) (set ws (bodies_at (statements_of s) + e) opened) us (statements_of s) e
    is-walked {us} w =
        subst (λ (x : ℕ). Walked (flow_of s) (set ws (x + e) opened) us (statements_of s) e) (at-body place count)
        (walked-after below emptied.1 (subst (λ (m : ℕ). Walked (flow_of s) vs us m e) count w))

pub returns-then-is_return : goal.returns-then-is_return
returns-then-is_return c =
    let a = c.args in
    let n = statements_of a.file.now in
    let e = a.e.0 in
    let r = c.requires.0 in
    let count = c.layout_of-layout.ensures in
    subst (λ (x : ℕ). BodySummed (flow_of a.file.now) a.work.now (set c.pass_by.new.work (x + e) transparent) n e) (sym (at-body c.bodies.ensures count))
    (return_done (ready_formed r) (ready-size r) c.requires.2 (omega (arith, r.room)) c.requires.1 (sym (state (statements_of c.args.file.now) c.args.work.now c.args.e.0 (at-body c.bodies.ensures count)) ∙ c.if-work-at.false)
    (sym c.is_return.ensures ∙ c.if-is_return.true) c.pass_by.ensures)

pub zero_row-requires : goal.zero_row-requires
zero_row-requires c =
    let count = c.layout_of-layout.ensures in
    let r = ready-again count c.requires.0 in
    let l : c.args.e.0 < c.layout_of-layout.result.n = omega (arith, count, c.requires.1) in
    (omega (arith, c.row.ensures, row_fits _ l, ready-room r (omega arith), (opens-keeps c.requires.0 c.requires.1 c.bodies.ensures count).size))

pub walk-requires : goal.walk-requires
walk-requires c =
    let count = c.layout_of-layout.ensures in
    let p = c.requires in
    (ready-again count (ready p.0 p.1 c.bodies.ensures count c.row.ensures c.zero_row.ensures), rw count p.1, rw count (emptied p.0 p.1 c.bodies.ensures count c.row.ensures c.zero_row.ensures).0)

pub returns : goal.returns
returns c =
    let p = c.requires in
    let r = p.0 in
    let room : matrix_at (statements_of c.args.file.now) ≤ length c.args.work.now = omega (arith, r.room) in
    let count = c.layout_of-layout.ensures in
    let walked = is-walked r p.1 c.bodies.ensures count c.row.ensures c.zero_row.ensures c.walk.ensures in
    record {
      summing = summing_open (ready_formed r) (ready-size r) p.2 room p.1 walked;
      onward = onward_open (ready_formed r) (ready-size r) p.2 room p.1 walked;
      was = sym (state (statements_of c.args.file.now) c.args.work.now c.args.e.0 (at-body c.bodies.ensures count)) ∙ c.if-work-at.false;
      is = body_open (ready_formed r) (ready-size r) p.2 room p.1 walked;
    }
