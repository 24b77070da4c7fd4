-- One number more is loaded, and settled. Assumes nothing.
use Prim.Native.Nat.{ℕ, ◌+◌, ◌*◌, ◌≤◌}
use mathlib.Core.List.{List}
use mathlib.Core.Path.{◌≡◌, sym, ap, subst, ◌∙◌}
use native.Mathlib.Omega.{arith}
use lib.ListN.{length, set}
use Rattle.statements.specs.Clauses.Layout.{set_words}
use Rattle.solve.specs.Clauses.Layout.{mask_row_at, state_at, waits_in, nodes_end}
use Rattle.solve.specs.Clauses.Rows.{RowIs}
use Rattle.dataflow.specs.Clauses.Sent.{masks_below}
use Rattle.accept.specs.Clauses.Rows.{row_of, LoadedBefore, Loaded}
use Rattle.accept.proofs.Loading.{rows_none, rows_more, loaded_before}
use Rattle.accept.proofs.rows.load_rows.Goals as goal

-- an area of this length has room
roomy : (ws vs : List ℕ) (n arrays : ℕ) {w : ℕ} → w ≡ set_words arrays → nodes_end n (set_words arrays) ≤ length ws → length vs ≡ length ws → nodes_end n w ≤ length vs
roomy ws vs n arrays {w} is room e = let wide : nodes_end n w ≤ length ws = subst (λ (w : ℕ). nodes_end n w ≤ length ws) (sym is) room in omega arith

pub set_words-width-requires : goal.set_words-width-requires
set_words-width-requires c = c.requires.1

pub invariant_of-layout : goal.invariant_of-layout
invariant_of-layout c = record { few = c.requires.0; narrow = omega (arith, c.set_words-width.ensures, c.requires.1) }

pub loop-d-init : goal.loop-d-init
loop-d-init c = rows_none

pub load_next-requires : goal.load_next-requires
load_next-requires c =
    let x = c.loop-d in
    let is = c.set_words-width.ensures in
    (c.requires.1, is, c.loop-d-test.true, roomy c.args.work.now x.work c.args.n c.args.arrays is c.requires.2 x.invariant.keeps.size, c.requires.3, subst (λ (w : ℕ). LoadedBefore c.args.s.now x.work c.args.n w c.args.arrays x.d) (sym is) (loaded_before x.invariant (omega (arith, c.loop-d-test.true)) c.requires.4))

pub settle-requires : goal.settle-requires
settle-requires c =
    let is = c.set_words-width.ensures in
    (roomy c.args.work.now c.load_next.new.work c.args.n c.args.arrays is c.requires.2 (c.load_next.ensures.keeps.size ∙ c.loop-d.invariant.keeps.size), c.loop-d-test.true)

pub loop-d-preserved : goal.loop-d-preserved
loop-d-preserved c =
    let a = c.args in
    let x = c.loop-d in
    let is = c.set_words-width.ensures in
    let vs : List ℕ = c.load_next.new.work in
    let done = c.settle.ensures.work_after ∙ ap (λ (w : ℕ). set vs (state_at a.n w x.d) (waits_in vs a.n w x.d + 2)) is in
    let row = subst (λ (w : ℕ). RowIs x.work vs w (mask_row_at a.n w x.d) (masks_below a.arrays (row_of a.s.now a.arrays x.d))) is c.load_next.ensures in
    subst (λ (l : List ℕ). Loaded a.s.now a.work.now l a.n a.arrays (x.d + 1)) (sym done) (rows_more x.invariant c.loop-d-test.true c.requires.2 row)

pub returns : goal.returns
returns c =
    let a = c.args in
    let x = c.loop-d in
    let whole : x.d ≡ 2 * a.n = omega arith in
    subst (λ (k : ℕ). Loaded a.s.now a.work.now x.work a.n a.arrays k) whole x.invariant
