-- The two runs of words are zeroed, and both lie in the area. Assumes nothing.
use Prim.Native.Nat.{ℕ, ◌-◌}
use mathlib.Core.List.{List}
use mathlib.Core.Path.{ap, ap₂, ◌∙◌}
use native.Mathlib.Omega.{arith}
use Rattle.words.specs.Clauses.Change.{zeroed}
use Rattle.solve.specs.Clauses.Layout.{area_end}
use Rattle.solve.proofs.Room.{solver_fits}
use Rattle.dataflow.specs.Clauses.Phases.{edges_end, cleared}
use Rattle.dataflow.proofs.Phases.{edges-within}
use Rattle.dataflow.proofs.door.clear.Goals as goal

pub overflow_sub-matrix : goal.overflow_sub-matrix
overflow_sub-matrix c = omega (arith, c.lines-lines.ensures, c.matrix.ensures)

pub zero_row-requires : goal.zero_row-requires
zero_row-requires c = omega (arith, c.lines-lines.ensures, c.matrix.ensures, c.requires.1)

pub overflow_sub-end : goal.overflow_sub-end
overflow_sub-end c = omega (arith, c.edges_end-from.ensures, c.end.ensures, edges-within c.args.layout.n c.args.layout.width)

pub zero_row-requires-2 : goal.zero_row-requires-2
zero_row-requires-2 c =
    let n = c.args.layout.n in
    let w = c.args.layout.width in
    let p = c.requires in
    omega (arith, c.edges_end-from.ensures, c.end.ensures, edges-within n w, c.zero_row.auto.ws, p.1, solver_fits {w = w} p.0 c.args.layout.few c.args.layout.narrow)

pub returns : goal.returns
unfolding cleared
returns c =
    let a = c.args in
    let first = c.zero_row in
    let lines = c.lines-lines.ensures in
    let matrix = c.matrix.ensures in
    c.zero_row-2.ensures
    ∙ ap₂ (λ (f e : ℕ). zeroed first.new.ws f (e - f)) c.edges_end-from.ensures c.end.ensures
    ∙ ap (λ (v : List ℕ). zeroed v (edges_end a.layout.n) (area_end a.layout.n a.layout.width - edges_end a.layout.n)) (first.ensures ∙ ap₂ (λ (l m : ℕ). zeroed a.work.now l (m - l)) lines matrix)
