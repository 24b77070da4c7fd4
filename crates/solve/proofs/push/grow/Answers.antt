-- `solve::push::grow` meets its contract: the rows are joined, and where the number's row grew, its state says no more that it is settled, and of waiting what it said.
-- Where it did not grow, nothing is another.
use Prim.Native.Nat.{ℕ}
use mathlib.Core.List.{List}
use native.Mathlib.Omega.{arith}
use Rattle.solve.proofs.Room.{row_fits}
use Rattle.solve.proofs.Growing.{source_fits, grown_more, grown-not, union_at}
use Rattle.solve.proofs.push.grow.Goals as goal

pub union-requires : goal.union-requires
union-requires c = let at = c.mask_row.ensures in (omega (arith, row_fits c.args.layout.n c.args.layout.width c.requires.1, c.requires.0), omega (arith, source_fits c.args.layout.n c.args.layout.width c.args.from c.requires.2, c.requires.0))

pub returns-then-union : goal.returns-then-union
returns-then-union c =
    let us : List ℕ = c.union.new.ws in
    let u = union_at c.mask_row.ensures c.if-union.true c.union.ensures in
    rw (c.grown.ensures, c.state-at.ensures)
    (grown_more c.args.work.now c.args.layout.n c.args.layout.width c.args.from c.args.d.0 c.requires.0 c.requires.1 c.requires.2 (λ i. (c.slice_known-1.given i).fits) u)

pub returns-else-union : goal.returns-else-union
returns-else-union c =
    let u = union_at c.mask_row.ensures c.if-union.false c.union.ensures in
    grown-not c.args.work.now c.args.layout.n c.args.layout.width c.args.from c.args.d.0 c.requires.0 c.requires.1 c.requires.2 (λ i. (c.slice_known-1.given i).fits) u
