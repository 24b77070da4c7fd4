-- `solve::push::push` meets its contract: the rows are joined, and then the number waits, settled no more where its row grew.
-- The states lie apart from the masks.
use mathlib.Core.Path.{refl}
use native.Mathlib.Omega.{arith}
use Rattle.solve.proofs.Room.{row_fits}
use Rattle.solve.proofs.Growing.{source_fits, grown_by, waits_unioned, union_at, pushed}
use Rattle.solve.proofs.push.push.Goals as goal

pub union-grew-requires : goal.union-grew-requires
union-grew-requires c = let at = c.mask_row.ensures in (omega (arith, row_fits c.args.layout.n c.args.layout.width c.requires.1, c.requires.0), omega (arith, source_fits c.args.layout.n c.args.layout.width c.args.from c.requires.2, c.requires.0))

pub enqueue-requires : goal.enqueue-requires
enqueue-requires c =
    let u = union_at c.mask_row.ensures refl c.union-grew.ensures in
    let long = c.union-grew.auto.ws in
    let waits = waits_unioned c.args.work.now c.args.layout.n c.args.layout.width c.args.from c.args.d.0 c.requires.0 c.requires.1 c.requires.2 (λ i. (c.slice_known-1.given i).fits) u c.requires.3.1 in
    (omega (arith, c.requires.0), c.requires.1, (c.requires.3.0, waits))

pub returns : goal.returns
returns c =
    let u = union_at c.mask_row.ensures refl c.union-grew.ensures in
    pushed c.requires.1
    (grown_by c.args.work.now c.args.layout.n c.args.layout.width c.args.from c.args.d.0 c.requires.0 c.requires.1 c.requires.2 (λ i. (c.slice_known-1.given i).fits) c.union-grew.result u)
    c.enqueue.ensures
