-- `dataflow::transfer::note_item` meets its contract: an item with dimensions joins the set, and another changes nothing.
-- By the laws of a number inserted.
use mathlib.Core.Bool.{◌&&◌}
use mathlib.Core.List.{List}
use mathlib.Core.Path.{sym, subst}
use Prim.Native.Nat.{ℕ}
use lib.Dec.{eqb}
use Rattle.dataflow.specs.Clauses.Transfer.{SetGains}
use Rattle.dataflow.proofs.Sets.{gains-item}
use Rattle.dataflow.proofs.transfer.note_item.Goals as goal

pub returns-then-x : goal.returns-then-x
returns-then-x c =
    subst (λ (vs : List ℕ). SetGains c.args.work.now vs c.args.set c.args.width (λ a. eqb c.args.x.array a && c.args.x.flag)) (sym c.insert.ensures.slice)
    (gains-item c.args.work.now c.args.set c.args.width c.args.x.array c.args.x.flag c.requires.1 c.requires.2 c.if-x.true)
