-- `spread` meets its contract, by its law at the 256 values; the sum does not wrap, since no more bits are kept than the mask has. Assumes nothing.
use Rattle.dataflow.proofs.MaskBytes.{spread-bytes}
use Rattle.dataflow.proofs.write.spread.Goals as goal

pub returns : goal.returns
returns c = spread-bytes c.args.bits c.requires
