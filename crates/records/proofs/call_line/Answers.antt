-- The lines of a call lie within its record (`call-line-fits`). Assumes nothing.
use native.Mathlib.Omega.{arith}
use Rattle.records.specs.Clauses.Fields.{call_line_at}
use Rattle.records.proofs.KindData.{call-line-fits}
use Rattle.records.proofs.call_line.Goals as goal

pub overflow_mul-k : goal.overflow_mul-k
overflow_mul-k c = omega (arith, call-line-fits c.requires.0 c.args.k c.requires.1)

pub overflow_add-lines_place : goal.overflow_add-lines_place
overflow_add-lines_place c = omega (arith, call-line-fits c.requires.0 c.args.k c.requires.1)

pub u16_at-requires : goal.u16_at-requires
u16_at-requires c = omega (arith, call-line-fits c.requires.0 c.args.k c.requires.1)

pub returns : goal.returns
unfolding call_line_at
returns c = cc
