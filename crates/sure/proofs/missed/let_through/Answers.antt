-- `missed::let_through` meets its contract: the complement of the references, and with the first word of the body's set where one is asked.
-- Assumes nothing.
use native.Mathlib.Omega.{arith}
use Rattle.sure.proofs.Reading.{asks_body, asks_none}
use Rattle.sure.proofs.Sets.{through-free, through-body}
use Rattle.sure.proofs.missed.let_through.Goals as goal

pub set_of-requires : goal.set_of-requires
set_of-requires c =
    let asks = asks_body c.args.work.now c.args.layout.n c.args.i.0 c.sure.ensures c.body_of.ensures c.in-Some.b c.in-Some.is in
    (c.requires.1, omega (arith, asks, c.requires.3))

pub returns-in-Some : goal.returns-in-Some
returns-in-Some c =
    let asks = asks_body c.args.work.now c.args.layout.n c.args.i.0 c.sure.ensures c.body_of.ensures c.in-Some.b c.in-Some.is in
    through-body c.references_word-others.ensures c.in-Some.b.0 asks c.set_of.ensures.0

pub returns-in-None : goal.returns-in-None
returns-in-None c =
    through-free c.references_word-others.ensures (asks_none c.args.work.now c.args.layout.n c.args.i.0 c.sure.ensures c.body_of.ensures c.in-None.is)
