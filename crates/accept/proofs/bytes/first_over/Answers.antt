-- Where the union of all bytes is at most 7, each of them is.
use lib.ListN.{get_or, length}
use Rattle.accept.proofs.Filled.{union_most}
use native.Mathlib.Omega.{arith}
use Rattle.accept.proofs.bytes.first_over.Goals as goal

pub returns-then-join_bytes-le-ANY_STATE : goal.returns-then-join_bytes-le-ANY_STATE
returns-then-join_bytes-le-ANY_STATE c =
    record { high = omega arith; before = λ j l. omega (arith, union_most (length c.args.s.now) (λ k. get_or c.args.s.now k 0) j l, c.join_bytes.ensures); over = λ l. absurd (omega arith) }
