-- What the bits that are left make of the rows is what those of the whole word make of them. As many turns are left as bits.
use Rattle.std.specs.Prelude.{List, ℕ, ◌≡◌, ◌<◌, ◌^◌, length}
use Rattle.words.specs.Clauses.Row.{bit, tally}
use Rattle.statements.specs.Clauses.Layout.{queue_at}
use Rattle.calls.specs.Clauses.Joins.{Gains, in_word}
use Rattle.calls.proofs.returns.note_word.Given as goal

abbrev pub invariant-loop-rest : goal.invariant-loop-rest
invariant-loop-rest l =
    (length l.work ≡ length l.initial.work)
    × (l.rest < 2 ^ 64)
    × ((vs : List ℕ) → Gains l.work vs l.layout.n (queue_at l.layout.n) (in_word l.rest l.j) l.fn.k.0 → Gains l.initial.work vs l.layout.n (queue_at l.layout.n) (in_word l.word l.j) l.fn.k.0)

abbrev pub decreases-loop-rest : goal.decreases-loop-rest
decreases-loop-rest l = tally (bit l.rest) 64
