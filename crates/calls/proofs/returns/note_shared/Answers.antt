-- One word of the row after the other. Assumes nothing.
use Prim.Native.Nat.{ℕ, ◌+◌, ◌<◌}
use mathlib.Core.Path.{subst}
use native.Mathlib.Omega.{arith}
use lib.Bits.{bit_and}
use lib.ListN.{length, get_or}
use Rattle.statements.specs.Clauses.Layout.{queue_at}
use Rattle.statements.proofs.WorkArea.{row-words-le, area-fits}
use Rattle.calls.specs.Clauses.Joins.{Gains, in_word}
use Rattle.calls.proofs.Gathered.{noting_on, noting_done}
use Rattle.calls.proofs.returns.note_shared.Goals as goal
use Rattle.calls.proofs.returns.note_shared.Goals.{In-loop-j}

-- word j lies in the row of RETURNs
inside : (c : In-loop-j) → c.returns_row-returns.result + c.loop-j.j < length c.loop-j.work
inside c =
    let a = c.requires.0 in
    let n : ℕ = c.args.layout.n in
    omega (arith, c.returns_row-returns.ensures, c.row_words-width.ensures, c.loop-j.invariant.gains.kept.size, row-words-le n, area-fits {n = n} (omega (arith, row-words-le n)) a.few, a.room)

pub overflow_add-word-in-loop-j : goal.overflow_add-word-in-loop-j
overflow_add-word-in-loop-j c = omega (arith, inside (goal.at.overflow_add-word-in-loop-j c).In-loop-j)

pub offset_bounds-work-returns : goal.offset_bounds-work-returns
offset_bounds-work-returns c = omega (arith, inside (goal.at.offset_bounds-work-returns c).In-loop-j)

pub bounds-work-returns : goal.bounds-work-returns
bounds-work-returns c = inside (goal.at.bounds-work-returns c).In-loop-j

pub loop-j-preserved : goal.loop-j-preserved
loop-j-preserved c =
    let a = c.args in
    let Noted : ℕ → Type 0 = λ returns. Gains c.loop-j.work c.note_word.new.work a.layout.n (queue_at a.layout.n) (in_word (bit_and (get_or c.loop-j.work (a.row + c.loop-j.j) 0) (get_or c.loop-j.work (returns + c.loop-j.j) 0)) c.loop-j.j) a.k.0 in
    noting_on c.loop-j.invariant c.requires.1 (omega (arith, c.loop-j-test.true, c.row_words-width.ensures)) (subst Noted c.returns_row-returns.ensures c.note_word.ensures)

pub returns : goal.returns
returns c = noting_done c.loop-j.invariant (omega (arith, c.loop-j-test.false, c.row_words-width.ensures))
