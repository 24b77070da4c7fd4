-- The word is made of the bytes from k on.
use Rattle.std.specs.Prelude.{◌≡◌, ◌-◌, ◌≤◌, length}
use Rattle.flow.specs.Format.{le_at}
use Rattle.accept.proofs.rows.short_word.Given as goal

abbrev pub invariant-loop-k : goal.invariant-loop-k
invariant-loop-k l = (l.k ≤ length l.s) × (l.word ≡ le_at (length l.s - l.k) l.s l.k)
