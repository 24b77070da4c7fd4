-- The work area of this call, for a flow of n statements: the offsets, then two words for each statement, then the row of statements that wait.
use Rattle.std.specs.Prelude.{ℕ, ◌+◌, ◌*◌}
use Rattle.statements.specs.Clauses.Layout.{row_words}

abbrev pub set_at : ℕ → ℕ → ℕ
set_at n i = n + 2 * i

abbrev pub waiting_at : ℕ → ℕ
waiting_at n = 3 * n

abbrev pub waiting_end : ℕ → ℕ
waiting_end n = waiting_at n + row_words n

-- the bits of two words
abbrev pub elements : ℕ
elements = 128
