-- The words of this phase, for a flow of n statements, where the lists of calls stand later: two words for each statement, one word for each, and the row of statements that wait.
use Rattle.std.specs.Prelude.{ℕ, ◌+◌, ◌-◌, ◌*◌}
use Rattle.statements.specs.Clauses.Layout.{lists_at}

abbrev pub set_at : ℕ → ℕ → ℕ
set_at n i = lists_at n + 2 * i

abbrev pub first_at : ℕ → ℕ → ℕ
first_at n j = lists_at n + 2 * n + j

abbrev pub waiting_at : ℕ → ℕ
waiting_at n = lists_at n + 3 * n

abbrev pub words_end : ℕ → ℕ
words_end n = lists_at n + 4 * n

-- the bits of two words
abbrev pub elements : ℕ
elements = 128

-- the place of statement i in a row of this phase
abbrev pub mirror : ℕ → ℕ → ℕ
mirror n i = n - 1 - i

-- what the word of a first follower has besides where there are more of them
abbrev pub more : ℕ
more = 65536
