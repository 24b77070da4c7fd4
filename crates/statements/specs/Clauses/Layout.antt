-- The work area of a flow of n statements: offsets, parts of the lines, sure arrays, calls, bodies, the matrix of statement sets, the lists of what calls enter, the queue, the row of entered statements,
-- and the words of the solver, whose layout is crate solve's. The matrix has n rows of `row_words n` words; all fits into 64 × n words. Each phase writes one run of words, so that
-- what it keeps is an interval.
use Rattle.std.specs.Prelude.{ℕ, ◌+◌, ◌-◌, ◌*◌, ◌/◌}
use Rattle.flow.specs.Limits.{max_arrays}

abbrev pub offsets_at : ℕ → ℕ
offsets_at n = 0

abbrev pub lines_at : ℕ → ℕ
lines_at n = n

abbrev pub sure_at : ℕ → ℕ
sure_at n = 2 * n

abbrev pub calls_at : ℕ → ℕ
calls_at n = 3 * n

abbrev pub call_touched_at : ℕ → ℕ
call_touched_at n = 4 * n

abbrev pub bodies_at : ℕ → ℕ
bodies_at n = 5 * n

abbrev pub touched_at : ℕ → ℕ
touched_at n = 6 * n

abbrev pub matrix_at : ℕ → ℕ
matrix_at n = 7 * n

-- words of a row of statements
unfoldable pub row_words : ℕ → ℕ
row_words n = (n + 63) / 64

-- where the first k rows of the matrix end. The laws of rows are in proofs/WorkArea: a row lies in the matrix, and two rows are apart
unfoldable pub rows_end : ℕ → ℕ → ℕ
rows_end n k = matrix_at n + row_words n * k

-- row i of the matrix stands behind the i rows before it, and the lists behind all of them

abbrev pub row_at : ℕ → ℕ → ℕ
row_at n i = rows_end n i

abbrev pub lists_at : ℕ → ℕ
lists_at n = rows_end n n

-- the lists have what the matrix leaves of 41 × n words, less seven: the solver needs these besides its words for each statement
unfoldable pub list_words : ℕ → ℕ
list_words n = 41 * n - 7 - row_words n * n

abbrev pub queue_at : ℕ → ℕ
queue_at n = lists_at n + list_words n

abbrev pub entered_row_at : ℕ → ℕ
entered_row_at n = queue_at n + 2 * n

-- where the solver's words begin
abbrev pub solver_at : ℕ → ℕ
solver_at n = queue_at n + 3 * n

-- the row of all RETURNs stands in the first of these words, until the solver begins
abbrev pub returns_row_at : ℕ → ℕ
returns_row_at n = solver_at n

-- words of a set of arrays, one at the least, and the most that there may be
abbrev pub set_words : ℕ → ℕ
set_words arrays = (arrays - 1) / 64 + 1

abbrev pub max_width : ℕ
max_width = set_words max_arrays
