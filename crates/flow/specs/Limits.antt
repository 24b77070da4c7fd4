-- The limits of document 01, each named once. A file, its statements, arrays and names may be as many as these and no more;
-- `work_words` and the rest are the sizes that refusal 10 asks of the lent areas.
use Rattle.std.specs.Prelude.{ℕ, ◌*◌}

abbrev pub max_file : ℕ
max_file = 262144

abbrev pub max_statements : ℕ
max_statements = 2048

abbrev pub max_arrays : ℕ
max_arrays = 64

abbrev pub max_names : ℕ
max_names = 64

abbrev pub max_kind : ℕ
max_kind = 6

-- a continuation with this value means none
abbrev pub no_continuation : ℕ
no_continuation = 65535

-- words of the work area for each statement, and for a flow of n statements
abbrev pub work_per_statement : ℕ
work_per_statement = 64

abbrev pub work_words : ℕ → ℕ
work_words n = work_per_statement * n
