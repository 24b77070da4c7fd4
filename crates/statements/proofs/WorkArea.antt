-- The parts of the work area: rows of the matrix lie apart and within it, a row has a word for each of its numbers, and all of them take at most 32 × n words.
-- By the bound on n, which makes a row at most 32 words.
use Prim.Native.Nat.{ℕ, ◌+◌, ◌-◌, ◌*◌, ◌/◌, ◌≤◌, ◌<◌}
use native.Mathlib.Omega.{arith}
use native.Mathlib.Decide.{dec_lt}
use native.Mathlib.Nat.{mul-suc, mul-le-mul_left, mul-le-mul_right}
use mathlib.Core.List.{List}
use mathlib.Core.Logic.{◌≢◌}
use mathlib.Core.Path.{◌≡◌}
use lib.ListN.{get_or}
use Rattle.flow.specs.Limits.{max_statements, work_words}
use Rattle.words.specs.Clauses.Row.{has}
use Rattle.words.specs.Clauses.Change.{inserted}
use Rattle.words.proofs.Row.{has-cong}
use Rattle.words.proofs.Inserted.{insert_else}
use Rattle.statements.specs.Clauses.Layout.{row_words, rows_end, row_at, lists_at, list_words, matrix_at, queue_at, solver_at}

-- Words of a row

-- the word of a member lies in its row
pub member-word : {n i : ℕ} → i < n → i / 64 < row_words n
unfolding row_words
member-word l = omega arith

pub row-holds : (n : ℕ) → n ≤ 64 * row_words n
unfolding row_words
row-holds n = omega arith

pub row-words-le : (n : ℕ) → row_words n ≤ n
unfolding row_words
row-words-le n = omega arith

pub row-words-most : {n : ℕ} → n ≤ max_statements → row_words n ≤ 32
unfolding row_words
row-words-most h = omega arith

-- Rows of the matrix

pub row_from : (n i : ℕ) → matrix_at n ≤ row_at n i
unfolding rows_end
row_from n i = omega arith

pub rows_apart : (n : ℕ) {i j : ℕ} → i < j → row_at n i + row_words n ≤ row_at n j
unfolding rows_end
rows_apart n {i} {j} l = omega (arith, mul-suc (row_words n) i, mul-le-mul_left (row_words n) l)

-- a row ends where the lists begin, or before
pub row_fits : (n : ℕ) {i : ℕ} → i < n → row_at n i + row_words n ≤ lists_at n
row_fits n l = rows_apart n l

pub row_below : {n i : ℕ} → n ≤ max_statements → i ≤ n → row_at n i ≤ 39 * n
unfolding rows_end
row_below {n} {i} h l =
    omega (arith, mul-le-mul_right i (row-words-most h), mul-le-mul_left 32 l)

pub one_word : {n : ℕ} → n < 8 → row_at n n ≤ 8 * n
unfolding rows_end row_words
one_word {n} l = let one : (n + 63) / 64 ≤ 1 = omega arith in omega (arith, mul-le-mul_right n one)

-- rows and lists together end at one place for all n
pub queue-place : {n : ℕ} → 0 < n → n ≤ max_statements → queue_at n ≡ 48 * n - 7
unfolding rows_end list_words
queue-place {n} p h = omega (arith, mul-le-mul_right n (row-words-most h))

pub queue-below : {n : ℕ} → n ≤ max_statements → queue_at n ≤ 48 * n
unfolding rows_end list_words
queue-below {n} h = omega (arith, mul-le-mul_right n (row-words-most h))

-- of a flow with statements, the parts below the solver's and a set of doubled numbers fit into the work area that refusal 10 asks for
pub area-fits : {n : ℕ} → 0 < n → n ≤ max_statements → solver_at n + n ≤ work_words n
area-fits {n} p h = omega (arith, queue-place p h)

-- Members of rows

-- a row has what the words that hold it have
pub same_row : (ws vs : List ℕ) (base width i : ℕ) → i < 64 * width
    → ((x : ℕ) → base ≤ x → x < base + width → get_or vs x 0 ≡ get_or ws x 0) → has vs base i ≡ has ws base i
same_row ws vs base width i l h = has-cong vs ws base i (h (base + i / 64) (omega arith) (omega arith))

-- a number inserted into a row of the matrix leaves the other rows
pub insert_row : (ws : List ℕ) {n i j a b : ℕ} → j ≢ i → a < n → b < n
    → has (inserted ws (row_at n i) a) (row_at n j) b ≡ has ws (row_at n j) b
insert_row ws {n} {i} {j} {a} {b} d la lb = insert_else ws (row_at n i) a (row_at n j) b (go (dec_lt i j))
  where
    go : Dec (i < j) → row_at n j + b / 64 ≢ row_at n i + a / 64
    go (yes l) e = omega (arith, rows_apart n l, member-word la)
    go (no l) e = let less : j < i = omega (arith, l, d) in omega (arith, rows_apart n less, member-word lb)
