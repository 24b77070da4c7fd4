-- The words of the solver in the work area of a flow of n statements whose sets of arrays have w words: a set of arrays and two rows of masks for the statement at hand; then for each doubled
-- number a row of masks and a word of state, which says whether the number waits and whether it is settled; then a row of masks for each statement, of what the RETURNs that it leads have sent; then the handler's set of arrays.
-- A row of masks is three sets of arrays.
use Rattle.std.specs.Prelude.{ℕ, ◌+◌, ◌*◌, ◌/◌, ◌%◌, List, get_or}
use Rattle.statements.specs.Clauses.Layout.{solver_at}

-- the arrays that take an effect
abbrev pub set_row : ℕ → ℕ
set_row n = solver_at n

-- what goes along the edges of the statement at hand, and along the edge to base + continuation

abbrev pub out_row : ℕ → ℕ → ℕ
out_row n w = set_row n + w

abbrev pub back_row : ℕ → ℕ → ℕ
back_row n w = out_row n w + 3 * w

-- where the words of the first k doubled numbers end
abbrev pub mask_rows_end : ℕ → ℕ → ℕ → ℕ
mask_rows_end n w k = back_row n w + 3 * w + (3 * (w * k) + k)

-- the row of the doubled number d stands behind the words of the d before it, and is followed by the number's state. The laws of rows are in proofs/Room

abbrev pub mask_row_at : ℕ → ℕ → ℕ → ℕ
mask_row_at n w d = mask_rows_end n w d

abbrev pub state_at : ℕ → ℕ → ℕ → ℕ
state_at n w d = mask_row_at n w d + 3 * w

-- 1 where d waits: the state's last bit
abbrev pub waits_in : List ℕ → ℕ → ℕ → ℕ → ℕ
waits_in ws n w d = get_or ws (state_at n w d) 0 % 2

-- 1 where d was visited and its masks have not grown since: what stands before that bit
abbrev pub settled_in : List ℕ → ℕ → ℕ → ℕ → ℕ
settled_in ws n w d = get_or ws (state_at n w d) 0 / 2

-- where the words of the doubled numbers end
abbrev pub nodes_end : ℕ → ℕ → ℕ
nodes_end n w = mask_rows_end n w (2 * n)

-- what was sent along all edges of the RETURNs that statement i leads stands behind the rows of the statements before it
abbrev pub sent_row_at : ℕ → ℕ → ℕ → ℕ
sent_row_at n w i = nodes_end n w + 3 * (w * i)

-- the words that the solver writes
abbrev pub area_end : ℕ → ℕ → ℕ
area_end n w = sent_row_at n w n

-- behind them stand the arrays that the handler's body touches: w words, which the solver only reads
abbrev pub key_at : ℕ → ℕ → ℕ
key_at n w = area_end n w
