-- The words of the doubled numbers and the rows of what was sent lie one behind the other, and all of them fit into the work area that refusal 10 asks for.
-- By the laws of products, and the place of the queue.
use Prim.Native.Nat.{ℕ, ◌+◌, ◌*◌, ◌≤◌, ◌<◌}
use native.Mathlib.Decide.{dec_lt}
use native.Mathlib.Nat.{le_refl, mul-zero, mul-suc, mul-le-mul_left, mul-le-mul_right}
use native.Mathlib.Omega.{arith}
use mathlib.Core.List.{List}
use mathlib.Core.Logic.{◌≢◌}
use mathlib.Core.Path.{◌≡◌}
use lib.ListN.{length}
use Rattle.flow.specs.Limits.{max_statements, work_words}
use Rattle.statements.specs.Clauses.Layout.{max_width}
use Rattle.statements.specs.Clauses.Ready.{Ready}
use Rattle.statements.proofs.Keeps.{ready-most}
use Rattle.statements.proofs.WorkArea.{queue-place, queue-below}
use Rattle.solve.specs.Clauses.Layout.{back_row, mask_row_at, state_at, nodes_end, sent_row_at, area_end, key_at}

module _ (n w : ℕ) where
  -- the words of a number end where those of a later one begin, or before
  pub rows_apart : {d k : ℕ} → d < k → state_at n w d + 1 ≤ mask_row_at n w k
  rows_apart {d} {k} l = omega (arith, mul-suc w d, mul-le-mul_left w l)

  -- the first row stands behind those for the edges at hand
  pub row_first : back_row n w + 3 * w ≤ mask_row_at n w 0
  row_first = omega (arith, mul-zero w)

  pub row_from : (d : ℕ) → back_row n w + 3 * w ≤ mask_row_at n w d
  row_from d = omega arith

  -- the words of a number end where all of them do, or before
  pub row_fits : {d : ℕ} → d < 2 * n → state_at n w d + 1 ≤ nodes_end n w
  row_fits l = rows_apart l

  pub nodes-within : nodes_end n w ≤ area_end n w
  nodes-within = omega arith

  -- a word of a number before its state is no number's state
  pub not-state : (e x : ℕ) → mask_row_at n w e ≤ x → x < state_at n w e → (d : ℕ) → x ≢ state_at n w d
  not-state e x lo hi d q = go (dec_lt d e) (dec_lt e d)
    where
      go : Dec (d < e) → Dec (e < d) → ⊥
      go (yes l) b = omega (arith, rows_apart l)
      go (no l) (yes m) = omega (arith, rows_apart m)
      go (no l) (no m) = let same : d ≡ e = omega (arith, l, m) in let here : state_at n w d ≡ state_at n w e = rw same in omega arith

  -- the rows of what was sent

  pub sent-apart : {i k : ℕ} → i < k → sent_row_at n w i + 3 * w ≤ sent_row_at n w k
  sent-apart {i} {k} l = omega (arith, mul-suc w i, mul-le-mul_left w l)

  pub sent-from : (i : ℕ) → nodes_end n w ≤ sent_row_at n w i
  sent-from i = omega arith

-- no place in the area is too large
pub node-below : {n w k : ℕ} → n ≤ max_statements → w ≤ max_width → k ≤ 2 * n → mask_row_at n w k ≤ 59 * n + 7
node-below {n} {w} {k} h l b = omega (arith, queue-below h, mul-le-mul_right k l)

pub end_below : {n w k : ℕ} → n ≤ max_statements → w ≤ max_width → k ≤ n → sent_row_at n w k ≤ 62 * n + 7
end_below {n} {w} {k} h l b = omega (arith, node-below h l (le_refl (2 * n)), mul-le-mul_right k l)

pub solver_fits : {n w : ℕ} → 0 < n → n ≤ max_statements → w ≤ max_width → area_end n w ≤ work_words n
solver_fits {n} {w} p h l = omega (arith, queue-place p h, mul-le-mul_right (2 * n) l, mul-le-mul_right n l)

pub solver_room : {s ws : List ℕ} {n w : ℕ} → Ready s ws n → 0 < n → w ≤ max_width → area_end n w ≤ length ws
solver_room r p l = let room = r.room in omega (arith, solver_fits p (ready-most r) l)

-- and the handler's set behind its words
pub key-room : {s ws : List ℕ} {n w : ℕ} → Ready s ws n → 0 < n → w ≤ max_width → key_at n w + w ≤ length ws
key-room {n = n} {w = w} r p l = let room = r.room in omega (arith, queue-place p (ready-most r), mul-le-mul_right (2 * n) l, mul-le-mul_right n l)

pub nodes-room : {s ws : List ℕ} {n w : ℕ} → Ready s ws n → 0 < n → w ≤ max_width → nodes_end n w ≤ length ws
nodes-room {n = n} {w = w} r p l = omega (arith, solver_room r p l, nodes-within n w)

-- numbers without masks need less
pub bare-room : {s ws : List ℕ} {n : ℕ} → Ready s ws n → 0 < n → nodes_end n 0 ≤ length ws
bare-room r p = nodes-room r p (omega arith)
