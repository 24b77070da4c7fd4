-- A row of masks pushed to a doubled number: its masks are the union of what they were and the row, the number is settled no more if they grew, and it waits.
-- Every other word is as it was.
use Rattle.std.specs.Prelude.{ℕ, ◌+◌, ◌*◌, ◌<◌, ◌≤◌, cond, List, ◌≢◌, ◌⊎◌, ◌≡◌, get_or}
use Rattle.std.specs.Int.Bits.{bit_or}
use Rattle.theory.specs.Lists.{differ}
use Rattle.theory.specs.Queue.{join}
use Rattle.statements.specs.Clauses.Layout.{queue_at}
use Rattle.statements.specs.Clauses.Ready.{Keeps}
use Rattle.solve.specs.declared.Queue.{Queue}
use Rattle.solve.specs.Clauses.Layout.{set_row, out_row, mask_row_at, state_at, waits_in, settled_in, nodes_end}
use Rattle.solve.specs.Clauses.Rows.{mask_at}
use Rattle.solve.specs.Clauses.Waiting.{Waits}

-- the masks of a number
abbrev pub masks_at : List ℕ → ℕ → ℕ → ℕ → ℕ → ℕ
masks_at ws n w d = mask_at ws w (mask_row_at n w d)

-- a row that may be pushed: one of the two for the edges at hand, or that of a number
abbrev pub Source : ℕ → ℕ → ℕ → Type 0
Source n w from = ((out_row n w ≤ from) × (from + 3 * w ≤ mask_row_at n w 0)) ⊎ ((e : ℕ) × (e < 2 * n) × (from ≡ mask_row_at n w e))

-- the row at `from` is joined to the masks of d
pub record Grown (ws vs : List ℕ) (n w from d : ℕ) : Type 0 where
  pub masks : (a : ℕ) → a < 64 * w → masks_at vs n w d a ≡ bit_or (masks_at ws n w d a) (mask_at ws w from a)
  pub settled : settled_in vs n w d ≡ cond (differ (64 * w) (masks_at vs n w d) (masks_at ws n w d)) 0 (settled_in ws n w d)
  pub waits : waits_in vs n w d ≡ waits_in ws n w d
  pub keeps : Keeps (mask_row_at n w d) (state_at n w d + 1) ws vs

-- and d waits
pub record Pushed (ws vs : List ℕ) (n w : ℕ) (queue : Queue) (from d : ℕ) (r : Queue) : Type 0 where
  pub masks : (a : ℕ) → a < 64 * w → masks_at vs n w d a ≡ bit_or (masks_at ws n w d a) (mask_at ws w from a)
  pub others : (e a : ℕ) → e < 2 * n → e ≢ d → a < 64 * w → masks_at vs n w e a ≡ masks_at ws n w e a
  pub settled : settled_in vs n w d ≡ cond (differ (64 * w) (masks_at vs n w d) (masks_at ws n w d)) 0 (settled_in ws n w d)
  pub others_settled : (e : ℕ) → e < 2 * n → e ≢ d → settled_in vs n w e ≡ settled_in ws n w e
  pub rows : (x : ℕ) → set_row n ≤ x → x < mask_row_at n w 0 → get_or vs x 0 ≡ get_or ws x 0
  pub waits : (l : List ℕ) → Waits ws n w queue l → Waits vs n w r (join l d)
  pub keeps : Keeps (queue_at n) (nodes_end n w) ws vs
