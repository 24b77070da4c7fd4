-- The file is fit, and the areas hold an answer to it: a mask, 0 to 7, for each statement and array, and a live-in and a live-out word for each statement,
-- of which there are no more than the areas serve.
use Rattle.std.specs.Prelude.{ℕ, ◌+◌, ◌*◌, ◌≤◌, ◌<◌, List, length, get_or}
use Rattle.flow.specs.Format.{statements_of, arrays_of, flow_of}
use Rattle.flow.specs.Clauses.Answers.{FitFile}
use Rattle.theory.specs.Listing.{statement_line, flow_text}
use Rattle.listing.specs.Text.{served}
use Rattle.listing.specs.declared.lines.Areas.{Areas}

-- the word of statement i, or the mask of array i of a row
abbrev pub word_in : List ℕ → ℕ → ℕ
word_in words i = get_or words i 0

-- the mask of statement i and array a, as it was written
abbrev pub mask_byte : List ℕ → ℕ → ℕ → ℕ → ℕ
mask_byte masks arrays i a = get_or masks (i * arrays + a) 0

-- every mask is 0 to 7
pub record Small (masks : List ℕ) : Type 0 where
  pub below : (a : ℕ) → a < length masks → get_or masks a 0 < 8

pub record Room (s : List ℕ) (areas : Areas) : Type 0 where
  pub fit : FitFile s
  pub few : statements_of s ≤ served
  pub masks_room : statements_of s * arrays_of s ≤ length areas.masks.now
  pub masks_below : (i a : ℕ) → i < statements_of s → a < arrays_of s → mask_byte areas.masks.now (arrays_of s) i a < 8
  pub in_room : statements_of s ≤ length areas.live_in.now
  pub out_room : statements_of s ≤ length areas.live_out.now

-- the listing of the flow that the file stands for, with the masks and the live sets that the areas hold
abbrev pub areas_text : List ℕ → Areas → List ℕ
areas_text s areas = flow_text (flow_of s) (mask_byte areas.masks.now (arrays_of s)) (word_in areas.live_in.now) (word_in areas.live_out.now)

-- its line for statement i
abbrev pub areas_line : List ℕ → Areas → ℕ → List ℕ
areas_line s areas = statement_line (flow_of s) (mask_byte areas.masks.now (arrays_of s)) (word_in areas.live_in.now) (word_in areas.live_out.now)
