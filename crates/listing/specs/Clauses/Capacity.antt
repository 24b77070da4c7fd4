-- What the functions that write the text ask: there is room behind the text so far for what each appends.
use Rattle.std.specs.Prelude.{ℕ, ◌+◌, ◌*◌, ◌≤◌}
use Rattle.arrayvec.specs.ArrayVec.{array_vec_len}
use Rattle.listing.specs.Text.{served}
use Rattle.listing.specs.declared.text.Text.{Text}

-- n bytes have room
abbrev pub HasRoom : Text → ℕ → Type 0
HasRoom text n = array_vec_len text.buffer + n ≤ 11 + 108 * served
