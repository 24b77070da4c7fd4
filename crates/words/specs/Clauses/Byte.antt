-- The bytes of a word, the lowest first. Assumes nothing.
use Rattle.std.specs.Prelude.{ℕ, zero, suc, ◌+◌, ◌*◌, ◌/◌, ◌%◌, ◌^◌}

unfoldable pub byte_of : ℕ → ℕ → ℕ
byte_of word place = word / 2 ^ (8 * place) % 256

-- the number whose k bytes are f 0, f 1, ..
unfoldable pub bytes : (ℕ → ℕ) → ℕ → ℕ
bytes f zero = 0
bytes f (suc k) = f 0 + 256 * bytes (λ j. f (suc j)) k
