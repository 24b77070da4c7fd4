-- Document 01, "Flows worked through": what the listing program prints, byte by byte. First n, arrays, names; then a line a statement; for a refusal
-- its number and place; for an input that is too long `L` alone. Digits are those of the toolchain's `io`.
use Rattle.std.specs.Prelude.{ℕ, zero, suc, ◌/◌, cond, List, [], ◌∷◌, ◌++◌, ltb}
use Rattle.io.specs.Digits.{last_digits, hex_digit_ascii}
use Rattle.flow.specs.declared.Refusal.{Refusal}
use Rattle.flow.specs.Flow.{Flow, size, statement}
use Rattle.flow.specs.Format.{Verdict, fit, unfit, tabulate, letter_f, letter_l}
use Rattle.flow.specs.Refusals.{number_of, place_of}
use Rattle.theory.specs.Lists.{concat_map, up_to}
use Rattle.theory.specs.Computed.{mask_of}
use Rattle.theory.specs.Live.{live_in_word, live_out_word}

-- ASCII; `F` and `L` are letters of marks too

abbrev pub newline : ℕ
newline = 10

abbrev pub space : ℕ
space = 32

abbrev pub dash : ℕ
dash = 45

abbrev pub letter_r : ℕ
letter_r = 82

-- how many decimal digits n takes; n of them are enough beyond the first
unfoldable pub places_within : ℕ → ℕ → ℕ
places_within zero n = 1
places_within (suc k) n = cond (ltb n 10) 1 (suc (places_within k (n / 10)))

unfoldable pub places : ℕ → ℕ
places n = places_within n n

-- decimal without leading zeros
unfoldable pub decimal : ℕ → List ℕ
decimal n = last_digits 10 (places n) n

-- hexadecimal, 16 lowercase digits
unfoldable pub hexadecimal : ℕ → List ℕ
hexadecimal w = last_digits 16 16 w

-- one space parts the fields of a line, and a newline ends it
unfoldable pub line_of : List (List ℕ) → List ℕ
line_of [] = newline ∷ []
line_of (x ∷ []) = x ++ (newline ∷ [])
line_of (x ∷ y ∷ ys) = x ++ (space ∷ line_of (y ∷ ys))

-- one mask digit an array, array 0 first; `-` if there are none
unfoldable pub mask_digits : ℕ → (ℕ → ℕ) → List ℕ
mask_digits zero mask = dash ∷ []
mask_digits (suc k) mask = tabulate (suc k) (λ a. hex_digit_ascii (mask a))

-- `F`, n, arrays, names
unfoldable pub first_line : Flow → List ℕ
first_line f = line_of ((letter_f ∷ []) ∷ decimal (size f) ∷ decimal f.arrays ∷ decimal f.names ∷ [])

-- statement, line, mask digits, live-in, live-out
unfoldable pub statement_line : Flow → (ℕ → ℕ → ℕ) → (ℕ → ℕ) → (ℕ → ℕ) → ℕ → List ℕ
statement_line f mask live_in live_out i =
    line_of
    (decimal i
    ∷ decimal (statement f i).line
    ∷ mask_digits f.arrays (mask i)
    ∷ hexadecimal (live_in i)
    ∷ hexadecimal (live_out i)
    ∷ [])

-- a flow with its masks and live sets
unfoldable pub flow_text : Flow → (ℕ → ℕ → ℕ) → (ℕ → ℕ) → (ℕ → ℕ) → List ℕ
flow_text f mask live_in live_out = first_line f ++ concat_map (statement_line f mask live_in live_out) (up_to (size f))

-- `R`, number, place
unfoldable pub refusal_text : Refusal → List ℕ
refusal_text r = line_of ((letter_r ∷ []) ∷ decimal (number_of r) ∷ decimal (place_of r) ∷ [])

-- `L` alone
abbrev pub long_text : List ℕ
long_text = line_of ((letter_l ∷ []) ∷ [])

-- what is printed for a file, by the verdict on it
unfoldable pub listing : Verdict → Flow → List ℕ
listing fit f = flow_text f (mask_of f) (live_in_word f) (live_out_word f)
listing (unfit r) f = refusal_text r
