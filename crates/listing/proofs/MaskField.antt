-- The field of masks is a dash without arrays, else one digit an array; the text depends only on the masks and words of statements and arrays that there are.
-- By the cases of the definitions, field by field.
use Prim.Native.Nat.{ℕ, zero, suc, ◌+◌, ◌<◌}
use native.Mathlib.Omega.{arith}
use native.Mathlib.Numerals.{add-one}
use mathlib.Core.List.{List, [], ◌∷◌, ◌++◌}
use mathlib.Core.Path.{◌≡◌, refl, sym, ap, ap₂, ◌∙◌}
use borrow.Author.Tests.{lt-ltb}
use Rattle.std.proofs.lemmas.Grind.{common_steps}
use Rattle.records.proofs.Tabulated.{length-tabulate}
use Rattle.io.specs.Digits.{hex_digit_ascii}
use Rattle.flow.specs.Flow.{Flow, size, statement}
use Rattle.flow.specs.Format.{tabulate}
use Rattle.theory.specs.Lists.{concat_map, up_to}
use Rattle.theory.specs.Listing.{dash, decimal, hexadecimal, line_of, mask_digits, first_line, statement_line, flow_text}
use Rattle.theory.proofs.Lists.{concat_map-append}

-- one digit after the other

pub no_digits : (f : ℕ → ℕ) → tabulate 0 f ≡ []
unfolding tabulate
no_digits f = refl

pub one_digit_more : (f : ℕ → ℕ) (i : ℕ) → tabulate (i + 1) f ≡ tabulate i f ++ (f i ∷ [])
unfolding tabulate
one_digit_more f i = rw add-one refl

pub digit : (m : ℕ) → m < 8 → hex_digit_ascii m ≡ 48 + m
digit m h = rw (lt-ltb m 10 (omega arith)) refl

pub without_arrays : (k : ℕ) (mask : ℕ → ℕ) → k ≡ 0 → mask_digits k mask ≡ dash ∷ []
unfolding mask_digits
without_arrays zero mask e = refl
without_arrays (suc k) mask e = absurd (omega arith)

pub with_arrays : (k : ℕ) (mask : ℕ → ℕ) → (k ≡ 0 → ⊥) → mask_digits k mask ≡ tabulate k (λ a. hex_digit_ascii (mask a))
unfolding mask_digits
with_arrays zero mask n = absurd (n refl)
with_arrays (suc k) mask n = refl

-- for the functions that write the digits and the field

pub ruleset digit_steps = (common_steps, no_digits, one_digit_more, length-tabulate, digit)

pub ruleset mask_field = (common_steps, without_arrays, with_arrays, length-tabulate)

same-elements : (k : ℕ) (f g : ℕ → ℕ) → ((a : ℕ) → a < k → f a ≡ g a) → tabulate k f ≡ tabulate k g
unfolding tabulate
same-elements zero f g h = refl
same-elements (suc k) f g h = ap₂ (λ l x. l ++ (x ∷ [])) (same-elements k f g (λ a l. h a (omega arith))) (h k (omega arith))

pub same_masks : (k : ℕ) (m p : ℕ → ℕ) → ((a : ℕ) → a < k → m a ≡ p a) → mask_digits k m ≡ mask_digits k p
unfolding mask_digits
same_masks zero m p h = refl
same_masks (suc k) m p h = same-elements (suc k) (λ a. hex_digit_ascii (m a)) (λ a. hex_digit_ascii (p a)) (λ a l. ap hex_digit_ascii (h a l))

same_lines : (n : ℕ) (l m : ℕ → List ℕ) → ((i : ℕ) → i < n → l i ≡ m i) → concat_map l (up_to n) ≡ concat_map m (up_to n)
unfolding up_to concat_map
same_lines zero l m h = refl
same_lines (suc n) l m h =
    concat_map-append l (up_to n) (n ∷ [])
    ∙ ap₂ (λ x y. x ++ (y ++ [])) (same_lines n l m (λ i k. h i (omega arith))) (h n (omega arith))
    ∙ sym (concat_map-append m (up_to n) (n ∷ []))

module _ (f : Flow) {mask mask' : ℕ → ℕ → ℕ} {live_in live_in' live_out live_out' : ℕ → ℕ}
    (m : (i a : ℕ) → i < size f → a < f.arrays → mask i a ≡ mask' i a)
    (b : (i : ℕ) → i < size f → live_in i ≡ live_in' i)
    (o : (i : ℕ) → i < size f → live_out i ≡ live_out' i) where
  same_line : (i : ℕ) → i < size f → statement_line f mask live_in live_out i ≡ statement_line f mask' live_in' live_out' i
  unfolding statement_line
  same_line i l =
      let head : List ℕ → ℕ → ℕ → List ℕ = λ x u v. line_of (decimal i ∷ decimal (statement f i).line ∷ x ∷ hexadecimal u ∷ hexadecimal v ∷ []) in
      ap (λ x. head x (live_in i) (live_out i)) (same_masks f.arrays (mask i) (mask' i) (λ a. m i a l))
      ∙ ap₂ (λ u v. head (mask_digits f.arrays (mask' i)) u v) (b i l) (o i l)

  pub same_text : flow_text f mask live_in live_out ≡ flow_text f mask' live_in' live_out'
  unfolding flow_text
  same_text = ap (λ t. first_line f ++ t) (same_lines (size f) _ _ same_line)
