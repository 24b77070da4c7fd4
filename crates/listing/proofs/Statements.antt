-- The lines of the statements, one after the other: where all have room the next one has, and the line that is written for statement i is the definition's.
-- By the text so far, which grows by a line a statement; the row of masks is that part of the area.
use Prim.Native.Nat.{ℕ, zero, suc, ◌+◌, ◌-◌, ◌*◌, ◌≤◌, ◌<◌}
use native.Mathlib.Omega.{arith}
use native.Mathlib.Nat.{eq-or-lt_of_le, le_of_suc-le-suc, mul-le-mul_right, suc-mul}
use native.Mathlib.Numerals.{add-one}
use mathlib.Core.List.{List, [], ◌∷◌, ◌++◌, append-nil}
use mathlib.Core.Logic.{⊎_elim}
use mathlib.Core.Path.{◌≡◌, refl, sym, ap, ap₂, subst, ◌∙◌}
use lib.ListN.{length, get_or, take, drop, length-append, length-take, length-drop}
use lib.Seq.{get_or-take, get_or-drop}
use Rattle.flow.specs.Flow.{statement}
use Rattle.flow.specs.Format.{flow_of, statements_of, arrays_of, names_of, record_place, line_at}
use Rattle.records.specs.Clauses.Fields.{record_part}
use Rattle.records.proofs.Files.{record-fit}
use Rattle.records.proofs.Given.{part_start, part_line}
use Rattle.records.proofs.Statements.{says, size_is}
use Rattle.statements.proofs.WellFormed.{arrays-is}
use Rattle.theory.specs.Lists.{concat_map, up_to}
use Rattle.flow.specs.Format.{letter_f}
use Rattle.theory.specs.Listing.{decimal, hexadecimal, line_of, mask_digits, first_line, statement_line, flow_text}
use Rattle.theory.proofs.Lists.{concat_map-append}
use Rattle.listing.specs.declared.lines.Areas.{Areas}
use Rattle.listing.specs.Clauses.Room.{Small, Room, word_in, areas_text, areas_line}
use Rattle.listing.proofs.MaskField.{same_masks}

module _ (line : ℕ → List ℕ) where
  one_more : (k : ℕ) → concat_map line (up_to (suc k)) ≡ concat_map line (up_to k) ++ line k
  unfolding up_to concat_map
  one_more k = concat_map-append line (up_to k) (k ∷ []) ∙ ap (λ l. concat_map line (up_to k) ++ l) (append-nil (line k))

  pub no_lines : concat_map line (up_to 0) ≡ []
  unfolding up_to concat_map
  no_lines = refl

  pub one_line_more : (i : ℕ) → concat_map line (up_to (i + 1)) ≡ concat_map line (up_to i) ++ line i
  one_line_more i = rw add-one (one_more i)

  longer : (k n : ℕ) → k ≤ n → length (concat_map line (up_to k)) ≤ length (concat_map line (up_to n))
  longer k zero h = let e : k ≡ 0 = omega arith in rw e (omega arith)
  longer k (suc n) h =
      ⊎_elim
      (λ e. rw e (omega arith))
      (λ (l : suc k ≤ suc n). rw one_more (omega (arith, longer k n (le_of_suc-le-suc l), length-append (concat_map line (up_to n)) (line n))))
      (eq-or-lt_of_le h)

  pub next_fits : (i n : ℕ) → i < n → length (concat_map line (up_to i)) + length (line i) ≤ length (concat_map line (up_to n))
  next_fits i n h = omega (arith, longer (suc i) n h, ap length (one_more i), length-append (concat_map line (up_to i)) (line i))

-- the row of statement i, and its line in the file
module _ {s : List ℕ} {areas : Areas} (room : Room s areas) (i : ℕ) (l : i < statements_of s) where
  pub line_start : 4 ≤ length (record_part s (record_place s i))
  line_start = part_start (record-fit room.fit i l)

  line-number : line_at (record_part s (record_place s i)) 0 ≡ (statement (flow_of s) i).line
  line-number = part_line (record-fit room.fit i l) ∙ sym (says s i l).line

  row-within : (i + 1) * arrays_of s ≤ length areas.masks.now
  row-within = rw add-one (omega (arith, mul-le-mul_right (arrays_of s) l, room.masks_room))

  module _ (arrays : ℕ) (e : arrays ≡ arrays_of s) where
    abbrev row : List ℕ
    row = take ((i + 1) * arrays - i * arrays) (drop (i * arrays) areas.masks.now)

    row-length : length row ≡ arrays
    row-length = rw (e, add-one) (simp (length-take, length-drop) (omega (arith, rw add-one at row-within, suc-mul i (arrays_of s))))

    row_at : (a : ℕ) → a < arrays → get_or row a 0 ≡ get_or areas.masks.now (i * arrays_of s + a) 0
    row_at a h =
        get_or-take ((i + 1) * arrays - i * arrays) (drop (i * arrays) areas.masks.now) a 0 (rw add-one (omega (arith, suc-mul i arrays)))
        ∙ get_or-drop (i * arrays) areas.masks.now a 0
        ∙ ap (λ k. get_or areas.masks.now (i * k + a) 0) e

    pub row_small : Small row
    row_small = record {
      below = λ a h.
          let m : a < arrays = subst (λ k. a < k) row-length h in
          subst (λ x. x < 8) (sym (row_at a m)) (room.masks_below i a l (subst (λ k. a < k) e m));
    }

    pub line_written : (number : ℕ) → number ≡ line_at (record_part s (record_place s i)) 0
        → line_of
        (decimal i
        ∷ decimal number
        ∷ mask_digits (length row) (word_in row)
        ∷ hexadecimal (word_in areas.live_in.now i)
        ∷ hexadecimal (word_in areas.live_out.now i)
        ∷ [])
        ≡ areas_line s areas i
    unfolding statement_line
    line_written number n =
        ap₂ (λ x y. line_of (decimal i ∷ decimal x ∷ y ∷ hexadecimal (word_in areas.live_in.now i) ∷ hexadecimal (word_in areas.live_out.now i) ∷ []))
        (n ∙ line-number)
        (ap (λ k. mask_digits k (word_in row)) (row-length ∙ e ∙ sym (arrays-is s))
        ∙ same_masks (flow_of s).arrays (word_in row) (λ a. get_or areas.masks.now (i * arrays_of s + a) 0) (λ a h. row_at a (subst (λ k. a < k) (arrays-is s ∙ sym e) h)))

-- the text is the first line and the lines of the statements, by what the header says

pub names_is : (s : List ℕ) → (flow_of s).names ≡ names_of s
unfolding flow_of
names_is s = refl

pub text_parts : (s : List ℕ) (areas : Areas) {n a m : ℕ} → n ≡ statements_of s → a ≡ arrays_of s → m ≡ names_of s
    → areas_text s areas
    ≡ line_of ((letter_f ∷ []) ∷ decimal n ∷ decimal a ∷ decimal m ∷ []) ++ concat_map (areas_line s areas) (up_to n)
unfolding flow_text first_line
text_parts s areas {n} {a} {m} p q r =
    let parts : ℕ → ℕ → ℕ → List ℕ = λ k x y. line_of ((letter_f ∷ []) ∷ decimal k ∷ decimal x ∷ decimal y ∷ []) ++ concat_map (areas_line s areas) (up_to k) in
    ap (λ k. parts k (flow_of s).arrays (flow_of s).names) (size_is s ∙ sym p) ∙ ap₂ (λ x y. parts n x y) (arrays-is s ∙ sym q) (names_is s ∙ sym r)
