-- What was put at the start of the buffer is the text of the input, by the call's answer: the refusal's line, or the listing of the areas.
-- By the verdict that the answer stands for, with areas of the program's lengths.
use Prim.Native.Nat.{ℕ, ◌+◌, ◌*◌, ◌≤◌, ◌<◌}
use native.Mathlib.Omega.{arith}
use mathlib.Core.List.{List, [], ◌∷◌}
use mathlib.Core.Path.{◌≡◌, sym, ap, ap₂, subst, ◌∙◌}
use lib.ListN.{length, get_or, length-replicate}
use borrow.Author.Tests.{lt-ltb, le-ltb}
use mir.Val.{Fits}
use mir.Syntax.{w8}
use Rattle.flow.specs.Limits.{max_arrays, work_words}
use Rattle.flow.specs.declared.Refusal.{Refusal}
use Rattle.flow.specs.Format.{letter_l, Verdict, flow_of, statements_of, arrays_of, record_place}
use Rattle.flow.specs.Clauses.Answers.{FitFile}
use Rattle.flow.proofs.Numbers.{le_at-lt}
use Rattle.records.proofs.Files.{limited}
use Rattle.records.proofs.Statements.{says, size_is}
use Rattle.statements.proofs.WellFormed.{arrays-is, well_formed}
use Rattle.theory.specs.Listing.{listing, newline, line_of, refusal_text, flow_text}
use Rattle.std.specs.Prelude.{Result, Ok, Err}
use Rattle.dataflow.specs.Promise.{Promise, judged}
use Rattle.dataflow.proofs.Told.{told-accepted, told-refused}
use Rattle.listing.specs.Text.{max_input, served, text}
use Rattle.listing.specs.declared.lines.Areas.{Areas}
use Rattle.listing.specs.Clauses.Room.{Room, word_in, mask_byte}
use Rattle.listing.proofs.Accepted.{Judged, judged-fit, Holds, holds, below-held, text-held}
use Rattle.listing.proofs.Statements.{names_is}
use Rattle.listing.proofs.Lengths.{Served, text-length}

pub too_long : (s : List ℕ) → max_input < length s → text s ≡ letter_l ∷ newline ∷ []
unfolding text line_of
too_long s l = rw (lt-ltb max_input (length s) l)

-- the verdict of the call, with the program's areas
abbrev verdict_of : List ℕ → Verdict
verdict_of s = judged s (served * max_arrays) served served (work_words served)

short_text : (s : List ℕ) → length s ≤ max_input → text s ≡ listing (verdict_of s) (flow_of s)
unfolding text
short_text s l = rw (le-ltb max_input (length s) l)

-- the areas serve the flow, so that the text has room
served_flow : {s : List ℕ} → ((x : ℕ) → Fits w8 (get_or s x 0)) → FitFile s → statements_of s ≤ served → Served (flow_of s)
served_flow {s} b fit few = record {
  statements = subst (λ n. n ≤ served) (sym (size_is s)) few;
  arrays = subst (λ n. n ≤ max_arrays) (sym (arrays-is s)) (limited fit).arrays;
  names = subst (λ n. n ≤ 64) (sym (names_is s)) (limited fit).names;
  line = λ i k.
      subst (λ n. n < 65536) (sym (says s i (subst (λ n. i < n) (size_is s) k)).line) (le_at-lt 2 s (record_place s i + 2) b);
}

module _ {s masks masks' live_in live_in' live_out live_out' work work' : List ℕ} {r : Result ℕ Refusal}
    (p : Promise s masks masks' live_in live_in' live_out live_out' work work' r)
    (m : length masks ≡ served * max_arrays) (i : length live_in ≡ served) (o : length live_out ≡ served) (w : length work ≡ work_words served) where
  lengths : judged s (length masks) (length live_in) (length live_out) (length work) ≡ verdict_of s
  lengths = ap₂ (λ k l. judged s k l (length live_out) (length work)) m i ∙ ap₂ (λ k l. judged s (served * max_arrays) served k l) o w

  pub refused-text : {x : Refusal} → r ≡ Err x → length s ≤ max_input → refusal_text x ≡ text s
  unfolding listing
  refused-text {x} e l = sym (short_text s l ∙ ap (λ v. listing v (flow_of s)) (sym lengths ∙ (told-refused p e).0))

  module _ {v : ℕ} (e : r ≡ Ok v) where
    judged_so : Judged s (served * max_arrays) served served (work_words served)
    judged_so = judged-fit s (served * max_arrays) served served (work_words served) (sym lengths ∙ (told-accepted p e).0)

    held : Holds (flow_of s) masks' live_in' live_out'
    held = holds (well_formed judged_so.file) (told-accepted p e).1

    pub accepted-work : work_words (statements_of s) ≤ length work'
    accepted-work =
        let done = (told-accepted p e).1 in
        omega (arith, judged_so.work_fit, ap length done.work_zero, length-replicate {A = ℕ} (length work) 0, w)

    pub accepted-length : ((x : ℕ) → Fits w8 (get_or s x 0))
        → length (flow_text (flow_of s) (mask_byte masks' (arrays_of s)) (word_in live_in') (word_in live_out')) ≤ 11 + 108 * served
    accepted-length b =
        text-length (flow_of s) (mask_byte masks' (arrays_of s)) (word_in live_in') (word_in live_out') (served_flow b judged_so.file judged_so.in_fit)

    pub accepted-text : length s ≤ max_input → flow_text (flow_of s) (mask_byte masks' (arrays_of s)) (word_in live_in') (word_in live_out') ≡ text s
    unfolding listing
    accepted-text l =
        text-held s held
        ∙ sym (short_text s l ∙ ap (λ v. listing v (flow_of s)) (sym lengths ∙ (told-accepted p e).0))

-- the areas hold the answer
pub accepted-room : {s masks live_in live_out work work' : List ℕ} (areas : Areas) {r : Result ℕ Refusal} {v : ℕ}
    → Promise s masks areas.masks.now live_in areas.live_in.now live_out areas.live_out.now work work' r
    → length masks ≡ served * max_arrays → length live_in ≡ served → length live_out ≡ served → length work ≡ work_words served
    → r ≡ Ok v → Room s areas
accepted-room {s} areas p m i o w e =
    let done = (told-accepted p e).1 in
    let j = judged_so p m i o w e in
    record {
      fit = j.file;
      few = j.in_fit;
      masks_room = omega (arith, done.masks_size, m, j.masks_fit);
      masks_below = below-held s (held p m i o w e);
      in_room = omega (arith, done.live_in.size, i, j.in_fit);
      out_room = omega (arith, done.live_out.size, o, j.out_fit);
    }
