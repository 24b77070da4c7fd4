-- After an accepted call the file is fit, the areas that were lent have room for its answer and hold it: so the listing of the areas is the definition's.
-- By the judgement that the answer stands for, in which the file's checks and the areas' checks all hold, and by what the call promises of its bytes.
use Prim.Native.Nat.{ℕ, ◌*◌, ◌≤◌, ◌<◌}
use native.Mathlib.Omega.{arith}
use mathlib.Core.List.{List}
use mathlib.Core.Path.{◌≡◌, sym, subst}
use borrow.Author.Tests.{leb-true}
use Rattle.flow.specs.Limits.{work_words}
use Rattle.flow.specs.Flow.{Flow, size}
use Rattle.flow.specs.Format.{fit, file_checks, area_checks, flow_of, statements_of, arrays_of}
use Rattle.flow.specs.Clauses.Answers.{FitFile}
use Rattle.flow.proofs.Verdicts.{all_hold, fit-left, fit-right}
use Rattle.records.proofs.Statements.{size_is}
use Rattle.statements.proofs.WellFormed.{arrays-is}
use Rattle.theory.specs.Computed.{mask_of}
use Rattle.theory.specs.Live.{live_in_word, live_out_word}
use Rattle.theory.specs.Listing.{flow_text}
use Rattle.theory.specs.Clauses.WellFormed.{WellFormed}
use Rattle.dataflow.specs.Promise.{Answered, judged}
use Rattle.dataflow.proofs.Told.{masks_computed}
use Rattle.listing.specs.Clauses.Room.{word_in, mask_byte}
use Rattle.listing.proofs.MaskField.{same_text}

-- what was judged fit: the file, and areas of these lengths
pub record Judged (s : List ℕ) (masks live_in live_out work : ℕ) : Type 0 where
  pub file : FitFile s
  pub masks_fit : statements_of s * arrays_of s ≤ masks
  pub in_fit : statements_of s ≤ live_in
  pub out_fit : statements_of s ≤ live_out
  pub work_fit : work_words (statements_of s) ≤ work

pub judged-fit : (s : List ℕ) (masks live_in live_out work : ℕ) → judged s masks live_in live_out work ≡ fit → Judged s masks live_in live_out work
unfolding area_checks
judged-fit s masks live_in live_out work h =
    let areas = area_checks (size (flow_of s)) (flow_of s).arrays masks live_in live_out work in
    let fits = rw (size_is s, arrays-is s) at (fit-right (file_checks s) areas h) in
    let rooms = all_hold (area_checks (statements_of s) (arrays_of s) masks live_in live_out work) fits in
    record {
      file = record { checked = fit-left (file_checks s) areas h };
      masks_fit = omega (arith, leb-true);
      in_fit = omega (arith, leb-true);
      out_fit = omega (arith, leb-true);
      work_fit = omega (arith, leb-true);
    }

-- the areas hold the masks, 0 to 7, and the live words of the definitions
pub record Holds (f : Flow) (masks ins outs : List ℕ) : Type 0 where
  pub mask : (i a : ℕ) → i < size f → a < f.arrays → mask_byte masks f.arrays i a ≡ mask_of f i a
  pub below : (i a : ℕ) → i < size f → a < f.arrays → mask_byte masks f.arrays i a < 8
  pub live_in : (i : ℕ) → i < size f → word_in ins i ≡ live_in_word f i
  pub live_out : (i : ℕ) → i < size f → word_in outs i ≡ live_out_word f i

-- all that the listing takes from what an accepted call has written
pub holds : {f : Flow} {masks masks' live_in live_in' live_out live_out' work work' : List ℕ} {visits : ℕ}
    → WellFormed f → Answered f masks masks' live_in live_in' live_out live_out' work work' visits → Holds f masks' live_in' live_out'
holds {f} wf d = record {
  mask = masks_computed wf d;
  below = d.below;
  live_in = d.live_in.written;
  live_out = d.live_out.written;
}

module _ (s : List ℕ) {masks live_in live_out : List ℕ} (h : Holds (flow_of s) masks live_in live_out) where
  mask-held : (i a : ℕ) → i < size (flow_of s) → a < (flow_of s).arrays → mask_byte masks (arrays_of s) i a ≡ mask_of (flow_of s) i a
  mask-held i a l m = subst (λ n. mask_byte masks n i a ≡ mask_of (flow_of s) i a) (arrays-is s) (h.mask i a l m)

  pub below-held : (i a : ℕ) → i < statements_of s → a < arrays_of s → mask_byte masks (arrays_of s) i a < 8
  below-held i a l m =
      subst (λ n. mask_byte masks n i a < 8) (arrays-is s)
      (h.below i a (subst (λ n. i < n) (sym (size_is s)) l) (subst (λ n. a < n) (sym (arrays-is s)) m))

  pub text-held : flow_text (flow_of s) (mask_byte masks (arrays_of s)) (word_in live_in) (word_in live_out)
      ≡ flow_text (flow_of s) (mask_of (flow_of s)) (live_in_word (flow_of s)) (live_out_word (flow_of s))
  text-held =
      same_text (flow_of s) mask-held h.live_in h.live_out
