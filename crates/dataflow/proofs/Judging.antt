-- How the call answers: a file that is refused, areas that are too short, or an accepted flow, each gives the promise from what is known where the call returns.
-- By the laws of verdicts: the areas' checks come after the file's.
use Prim.Native.Nat.{ℕ, ◌*◌, ◌≤◌}
use native.Mathlib.Omega.{arith}
use mathlib.Core.Bool.{Bool, true, false, cond, ◌&&◌}
use mathlib.Core.List.{List, [], ◌∷◌, ◌++◌}
use mathlib.Core.Path.{◌≡◌, refl, ap, sym, ◌∙◌, subst}
use lib.Dec.{leb}
use lib.ListN.{length, replicate}
use borrow.Author.Tests.{leb-true}
use Rattle.words.specs.Clauses.Change.{zeroed}
use Rattle.words.proofs.Zeroed.{zeroed-all}
use Rattle.flow.specs.declared.Refusal.{Refusal}
use Rattle.flow.specs.declared.Refusal.TheVariants.{Areas}
use Rattle.flow.specs.declared.Header.{Header}
use Rattle.std.specs.Prelude.{Result, Ok, Err}
use Rattle.flow.specs.Limits.{work_words}
use Rattle.flow.specs.Flow.{size}
use Rattle.flow.specs.Format.{Verdict, Check, fit, unfit, first, verdict, file_checks, area_check, area_checks, flow_of, statements_of, arrays_of}
use Rattle.flow.specs.Clauses.Answers.{FitFile, is_fit}
use Rattle.flow.specs.Clauses.Answers.{header_of, answer_of}
use Rattle.flow.proofs.Verdicts.{fit_append, unfit-append}
use Rattle.flow.proofs.AreaVerdict.{area-verdict, areas-fit}
use Rattle.flow.proofs.Answers.{verdict-passed, verdict-refused}
use Rattle.records.proofs.Statements.{size_is}
use Rattle.theory.specs.Doubled.{doubled}
use Rattle.theory.specs.Queue.{initial}
use Rattle.theory.proofs.Terms.{term_1_empty}
use Rattle.statements.proofs.WellFormed.{arrays-is, well_formed}
use Rattle.dataflow.specs.Promise.{Promise, judged}
use Rattle.dataflow.specs.Clauses.Phases.{Findings}
use Rattle.dataflow.proofs.Promised.{promised}

-- a verdict is one of the two, and names one refusal
pub not_both : {r : Refusal} {v : Verdict} → v ≡ fit → v ≡ unfit r → ⊥
not_both e h = let z : ◌≡◌ {A = ℕ} 0 1 = cc in omega arith

pub same_refusal : {T : Type 0} {r x : Refusal} {v : Verdict} → v ≡ unfit r → v ≡ unfit x → ◌≡◌ {A = Result T Refusal} (Err r) (Err x)
same_refusal e h = cc

-- an area is judged after checks that are fit
pub area-judged : (checks : List Check) {n m : ℕ} (have : ℕ) → verdict checks ≡ fit → n ≡ m → (b : Bool) → leb m have ≡ b → verdict (checks ++ (area_check n have ∷ [])) ≡ cond b fit (unfit Areas)
unfolding verdict
area-judged checks have e count b d = fit_append checks _ e ∙ ap (λ n. first (leb n have) Areas fit) count ∙ ap (λ z. first z Areas fit) d ∙ go b
  where
    go : (b : Bool) → first b Areas fit ≡ cond b fit (unfit Areas)
    go true = refl
    go false = refl

module _ (s masks live_in live_out work : List ℕ) where
  -- a refusal changes nothing
  pub refusing : {work' : List ℕ} (r : Refusal) → work' ≡ work → judged s (length masks) (length live_in) (length live_out) (length work) ≡ unfit r
      → Promise s masks masks live_in live_in live_out live_out work work' (Err r)
  refusing r same e = record {
    refused = λ x h. (same_refusal e h, record { same_masks = refl; same_live_in = refl; same_live_out = refl; same_work = same });
    accepted = λ h. absurd (not_both h e);
  }

  pub file-refused : (r : Refusal) → Err r ≡ answer_of (verdict (file_checks s)) (header_of s) → Promise s masks masks live_in live_in live_out live_out work work (Err r)
  file-refused r e = refusing r refl (unfit-append (file_checks s) _ (verdict-refused _ _ e))

  areas_of : Verdict
  areas_of = verdict (area_checks (size (flow_of s)) (flow_of s).arrays (length masks) (length live_in) (length live_out) (length work))

  -- the areas' checks, by the header's numbers
  same-areas : areas_of ≡ verdict (area_checks (statements_of s) (arrays_of s) (length masks) (length live_in) (length live_out) (length work))
  unfolding areas_of
  same-areas = ap (λ n. verdict (area_checks n (flow_of s).arrays (length masks) (length live_in) (length live_out) (length work))) (size_is s)
      ∙ ap (λ k. verdict (area_checks (statements_of s) k (length masks) (length live_in) (length live_out) (length work))) (arrays-is s)

  judged-areas : FitFile s → (b : Bool) → is_fit (verdict (area_checks (statements_of s) (arrays_of s) (length masks) (length live_in) (length live_out) (length work))) ≡ b
      → judged s (length masks) (length live_in) (length live_out) (length work) ≡ cond b fit (unfit Areas)
  unfolding areas_of
  judged-areas h b e =
      fit_append (file_checks s) _ h.checked
      ∙ same-areas
      ∙ area-verdict (statements_of s) (arrays_of s) (length masks) (length live_in) (length live_out) (length work)
      ∙ ap (λ b. cond b fit (unfit Areas))
      (sym (areas-fit (statements_of s) (arrays_of s) (length masks) (length live_in) (length live_out) (length work)) ∙ e)

  pub areas-refused : {work' : List ℕ} → FitFile s → work' ≡ work
      → is_fit (verdict (area_checks (statements_of s) (arrays_of s) (length masks) (length live_in) (length live_out) (length work))) ≡ false
      → Promise s masks masks live_in live_in live_out live_out work work' (Err Areas)
  areas-refused h same e = refusing Areas same (judged-areas h false e)

  pub judged-fit : FitFile s → is_fit (verdict (area_checks (statements_of s) (arrays_of s) (length masks) (length live_in) (length live_out) (length work))) ≡ true
      → judged s (length masks) (length live_in) (length live_out) (length work) ≡ fit
  judged-fit h e = judged-areas h true e

-- the areas are long enough
pub record Rooms (n arrays masks live_in live_out work : ℕ) : Type 0 where
  pub masks_room : n * arrays ≤ masks
  pub in_room : n ≤ live_in
  pub out_room : n ≤ live_out
  pub work_room : work_words n ≤ work

false-true : {A : Type 0} → false ≡ true → A
false-true e = let z : ◌≡◌ {A = ℕ} 0 1 = cc in absurd (omega arith)

all_true : (a b c d : Bool) → (a && (b && (c && d))) ≡ true → (a ≡ true) × (b ≡ true) × (c ≡ true) × (d ≡ true)
all_true true true true true e = (refl, refl, refl, refl)
all_true true true true false e = false-true e
all_true true true false d e = false-true e
all_true true false c d e = false-true e
all_true false b c d e = false-true e

pub rooms : (n arrays masks live_in live_out work : ℕ) → is_fit (verdict (area_checks n arrays masks live_in live_out work)) ≡ true
    → Rooms n arrays masks live_in live_out work
rooms n arrays masks live_in live_out work e =
    let t = all_true (leb (n * arrays) masks) (leb n live_in) (leb n live_out) (leb (work_words n) work) (sym (areas-fit n arrays masks live_in live_out work) ∙ e) in
    record {
      masks_room = leb-true _ _ t.0;
      in_room = leb-true _ _ t.1;
      out_room = leb-true _ _ t.2;
      work_room = leb-true _ _ t.3;
    }

-- an accepted flow keeps the promise from what the phases left
pub accepting : (s masks masks' live_in live_in' live_out live_out' work work' : List ℕ) (v : ℕ) → FitFile s
    → judged s (length masks) (length live_in) (length live_out) (length work) ≡ fit
    → Findings (flow_of s) masks masks' live_in live_in' live_out live_out' v
    → work' ≡ replicate (length work) 0
    → Promise s masks masks' live_in live_in' live_out live_out' work work' (Ok v)
accepting s masks masks' live_in live_in' live_out live_out' work work' v h e solved empty = record {
  refused = λ x r. absurd (not_both e r);
  accepted = λ _. (v, refl, promised (flow_of s) (well_formed h) masks masks' live_in live_in' live_out live_out' work work' v solved empty);
}

-- with no statements the phases have nothing to do
pub nothing-solved : (s masks live_in live_out : List ℕ) → statements_of s ≡ 0 → Findings (flow_of s) masks masks live_in live_in live_out live_out 0
nothing-solved s masks live_in live_out z =
    let none : size (flow_of s) ≡ 0 = size_is s ∙ z in
    record {
      found = record {
        solved = λ _. record { left = initial (doubled (flow_of s)); over = term_1_empty (flow_of s) none; mask_bytes = λ i a l m. absurd (omega arith) };
        unsolved = λ _. record { no_visits = refl; mask_bytes = λ i a l m. absurd (omega arith) };
        masks_size = refl;
        masks_kept = λ x l. refl;
      };
      live_in = record { size = refl; written = λ i l. absurd (omega arith); kept = λ x l. refl };
      live_out = record { size = refl; written = λ i l. absurd (omega arith); kept = λ x l. refl };
    }

-- what the reader's answer says of a file that it found fit
module _ (s : List ℕ) (h : Header) (told : Ok h ≡ answer_of (verdict (file_checks s)) (header_of s)) where
  pub file-fit : FitFile s
  file-fit = record { checked = (verdict-passed _ _ _ told).is_fit }

  pub header_is : h ≡ header_of s
  header_is = (verdict-passed _ _ _ told).place

  pub areas_by : (masks live_in live_out work : ℕ) (b : Bool) → is_fit (verdict (area_checks h.statements h.arrays masks live_in live_out work)) ≡ b
      → is_fit (verdict (area_checks (statements_of s) (arrays_of s) masks live_in live_out work)) ≡ b
  areas_by masks live_in live_out work b =
      subst (λ (x : Header). is_fit (verdict (area_checks x.statements x.arrays masks live_in live_out work)) ≡ b) header_is

-- a list that was zeroed whole, by its length before
pub zeroed_whole : (ws : List ℕ) (n : ℕ) → length ws ≡ n → zeroed ws 0 n ≡ replicate n 0
zeroed_whole ws n e = subst (λ k. zeroed ws 0 k ≡ replicate k 0) e (zeroed-all ws)
