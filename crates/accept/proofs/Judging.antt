-- How the acceptor answers: a file that is refused, an area that is too short, a byte that is no mask, or a table that is accepted or not. By the laws of verdicts: the checks of the work area, of the proposal's length and of its bytes
-- come after the file's. What an answer says of runs and of our own masks is by the theorems on accepted tables. Assumes nothing.
use Prim.Native.Nat.{ℕ, zero, suc, ◌+◌, ◌*◌, ◌/◌, ◌%◌, ◌<◌, ◌≤◌}
use mathlib.Core.Bool.{Bool, true, false}
use mathlib.Core.List.{List, [], ◌∷◌, ◌++◌, append_assoc}
use mathlib.Core.Path.{◌≡◌, refl, ap, sym, ◌∙◌, subst}
use native.Mathlib.Nat.{mod-lt, div-add-mod', div-lt_iff_lt-mul, mul-le-mul_right, mul-zero, mul_assoc, add-mul, suc-mul}
use native.Mathlib.Omega.{arith}
use borrow.Author.Tests.{lt-ltb, le-ltb}
use lib.Dec.{eqb, ltb, leb}
use lib.ListN.{length, get_or, take, replicate}
use Rattle.std.proofs.lemmas.List.{get_or-take, length-take-le}
use Rattle.flow.specs.declared.Refusal.{Refusal}
use Rattle.flow.specs.declared.Refusal.TheVariants.{Areas, Mask}
use Rattle.std.specs.Prelude.{Result, Ok, Err}
use Rattle.flow.specs.Limits.{work_words}
use Rattle.flow.specs.Flow.{Flow, size}
use Rattle.flow.specs.Format.{fit, unfit, first, check, area_check, verdict, each, file_checks, flow_of, statements_of, arrays_of}
use Rattle.flow.specs.Clauses.Answers.{FitFile}
use Rattle.flow.proofs.Verdicts.{fit_append, unfit-append, unfit-at}
use Rattle.records.proofs.Statements.{size_is}
use Rattle.theory.specs.Lists.{all_below}
use Rattle.theory.specs.Masks.{any_state}
use Rattle.theory.specs.Accept.{proposed, proposal_bytes, mask_checks, Accepted, is_all_any, accepted}
use Rattle.theory.specs.Clauses.WellFormed.{WellFormed}
use Rattle.theory.proofs.Lists.{same_test}
use Rattle.theory.proofs.Below.{all_below-at, all_below-all}
use Rattle.theory.proofs.Accept.{accepted-sound, accepted-complete}
use Rattle.theory.proofs.Accepted.{accepted-runs, own-accepted}
use Rattle.statements.proofs.WellFormed.{arrays-is, well_formed}
use Rattle.dataflow.specs.Certain.{judged_work}
use Rattle.dataflow.proofs.Judging.{not_both, same_refusal}
use Rattle.accept.specs.Promise.{judged_proposal, AcceptPromise}
use Rattle.accept.specs.Clauses.Bytes.{FirstOver, Masks}
use Rattle.accept.specs.Clauses.Table.{Bytes}
use Rattle.accept.proofs.Passing.{below_cut}

-- The bytes

masks_fit : (s : List ℕ) (k : ℕ) → ((j : ℕ) → j < k → get_or s j 0 < 8) → verdict (mask_checks s k) ≡ fit
unfolding mask_checks each verdict
masks_fit s zero h = refl
masks_fit s (suc k) h =
    fit_append (mask_checks s k) (check (ltb (get_or s k 0) 8) (Mask k) ∷ []) (masks_fit s k (λ j l. h j (omega arith)))
    ∙ ap (λ b. first b (Mask k) fit) (lt-ltb (get_or s k 0) 8 (h k (omega arith)))

mask-unfit : (s : List ℕ) (count r : ℕ) → FirstOver s count r → r < count → verdict (mask_checks s count) ≡ unfit (Mask r)
unfolding mask_checks verdict
mask-unfit s count r h l =
    unfit-at r count (λ j. check (ltb (get_or s j 0) 8) (Mask j) ∷ []) l (masks_fit s r h.before) (ap (λ b. first b (Mask r) fit) (le-ltb (get_or s r 0) 8 (h.over l)))

-- where none is over 7, all are masks
pub masks-all : {s : List ℕ} {count r : ℕ} → FirstOver s count r → (r < count → ⊥) → count ≤ length s → Masks s count
masks-all h n room = let high = h.high in record { room = room; below = λ j l. h.before j (omega (arith, n)) }

-- what was found in the first bytes alone
pub over-part : {s : List ℕ} (count : ℕ) {r : ℕ} → count ≤ length s → FirstOver (take count s) (length (take count s)) r → FirstOver s count r
over-part {s} count {r} room h =
    let size : length (take count s) ≡ count = length-take-le count s room in
    let high : r ≤ count = omega (arith, h.high) in
    record {
      high = high;
      before = λ j l. subst (λ (x : ℕ). x < 8) (get_or-take count s j 0 (omega arith)) (h.before j l);
      over = λ l. subst (λ (x : ℕ). 8 ≤ x) (get_or-take count s r 0 l) (h.over (omega arith));
    }

-- the bytes of all rows, one after the other

pub byte_within : (n : ℕ) {arrays d a : ℕ} → d < 2 * n → a < arrays → d * arrays + a < 2 * (n * arrays)
byte_within n {arrays} {d} {a} l b = omega (arith, mul-le-mul_right arrays l, suc-mul d arrays, mul_assoc 2 n arrays)

-- so the table is one of masks
pub table_bytes : (f : Flow) (s : List ℕ) (n arrays : ℕ) → size f ≡ n → arrays ≡ f.arrays → Masks s (2 * (n * arrays)) → Bytes f (proposed f s)
table_bytes f s n arrays sized count m d a l b =
    (subst (λ k. Masks s (2 * (n * k))) count m).below (d * f.arrays + a) (byte_within n (omega (arith, sized)) b)

-- Whether the first bytes are all 7
pub any-part : (s : List ℕ) (count : ℕ) → count ≤ length s → all_below (length (take count s)) (λ k. eqb (get_or (take count s) k 0) any_state) ≡ all_below count (λ k. eqb (get_or s k 0) any_state)
any-part s count room =
    let size : length (take count s) ≡ count = length-take-le count s room in
    below_cut (length (take count s)) count (λ k. eqb (get_or (take count s) k 0) any_state) (λ k. eqb (get_or s k 0) any_state) (omega arith)
    (λ a l. ap (λ (x : ℕ). eqb x any_state) (get_or-take count s a 0 l)) (λ a l b. absurd (omega arith))

-- and all rows
pub any-rows : (f : Flow) (s : List ℕ) → all_below (proposal_bytes f) (λ k. eqb (get_or s k 0) any_state) ≡ is_all_any f (proposed f s)
unfolding is_all_any
any-rows f s =
    same_test (all_below (proposal_bytes f) byte) (all_below (size f + size f) row)
    (λ h. all_below-all (size f + size f) row (λ d l. all_below-all f.arrays (λ a. byte (d * f.arrays + a)) (λ a b. all_below-at (proposal_bytes f) byte h (d * f.arrays + a) (byte_within (size f) (omega arith) b))))
    (λ h. all_below-all (proposal_bytes f) byte (λ k l.
    let some : 0 < f.arrays = wide k l in
    let d : ℕ = k / f.arrays in
    let a : ℕ = k % f.arrays in
    let low : a < f.arrays = mod-lt k some in
    let rows : k < (size f + size f) * f.arrays = omega (arith, add-mul (size f) (size f) f.arrays) in
    subst (λ (x : ℕ). byte x ≡ true) (div-add-mod' k f.arrays)
    (all_below-at f.arrays (λ a. byte (d * f.arrays + a)) (all_below-at (size f + size f) row h d ((div-lt_iff_lt-mul some).1 rows)) a low)))
  where
    byte : ℕ → Bool
    byte k = eqb (get_or s k 0) any_state

    row : ℕ → Bool
    row d = all_below f.arrays (λ a. byte (d * f.arrays + a))

    wide : (k : ℕ) → k < 2 * (size f * f.arrays) → 0 < f.arrays
    wide k = go f.arrays
      where
        go : (m : ℕ) → k < 2 * (size f * m) → 0 < m
        go zero l = absurd (omega (arith, mul-zero (size f)))
        go (suc m) l = omega arith

-- The answer

module _ (s proposal work : List ℕ) where
  -- the proposal is judged after the file and the work area
  judged-call : judged_proposal s proposal (length work)
      ≡ verdict ((file_checks s ++ (area_check (work_words (size (flow_of s))) (length work) ∷ [])) ++ (area_check (proposal_bytes (flow_of s)) (length proposal) ∷ mask_checks proposal (proposal_bytes (flow_of s))))
  judged-call = ap verdict (sym (append_assoc (file_checks s) (area_check (work_words (size (flow_of s))) (length work) ∷ []) (area_check (proposal_bytes (flow_of s)) (length proposal) ∷ mask_checks proposal (proposal_bytes (flow_of s)))))

  -- the proposal's length and its bytes, by the header's numbers
  judged_by : judged_work s (length work) ≡ fit → {b : Bool} → leb (2 * (statements_of s * arrays_of s)) (length proposal) ≡ b
      → judged_proposal s proposal (length work) ≡ first b Areas (verdict (mask_checks proposal (2 * (statements_of s * arrays_of s))))
  unfolding verdict
  judged_by e told =
      judged-call
      ∙ fit_append (file_checks s ++ (area_check (work_words (size (flow_of s))) (length work) ∷ [])) _ e
      ∙ ap (λ k. first (leb (2 * (size (flow_of s) * k)) (length proposal)) Areas (verdict (mask_checks proposal (2 * (size (flow_of s) * k))))) (arrays-is s)
      ∙ ap (λ n. first (leb (2 * (n * arrays_of s)) (length proposal)) Areas (verdict (mask_checks proposal (2 * (n * arrays_of s))))) (size_is s)
      ∙ ap (λ z. first z Areas (verdict (mask_checks proposal (2 * (statements_of s * arrays_of s))))) told

  -- a refusal changes nothing
  refusing : (r : Refusal) → judged_proposal s proposal (length work) ≡ unfit r → AcceptPromise s proposal work work (Err r)
  refusing r e = record { refused = λ x h. (same_refusal e h, refl); accepted = λ h. absurd (not_both h e) }

  pub call-refused : (r : Refusal) → judged_work s (length work) ≡ unfit r → AcceptPromise s proposal work work (Err r)
  call-refused r e = refusing r (judged-call ∙ unfit-append (file_checks s ++ (area_check (work_words (size (flow_of s))) (length work) ∷ [])) _ e)

  pub length-refused : judged_work s (length work) ≡ fit → leb (2 * (statements_of s * arrays_of s)) (length proposal) ≡ false → AcceptPromise s proposal work work (Err Areas)
  length-refused e d = refusing Areas (judged_by e d)

  pub mask-refused : judged_work s (length work) ≡ fit → leb (2 * (statements_of s * arrays_of s)) (length proposal) ≡ true
      → (r : ℕ) → FirstOver proposal (2 * (statements_of s * arrays_of s)) r → r < 2 * (statements_of s * arrays_of s) → AcceptPromise s proposal work work (Err (Mask r))
  mask-refused e d r o l = refusing (Mask r) (judged_by e d ∙ mask-unfit proposal (2 * (statements_of s * arrays_of s)) r o l)

  pub accepting : {work' : List ℕ} (told : Bool) → FitFile s → judged_work s (length work) ≡ fit → leb (2 * (statements_of s * arrays_of s)) (length proposal) ≡ true
      → Masks proposal (2 * (statements_of s * arrays_of s)) → told ≡ accepted (flow_of s) (proposed (flow_of s) proposal) → work' ≡ replicate (length work) 0 → AcceptPromise s proposal work work' (Ok told)
  accepting {work'} told h e d m q empty = record {
    refused = λ x r. absurd (not_both (judged_by e d ∙ masks_fit proposal (2 * (statements_of s * arrays_of s)) m.below) r);
    accepted = λ _. record {
      answer = ap Ok q;
      sound = sound;
      complete = complete;
      runs = λ y listed x r. (accepted-runs (flow_of s) (proposed (flow_of s) proposal) wf bytes (sound y) listed r).1;
      own = λ o. complete (own-accepted wf o);
      work_zero = empty;
    };
  }
    where
      wf : WellFormed (flow_of s)
      wf = well_formed h

      bytes : Bytes (flow_of s) (proposed (flow_of s) proposal)
      bytes = table_bytes (flow_of s) proposal (statements_of s) (arrays_of s) (size_is s) (sym (arrays-is s)) m

      sound : ◌≡◌ {A = Result Bool Refusal} (Ok told) (Ok true) → Accepted (flow_of s) (proposed (flow_of s) proposal)
      sound y = let yes : told ≡ true = cc in accepted-sound wf (sym q ∙ yes)

      complete : Accepted (flow_of s) (proposed (flow_of s) proposal) → ◌≡◌ {A = Result Bool Refusal} (Ok told) (Ok true)
      complete a = ap Ok (q ∙ accepted-complete wf a)
