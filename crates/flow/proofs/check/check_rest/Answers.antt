-- What is passed is fit, so the answer is that of what follows, and a refusal on the way is the answer. Assumes nothing.
use native.Mathlib.Omega.{arith}
use mathlib.Core.List.{List, ◌++◌, append_assoc}
use mathlib.Core.Path.{◌≡◌, sym, ◌∙◌}
use Prim.Native.Nat.{ℕ, ◌≤◌, ◌+◌}
use borrow.Author.Tests.{leb-true}
use lib.ListN.{length}
use Rattle.std.specs.Prelude.{Err}
use Rattle.flow.specs.declared.Refusal.{Refusal}
use Rattle.flow.specs.Format.{Check, verdict, fit, each, references_place, reference_count_checks, reference_count, reference_checks, name_checks, data_checks, rest_checks, names_place, data_place}
use Rattle.flow.specs.Clauses.Answers.{Reached, answer_of}
use Rattle.flow.proofs.Verdicts.{all_hold, fit-left, fit-right, elements-within}
use Rattle.flow.proofs.Answers.{Through, verdict-passed, verdict-refused, refused-first, onward, handed_on}
use Rattle.flow.proofs.check.check_rest.Goals as goal

module _ (s : List ℕ) (p : ℕ) where
  references : List Check
  references = reference_count_checks s p ++ each (reference_count s p) (reference_checks s p)

  references-within : verdict references ≡ fit → names_place s p ≤ length s
  unfolding references reference_count_checks reference_checks
  references-within h =
      let count = all_hold (reference_count_checks s p) (fit-left (reference_count_checks s p) (each (reference_count s p) (reference_checks s p)) h) in
      let all = elements-within (reference_count s p) (reference_checks s p) (length s) (references_place s p + 1) 1 (omega (arith, leb-true))
      (λ k f. let first = all_hold (reference_checks s p k) f in omega (arith, leb-true))
      (fit-right (reference_count_checks s p) (each (reference_count s p) (reference_checks s p)) h) in
      omega arith

  names-within : verdict (name_checks s p) ≡ fit → data_place s p ≤ length s
  unfolding name_checks
  names-within h = let all = all_hold (name_checks s p) h in omega (arith, leb-true)

  in-references : (e : ℕ) {r : Refusal} → Err r ≡ answer_of (verdict references) (names_place s p) → Err r ≡ answer_of (verdict (rest_checks s p)) e
  unfolding references rest_checks
  in-references e a = rw (← append_assoc (reference_count_checks s p)) (refused-first references (name_checks s p ++ data_checks s p) e (verdict-refused _ _ a))

  after-references : (e : ℕ) → verdict references ≡ fit → answer_of (verdict (name_checks s p ++ data_checks s p)) e ≡ answer_of (verdict (rest_checks s p)) e
  unfolding references rest_checks
  after-references e h = rw (← append_assoc (reference_count_checks s p)) (onward references (name_checks s p ++ data_checks s p) e h)

  -- the reader came to the names, and then to the data

  to-names : {at q : ℕ} → Reached s p at (references_place s p) → Through (verdict references) q (names_place s p) → Reached s p q (names_place s p)
  to-names r t = record { header = r.header; start = r.start; within = rw t.place (references-within t.is_fit); there = t.place }

  to-data : {at q : ℕ} → Reached s p at (references_place s p) → Through (verdict (name_checks s p)) q (data_place s p) → Reached s p q (data_place s p)
  to-data r t = record { header = r.header; start = r.start; within = rw t.place (names-within t.is_fit); there = t.place }

pub returns-in_err-names_at : goal.returns-in_err-names_at
unfolding references
returns-in_err-names_at c =
    handed_on c.from_residual.ensures.1 (in-references c.args.file.now c.args.p _ c.in_err-names_at.ensures)

pub check_names-requires : goal.check_names-requires
unfolding references
check_names-requires c =
    to-names c.args.file.now c.args.p c.requires (verdict-passed _ _ _ (sym c.in_ok-names_at.was ∙ c.check_references.ensures))

pub returns-in_err-data_at : goal.returns-in_err-data_at
unfolding references
returns-in_err-data_at c =
    let s = c.args.file.now in
    let q = c.args.p in
    handed_on c.from_residual-in_err-data_at.ensures.1
    (refused-first (name_checks s q) (data_checks s q) _ (verdict-refused _ _ c.in_err-data_at.ensures)
    ∙ after-references s q _ (verdict-passed _ _ _ (sym c.in_ok-names_at.was ∙ c.check_references.ensures)).is_fit)

pub check_data-requires : goal.check_data-requires
check_data-requires c = to-data c.args.file.now c.args.p c.requires (verdict-passed _ _ _ (sym c.in_ok-data_at.was ∙ c.check_names.ensures))

pub returns : goal.returns
unfolding references
returns c =
    let s = c.args.file.now in
    let p = c.args.p in
    c.check_data.ensures
    ∙ onward (name_checks s p) (data_checks s p) _ (verdict-passed _ _ _ (sym c.in_ok-data_at.was ∙ c.check_names.ensures)).is_fit
    ∙ after-references s p _ (verdict-passed _ _ _ (sym c.in_ok-names_at.was ∙ c.check_references.ensures)).is_fit
