-- Lines of any value are fit if they are there, and they are all there if the last one is.
-- By induction on how many lines there are. Assumes nothing.
use native.Mathlib.Omega.{arith}
use Prim.Native.Nat.{ℕ, zero, suc, ◌+◌, ◌*◌, ◌≤◌, ◌<◌}
use mathlib.Core.List.{List, [], ◌∷◌, ◌++◌}
use mathlib.Core.Logic.{⊎_elim}
use mathlib.Core.Path.{◌≡◌, refl, ◌∙◌, ap}
use lib.ListN.{length}
use Rattle.std.specs.Prelude.{Err}
use Rattle.flow.specs.declared.Refusal.TheVariants.{Record}
use Rattle.flow.specs.Format.{Check, verdict, fit, unfit, each, present, on_gosub_checks, line_checks, continuation_checks, u8_at, data_place, data_count, element_place, elements_end}
use Rattle.flow.specs.Clauses.Answers.{Reached, answer_of}
use Rattle.flow.proofs.Tests.{tests, lt-or-le}
use Rattle.flow.proofs.Verdicts.{all_fit, stops_at, fit_append, unfit-append}
use Rattle.flow.proofs.Answers.{refused-first, onward}
use Rattle.flow.proofs.check.check_call_lines.Goals as goal

lines_fit : (s : List ℕ) (p n : ℕ) → element_place s p n ≤ length s → verdict (each n (line_checks s p)) ≡ fit
unfolding verdict each line_checks
lines_fit s p zero h = refl
lines_fit s p (suc n) h =
    fit_append (each n (line_checks s p)) (line_checks s p n) (lines_fit s p n (omega arith))
    ∙ all_fit (line_checks s p n) (omega (arith, tests))

lines-short : (s : List ℕ) (p n : ℕ) → data_place s p + 1 ≤ length s → length s < element_place s p n
    → verdict (each n (line_checks s p)) ≡ unfit (Record p)
unfolding each line_checks
lines-short s p zero f h = absurd (omega arith)
lines-short s p (suc n) f h =
    ⊎_elim (λ l. unfit-append (each n (line_checks s p)) (line_checks s p n) (lines-short s p n f l))
    (λ l. fit_append (each n (line_checks s p)) (line_checks s p n) (lines_fit s p n l) ∙ stops_at 0 (line_checks s p n) (omega (arith, tests)))
    (lt-or-le (length s) (element_place s p n))

abbrev front : List ℕ → ℕ → List Check
front s p = present s p (data_place s p + 1) ∷ []

abbrev lines : List ℕ → ℕ → List Check
lines s p = each (data_count s p) (line_checks s p)

abbrev last : List ℕ → ℕ → List Check
last s p = continuation_checks s p (elements_end s p)

short : (s : List ℕ) (p e : ℕ) → data_place s p + 1 ≤ length s → length s < elements_end s p → Err (Record p) ≡ answer_of (verdict (on_gosub_checks s p)) e
unfolding on_gosub_checks
short s p e h l =
    refused-first (lines s p) (last s p) e (lines-short s p (data_count s p) h l)
    ∙ onward (front s p) (lines s p ++ last s p) e (all_fit (front s p) (omega (arith, tests)))

rest : (s : List ℕ) (p e : ℕ) → data_place s p + 1 ≤ length s → elements_end s p ≤ length s
    → answer_of (verdict (last s p)) e ≡ answer_of (verdict (on_gosub_checks s p)) e
unfolding on_gosub_checks
rest s p e h l =
    onward (lines s p) (last s p) e (lines_fit s p (data_count s p) l)
    ∙ onward (front s p) (lines s p ++ last s p) e (all_fit (front s p) (omega (arith, tests)))

-- the end that was computed is that of the elements
ended : {s : List ℕ} {p at count : ℕ} → Reached s p at (data_place s p) → count ≡ u8_at s at → at + 1 + 2 * count ≡ elements_end s p
ended {s} r e =
    let counted = e ∙ ap (u8_at s) r.there in
    omega (arith, counted, r.there)

pub returns-then-file-at : goal.returns-then-file-at
unfolding on_gosub_checks
returns-then-file-at c =
    let s = c.args.file.now in
    let p = c.args.p in
    refused-first (front s p) (lines s p ++ last s p) _ (stops_at 0 (front s p) (omega (arith, tests)))

pub returns-then-file-end : goal.returns-then-file-end
returns-then-file-end c = short c.args.file.now c.args.p _ (omega arith) (omega (arith, ended c.requires c.u8_at.ensures))

pub returns : goal.returns
returns c =
    let s = c.args.file.now in
    let p = c.args.p in
    let ended = ended c.requires c.u8_at.ensures in
    c.check_continuation.ensures
    ∙ ap (λ at. answer_of (verdict (continuation_checks s p at)) (at + 2)) ended
    ∙ rest s p _ (omega arith) (omega (arith, ended))
