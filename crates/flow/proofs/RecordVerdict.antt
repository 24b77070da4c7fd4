-- The verdict on a statement's record by its parts, start, successors and the rest: the first part that is unfit gives it.
-- By the laws of verdicts. A start that is fit lies within the file, and so do successors that are fit.
use Prim.Native.Nat.{ℕ, ◌+◌, ◌≤◌, ◌<◌}
use native.Mathlib.Omega.{arith}
use mathlib.Core.List.{List, ◌++◌}
use mathlib.Core.Path.{◌≡◌, ◌∙◌}
use borrow.Author.Tests.{leb-true}
use lib.ListN.{length}
use Rattle.flow.specs.declared.Refusal.{Refusal}
use Rattle.flow.specs.Format.{Check, verdict, fit, unfit, each, start_checks, successor_checks, rest_checks, record_checks, successor_count, references_place}
use Rattle.flow.proofs.Verdicts.{StopsAt, refusal_at, stops_at, all_hold, fit_append, unfit-append, unfit-at, elements-within}

module _ (s : List ℕ) (p : ℕ) where
  abbrev pub successors : List Check
  successors = each (successor_count s p) (successor_checks s p)

  pub start-within : verdict (start_checks s p) ≡ fit → p + 6 ≤ length s
  unfolding start_checks
  start-within h = let all = all_hold (start_checks s p) h in omega (arith, leb-true)

  pub successors-within : p + 6 ≤ length s → verdict successors ≡ fit → references_place s p ≤ length s
  unfolding successor_checks
  successors-within l h =
      elements-within (successor_count s p) (successor_checks s p) (length s) (p + 6) 2 l
      (λ k f. let first = all_hold (successor_checks s p k) f in omega (arith, leb-true)) h

  pub in_start : {r : Refusal} → verdict (start_checks s p) ≡ unfit r → verdict (record_checks s p) ≡ unfit r
  unfolding record_checks
  in_start h = unfit-append (start_checks s p) (successors ++ rest_checks s p) h

  pub in_successors : (k j : ℕ) → verdict (start_checks s p) ≡ fit → k < successor_count s p → verdict (each k (successor_checks s p)) ≡ fit
      → StopsAt j (successor_checks s p k) → verdict (record_checks s p) ≡ unfit (refusal_at j (successor_checks s p k))
  unfolding record_checks
  in_successors k j h l i u =
      fit_append (start_checks s p) (successors ++ rest_checks s p) h
      ∙ unfit-append successors (rest_checks s p) (unfit-at k (successor_count s p) (successor_checks s p) l i (stops_at j (successor_checks s p k) u))

  pub after-successors : verdict (start_checks s p) ≡ fit → verdict successors ≡ fit → verdict (record_checks s p) ≡ verdict (rest_checks s p)
  unfolding record_checks
  after-successors h i = fit_append (start_checks s p) (successors ++ rest_checks s p) h ∙ fit_append successors (rest_checks s p) i
