-- The answers for a part of a file from its verdict: a part is refused at its first unfit check and passed where none is.
-- By the laws of verdicts.
use Prim.Native.Nat.{ℕ, ◌+◌, ◌<◌}
use native.Mathlib.Omega.{arith}
use mathlib.Core.List.{List, ◌++◌}
use mathlib.Core.Path.{◌≡◌, refl, sym, ap, ◌∙◌}
use Rattle.flow.specs.declared.Refusal.{Refusal}
use Rattle.std.specs.Prelude.{Result, Ok, Err, IsErrAnd}
use Rattle.std.proofs.lemmas.Result.{err_from_is_err_and}
use Rattle.flow.specs.Format.{Check, Verdict, fit, unfit, verdict, each}
use Rattle.flow.specs.Clauses.Answers.{answer_of}
use Rattle.flow.proofs.Verdicts.{AllHold, all_fit, StopsAt, refusal_at, stops_at, fit_append, unfit-append, unfit-at, fit-more}

-- from a verdict that is known

pub refused_by : {T : Type 0} (cs : List Check) (e : T) {r : Refusal} → verdict cs ≡ unfit r → Err r ≡ answer_of (verdict cs) e
refused_by cs e h = ap (λ v. answer_of v e) (sym h)

pub passed_by : {T : Type 0} (cs : List Check) (e : T) → verdict cs ≡ fit → Ok e ≡ answer_of (verdict cs) e
passed_by cs e h = ap (λ v. answer_of v e) (sym h)

-- part by part: a part that is fit leaves the answer to what follows, and one that is not gives it

pub onward : {T : Type 0} (cs ds : List Check) (e : T) → verdict cs ≡ fit → answer_of (verdict ds) e ≡ answer_of (verdict (cs ++ ds)) e
onward cs ds e h = ap (λ v. answer_of v e) (sym (fit_append cs ds h))

pub refused-first : {T : Type 0} (cs ds : List Check) (e : T) {r : Refusal} → verdict cs ≡ unfit r → Err r ≡ answer_of (verdict (cs ++ ds)) e
refused-first cs ds e h = refused_by (cs ++ ds) e (unfit-append cs ds h)

-- element by element, after a part that is fit: elements before the first unfit one are fit

pub refused_element : {T : Type 0} (cs : List Check) (k n j : ℕ) (f : ℕ → List Check) (e : T) → verdict cs ≡ fit → k < n → verdict (each k f) ≡ fit
    → StopsAt j (f k) → Err (refusal_at j (f k)) ≡ answer_of (verdict (cs ++ each n f)) e
refused_element cs k n j f e h l i u =
    refused_by (cs ++ each n f) e (fit_append cs (each n f) h ∙ unfit-at k n f l i (stops_at j (f k) u))

pub one_more : (k : ℕ) (f : ℕ → List Check) → verdict (each k f) ≡ fit → AllHold (f k) → verdict (each (k + 1) f) ≡ fit
one_more k f h i = fit-more k f h (all_fit (f k) i)

-- what `?` returns at a refusal
pub handed_on : {T : Type 0} {x y : Result T Refusal} {r : Refusal} → IsErrAnd x (λ e. e ≡ r) → Err r ≡ y → x ≡ y
handed_on {x = x} h e = let p = err_from_is_err_and x h in p.1 ∙ ap Err p.2 ∙ e

-- what an answer says of the verdict

pub verdict-refused : {T : Type 0} (v : Verdict) (e : T) {r : Refusal} → Err r ≡ answer_of v e → v ≡ unfit r
verdict-refused fit e {r} h = absurd (let z : ◌≡◌ {A = ℕ} 0 1 = cc in omega arith)
verdict-refused (unfit r') e {r} h = cc

pub record Through {T : Type 0} (v : Verdict) (q e : T) : Type 0 where
  pub is_fit : v ≡ fit
  pub place : q ≡ e

pub verdict-passed : {T : Type 0} (v : Verdict) (q e : T) → Ok q ≡ answer_of v e → Through v q e
verdict-passed fit q e h = record { is_fit = refl; place = cc }
verdict-passed (unfit r) q e h = absurd (let z : ◌≡◌ {A = ℕ} 0 1 = cc in omega arith)
