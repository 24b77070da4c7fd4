-- What an answer tells the caller: an accepted one that file and areas were judged fit, and what was written; a refused one which field or area was unfit, and
-- that nothing was written. A verdict is fit or unfit, and the promise gives the answer for each; only one, since the count is that of the computed form.
use Prim.Native.Nat.{ℕ, ◌+◌, ◌*◌, ◌<◌}
use native.Mathlib.Omega.{arith}
use mathlib.Core.Bool.{Bool, true, false}
use mathlib.Core.List.{List}
use mathlib.Core.Path.{◌≡◌, refl, sym, ap, subst, ◌∙◌}
use lib.ListN.{length, get_or}
use Rattle.flow.specs.declared.Refusal.{Refusal}
use Rattle.flow.specs.Flow.{Flow, size}
use Rattle.flow.specs.Format.{Verdict, fit, unfit, file_checks, flow_of}
use Rattle.flow.specs.Clauses.Answers.{FitFile}
use Rattle.flow.proofs.Verdicts.{fit-left}
use Rattle.theory.specs.Key.{opaque_handler}
use Rattle.theory.specs.Computed.{mask_of, visits_of}
use Rattle.theory.specs.Clauses.WellFormed.{WellFormed}
use Rattle.theory.proofs.Handler.{opaque_handler-sound, handler-not-opaque}
use Rattle.theory.proofs.Terms.{term_1_visits, term_1_masks, opaque-visits, opaque-masks}
use Rattle.statements.proofs.WellFormed.{well_formed}
use Rattle.std.specs.Prelude.{Result, Ok, Err}
use Rattle.dataflow.specs.Promise.{Promise, Answered, Untouched, judged}

-- an accepted answer is no refusal
not_both : {r : Result ℕ Refusal} {v : ℕ} {x : Refusal} → r ≡ Ok v → r ≡ Err x → ⊥
not_both e h = let z : ◌≡◌ {A = ℕ} 0 1 = cc in omega arith

same-visits : {r : Result ℕ Refusal} {v w : ℕ} → r ≡ Ok v → r ≡ Ok w → v ≡ w
same-visits e h = cc

same_refusal : {r : Result ℕ Refusal} {x y : Refusal} → r ≡ Err x → r ≡ Err y → x ≡ y
same_refusal e h = cc

module _ {s masks masks' live_in live_in' live_out live_out' work work' : List ℕ} {r : Result ℕ Refusal} (p : Promise s masks masks' live_in live_in' live_out live_out' work work' r) where
  abbrev found : Verdict
  found = judged s (length masks) (length live_in) (length live_out) (length work)

  pub told-accepted : {v : ℕ} → r ≡ Ok v → (judged s (length masks) (length live_in) (length live_out) (length work) ≡ fit) × Answered (flow_of s) masks masks' live_in live_in' live_out live_out' work work' v
  told-accepted {v} told = by found refl
    where
      by : (x : Verdict) → found ≡ x → (found ≡ fit) × Answered (flow_of s) masks masks' live_in live_in' live_out live_out' work work' v
      by fit e =
          let a = p.accepted e in
          (e, subst (λ k. Answered (flow_of s) masks masks' live_in live_in' live_out live_out' work work' k) (same-visits a.1 told) a.2)
      by (unfit x) e = absurd (not_both told (p.refused x e).0)

  pub told-refused : {x : Refusal} → r ≡ Err x → (judged s (length masks) (length live_in) (length live_out) (length work) ≡ unfit x) × Untouched masks masks' live_in live_in' live_out live_out' work work'
  told-refused {x} told = by found refl
    where
      by : (y : Verdict) → found ≡ y → (found ≡ unfit x) × Untouched masks masks' live_in live_in' live_out live_out' work work'
      by fit e = absurd (not_both (p.accepted e).1 told)
      by (unfit y) e = let a = p.refused y e in (subst (λ (z : Refusal). found ≡ unfit z) (same_refusal a.0 told) e, a.1)

-- file and areas that are judged fit: the file is
pub fit-file : (s : List ℕ) (masks live_in live_out work : ℕ) → judged s masks live_in live_out work ≡ fit → FitFile s
fit-file s masks live_in live_out work e = record { checked = fit-left (file_checks s) _ e }

-- the count and the bytes are those of the computed form
module _ {f : Flow} {masks masks' live_in live_in' live_out live_out' work work' : List ℕ} {v : ℕ} (wf : WellFormed f) (done : Answered f masks masks' live_in live_in' live_out live_out' work work' v) where
  pub visits_computed : v ≡ visits_of f
  visits_computed = go (opaque_handler f) refl
    where
      go : (b : Bool) → opaque_handler f ≡ b → v ≡ visits_of f
      go true q = (done.unsolved (opaque_handler-sound f q)).no_visits ∙ sym (opaque-visits f q)
      go false q = term_1_visits f wf q (done.solved (handler-not-opaque wf q)).over

  pub masks_computed : (i a : ℕ) → i < size f → a < f.arrays → get_or masks' (i * f.arrays + a) 0 ≡ mask_of f i a
  masks_computed i a l m = go (opaque_handler f) refl
    where
      go : (b : Bool) → opaque_handler f ≡ b → get_or masks' (i * f.arrays + a) 0 ≡ mask_of f i a
      go true q = (done.unsolved (opaque_handler-sound f q)).mask_bytes i a l m ∙ sym (opaque-masks f q i a)
      go false q = let rule = done.solved (handler-not-opaque wf q) in rule.mask_bytes i a l m ∙ term_1_masks f wf q rule.over i a

-- two calls with the same file and areas of the same lengths have the same answer
pub one_answer : {s masks live_in live_out work : List ℕ} {m₁ m₂ i₁ i₂ o₁ o₂ w₁ w₂ : List ℕ} {r₁ r₂ : Result ℕ Refusal}
    → Promise s masks m₁ live_in i₁ live_out o₁ work w₁ r₁ → Promise s masks m₂ live_in i₂ live_out o₂ work w₂ r₂ → r₁ ≡ r₂
one_answer {s} {masks} {live_in} {live_out} {work} {r₁ = r₁} {r₂ = r₂} p q = by (judged s (length masks) (length live_in) (length live_out) (length work)) refl
  where
    by : (x : Verdict) → judged s (length masks) (length live_in) (length live_out) (length work) ≡ x → r₁ ≡ r₂
    by fit e =
        let a = p.accepted e in
        let b = q.accepted e in
        let wf = well_formed (fit-file s (length masks) (length live_in) (length live_out) (length work) e) in
        a.1 ∙ ap Ok (visits_computed wf a.2 ∙ sym (visits_computed wf b.2)) ∙ sym b.1
    by (unfit x) e = (p.refused x e).0 ∙ sym (q.refused x e).0
