-- The key's record by cases: where its mark stands, two checks and four bytes; where it does not, no check and no byte.
-- By computing the definitions at the mark's test.
use Prim.Native.Nat.{ℕ, ◌+◌, ◌≤◌}
use native.Mathlib.Omega.{arith}
use mathlib.Core.Bool.{Bool, true, false, cond}
use mathlib.Core.List.{List, [], ◌∷◌}
use mathlib.Core.Option.{none, some}
use mathlib.Core.Path.{◌≡◌, refl, sym, ap, ◌∙◌}
use borrow.Author.Tests.{leb-true}
use lib.ListN.{length}
use Rattle.flow.specs.declared.Refusal.TheVariants.{Target}
use Rattle.flow.specs.Format.{Check, check, present, verdict, fit, target_fits, key_place, has_key, handler_at, handler_of, key_checks, end_place}
use Rattle.flow.proofs.Verdicts.{all_hold}

module _ (s : List ℕ) where
  -- the checks of a record that stands there
  abbrev pub key_record_checks : List Check
  key_record_checks =
      present s (key_place s) (key_place s + 4)
      ∷ check (target_fits s (handler_at s)) (Target (key_place s))
      ∷ []

  pub with_checks : has_key s ≡ true → key_checks s ≡ key_record_checks
  unfolding key_checks
  with_checks h = ap (λ b. cond b key_record_checks []) h

  pub with_end : has_key s ≡ true → end_place s ≡ key_place s + 4
  with_end h = ap (λ b. key_place s + cond b 4 0) h

  pub with_handler : has_key s ≡ true → handler_of s ≡ some (handler_at s)
  with_handler h = ap (λ b. cond b (some (handler_at s)) none) h

  pub without_checks : has_key s ≡ false → key_checks s ≡ []
  unfolding key_checks
  without_checks h = ap (λ b. cond b key_record_checks []) h

  pub without_end : has_key s ≡ false → end_place s ≡ key_place s
  without_end h =
      let same : key_place s + cond false 4 0 ≡ key_place s = omega arith in
      ap (λ b. key_place s + cond b 4 0) h ∙ same

  pub without-handler : has_key s ≡ false → handler_of s ≡ none
  without-handler h = ap (λ b. cond b (some (handler_at s)) none) h

  pub key-within : key_place s ≤ length s → verdict (key_checks s) ≡ fit → end_place s ≤ length s
  key-within l h = go (has_key s) refl
    where
      go : (b : Bool) → has_key s ≡ b → end_place s ≤ length s
      go true e = let all = all_hold key_record_checks (ap verdict (sym (with_checks e)) ∙ h) in omega (arith, leb-true, with_end e)
      go false e = omega (arith, without_end e)
