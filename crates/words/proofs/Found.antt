-- What a search for a number below a bound answers: by the comparison of the two, and by what the next member is. Assumes nothing.
use mathlib.Core.Path.{◌≡◌, refl, sym, ap, ◌∙◌, subst}
use mathlib.Core.Bool.{Bool, true, false, cond}
use mathlib.Core.List.{List}
use Prim.Native.Nat.{ℕ, ◌≤◌, ◌<◌, min}
use native.Mathlib.Omega.{arith}
use native.Mathlib.Decide.{dec_lt}
use lib.Dec.{ltb}
use Rattle.std.specs.Prelude.{Some, None}
use Rattle.std.proofs.lemmas.Bool.{ltb-true, ltb-false, lt-ltb, le-ltb}
use Rattle.words.specs.Clauses.Row.{has, next_member, found_below, First}
use Rattle.words.proofs.NextMember.{first}

-- below the bound it is found

pub found-at : {m b : ℕ} → m < b → Some m ≡ found_below m b
unfolding found_below
found-at {m} {b} l = sym (ap (λ (t : Bool). cond t (Some m) None) (lt-ltb m b l))

pub found-past : {m b : ℕ} → b ≤ m → None ≡ found_below m b
unfolding found_below
found-past {m} {b} l = sym (ap (λ (t : Bool). cond t (Some m) None) (le-ltb m b l))

pub found-min : (m b : ℕ) → found_below (min m b) b ≡ found_below m b
found-min m b = at (dec_lt m b)
  where
    at : Dec (m < b) → found_below (min m b) b ≡ found_below m b
    at (yes l) =
        let same : min m b ≡ m = omega arith in
        ap (λ (x : ℕ). found_below x b) same
    at (no l) =
        let past : b ≤ m = omega (arith, l) in
        let last : b ≤ min m b = omega arith in
        sym (found-past last) ∙ found-past past

-- and what is found is below it

module _ {m b : ℕ} where
  pub found-some : {k : ℕ} → Some k ≡ found_below m b → (k ≡ m) × (k < b)
  unfolding found_below
  found-some {k} e = at (ltb m b) refl e
    where
      at : (t : Bool) → ltb m b ≡ t → Some k ≡ cond t (Some m) None → (k ≡ m) × (k < b)
      at true q e =
          let same : k ≡ m = cc in
          let less : m < b = ltb-true m b q in
          (same, omega arith)
      at false q e = absurd (cc)

  pub found-none : None ≡ found_below m b → b ≤ m
  unfolding found_below
  found-none e = at (ltb m b) refl e
    where
      at : (t : Bool) → ltb m b ≡ t → None ≡ cond t (Some m) None → b ≤ m
      at true q e = absurd (cc)
      at false q e = ltb-false m b q

-- so the search for the next member finds the first one, or there is none

module _ (ws : List ℕ) (base from bound : ℕ) (l : from ≤ bound) where
  pub next-some : {k : ℕ} → Some k ≡ found_below (next_member ws base from bound) bound → First ws base from bound k × (k < bound)
  next-some e =
      let found = found-some e in
      (subst (First ws base from bound) (sym found.0) (first ws base from bound l), found.1)

  pub next-none : None ≡ found_below (next_member ws base from bound) bound → (j : ℕ) → from ≤ j → j < bound → has ws base j ≡ 0
  next-none e j a b =
      let past : bound ≤ next_member ws base from bound = found-none e in
      (first ws base from bound l).none j a (omega arith)
