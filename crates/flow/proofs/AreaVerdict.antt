-- The verdict on the areas: fit where each is long enough, and else the one refusal that areas have.
-- By cases on the four tests.
use Prim.Native.Nat.{ℕ, ◌*◌}
use mathlib.Core.Bool.{Bool, true, false, cond, ◌&&◌}
use mathlib.Core.Path.{◌≡◌, refl, ap, ◌∙◌}
use lib.Dec.{leb}
use Rattle.flow.specs.declared.Refusal.TheVariants.{Areas}
use Rattle.flow.specs.Limits.{work_words}
use Rattle.flow.specs.Format.{fit, unfit, first, verdict, area_checks}
use Rattle.flow.specs.Clauses.Answers.{is_fit}

abbrev pub long_enough : (n arrays masks live_in live_out work : ℕ) → Bool
long_enough n arrays masks live_in live_out work =
    leb (n * arrays) masks && (leb n live_in && (leb n live_out && leb (work_words n) work))

module _ (n arrays masks live_in live_out work : ℕ) where
  pub area-verdict : verdict (area_checks n arrays masks live_in live_out work) ≡ cond (long_enough n arrays masks live_in live_out work) fit (unfit Areas)
  unfolding verdict area_checks
  area-verdict = go (leb (n * arrays) masks) (leb n live_in) (leb n live_out) (leb (work_words n) work)
    where
      go : (a b c d : Bool) → first a Areas (first b Areas (first c Areas (first d Areas fit))) ≡ cond (a && (b && (c && d))) fit (unfit Areas)
      go false b c d = refl
      go true false c d = refl
      go true true false d = refl
      go true true true false = refl
      go true true true true = refl

  pub areas-fit : is_fit (verdict (area_checks n arrays masks live_in live_out work)) ≡ long_enough n arrays masks live_in live_out work
  areas-fit = ap is_fit area-verdict ∙ go (long_enough n arrays masks live_in live_out work)
    where
      go : (b : Bool) → is_fit (cond b fit (unfit Areas)) ≡ b
      go true = refl
      go false = refl
