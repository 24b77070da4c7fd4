-- Kinds and their numbers: two kinds have two numbers, so that which kind a statement is and which number stands in the file are one question.
-- By cases on the kind. Assumes nothing.
use Prim.Native.Nat.{ℕ, ◌≤◌}
use mathlib.Core.Bool.{true, false, not, cond}
use mathlib.Core.Logic.{inl, inr}
use mathlib.Core.Path.{◌≡◌, refl, sym, ap, ◌∙◌}
use native.Mathlib.Omega.{arith}
use lib.Dec.{eqb}
use borrow.Author.Rules.{rules}
use denote.Enum.Bare.{sameb, same_false, differs_true, differs_false}
use Rattle.flow.specs.contracts.kind.Kind.{the_type}
use Rattle.flow.specs.declared.kind.Kind.{Kind}
use Rattle.flow.specs.declared.kind.Kind.TheVariants.{Other, Return, Clr, Run, Dim, Gosub, OnGosub}
use Rattle.flow.specs.Clauses.Kinds.{kind_number, Tells}

-- the kind of a number, and none of it for a number over 6
kind_back : ℕ → Kind
kind_back n =
    cond (eqb n 1) Return (cond (eqb n 2) Clr (cond (eqb n 3) Run (cond (eqb n 4) Dim (cond (eqb n 5) Gosub (cond (eqb n 6) OnGosub Other)))))

goes_back : (k : Kind) → kind_back (kind_number k) ≡ k
unfolding kind_back
goes_back Other = refl
goes_back Return = refl
goes_back Clr = refl
goes_back Run = refl
goes_back Dim = refl
goes_back Gosub = refl
goes_back OnGosub = refl

pub number-tells : {j k : Kind} → kind_number j ≡ kind_number k → j ≡ k
number-tells {j} {k} e = sym (goes_back j) ∙ ap kind_back e ∙ goes_back k

-- a number of which the kind is known, and is not j
pub number-not : {k : Kind} {n : ℕ} (j : Kind) → kind_number k ≡ n → (k ≡ j → ⊥) → n ≡ kind_number j → ⊥
number-not j e other same = other (number-tells (e ∙ same))

pub number-most : (k : Kind) → kind_number k ≤ 6
number-most Other = omega arith
number-most Return = omega arith
number-most Clr = omega arith
number-most Run = omega arith
number-most Dim = omega arith
number-most Gosub = omega arith
number-most OnGosub = omega arith

-- the same of a number that may stand for no kind

pub told-not : {k : Kind} {n : ℕ} (j : Kind) → Tells n k → (k ≡ j → ⊥) → n ≡ kind_number j → ⊥
told-not j (inl e) other same = number-not j e other same
told-not j (inr o) other same = omega (arith, o.1, number-most j)

-- what a comparison of two kinds says

pub other-kind : (j k : Kind) → false ≡ sameb the_type j k → j ≡ k → ⊥
other-kind j k e = same_false the_type j k (sym e)

pub same-unlike : (j k : Kind) → false ≡ not (sameb the_type j k) → j ≡ k
same-unlike j k e = differs_false the_type (search rules) j k (sym e)

pub other-unlike : (j k : Kind) → true ≡ not (sameb the_type j k) → j ≡ k → ⊥
other-unlike j k e = differs_true the_type j k (sym e)
