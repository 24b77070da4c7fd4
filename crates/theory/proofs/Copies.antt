-- The copy that a doubled number stands for: below n in base 0, from n on in base n; its statement is one of the n, and its number the one that it stands for.
-- By the test that tells the two apart. Assumes nothing.
use Prim.Native.Nat.{ℕ, ◌+◌, ◌-◌, ◌≤◌, ◌<◌}
use mathlib.Core.Bool.{Bool, cond}
use mathlib.Core.Path.{◌≡◌, sym, ap, subst, ◌∙◌}
use native.Mathlib.Decide.{dec_lt}
use native.Mathlib.Omega.{arith}
use borrow.Author.Tests.{lt-ltb, le-ltb}
use Rattle.flow.specs.declared.Base.TheVariants.{Zero, N}
use Rattle.theory.specs.Doubled.{Node, at, number_in, node_in}

pub node-low : (n d : ℕ) → d < n → node_in n d ≡ at Zero d
node-low n d l = ap (λ (t : Bool). cond t (at Zero d) (at N (d - n))) (lt-ltb d n l)

pub node-high : (n d : ℕ) → n ≤ d → node_in n d ≡ at N (d - n)
node-high n d l = ap (λ (t : Bool). cond t (at Zero d) (at N (d - n))) (le-ltb d n l)

pub node-below : (n d : ℕ) → d < n + n → (node_in n d).stmt < n
node-below n d l = go (dec_lt d n)
  where
    go : Dec (d < n) → (node_in n d).stmt < n
    go (yes h) = subst (λ (v : Node). v.stmt < n) (sym (node-low n d h)) h
    go (no h) = subst (λ (v : Node). v.stmt < n) (sym (node-high n d (omega (arith, h)))) (omega (arith, h))

pub number-node : (n d : ℕ) → number_in n (node_in n d) ≡ d
number-node n d = go (dec_lt d n)
  where
    go : Dec (d < n) → number_in n (node_in n d) ≡ d
    go (yes h) = ap (number_in n) (node-low n d h) ∙ omega arith
    go (no h) = ap (number_in n) (node-high n d (omega (arith, h))) ∙ omega (arith, h)
