-- What every flow that an accepted file stands for has: its numbers are within their ranges (refusals 3, 5 and 6 of document 01).
-- The theorems on deciders, the queue rule and runs ask this of a flow and nothing else.
use Rattle.std.specs.Prelude.{ℕ, ◌<◌, List, ◌≡◌}
use mathlib.Core.Option.{some}
use Rattle.flow.specs.Flow.{Flow, Kind, Item, size, enters}
use Rattle.theory.specs.Lists.{In}
use Rattle.theory.specs.Body.{kind, successors, references, continuation_of}

pub record WellFormed (f : Flow) : Type 0 where
  pub entry : 0 < size f → f.entry < size f
  pub successor : (i j : ℕ) → In j (successors f i) → j < size f
  pub continuation : (i k : ℕ) → continuation_of (kind f i) ≡ some k → k < size f
  pub first : (l e : ℕ) → enters f l ≡ some e → e < size f
  pub reference : (i a : ℕ) → In a (references f i) → a < f.arrays
  pub dimmed : (i : ℕ) (items : List Item) (x : Item) → kind f i ≡ Kind.dim items → In x items → x.array < f.arrays
  pub handler : (h : ℕ) → f.handler ≡ some h → h < size f
