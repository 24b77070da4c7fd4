-- Live names are those that come by the walks of the solver's law, backward: after a statement they come there, and before it they leave it.
-- A live name is read somewhere, hence below the number of names, so that a set of live names is a word. By induction on the walks. Assumes nothing.
use Prim.Native.Nat.{ℕ, ◌^◌, ◌<◌}
use mathlib.Core.Bool.{true, false}
use mathlib.Core.List.{List}
use mathlib.Core.Logic.{◌⊎◌, inl, inr}
use mathlib.Core.Path.{◌≡◌}
use native.Mathlib.Nat.{lt_of_lt_of_le}
use lib.Pow.{pow_mono}
use Rattle.words.specs.Clauses.Row.{bit}
use Rattle.flow.specs.Flow.{Flow}
use Rattle.flow.specs.Format.{flow_of, names_of}
use Rattle.records.proofs.Files.{limited}
use Rattle.theory.specs.Live.{reads, writes, LiveIn, LiveOut}
use Rattle.statements.specs.Clauses.Ready.{Ready}
use Rattle.statements.proofs.Names.{word_below, read_name}
use Rattle.solve.specs.Clauses.Sets.{Comes}
use Rattle.solve.proofs.Sets.{takes_all, comes-on}
use Rattle.live.specs.Clauses.Solving.{backward}

pub in_leaves : {f : Flow} {x j : ℕ} → LiveIn f x j → (reads f j x ≡ true) ⊎ ((writes f j x ≡ false) × Comes (backward f) x j)
in_leaves (LiveIn.now e) = inl e
in_leaves (LiveIn.later u m h) = inr (u, comes-on takes_all m (in_leaves h))

pub leaves_in : {f : Flow} {x j : ℕ} → (reads f j x ≡ true) ⊎ ((writes f j x ≡ false) × Comes (backward f) x j) → LiveIn f x j
leaves_in (inl e) = LiveIn.now e
leaves_in (inr t) = on t.0 t.1
  where
    on : {f : Flow} {x j : ℕ} → writes f j x ≡ false → Comes (backward f) x j → LiveIn f x j
    on u (Comes.start e) = absurd e
    on u (Comes.given m t q e) = LiveIn.later u m (LiveIn.now e)
    on u (Comes.through m t q v c) = LiveIn.later u m (on v c)

pub out-comes : {f : Flow} {x i : ℕ} → LiveOut f x i → Comes (backward f) x i
out-comes (LiveOut.at_successor m h) = comes-on takes_all m (in_leaves h)

pub comes-out : {f : Flow} {x i : ℕ} → Comes (backward f) x i → LiveOut f x i
comes-out (Comes.start e) = absurd e
comes-out (Comes.given m t q e) = LiveOut.at_successor m (leaves_in (inl e))
comes-out (Comes.through m t q u c) = LiveOut.at_successor m (leaves_in (inr (u, c)))

-- of a checked file
module _ {s ws : List ℕ} {n : ℕ} (r : Ready s ws n) where
  pub in_name : {x i : ℕ} → LiveIn (flow_of s) x i → x < names_of s
  in_name {x} (LiveIn.now {i = i} e) = read_name r i x e
  in_name (LiveIn.later e m h) = in_name h

  pub out_name : {x i : ℕ} → LiveOut (flow_of s) x i → x < names_of s
  out_name (LiveOut.at_successor m h) = in_name h

  pub live-word : {i : ℕ} (a : ℕ) → ((x : ℕ) → bit a x ≡ 1 → LiveOut (flow_of s) x i) → a < 2 ^ 64
  live-word a sound = lt_of_lt_of_le (word_below a (names_of s) (λ x e. out_name (sound x e))) (pow_mono (limited r.fit).names)
