-- Live names are decided exactly: a walk reads the name before any write exactly when the closure over statements that do not write it meets a read. Document 01's
-- equations hold of them, and they are the least that satisfy these; a self loop with no read shows that the equations alone have another solution. Assumes nothing.
use Prim.Native.Nat.{ℕ, zero, suc, ◌<◌}
use mathlib.Core.Bool.{Bool, true, false, cond, not, ◌&&◌, ◌||◌}
use mathlib.Core.List.Memᴰ
use mathlib.Core.List.{[], ◌∷◌}
use mathlib.Core.Logic.{◌⊎◌, inl, inr}
use mathlib.Core.Option.{none}
use mathlib.Core.Path.{◌≡◌, refl, ◌∙◌, ap}
use native.Mathlib.Nat.{zero-div}
use native.Mathlib.Omega.{arith}
use borrow.Author.Tests.{not-true}
use Rattle.flow.specs.Flow.{Flow, Kind, size}
use Rattle.theory.specs.Lists.{In, any, elem, sum_below}
use Rattle.theory.specs.Reach.{Reach, closure, closure_fuel, reached}
use Rattle.theory.specs.Body.{successors}
use Rattle.theory.specs.Clauses.WellFormed.{WellFormed}
use Rattle.theory.specs.Live.{reads, writes, LiveIn, LiveOut, unwritten, is_live_in, is_live_out, Equations}
use Rattle.theory.proofs.Lists.{or_cases, or_left, or_right, and_both, and-true, same_test, any-In, any_find}
use Rattle.theory.proofs.Reach.{reach_first, reach_back, reached-sound, reached-complete}

-- a walk goes on from a statement that does not write the name
pub In-unwritten : (f : Flow) (x i : ℕ) {j : ℕ} → In j (unwritten f x i) → (writes f i x ≡ false) × In j (successors f i)
unfolding unwritten
In-unwritten f x i {j} m = go (writes f i x) refl m
  where
    go : (b : Bool) → writes f i x ≡ b → In j (cond b [] (successors f i)) → (writes f i x ≡ false) × In j (successors f i)
    go true e m = absurd (Memᴰ.not-nil m)
    go false e m = (e, m)

pub unwritten-In : (f : Flow) (x i : ℕ) {j : ℕ} → writes f i x ≡ false → In j (successors f i) → In j (unwritten f x i)
unfolding unwritten
unwritten-In f x i e m = rw e m

pub is_live_in-sound : (f : Flow) (x i : ℕ) → is_live_in f x i ≡ true → LiveIn f x i
unfolding is_live_in
is_live_in-sound f x i h =
    let r = any_find (λ j. reads f j x) (reached (unwritten f x) (size f) i) h in
    reach_back (LiveIn f x) (λ k j m l. let u = In-unwritten f x k m in LiveIn.later u.0 u.1 l)
    (reached-sound (unwritten f x) (size f) i r.1) (LiveIn.now r.2)

pub is_live_out-sound : (f : Flow) (x i : ℕ) → is_live_out f x i ≡ true → LiveOut f x i
unfolding is_live_out
is_live_out-sound f x i h =
    let r = any_find (is_live_in f x) (successors f i) h in
    LiveOut.at_successor r.1 (is_live_in-sound f x r.0 r.2)

module _ {f : Flow} (w : WellFormed f) where
  pub unwritten-below : (x i j : ℕ) → In j (unwritten f x i) → j < size f
  unwritten-below x i j m = w.successor i j (In-unwritten f x i m).1

  -- the statement that reads the name
  live_where : {x i : ℕ} → LiveIn f x i → (j : ℕ) × Reach (unwritten f x) i j × (reads f j x ≡ true)
  live_where (LiveIn.now {i = i} h) = (i, Reach.here, h)
  live_where {x} (LiveIn.later {i = i} u m l) = let r = live_where l in (r.0, reach_first (unwritten-In f x i u m) r.1, r.2)

  pub is_live_in-complete : {x i : ℕ} → i < size f → LiveIn f x i → is_live_in f x i ≡ true
  unfolding is_live_in
  is_live_in-complete {x} l h =
      let r = live_where h in
      any-In (λ j. reads f j x) (reached-complete (size f) (unwritten f x) (unwritten-below x) l r.1) r.2

  pub is_live_out-complete : {x i : ℕ} → LiveOut f x i → is_live_out f x i ≡ true
  unfolding is_live_out
  is_live_out-complete {x} {i} (LiveOut.at_successor {j = j} m h) = any-In (is_live_in f x) m (is_live_in-complete (w.successor i j m) h)

  -- Equations

  module _ (x i : ℕ) (l : i < size f) where
    in_then : LiveIn f x i → (reads f i x || (is_live_out f x i && not (writes f i x))) ≡ true
    in_then (LiveIn.now h) = or_left (reads f i x) (is_live_out f x i && not (writes f i x)) h
    in_then (LiveIn.later u m h) =
        or_right (reads f i x) (is_live_out f x i && not (writes f i x))
        (and-true (is_live_out f x i) (not (writes f i x)) (is_live_out-complete (LiveOut.at_successor m h)) (ap not u))

    then_in : (reads f i x ≡ true) ⊎ ((is_live_out f x i && not (writes f i x)) ≡ true) → LiveIn f x i
    then_in (inl h) = LiveIn.now h
    then_in (inr h) = go (is_live_out-sound f x i (and_both (is_live_out f x i) (not (writes f i x)) h).0)
      where
        go : LiveOut f x i → LiveIn f x i
        go (LiveOut.at_successor m k) = LiveIn.later (not-true (writes f i x) (and_both (is_live_out f x i) (not (writes f i x)) h).1) m k

  pub live_equations : Equations f (is_live_in f) (is_live_out f)
  unfolding is_live_out
  live_equations = record {
    live_in = λ x i l.
        same_test (is_live_in f x i) (reads f i x || (is_live_out f x i && not (writes f i x)))
        (λ h. in_then x i l (is_live_in-sound f x i h))
        (λ h. is_live_in-complete l (then_in x i l (or_cases (reads f i x) (is_live_out f x i && not (writes f i x)) h)));
    live_out = λ x i l. refl;
  }

  -- every solution of the equations holds at least the live names
  pub live_least : {before after : ℕ → ℕ → Bool} → Equations f before after → {x i : ℕ} → i < size f → LiveIn f x i → before x i ≡ true
  live_least {before} {after} s {x} {i} l (LiveIn.now h) = s.live_in x i l ∙ or_left (reads f i x) (after x i && not (writes f i x)) h
  live_least {before} {after} s {x} {i} l (LiveIn.later {j = j} u m h) =
      s.live_in x i l
      ∙ or_right (reads f i x) (after x i && not (writes f i x))
      (and-true (after x i) (not (writes f i x)) (s.live_out x i l ∙ any-In (before x) m (live_least s (w.successor i j m) h)) (ap not u))

-- The equations alone do not say it: one statement that goes to itself and neither reads nor writes

abbrev pub self_loop : Flow
self_loop = record {
  arrays = 0;
  names = 1;
  entry = 0;
  statements = record { line = 10; kind = Kind.other; successors = 0 ∷ []; references = []; written = 0; read = 0 } ∷ [];
  lines = [];
  handler = none;
}

pub not_live : is_live_in self_loop 0 0 ≡ false
unfolding is_live_in unwritten any elem sum_below closure closure_fuel reached
not_live = refl

pub another_solution : Equations self_loop (λ x i. true) (λ x i. true)
unfolding any
another_solution = record { live_in = in_eq; live_out = out_eq }
  where
    in_eq : (x i : ℕ) → i < 1 → true ≡ (reads self_loop i x || (true && not (writes self_loop i x)))
    in_eq x zero l = simp zero-div
    in_eq x (suc i) l = absurd (omega arith)

    out_eq : (x i : ℕ) → i < 1 → true ≡ any (λ i. true) (successors self_loop i)
    out_eq x zero l = refl
    out_eq x (suc i) l = absurd (omega arith)
