-- The deciders of body walks, calls, touched arrays and opacity say what the inductive types say, for every well-formed flow. Each is membership in a
-- closure; the closures are exact because a well-formed flow's walks and calls stay below its size. Assumes nothing.
use Prim.Native.Nat.{ℕ, ◌<◌}
use mathlib.Core.Bool.{Bool, true, false, cond, ◌||◌}
use mathlib.Core.List.Memᴰ
use mathlib.Core.List.{[]}
use mathlib.Core.Logic.{◌⊎◌, inl, inr, ⊎_elim}
use mathlib.Core.Option.{Option, none, some}
use mathlib.Core.Path.{◌≡◌, refl, subst}
use Rattle.flow.specs.Flow.{Flow, size, enters}
use Rattle.theory.specs.Lists.{In, any, elem, option_list}
use Rattle.theory.specs.Reach.{Reach}
use Rattle.theory.specs.Body.{kind, successors, references, call_lines, continuation_of, entered, if_some, callees, is_return, or_else, walk_next, Walks, walked, Calls, called, Touches, wipes, Calls⁺, Opaque, OpaqueCall, CallTouches, bodies, touches, on_cycle, opaque, opaque_call, call_touches}
use Rattle.theory.specs.Clauses.WellFormed.{WellFormed}
use Rattle.theory.proofs.Lists.{or_cases, or_left, or_right, same_test, any-In, any_find, In-elem, elem-In, concat_map-In, In-concat_map, In-option_list}
use Rattle.theory.proofs.Reach.{reach_first, reach_below, reach_back, reached-sound, reached-complete}

-- Walks

pub walked-sound : (f : Flow) (e : ℕ) {i : ℕ} → In i (walked f e) → Walks f e i
unfolding walked
walked-sound f e m = reached-sound (walk_next f) (size f) e m

pub called-sound : (f : Flow) (e : ℕ) {b : ℕ} → In b (called f e) → Calls f e b
unfolding called
called-sound f e m =
    let r = In-concat_map (callees f) (walked f e) m in
    Calls.calls (walked-sound f e r.1) r.2

-- the bodies listed are those that calls lead to, the first included
pub bodies-sound : (f : Flow) (e : ℕ) {b : ℕ} → In b (bodies f e) → Reach (called f) e b
unfolding bodies
bodies-sound f e m = reached-sound (called f) (size f) e m

pub calls-then : {f : Flow} {e b c : ℕ} → Calls f e b → Reach (called f) b c → Calls⁺ f e c
calls-then k Reach.here = Calls⁺.one k
calls-then {f} k (Reach.on {i = i} r m) = Calls⁺.more (calls-then k r) (called-sound f i m)

-- no call, or one or more
leads : {f : Flow} {e b : ℕ} → Reach (called f) e b → (b ≡ e) ⊎ Calls⁺ f e b
leads Reach.here = inl refl
leads {f} {e} {b} (Reach.on {i = i} r m) = inr (go (leads r))
  where
    go : (i ≡ e) ⊎ Calls⁺ f e i → Calls⁺ f e b
    go (inl q) = Calls⁺.one (subst (λ z. Calls f z b) q (called-sound f i m))
    go (inr k) = Calls⁺.more k (called-sound f i m)

pub bodies_lead : (f : Flow) (e : ℕ) {b : ℕ} → In b (bodies f e) → (b ≡ e) ⊎ Calls⁺ f e b
bodies_lead f e m = leads (bodies-sound f e m)

module _ {f : Flow} (w : WellFormed f) where
  pub walk_next-below : (i j : ℕ) → In j (walk_next f i) → j < size f
  unfolding walk_next
  walk_next-below i j m = stop (is_return (kind f i)) m
    where
      go : (o : Option ℕ) → continuation_of (kind f i) ≡ o → In j (or_else o (successors f i)) → j < size f
      go none e m = w.successor i j m
      go (some k) e m = rw (Memᴰ.eq_of_singleton m) (w.continuation i k e)

      stop : (b : Bool) → In j (cond b [] (or_else (continuation_of (kind f i)) (successors f i))) → j < size f
      stop true m = absurd (Memᴰ.not-nil m)
      stop false m = go (continuation_of (kind f i)) refl m

  pub entered_below : (i b : ℕ) → In b (entered f i) → b < size f
  unfolding entered
  entered_below i b m =
      let r = In-concat_map (λ l. option_list (enters f l)) (call_lines (kind f i)) m in
      w.first r.0 b (In-option_list (enters f r.0) r.2)

  pub callees-below : (i b : ℕ) → In b (callees f i) → b < size f
  unfolding callees
  callees-below i b m = go (continuation_of (kind f i)) m
    where
      go : (o : Option ℕ) → In b (if_some o (entered f i) []) → b < size f
      go none m = absurd (Memᴰ.not-nil m)
      go (some k) m = entered_below i b m

  pub calls-below : {e b : ℕ} → Calls f e b → b < size f
  calls-below {b = b} (Calls.calls {c = c} r m) = callees-below c b m

  called-below : (e b : ℕ) → In b (called f e) → b < size f
  called-below e b m = calls-below (called-sound f e m)

  pub walked-complete : {e i : ℕ} → e < size f → Walks f e i → In i (walked f e)
  unfolding walked
  walked-complete l r = reached-complete (size f) (walk_next f) walk_next-below l r

  pub called-complete : {e b : ℕ} → e < size f → Calls f e b → In b (called f e)
  unfolding called
  called-complete l (Calls.calls r m) = concat_map-In (callees f) (walked-complete l r) m

  pub bodies-complete : {e b : ℕ} → e < size f → Reach (called f) e b → In b (bodies f e)
  unfolding bodies
  bodies-complete l r = reached-complete (size f) (called f) called-below l r

  -- one or more calls lead to what a closure from a callee reaches
  then-calls : {e c : ℕ} → e < size f → Calls⁺ f e c → (b : ℕ) × In b (called f e) × Reach (called f) b c
  then-calls l (Calls⁺.one {b = b} k) = (b, called-complete l k, Reach.here)
  then-calls l (Calls⁺.more {b = b} r k) =
      let s = then-calls l r in
      (s.0, s.1, Reach.on s.2 (called-complete (reach_below called-below (called-below _ _ s.1) s.2) k))

  pub lead_bodies : {e b : ℕ} → e < size f → (b ≡ e) ⊎ Calls⁺ f e b → In b (bodies f e)
  lead_bodies {e} l (inl q) = Memᴰ.cast q (bodies-complete l Reach.here)
  lead_bodies l (inr k) = let r = then-calls l k in bodies-complete l (reach_first r.1 r.2)

-- Touched arrays

pub touches-sound : (f : Flow) (e a : ℕ) → touches f e a ≡ true → Touches f a e
unfolding touches
touches-sound f e a h =
    let r = any_find (λ b. any (λ i. elem a (references f i)) (walked f b)) (bodies f e) h in
    let s = any_find (λ i. elem a (references f i)) (walked f r.0) r.2 in
    reach_back (Touches f a) (λ i j m t. Touches.nested (called-sound f i m) t) (bodies-sound f e r.1)
    (Touches.own (walked-sound f r.0 s.1) (elem-In a (references f s.0) s.2))

-- Opacity

-- a body that is opaque by itself: its walk wipes, or it lies on a cycle of calls
unfoldable bad : Flow → ℕ → Bool
bad f b = any (λ i. wipes (kind f i)) (walked f b) || on_cycle f b

pub on_cycle-sound : (f : Flow) (e : ℕ) → on_cycle f e ≡ true → Calls⁺ f e e
unfolding on_cycle
on_cycle-sound f e h =
    let r = any_find (λ b. elem e (bodies f b)) (called f e) h in
    calls-then (called-sound f e r.1) (bodies-sound f r.0 (elem-In e (bodies f r.0) r.2))

bad-sound : (f : Flow) (b : ℕ) → bad f b ≡ true → Opaque f b
unfolding bad
bad-sound f b h =
    ⊎_elim
    (λ k. let r = any_find (λ i. wipes (kind f i)) (walked f b) k in Opaque.own (walked-sound f b r.1) r.2)
    (λ k. Opaque.cycle (on_cycle-sound f b k))
    (or_cases (any (λ i. wipes (kind f i)) (walked f b)) (on_cycle f b) h)

pub opaque-sound : (f : Flow) (e : ℕ) → opaque f e ≡ true → Opaque f e
unfolding opaque bad
opaque-sound f e h =
    let r = any_find (bad f) (bodies f e) h in
    reach_back (Opaque f) (λ i j m o. Opaque.calls (called-sound f i m) o) (bodies-sound f e r.1) (bad-sound f r.0 r.2)

pub opaque_call-sound : (f : Flow) (c : ℕ) → opaque_call f c ≡ true → OpaqueCall f c
unfolding opaque_call
opaque_call-sound f c h =
    let r = any_find (opaque f) (callees f c) h in
    OpaqueCall.enters_opaque r.1 (opaque-sound f r.0 r.2)

pub call_touches-sound : (f : Flow) (c a : ℕ) → call_touches f c a ≡ true → CallTouches f c a
unfolding call_touches
call_touches-sound f c a h =
    let r = any_find (λ b. touches f b a) (callees f c) h in
    CallTouches.enters_touching r.1 (touches-sound f r.0 a r.2)

module _ {f : Flow} (w : WellFormed f) where
  touches-own : {a e i : ℕ} → e < size f → Walks f e i → In a (references f i) → any (λ j. elem a (references f j)) (walked f e) ≡ true
  touches-own {a} l r m = any-In (λ j. elem a (references f j)) (walked-complete w l r) (In-elem m)

  -- some body that the calls lead to touches the array itself
  touches_where : {a e : ℕ} → e < size f → Touches f a e → (b : ℕ) × Reach (called f) e b × (any (λ j. elem a (references f j)) (walked f b) ≡ true)
  touches_where {e = e} l (Touches.own r m) = (e, Reach.here, touches-own l r m)
  touches_where l (Touches.nested k t) =
      let r = touches_where (calls-below w k) t in
      (r.0, reach_first (called-complete w l k) r.1, r.2)

  pub touches-complete : {a e : ℕ} → e < size f → Touches f a e → touches f e a ≡ true
  unfolding touches
  touches-complete {a} l t =
      let r = touches_where l t in
      any-In (λ b. any (λ i. elem a (references f i)) (walked f b)) (bodies-complete w l r.1) r.2

  pub on_cycle-complete : {e : ℕ} → e < size f → Calls⁺ f e e → on_cycle f e ≡ true
  unfolding on_cycle
  on_cycle-complete {e} l k =
      let r = then-calls w l k in
      any-In (λ b. elem e (bodies f b)) r.1 (In-elem (bodies-complete w (called-below w e r.0 r.1) r.2))

  -- some body that the calls lead to is opaque by itself
  opaque_where : {e : ℕ} → e < size f → Opaque f e → (b : ℕ) × Reach (called f) e b × (bad f b ≡ true)
  unfolding bad
  opaque_where {e} l (Opaque.own r k) =
      (e, Reach.here, or_left (any (λ i. wipes (kind f i)) (walked f e)) (on_cycle f e) (any-In (λ i. wipes (kind f i)) (walked-complete w l r) k))
  opaque_where l (Opaque.calls k o) =
      let r = opaque_where (calls-below w k) o in
      (r.0, reach_first (called-complete w l k) r.1, r.2)
  opaque_where {e} l (Opaque.cycle k) =
      (e, Reach.here, or_right (any (λ i. wipes (kind f i)) (walked f e)) (on_cycle f e) (on_cycle-complete l k))

  pub opaque-complete : {e : ℕ} → e < size f → Opaque f e → opaque f e ≡ true
  unfolding opaque bad
  opaque-complete l o =
      let r = opaque_where l o in
      any-In (bad f) (bodies-complete w l r.1) r.2

  pub opaque_call-complete : {c : ℕ} → OpaqueCall f c → opaque_call f c ≡ true
  unfolding opaque_call
  opaque_call-complete {c} (OpaqueCall.enters_opaque {b = b} m o) = any-In (opaque f) m (opaque-complete (callees-below w c b m) o)

  pub call_touches-complete : {c a : ℕ} → CallTouches f c a → call_touches f c a ≡ true
  unfolding call_touches
  call_touches-complete {c} {a} (CallTouches.enters_touching {b = b} m t) =
      any-In (λ b. touches f b a) m (touches-complete (callees-below w c b m) t)

  -- Summaries, statement by statement of the walk: a body's summary needs its calls, and a call's summary needs its bodies

  abbrev touches_at : ℕ → ℕ → Bool
  touches_at a i = elem a (references f i) || call_touches f i a

  touches-some : {a e : ℕ} → e < size f → Touches f a e → any (touches_at a) (walked f e) ≡ true
  touches-some {a} l (Touches.own {i = i} r m) =
      any-In (touches_at a) (walked-complete w l r) (or_left (elem a (references f i)) (call_touches f i a) (In-elem m))
  touches-some {a} l (Touches.nested (Calls.calls {c = c} r m) t) =
      any-In (touches_at a) (walked-complete w l r)
      (or_right (elem a (references f c)) (call_touches f c a) (call_touches-complete (CallTouches.enters_touching m t)))

  some-touches : {a e i : ℕ} → Walks f e i → (elem a (references f i) ≡ true) ⊎ (call_touches f i a ≡ true) → Touches f a e
  some-touches {a} {i = i} r (inl h) = Touches.own r (elem-In a (references f i) h)
  some-touches {a} {e} {i} r (inr h) = go (call_touches-sound f i a h)
    where
      go : CallTouches f i a → Touches f a e
      go (CallTouches.enters_touching m t) = Touches.nested (Calls.calls r m) t

  pub touches-equation : (e a : ℕ) → e < size f → touches f e a ≡ any (λ i. elem a (references f i) || call_touches f i a) (walked f e)
  touches-equation e a l =
      same_test (touches f e a) (any (touches_at a) (walked f e))
      (λ h. touches-some l (touches-sound f e a h))
      (λ h.
      let r = any_find (touches_at a) (walked f e) h in
      touches-complete l (some-touches (walked-sound f e r.1) (or_cases (elem a (references f r.0)) (call_touches f r.0 a) r.2)))

  abbrev opaque_at : ℕ → Bool
  opaque_at i = wipes (kind f i) || opaque_call f i

  opaque-some : {e : ℕ} → e < size f → Opaque f e → (any opaque_at (walked f e) || on_cycle f e) ≡ true
  opaque-some {e} l (Opaque.own {i = i} r h) =
      or_left (any opaque_at (walked f e)) (on_cycle f e)
      (any-In opaque_at (walked-complete w l r) (or_left (wipes (kind f i)) (opaque_call f i) h))
  opaque-some {e} l (Opaque.calls (Calls.calls {c = c} r m) o) =
      or_left (any opaque_at (walked f e)) (on_cycle f e)
      (any-In opaque_at (walked-complete w l r) (or_right (wipes (kind f c)) (opaque_call f c) (opaque_call-complete (OpaqueCall.enters_opaque m o))))
  opaque-some {e} l (Opaque.cycle k) = or_right (any opaque_at (walked f e)) (on_cycle f e) (on_cycle-complete l k)

  some-opaque : {e i : ℕ} → Walks f e i → (wipes (kind f i) ≡ true) ⊎ (opaque_call f i ≡ true) → Opaque f e
  some-opaque r (inl h) = Opaque.own r h
  some-opaque {e} {i} r (inr h) = go (opaque_call-sound f i h)
    where
      go : OpaqueCall f i → Opaque f e
      go (OpaqueCall.enters_opaque m o) = Opaque.calls (Calls.calls r m) o

  pub opaque-equation : (e : ℕ) → e < size f → opaque f e ≡ (any (λ i. wipes (kind f i) || opaque_call f i) (walked f e) || on_cycle f e)
  opaque-equation e l =
      same_test (opaque f e) (any opaque_at (walked f e) || on_cycle f e)
      (λ h. opaque-some l (opaque-sound f e h))
      (λ h. opaque-complete l (⊎_elim by_walk (λ k. Opaque.cycle (on_cycle-sound f e k)) (or_cases (any opaque_at (walked f e)) (on_cycle f e) h)))
    where
      by_walk : any opaque_at (walked f e) ≡ true → Opaque f e
      by_walk k =
          let r = any_find opaque_at (walked f e) k in
          some-opaque (walked-sound f e r.1) (or_cases (wipes (kind f r.0)) (opaque_call f r.0) r.2)
