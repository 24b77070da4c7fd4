-- A body that is not opaque is transparent: nothing on its walk wipes, and every body that it calls is transparent. That this is well founded follows from the
-- number of bodies that calls lead to, which falls with each call off a cycle. Transparent and opaque exclude each other. Assumes nothing.
use Prim.Native.Nat.{ℕ, zero, suc, ◌<◌}
use mathlib.Core.Bool.{false}
use mathlib.Core.Path.{◌≡◌}
use native.Mathlib.Omega.{arith}
use Rattle.flow.specs.Flow.{Flow, size}
use Rattle.theory.specs.Lists.{In, elem}
use Rattle.theory.specs.Reach.{Reach}
use Rattle.theory.specs.Body.{kind, callees, Walks, Calls, wipes, Calls⁺, Opaque, OpaqueCall, bodies, opaque, opaque_call}
use Rattle.theory.specs.Clauses.WellFormed.{WellFormed}
use Rattle.theory.proofs.Lists.{clash, not_so, elem-In, members, members-lt}
use Rattle.theory.proofs.Reach.{reach_first}
use Rattle.theory.proofs.Body.{bodies-sound, bodies-complete, called-complete, calls-then, calls-below, callees-below, opaque-sound, opaque-complete, opaque_call-sound, opaque_call-complete}

pub data Transparent (f : Flow) : ℕ → Type 0 where
  transparent : {e : ℕ} → ((i : ℕ) → Walks f e i → wipes (kind f i) ≡ false) → ((b : ℕ) → Calls f e b → Transparent f b) → Transparent f e

pub transparent_walk : {f : Flow} {e i : ℕ} → Transparent f e → Walks f e i → wipes (kind f i) ≡ false
transparent_walk {i = i} (Transparent.transparent h k) r = h i r

pub transparent_callee : {f : Flow} {e c b : ℕ} → Transparent f e → Walks f e c → In b (callees f c) → Transparent f b
transparent_callee {b = b} (Transparent.transparent h k) r m = k b (Calls.calls r m)

-- the first of one or more calls, and that the body called leads to whatever the last one calls
first-call : {f : Flow} {e c : ℕ} → Calls⁺ f e c → (b : ℕ) × Calls f e b × ((d : ℕ) → Calls f c d → Calls⁺ f b d)
first-call (Calls⁺.one {b = b} k) = (b, k, λ d h. Calls⁺.one h)
first-call (Calls⁺.more {c = c} r k) = let s = first-call r in (s.0, s.1, λ d h. Calls⁺.more (s.2 c k) h)

pub transparent-not-opaque : {f : Flow} {e : ℕ} → Transparent f e → Opaque f e → ⊥
transparent-not-opaque {f} (Transparent.transparent h k) (Opaque.own {i = i} r e) = clash (wipes (kind f i)) e (h i r)
transparent-not-opaque (Transparent.transparent h k) (Opaque.calls {b = b} c o) = transparent-not-opaque (k b c) o
transparent-not-opaque (Transparent.transparent h k) (Opaque.cycle c) =
    let s = first-call c in
    transparent-not-opaque (k s.0 s.1) (Opaque.cycle (s.2 s.0 s.1))

pub transparent-opaque : {f : Flow} {e : ℕ} → Transparent f e → opaque f e ≡ false
transparent-opaque {f} {e} c = not_so (opaque f e) (λ h. transparent-not-opaque c (opaque-sound f e h))

-- how many bodies calls from e lead to, e included
abbrev rank : Flow → ℕ → ℕ
rank f e = members (size f) (bodies f e)

module _ {f : Flow} (w : WellFormed f) where
  module _ {e : ℕ} (l : e < size f) where
    rank_falls : {b : ℕ} → Calls f e b → (Calls⁺ f e e → ⊥) → rank f b < rank f e
    rank_falls {b} k h =
        members-lt (size f) (bodies f b) (bodies f e) e l
        (λ i m. bodies-complete w l (reach_first (called-complete w l k) (bodies-sound f b m)))
        (not_so (elem e (bodies f b)) (λ q. h (calls-then k (bodies-sound f b (elem-In e (bodies f b) q)))))
        (bodies-complete w l Reach.here)

    -- what is not opaque
    pub not_opaque : opaque f e ≡ false → Opaque f e → ⊥
    not_opaque h o = clash (opaque f e) (opaque-complete w l o) h

    pub not-opaque-wipes : {i : ℕ} → opaque f e ≡ false → Walks f e i → wipes (kind f i) ≡ false
    not-opaque-wipes {i} h r = not_so (wipes (kind f i)) (λ q. not_opaque h (Opaque.own r q))

    pub not-opaque_callee : {b : ℕ} → opaque f e ≡ false → Calls f e b → opaque f b ≡ false
    not-opaque_callee {b} h k = not_so (opaque f b) (λ q. not_opaque h (Opaque.calls k (opaque-sound f b q)))

    -- a call on the walk is not opaque either
    pub not-opaque-call : {c : ℕ} → opaque f e ≡ false → Walks f e c → opaque_call f c ≡ false
    not-opaque-call {c} h r = not_so (opaque_call f c) (λ q. go (opaque_call-sound f c q))
      where
        go : OpaqueCall f c → ⊥
        go (OpaqueCall.enters_opaque m o) = not_opaque h (Opaque.calls (Calls.calls r m) o)

  -- the bodies that a call enters which is not opaque
  pub callee_not-opaque : (c : ℕ) {b : ℕ} → opaque_call f c ≡ false → In b (callees f c) → opaque f b ≡ false
  callee_not-opaque c {b} h m =
      not_so (opaque f b) (λ q. clash (opaque_call f c) (opaque_call-complete w (OpaqueCall.enters_opaque m (opaque-sound f b q))) h)

  transparent-within : (fuel : ℕ) {e : ℕ} → rank f e < fuel → e < size f → opaque f e ≡ false → Transparent f e
  transparent-within zero r l h = absurd (omega arith)
  transparent-within (suc fuel) {e} r l h =
      Transparent.transparent
      (λ i k. not-opaque-wipes l h k)
      (λ b k.
      let less : rank f b < rank f e = rank_falls l k (λ c. not_opaque l h (Opaque.cycle c)) in
      transparent-within fuel (omega arith) (calls-below w k) (not-opaque_callee l h k))

  pub opaque-transparent : {e : ℕ} → e < size f → opaque f e ≡ false → Transparent f e
  opaque-transparent {e} l h = transparent-within (suc (rank f e)) (omega arith) l h

  pub callee_transparent : (c : ℕ) {b : ℕ} → opaque_call f c ≡ false → In b (callees f c) → Transparent f b
  callee_transparent c {b} h m = opaque-transparent (callees-below w c b m) (callee_not-opaque c h m)
