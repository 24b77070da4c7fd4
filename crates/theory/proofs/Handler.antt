-- The handler's deciders say what the inductive types say, for every well-formed flow: they ask the deciders of its body. Assumes nothing.
use Prim.Native.Nat.{ℕ, ◌<◌}
use mathlib.Core.Bool.{true, false}
use mathlib.Core.Option.{Option, none, some}
use mathlib.Core.Path.{◌≡◌, refl, ◌∙◌, ap}
use Rattle.flow.specs.Flow.{Flow}
use Rattle.theory.specs.Body.{touches, opaque}
use Rattle.theory.specs.Key.{OpaqueHandler, HandlerTouches, on_handler, opaque_handler, handler_touches}
use Rattle.theory.specs.Clauses.WellFormed.{WellFormed}
use Rattle.theory.proofs.Lists.{clash, not_so}
use Rattle.theory.proofs.Body.{touches-sound, touches-complete, opaque-sound, opaque-complete}
use Rattle.theory.proofs.Sure.{touched-below}

pub opaque_handler-sound : (f : Flow) → opaque_handler f ≡ true → OpaqueHandler f
unfolding opaque_handler
opaque_handler-sound f = go f.handler refl
  where
    go : (o : Option ℕ) → f.handler ≡ o → on_handler o false (opaque f) ≡ true → OpaqueHandler f
    go none e q = clash false q refl
    go (some h) e q = OpaqueHandler.body_opaque e (opaque-sound f h q)

pub handler_touches-sound : (f : Flow) (a : ℕ) → handler_touches f a ≡ true → HandlerTouches f a
unfolding handler_touches
handler_touches-sound f a = go f.handler refl
  where
    go : (o : Option ℕ) → f.handler ≡ o → on_handler o false (λ h. touches f h a) ≡ true → HandlerTouches f a
    go none e q = clash false q refl
    go (some h) e q = HandlerTouches.body_touches e (touches-sound f h a q)

module _ {f : Flow} (w : WellFormed f) where
  pub opaque_handler-complete : OpaqueHandler f → opaque_handler f ≡ true
  unfolding opaque_handler
  opaque_handler-complete (OpaqueHandler.body_opaque {h = h} e o) = ap (λ x. on_handler x false (opaque f)) e ∙ opaque-complete w (w.handler h e) o

  pub handler_touches-complete : {a : ℕ} → HandlerTouches f a → handler_touches f a ≡ true
  unfolding handler_touches
  handler_touches-complete {a} (HandlerTouches.body_touches {h = h} e t) =
      ap (λ x. on_handler x false (λ h. touches f h a)) e ∙ touches-complete w (w.handler h e) t

  -- only arrays of the flow are touched
  pub handler-below : (a : ℕ) → (a < f.arrays → ⊥) → handler_touches f a ≡ false
  handler-below a out = not_so (handler_touches f a) (λ q. go (handler_touches-sound f a q))
    where
      go : HandlerTouches f a → ⊥
      go (HandlerTouches.body_touches e t) = out (touched-below w t)

  -- what is not opaque, as a test and as a type
  pub handler-not-opaque : opaque_handler f ≡ false → OpaqueHandler f → ⊥
  handler-not-opaque q o = clash (opaque_handler f) (opaque_handler-complete o) q

pub not-opaque-handler : (f : Flow) → (OpaqueHandler f → ⊥) → opaque_handler f ≡ false
not-opaque-handler f h = not_so (opaque_handler f) (λ q. h (opaque_handler-sound f q))
