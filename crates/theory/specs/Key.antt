-- Request E3, "The interrupt key": a key may call the handler before any statement. Its body is what a call of that statement would enter: the same walk, the same touched arrays, opaque by the same rules.
use Rattle.std.specs.Prelude.{ℕ, Bool, false, ◌≡◌}
use mathlib.Core.Option.{Option, none, some}
use Rattle.flow.specs.Flow.{Flow}
use Rattle.theory.specs.Body.{Touches, Opaque, touches, opaque}

-- the handler's body is opaque
pub data OpaqueHandler (f : Flow) : Type 0 where
  body_opaque : {h : ℕ} → f.handler ≡ some h → Opaque f h → OpaqueHandler f

-- the handler's body touches the array
pub data HandlerTouches (f : Flow) (a : ℕ) : Type 0 where
  body_touches : {h : ℕ} → f.handler ≡ some h → Touches f a h → HandlerTouches f a

-- what there is without a handler, and with one
abbrev pub on_handler : {A : Type 0} → Option ℕ → A → (ℕ → A) → A
on_handler none x y = x
on_handler (some h) x y = y h

unfoldable pub opaque_handler : Flow → Bool
opaque_handler f = on_handler f.handler false (opaque f)

unfoldable pub handler_touches : Flow → ℕ → Bool
handler_touches f a = on_handler f.handler false (λ h. touches f h a)
