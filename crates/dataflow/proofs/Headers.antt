-- What the header says of the flow: its arrays, so that a set of them has few words and the area room, and its handler.
-- By what is asked of a file that was indexed.
use Prim.Native.Nat.{ℕ, ◌*◌, ◌≤◌, ◌<◌}
use mathlib.Core.Bool.{true, false}
use mathlib.Core.List.{List}
use mathlib.Core.Option.{none, some}
use mathlib.Core.Path.{◌≡◌, refl, sym, ap, ◌∙◌}
use native.Mathlib.Omega.{arith}
use lib.ListN.{length}
use Rattle.std.specs.Prelude.{Option, Some, None, is_some}
use Rattle.flow.specs.declared.StmtId.{StmtId}
use Rattle.flow.specs.declared.Header.{Header}
use Rattle.flow.specs.Limits.{max_arrays}
use Rattle.flow.specs.Format.{flow_of}
use Rattle.flow.specs.declared.Base.TheVariants.{N}
use Rattle.theory.specs.Doubled.{at, number, number_in}
use Rattle.records.proofs.Files.{limited}
use Rattle.statements.specs.Clauses.Layout.{set_words, max_width}
use Rattle.statements.specs.Clauses.Ready.{Indexed}
use Rattle.statements.proofs.Keeps.{ready-most, ready-size, ready_formed}
use Rattle.statements.proofs.WellFormed.{arrays-is}
use Rattle.calls.proofs.Checked.{handler-at, handler-none}
use Rattle.calls.proofs.Summing.{handler-low}
use Rattle.solve.specs.Clauses.Layout.{area_end}
use Rattle.solve.proofs.Room.{key-room, nodes-room, solver_room}

module _ {s ws : List ℕ} {h : Header} (x : Indexed s h ws) where
  pub arrays_told : h.arrays ≡ (flow_of s).arrays
  arrays_told = ap (λ h. h.arrays) x.header ∙ sym (arrays-is s)

  pub arrays-few : h.arrays ≤ max_arrays
  arrays-few = let most = (limited x.ready.fit).arrays in omega (arith, ap (λ h. h.arrays) x.header)

  -- the width is that of the flow
  pub narrow : {w : ℕ} → w ≡ set_words h.arrays → w ≤ max_width
  narrow e = let few = arrays-few in omega (arith, e, few)

  -- and has a place for each of its arrays
  pub wide : {w : ℕ} → w ≡ set_words h.arrays → (flow_of s).arrays ≤ 64 * w
  wide e = let few = arrays-few in omega (arith, e, few, arrays_told)

  -- the area has room
  pub room : {w : ℕ} → w ≡ set_words h.arrays → 0 < h.statements → area_end h.statements w ≤ length ws
  room e l = solver_room x.ready l (narrow e)

  -- the handler is a statement
  pub handler-within : {k : StmtId} → h.handler ≡ Some k → k.0 < h.statements
  handler-within {k} e = let r = x.ready in handler-low (ready_formed r) (ready-size r) _ (handler-at x k e)

  -- and n + the handler has that number
  pub handler-number : (e : ℕ) {d : ℕ} → d ≡ number_in h.statements (at N e) → d ≡ number (flow_of s) (at N e)
  handler-number e q = q ∙ ap (λ (m : ℕ). number_in m (at N e)) (sym (ready-size x.ready))

  is-some : (o : Option StmtId) → true ≡ is_some o → (k : StmtId) × (o ≡ Some k)
  is-some None e = let z : ◌≡◌ {A = ℕ} 0 1 = cc in absurd (omega arith)
  is-some (Some k) e = (k, refl)

  is-none : (o : Option StmtId) → false ≡ is_some o → o ≡ None
  is-none None e = refl
  is-none (Some k) e = let z : ◌≡◌ {A = ℕ} 0 1 = cc in absurd (omega arith)

  pub handled : true ≡ is_some h.handler → (k : ℕ) × ((flow_of s).handler ≡ some k)
  handled e = let t = is-some h.handler e in (t.0.0, handler-at x t.0 t.1)

  pub unhandled : false ≡ is_some h.handler → (flow_of s).handler ≡ none
  unhandled e = handler-none x (is-none h.handler e)

-- how many statements there are, and the words that the area has for them
pub ruleset sizes = (ready-most, ready-size, arrays-few, narrow, room, key-room, nodes-room, handler-within)
