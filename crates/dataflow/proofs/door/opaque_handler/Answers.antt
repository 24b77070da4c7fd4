-- The header tells the flow's handler, and the state of its body is noted. Assumes nothing.
use Prim.Native.Nat.{ℕ, ◌+◌}
use native.Mathlib.Omega.{arith}
use mathlib.Core.Path.{sym, ap, ◌∙◌}
use lib.Dec.{eqb}
use lib.ListN.{get_or}
use Rattle.flow.specs.Format.{flow_of}
use Rattle.statements.proofs.Keeps.{ready-most}
use Rattle.calls.specs.Clauses.Held.{opaque}
use Rattle.dataflow.proofs.HandlerNoted.{unkeyed_clear, body-told, handler-below}
use Rattle.calls.proofs.Checked.{handler-at, handler-none}
use Rattle.dataflow.proofs.door.opaque_handler.Goals as goal

pub overflow_add-result : goal.overflow_add-result
overflow_add-result c = let low = handler-below c.requires c.in-Some.e.0 (handler-at c.requires.indexed c.in-Some.e c.in-Some.is) in omega (arith, c.bodies-bodies.ensures, low, ready-most c.requires.indexed.ready)

pub offset_bounds-work-bodies : goal.offset_bounds-work-bodies
offset_bounds-work-bodies c = let low = handler-below c.requires c.in-Some.e.0 (handler-at c.requires.indexed c.in-Some.e c.in-Some.is) in omega (arith, c.bodies-bodies.ensures, low, ready-most c.requires.indexed.ready)

pub bounds-work-bodies : goal.bounds-work-bodies
bounds-work-bodies c = let low = handler-below c.requires c.in-Some.e.0 (handler-at c.requires.indexed c.in-Some.e c.in-Some.is) in omega (arith, c.bodies-bodies.ensures, low, c.requires.indexed.ready.room)

pub returns-in-None : goal.returns-in-None
returns-in-None c = sym (unkeyed_clear (flow_of c.args.file.now) (handler-none c.requires.indexed c.in-None.is))

pub returns-in-Some : goal.returns-in-Some
returns-in-Some c =
    ap (λ (x : ℕ). eqb (get_or c.args.work.now (x + c.in-Some.e.0) 0) opaque) c.bodies-bodies.ensures
    ∙ body-told c.requires.summarized.handler (handler-at c.requires.indexed c.in-Some.e c.in-Some.is)
