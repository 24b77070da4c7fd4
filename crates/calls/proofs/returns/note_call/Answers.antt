-- A call that is not opaque, and one without a continuation, makes no RETURN go anywhere; an opaque one makes those of its bodies go to its continuation. Assumes nothing.
use Prim.Native.Nat.{ℕ, ◌+◌}
use mathlib.Core.Path.{sym, ap, ◌∙◌}
use lib.ListN.{get_or}
use Rattle.flow.specs.Format.{flow_of}
use Rattle.theory.specs.Body.{kind, continuation_of}
use Rattle.statements.proofs.Keeps.{ready-most, ready_formed, ready-below}
use Rattle.statements.proofs.Told.{continues-to, continues_nowhere}
use Rattle.calls.proofs.Gathered.{call_none, call-transparent, call-opaque}
use Rattle.calls.proofs.returns.note_call.Goals as goal

pub invariant_of-layout : goal.invariant_of-layout
invariant_of-layout c = record { few = ready-most c.requires.0.ready }

pub returns-then-work-calls : goal.returns-then-work-calls
returns-then-work-calls c =
    let a = c.args in
    call-transparent a.c.0 c.requires.2 (λ e. c.if-work-calls.true (ap (λ (b : ℕ). get_or a.work.now (b + a.c.0) 0) c.calls.ensures ∙ e))

pub note_bodies-requires : goal.note_bodies-requires
note_bodies-requires c =
    let p = c.requires in
    let k = c.in-Some.k.0 in
    let e = continues-to (continuation_of (kind (flow_of c.args.file.now) c.args.c.0)) c.in-Some.k (sym c.continuation.ensures ∙ c.in-Some.is) in
    (p.0, p.1, ready-below p.0.ready ((ready_formed p.0.ready).continuation c.args.c.0 k e), p.2.bodies k e, p.3)

pub returns-in-Some : goal.returns-in-Some
returns-in-Some c =
    let a = c.args in
    let e = continues-to (continuation_of (kind (flow_of a.file.now) a.c.0)) c.in-Some.k (sym c.continuation.ensures ∙ c.in-Some.is) in
    call-opaque a.c.0 c.in-Some.k.0 c.requires.2
    (sym (ap (λ (b : ℕ). get_or a.work.now (b + a.c.0) 0) c.calls.ensures) ∙ c.if-work-calls.false) e c.note_bodies.ensures

pub returns-in_default : goal.returns-in_default
returns-in_default c =
    let a = c.args in
    call_none a.c.0 (continues_nowhere (continuation_of (kind (flow_of a.file.now) a.c.0)) (sym c.continuation.ensures ∙ c.in_default.is))
