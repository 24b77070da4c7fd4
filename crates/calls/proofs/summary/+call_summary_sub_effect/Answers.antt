-- The cycle of calls {call_summary, sub_effect}. What each step makes of the summaries is in the laws of bodies and of calls; here they are put together.
use Rattle.std.proofs.Common.{ℕ, ◌≡◌, ◌+◌, ◌<◌, ◌≤◌, Bool, true, List, Option, Some, length, get_or, set, arith, sym, ap, ◌∙◌, subst}
use Prim.Native.Nat.{zero-le}
use mathlib.Core.Option.{some}
use mathlib.Core.Path.{subst₂}
use Rattle.flow.specs.declared.StmtId.{StmtId}
use Rattle.flow.specs.Flow.{enters}
use Rattle.flow.specs.Format.{flow_of, statements_of}
use Rattle.flow.specs.Clauses.Answers.{statement_in}
use Rattle.theory.specs.Lists as lists
use Rattle.theory.specs.Body.{kind, call_lines, continuation_of, callees}
use Rattle.statements.specs.Clauses.Layout.{matrix_at, calls_at, bodies_at}
use Rattle.statements.specs.Clauses.Ready.{Located}
use Rattle.statements.proofs.Keeps.{ready-keeps, ready-most, located-keeps, ready-size, ready_formed}
use Rattle.statements.proofs.Told.{enters-at, enters-nothing}
use Rattle.calls.specs.Clauses.Summing.{OnwardBut, Onward, Awaits, Opened, Entered, BodySummed, CallSummed}
use Rattle.calls.proofs.Summing.{onward-trans, onward_but, callee_low}
use Rattle.calls.proofs.BodySummary.{passed_none, reached, walk_passed, body_turn, body_done, body_leads}
use Rattle.calls.proofs.CallSummary.{CallLoop, call-first, call-nothing, call_line, call-done, leads_onward, line_callee}
use Rattle.calls.proofs.Summaries.{unentered-le, unentered-falls}
use Rattle.calls.proofs.summary.+call_summary_sub_effect.Goals as goal
use Rattle.calls.proofs.summary.+call_summary_sub_effect.Goals.{call_summary-in-Some, call_summary-in_default}

-- call_summary

continued : (s ws : List ℕ) (c : ℕ) {asks : Bool} → Awaits (flow_of s) ws (statements_of s) c asks → asks ≡ true → (k : ℕ) × (continuation_of (kind (flow_of s) c) ≡ some k)
continued s ws c a so = subst (Awaits (flow_of s) ws (statements_of s) c) so a

-- line k of the call c enters b
record Line (s ws : List ℕ) (lines_at c k b : ℕ) : Type 0 where
  located : Located s ws (statements_of s) lines_at
  inside : k < length (call_lines (kind (flow_of s) c))
  entered : enters (flow_of s) (get_or (call_lines (kind (flow_of s) c)) k 0) ≡ some b
  callee : lists.In b (callees (flow_of s) c)
  low : b < statements_of s

line : {s ws₀ ws : List ℕ} {lines_at c k count : ℕ} {asks found : Bool} {o : Option StmtId} {b : StmtId} → Located s ws₀ (statements_of s) lines_at → Awaits (flow_of s) ws₀ (statements_of s) c asks → asks ≡ true
    → CallLoop (flow_of s) ws₀ ws (statements_of s) c found k → k < count → count ≡ length (call_lines (kind (flow_of s) c)) → o ≡ statement_in (enters (flow_of s) (get_or (call_lines (kind (flow_of s) c)) k 0)) → o ≡ Some b
    → Line s ws lines_at c k b.0
line {s} {ws₀} {c = c} {k} {b = b} located asks so inv less counted tells is =
    let inside : k < length (call_lines (kind (flow_of s) c)) = omega arith in
    let entered = enters-at _ b (sym tells ∙ is) in
    let callee = line_callee (flow_of s) c (continued s ws₀ c asks so).1 inside entered in
    record {
      located = located-keeps located inv.onward.keeps (omega arith);
      inside = inside;
      entered = entered;
      callee = callee;
      low = callee_low (ready_formed located.ready) (ready-size located.ready) c b.0 callee;
    }

pub call_summary-loop-k-init : goal.call_summary-loop-k-init
call_summary-loop-k-init t c = call-first c.requires.2

pub call_summary-sub_effect-requires : goal.call_summary-sub_effect-requires
call_summary-sub_effect-requires t c =
    let inv = c.loop-k.invariant in
    let enters = line c.requires.0 c.awaits.ensures c.if-not-awaits.false inv c.loop-k-test.true c.line_count-count.ensures c.entered.ensures c.in-Some.is in
    (omega (arith, c.decreases, unentered-le inv.onward), (enters.located, enters.low, inv.summing, leads_onward inv.onward (c.requires.3 _ enters.callee)))

pub call_summary-join_body-opaque-requires : goal.call_summary-join_body-opaque-requires
call_summary-join_body-opaque-requires t c =
    let enters = line c.requires.0 c.awaits.ensures c.if-not-awaits.false c.loop-k.invariant c.loop-k-test.true c.line_count-count.ensures c.entered.ensures c.in-Some.is in
    (ready-keeps enters.located.ready c.sub_effect.ensures.onward.keeps (omega arith), c.requires.1, enters.low)

pub call_summary-loop-k-preserved : goal.call_summary-loop-k-preserved
call_summary-loop-k-preserved t c =
    let r = c.requires.0.ready in
    let inv = c.loop-k.invariant in
    let After : List ℕ → Bool → Type 0 = λ ws opaque. CallLoop (flow_of c.args.file.now) c.args.work.now ws (statements_of c.args.file.now) c.args.c.0 opaque (c.loop-k.k + 1) in
    elim c.match-entered.branch [
      | call_summary-in-Some w ↦
          let enters = line c.requires.0 c.awaits.ensures c.if-not-awaits.false inv c.loop-k-test.true c.line_count-count.ensures c.entered.ensures w.in-Some.is in
          subst₂ After (sym w.work-is) (sym w.opaque-is)
          (call_line (flow_of c.args.file.now) c.args.c.0 (continued c.args.file.now c.args.work.now c.args.c.0 c.awaits.ensures c.if-not-awaits.false).1 (ready_formed r) (ready-size r) c.requires.1 (omega (arith, enters.located.ready.room)) inv enters.inside enters.entered
          (leads_onward inv.onward (c.requires.3 _ enters.callee)) w.sub_effect.ensures w.join_body-opaque.ensures)
      | call_summary-in_default w ↦
          subst₂ After (sym w.work-is) (sym w.opaque-is)
          (call-nothing inv (omega (arith, c.loop-k-test.true, c.line_count-count.ensures)) (enters-nothing _ (sym c.entered.ensures ∙ w.in_default.is)))
    ]

pub call_summary-returns : goal.call_summary-returns
call_summary-returns t c =
    let n : ℕ = statements_of c.args.file.now in
    let r = c.requires.0.ready in
    let inv = c.loop-k.invariant in
    let room : matrix_at n ≤ length c.loop-k.work = omega (arith, r.room, inv.onward.keeps.size) in
    subst (λ x. CallSummed (flow_of c.args.file.now) c.args.work.now (set c.loop-k.work (x + c.args.c.0) c.summary_state.result) n c.args.c.0) (sym (c.calls.ensures ∙ ap calls_at c.layout_of-2.ensures))
    (call-done (flow_of c.args.file.now) c.args.c.0 (continued c.args.file.now c.args.work.now c.args.c.0 c.awaits.ensures c.if-not-awaits.false).1 (ready_formed r) (ready-size r) c.requires.1 room inv
    (omega (arith, c.loop-k-test.false, c.line_count-count.ensures)) c.summary_state.result c.summary_state.ensures)

-- sub_effect

was_opened : (s ws vs : List ℕ) (e : ℕ) {new : Bool} → Entered (flow_of s) ws vs (statements_of s) e new → new ≡ true → Opened (flow_of s) ws vs (statements_of s) e
was_opened s ws vs e a so = subst (Entered (flow_of s) ws vs (statements_of s) e) so a

-- the body e was opened, and from there summaries were only added
record Walking (s ws₁ ws : List ℕ) (lines_at e : ℕ) : Type 0 where
  onward : OnwardBut e ws₁ ws (statements_of s)
  located : Located s ws (statements_of s) lines_at

walking : {s ws₁ ws₀ ws : List ℕ} {lines_at e : ℕ} {new : Bool} → Located s ws₁ (statements_of s) lines_at → Entered (flow_of s) ws₁ ws₀ (statements_of s) e new → new ≡ true → Onward ws₀ ws (statements_of s)
    → Walking s ws₁ ws lines_at e
walking {s} {ws₁} {ws₀} {ws} {e = e} located entered so since =
    let onward : OnwardBut e ws₁ ws (statements_of s) = onward-trans (was_opened s ws₁ ws₀ e entered so).onward (onward_but e since) in
    record { onward = onward; located = located-keeps located onward.keeps (omega arith) }

pub sub_effect-loop-i-init : goal.sub_effect-loop-i-init
sub_effect-loop-i-init t c = let opened = was_opened c.args.file.now c.args.work.now c.enter.new.work c.args.e.0 c.enter.ensures c.if-not-enter.false in record { below = passed_none opened.summing opened.is; high = zero-le }

pub sub_effect-next_walked-requires : goal.sub_effect-next_walked-requires
sub_effect-next_walked-requires t c = ((walking c.requires.0 c.enter.ensures c.if-not-enter.false c.loop-i.invariant.below.onward).located.ready, c.requires.1)

pub sub_effect-call_summary-requires : goal.sub_effect-call_summary-requires
sub_effect-call_summary-requires t c =
    let inv = c.loop-i.invariant in
    let opened = was_opened c.args.file.now c.args.work.now c.enter.new.work c.args.e.0 c.enter.ensures c.if-not-enter.false in
    let before = walking c.requires.0 c.enter.ensures c.if-not-enter.false inv.below.onward in
    let next = reached c.requires.1 inv c.in-Some.ensures in (
      omega (arith, c.decreases, unentered-le inv.below.onward, unentered-falls opened.onward c.requires.1 opened.was opened.is),
      (before.located, next.low, inv.below.summing, λ b m. body_leads before.onward c.requires.3 next.member m),
    )

pub sub_effect-pass_by-opaque-requires : goal.sub_effect-pass_by-opaque-requires
sub_effect-pass_by-opaque-requires t c =
    let before = walking c.requires.0 c.enter.ensures c.if-not-enter.false c.loop-i.invariant.below.onward in
    (ready-keeps before.located.ready c.call_summary.ensures.onward.keeps (omega arith), c.requires.1, (reached c.requires.1 c.loop-i.invariant c.in-Some.ensures).low)

pub sub_effect-overflow_add-from : goal.sub_effect-overflow_add-from
sub_effect-overflow_add-from t c = omega (arith, (reached c.requires.1 c.loop-i.invariant c.in-Some.ensures).low, ready-most c.requires.0.ready)

pub sub_effect-loop-i-smaller : goal.sub_effect-loop-i-smaller
sub_effect-loop-i-smaller t c = let next = reached c.requires.1 c.loop-i.invariant c.in-Some.ensures in omega (arith, next.later, next.low)

pub sub_effect-loop-i-preserved : goal.sub_effect-loop-i-preserved
sub_effect-loop-i-preserved t c =
    let r = c.requires.0.ready in
    let before = walking c.requires.0 c.enter.ensures c.if-not-enter.false c.loop-i.invariant.below.onward in
    let next = reached c.requires.1 c.loop-i.invariant c.in-Some.ensures in
    record {
      below = body_turn (ready_formed r) (ready-size r) (omega (arith, before.located.ready.room)) c.requires.1 next.low next.member next.below c.call_summary.ensures c.pass_by-opaque.ensures;
      high = omega (arith, next.low);
    }

pub sub_effect-returns : goal.sub_effect-returns
sub_effect-returns t c =
    let n : ℕ = statements_of c.args.file.now in
    let r = c.requires.0.ready in
    let opened = was_opened c.args.file.now c.args.work.now c.enter.new.work c.args.e.0 c.enter.ensures c.if-not-enter.false in
    let before = walking c.requires.0 c.enter.ensures c.if-not-enter.false c.loop-i.invariant.below.onward in
    subst (λ x. BodySummed (flow_of c.args.file.now) c.args.work.now (set c.loop-i.work (x + c.args.e.0) c.summary_state.result) n c.args.e.0) (sym (c.bodies.ensures ∙ ap bodies_at c.layout_of.ensures))
    (body_done (ready_formed r) (ready-size r) (omega (arith, before.located.ready.room)) c.requires.1 (walk_passed c.requires.1 c.loop-i.invariant c.in_default.ensures) c.summary_state.result c.summary_state.ensures
    opened.onward opened.was)
