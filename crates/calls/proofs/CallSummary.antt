-- The summary of a call, line by line: the bodies that the lines passed by enter were entered, and are transparent with their arrays noted, or the call is opaque.
-- An open body that the call enters lies on a cycle of calls, since calls lead from every open body to each body that the call enters.
use Prim.Native.Nat.{ℕ, ◌+◌, ◌<◌, ◌≤◌, zero-le}
use mathlib.Core.Bool.{Bool, true, false, ◌||◌}
use mathlib.Core.List.Memᴰ
use mathlib.Core.List.{List, []}
use mathlib.Core.Logic.{◌≢◌, ◌⊎◌, inl, inr, ⊎_elim}
use mathlib.Core.Option.{none, some}
use mathlib.Core.Path.{◌≡◌, refl, sym, ap, ◌∙◌, subst}
use native.Mathlib.Omega.{arith}
use borrow.Author.Tests.{eqb-true, eqb-false, not-true, not-false}
use lib.Dec.{eqb}
use lib.ListN.{length, get_or, set, take}
use Rattle.words.specs.Clauses.Row.{bit}
use Rattle.flow.specs.Flow.{Flow, size, enters}
use Rattle.theory.specs.Lists.{In, concat_map, option_list}
use Rattle.theory.specs.Body as theory
use Rattle.theory.specs.Body.{kind, call_lines, continuation_of, entered, if_some, callees, Calls⁺, Opaque, OpaqueCall, CallTouches, touches, opaque_call, call_touches}
use Rattle.theory.specs.Clauses.WellFormed.{WellFormed}
use Rattle.theory.proofs.Lists.{clash, or_cases, or-first, or-second, any_find, none_any, In-concat_map, In-option_list}
use Rattle.theory.proofs.Body.{touches-sound, opaque-sound, opaque_call-complete, call_touches-complete}
use Rattle.statements.specs.Clauses.Layout.{calls_at, call_touched_at, bodies_at, matrix_at}
use Rattle.calls.specs.Clauses.Held.{unentered, transparent, opaque}
use Rattle.calls.specs.Clauses.Summing.{body, touched_by, call_touched_by, summary_state, Holds, BodyState, CalleesEntered, CallState, Summing, Onward, Leads, BodyJoined, BodySummed, CallSummed}
use Rattle.calls.proofs.Lines.{entered_by, entered-more, entered_all, entered-line}
use Rattle.calls.proofs.Summing.{joined-has, onward-refl, onward-trans, callee_low, onward-call_touched, summing-call_touched, call-set, call-other, onward-call, summing-call}
use Rattle.calls.proofs.BodySummary.{summary_state-not}

-- calls lead to b still
pub leads_onward : {f : Flow} {ws vs : List ℕ} {n b : ℕ} → Onward ws vs n → Leads f ws n b → Leads f vs n b
leads_onward p h o l q = h o l (p.was_open o l (λ z. omega arith) q)

-- a body that is not transparent and was entered
not-transparent : {f : Flow} {ws : List ℕ} {n b : ℕ} → b < n → Leads f ws n b → body ws n b ≢ unentered → body ws n b ≢ transparent → BodyState f ws n b → (theory.opaque f b ≡ true) ⊎ Calls⁺ f b b
not-transparent l lead e c (BodyState.is_unentered q) = absurd (e q)
not-transparent {b = b} l lead e c (BodyState.is_open q r) = inr (lead b l q)
not-transparent l lead e c (BodyState.is_transparent q o t r) = absurd (c q)
not-transparent l lead e c (BodyState.is_opaque q o r) = inl o

-- a transparent body
record IsTransparent (f : Flow) (ws : List ℕ) (n b : ℕ) : Type 0 where
  opaque : theory.opaque f b ≡ false
  touched : Holds (touched_by ws n b) (touches f b)

is_transparent : {f : Flow} {ws : List ℕ} {n b : ℕ} → body ws n b ≡ transparent → BodyState f ws n b → IsTransparent f ws n b
is_transparent h (BodyState.is_unentered q) = absurd (omega (arith, h, q))
is_transparent h (BodyState.is_open q r) = absurd (omega (arith, h, q))
is_transparent h (BodyState.is_transparent q o t r) = record { opaque = o; touched = t }
is_transparent h (BodyState.is_opaque q o r) = absurd (omega (arith, h, q))

-- a body that the lines passed by enter
pub record BodyPassed (f : Flow) (ws : List ℕ) (n c b : ℕ) (found-opaque : Bool) : Type 0 where
  pub entered : body ws n b ≢ unentered
  pub transparent : found-opaque ≡ false → theory.opaque f b ≡ false
  pub touched : found-opaque ≡ false → Holds (call_touched_by ws n c) (touches f b)

-- k lines were passed by; `found-opaque` says whether one of them enters a body that is opaque
pub record CallLoop (f : Flow) (ws₀ ws : List ℕ) (n c : ℕ) (found-opaque : Bool) (k : ℕ) : Type 0 where
  pub high : k ≤ length (call_lines (kind f c))
  pub summing : Summing f ws n
  pub onward : Onward ws₀ ws n
  pub passed : (b : ℕ) → In b (entered_by f (take k (call_lines (kind f c)))) → BodyPassed f ws n c b found-opaque
  pub found : found-opaque ≡ true → opaque_call f c ≡ true

pub call-first : {f : Flow} {ws : List ℕ} {n c : ℕ} → Summing f ws n → CallLoop f ws ws n c false 0
unfolding concat_map
call-first {ws = ws} {n} s = record {
  high = zero-le;
  summing = s;
  onward = onward-refl ws n n;
  passed = λ b m. absurd (Memᴰ.not-nil m);
  found = λ q. clash false q refl;
}

some_same : {x y : ℕ} → some x ≡ some y → x ≡ y
some_same e = cc

-- one line more
entered-cases : (f : Flow) (ls : List ℕ) (k : ℕ) {b : ℕ} → k < length ls → In b (entered_by f (take (k + 1) ls)) → In b (entered_by f (take k ls)) ⊎ (enters f (get_or ls k 0) ≡ some b)
entered-cases f ls k {b} l m =
    ⊎_elim inl (λ p. inr (In-option_list (enters f (get_or ls k 0)) p))
    (Memᴰ.append_cases (entered_by f (take k ls)) (subst (λ z. In b z) (sym (entered-more f ls k l)) m))

-- the line enters nothing
pub call-nothing : {f : Flow} {ws₀ ws : List ℕ} {n c k : ℕ} {found-opaque : Bool} → CallLoop f ws₀ ws n c found-opaque k → k < length (call_lines (kind f c)) → enters f (get_or (call_lines (kind f c)) k 0) ≡ none
    → CallLoop f ws₀ ws n c found-opaque (k + 1)
call-nothing {f} {c = c} {k} p l e = record {
  high = omega arith;
  summing = p.summing;
  onward = p.onward;
  passed = λ b m. ⊎_elim (p.passed b) (λ q. let z : none ≡ some b = sym e ∙ q in let y : ◌≡◌ {A = ℕ} 0 1 = cc in absurd (omega arith)) (entered-cases f (call_lines (kind f c)) k l m);
  found = p.found;
}

module _ (f : Flow) (c : ℕ) {k' : ℕ} (cont : continuation_of (kind f c) ≡ some k') where
  callees_are : callees f c ≡ entered f c
  unfolding callees
  callees_are = ap (λ o. if_some o (entered f c) []) cont

  -- the body that a line of the call enters
  pub line_callee : {k b : ℕ} → k < length (call_lines (kind f c)) → enters f (get_or (call_lines (kind f c)) k 0) ≡ some b → In b (callees f c)
  line_callee {k} {b} l e = subst (λ z. In b z) (sym callees_are) (entered-line f c k b l e)

  module _ {n : ℕ} (w : WellFormed f) (sz : size f ≡ n) (lc : c < n) where
    callee_hides : {b : ℕ} → In b (callees f c) → (theory.opaque f b ≡ true) ⊎ Calls⁺ f b b → opaque_call f c ≡ true
    callee_hides {b} m (inl h) = opaque_call-complete w (OpaqueCall.enters_opaque m (opaque-sound f b h))
    callee_hides m (inr h) = opaque_call-complete w (OpaqueCall.enters_opaque m (Opaque.cycle h))

    callee_touches : {b : ℕ} (a : ℕ) → In b (callees f c) → touches f b a ≡ true → call_touches f c a ≡ true
    callee_touches {b} a m h = call_touches-complete w (CallTouches.enters_touching m (touches-sound f b a h))

    -- the line enters b, which gets its summary, and what it touches is noted
    module _ {ws₀ ws us vs : List ℕ} {k b : ℕ} {before found-opaque : Bool} (room : matrix_at n ≤ length ws) (p : CallLoop f ws₀ ws n c before k) (l : k < length (call_lines (kind f c)))
        (e : enters f (get_or (call_lines (kind f c)) k 0) ≡ some b) (lead : Leads f ws n b) (s : BodySummed f ws us n b) (j : BodyJoined us vs n c b found-opaque) where
      callee : In b (callees f c)
      callee = line_callee l e

      lb : b < n
      lb = callee_low w sz c b callee

      room-then : matrix_at n ≤ length us
      room-then = omega (arith, room, s.onward.keeps.size)

      onward-join : Onward us vs n
      onward-join = rw j.slice (onward-call_touched w sz s.summing room-then lc (touched_by us n b))

      onward-line : Onward ws vs n
      onward-line = onward-trans s.onward onward-join

      further : {x : ℕ} → x < n → BodyPassed f ws n c x before → BodyPassed f vs n c x (before || found-opaque)
      further {x} lx t = record {
        entered = λ q. t.entered (onward-line.still_entered x lx (λ z. omega arith) q);
        transparent = λ h. t.transparent (or-first before found-opaque h);
        touched = λ h a m g. onward-line.call_touched c a lc (t.touched (or-first before found-opaque h) a m g);
      }

      transparent-here : (before || found-opaque) ≡ false → IsTransparent f us n b
      transparent-here h = is_transparent (eqb-true (body us n b) transparent (not-false (eqb (body us n b) transparent) (sym j.state ∙ or-second before found-opaque h))) (s.summing.bodies b lb)

      here : BodyPassed f vs n c b (before || found-opaque)
      here = record {
        entered = λ q. s.done (onward-join.still_entered b lb (λ z. omega (arith, lb)) q);
        transparent = λ h. (transparent-here h).opaque;
        touched = λ h a m g. rw j.slice (joined-has us (call_touched_at n + c) (touched_by us n b) a (omega (arith, room-then)) ((transparent-here h).touched a m g));
      }

      hides : found-opaque ≡ true → opaque_call f c ≡ true
      hides h =
          callee_hides callee
          (not-transparent lb (leads_onward s.onward lead) s.done (eqb-false (body us n b) transparent (not-true (eqb (body us n b) transparent) (sym j.state ∙ h))) (s.summing.bodies b lb))

      line_low : {x : ℕ} → In x (entered_by f (take k (call_lines (kind f c)))) → x < n
      line_low {x} m =
          let r = In-concat_map (λ l. option_list (enters f l)) (take k (call_lines (kind f c))) m in
          subst (λ y. x < y) sz (w.first r.0 x (In-option_list (enters f r.0) r.2))

      pub call_line : CallLoop f ws₀ vs n c (before || found-opaque) (k + 1)
      call_line = record {
        high = omega arith;
        summing = rw j.slice (summing-call_touched w sz s.summing room-then lc (touched_by us n b) (λ a m h. callee_touches a callee (s.summing.touched b lb a m h)));
        onward = onward-trans p.onward onward-line;
        passed = λ x m. ⊎_elim (λ q. further (line_low q) (p.passed x q)) (λ q. let same : b ≡ x = some_same (sym e ∙ q) in subst (λ y. BodyPassed f vs n c y (before || found-opaque)) same here) (entered-cases f (call_lines (kind f c)) k l m);
        found = λ h. ⊎_elim p.found hides (or_cases before found-opaque h);
      }

    -- every line is passed by: the call is summary_state
    module _ {ws₀ ws : List ℕ} {k : ℕ} {found-opaque : Bool} (room : matrix_at n ≤ length ws) (p : CallLoop f ws₀ ws n c found-opaque k) (end : length (call_lines (kind f c)) ≤ k) where
      passed_all : (b : ℕ) → In b (callees f c) → BodyPassed f ws n c b found-opaque
      passed_all b m = p.passed b (subst (λ z. In b z) (callees_are ∙ sym (entered_all f c k end)) m)

      is-entered : (v : ℕ) → CalleesEntered f (set ws (calls_at n + c) v) n c
      is-entered v = record {
        continuation = k';
        continues = cont;
        bodies = λ b m q. (passed_all b m).entered (sym (call-other w sz p.summing room lc v (bodies_at n + b) (λ z. let l : b < n = callee_low w sz c b m in omega arith)) ∙ q);
      }

      none-opaque : found-opaque ≡ false → opaque_call f c ≡ false
      unfolding opaque_call
      none-opaque h = none_any (theory.opaque f) (callees f c) (λ b m. (passed_all b m).transparent h)

      all_touched : found-opaque ≡ false → Holds (call_touched_by ws n c) (call_touches f c)
      unfolding call_touches
      all_touched h a l t =
          let r = any_find (λ b. touches f b a) (callees f c) t in
          (passed_all r.0 r.1).touched h a l r.2

      state : (b : Bool) → found-opaque ≡ b → CallState f (set ws (calls_at n + c) (summary_state b)) n c
      state true h = CallState.is_opaque (call-set w sz p.summing room lc opaque) (is-entered opaque) (p.found h)
      state false h =
          CallState.is_transparent (call-set w sz p.summing room lc transparent) (is-entered transparent) (none-opaque h)
          (λ a l t. ap (λ x. bit x a) (call-other w sz p.summing room lc transparent (call_touched_at n + c) (λ q. omega arith)) ∙ all_touched h a l t)

      not_zero : summary_state found-opaque ≢ unentered
      not_zero = summary_state-not found-opaque unentered (λ x. omega arith) (λ x. omega arith)

      pub call-done : (v : ℕ) → v ≡ summary_state found-opaque → CallSummed f ws₀ (set ws (calls_at n + c) v) n c
      call-done v q = rw q (record {
        summing = summing-call w sz p.summing room lc (summary_state found-opaque) (state found-opaque refl);
        onward = onward-trans p.onward (onward-call w sz p.summing room lc (summary_state found-opaque) not_zero);
        done = λ j e x. not_zero (sym (call-set w sz p.summing room lc (summary_state found-opaque)) ∙ x);
      })
