-- The summary of a body, statement by statement of its walk: what was passed by is transparent and its arrays are noted, or the body is opaque.
-- A body with nothing opaque on its walk is transparent, since the bodies that its calls enter are; what it touches is then all noted.
use Prim.Native.Nat.{ℕ, ◌+◌, ◌<◌, ◌≤◌}
use mathlib.Core.Bool.{Bool, true, false, cond, ◌||◌}
use mathlib.Core.List.Memᴰ
use mathlib.Core.List.{List, []}
use mathlib.Core.Logic.{◌≢◌, ⊎_elim}
use mathlib.Core.Option.{Option, none, some}
use mathlib.Core.Path.{◌≡◌, refl, sym, ap, ◌∙◌, subst}
use native.Mathlib.Decide.{dec_lt, ℕ_discrete}
use native.Mathlib.Omega.{arith}
use borrow.Author.Tests.{eqb-true, eqb-false}
use lib.Bits.{bit_or}
use lib.Dec.{eqb}
use lib.ListN.{length, set}
use Rattle.std.specs.Prelude.{Some, None}
use Rattle.words.specs.Clauses.Row.{bit, has, next_member, found_below}
use Rattle.words.proofs.Found.{next-some, next-none}
use Rattle.words.proofs.Bit.{bit-or, bit-lt}
use Rattle.flow.specs.Flow.{Flow, Kind, size}
use Rattle.theory.specs.Lists as lists
use Rattle.theory.specs.Lists.{In, any}
use Rattle.theory.specs.Reach.{Reach}
use Rattle.theory.specs.Body as theory
use Rattle.theory.specs.Body.{kind, references, continuation_of, entered, if_some, callees, is_return, successors, or_else, walk_next, Walks, Calls, Touches, wipes, Calls⁺, Opaque, OpaqueCall, CallTouches, walked, touches, opaque_call, call_touches}
use Rattle.theory.specs.Clauses.WellFormed.{WellFormed}
use Rattle.theory.proofs.Lists.{clash, or_cases, or-first, or-second, any_find, In-elem, elem-In}
use Rattle.theory.proofs.Body.{walked-sound, touches-sound, touches-complete, touches-equation, opaque-complete, opaque_call-sound, call_touches-sound}
use Rattle.theory.proofs.Transparent.{Transparent, transparent-opaque, callee_transparent}
use Rattle.statements.specs.Clauses.Layout.{bodies_at, touched_at, matrix_at, row_at}
use Rattle.statements.specs.Clauses.Ready.{MembersWord}
pub use Rattle.sure.proofs.Bodies.{return-ends as return-ordinary}
use Rattle.calls.specs.Clauses.Held.{unentered, opened, transparent, opaque, WalkRow}
use Rattle.calls.specs.Clauses.Summing.{body, call, touched_by, call_touched_by, summary_state, Within, Holds, BodyState, CallState, Summing, OnwardBut, Onward, Leads, WalkPassed, BodySummed, CallSummed}
use Rattle.calls.proofs.Summing.{joined-has, onward-refl, onward-trans, onward_but, onward-all, walk_low, onward-touched, summing-touched, body-set, body-other, onward-body, summing-body, rows-set, walk_kept}

-- Members of a word

pub member-true : {w a : ℕ} {p : ℕ → Bool} → MembersWord w p → a < 64 → bit w a ≡ 1 → p a ≡ true
member-true {w} {a} {p} m l h = go (p a) refl
  where
    go : (b : Bool) → p a ≡ b → p a ≡ true
    go true q = q
    go false q = absurd (let z : bit w a ≡ 0 = m.member a l ∙ ap (λ b. cond b 1 0) q in omega (arith, z, h))

pub true-member : {w a : ℕ} {p : ℕ → Bool} → MembersWord w p → a < 64 → p a ≡ true → bit w a ≡ 1
true-member {w} {a} m l h = m.member a l ∙ ap (λ b. cond b 1 0) h

-- States

-- an open body's row is its walk
pub open_row : {f : Flow} {ws : List ℕ} {n b : ℕ} → body ws n b ≡ opened → BodyState f ws n b → WalkRow f ws n b
open_row h (BodyState.is_unentered e) = absurd (omega (arith, h, e))
open_row h (BodyState.is_open e r) = r
open_row h (BodyState.is_transparent e o t r) = absurd (omega (arith, h, e))
open_row h (BodyState.is_opaque e o r) = absurd (omega (arith, h, e))

-- what a call says that is not opaque by its state
pub record NotHidden (f : Flow) (ws : List ℕ) (n c : ℕ) : Type 0 where
  pub call : opaque_call f c ≡ false
  pub touched : Holds (call_touched_by ws n c) (call_touches f c)

no_callees : (f : Flow) (c : ℕ) → continuation_of (kind f c) ≡ none → callees f c ≡ []
unfolding callees
no_callees f c h = ap (λ o. if_some o (entered f c) []) h

ordinary : (f : Flow) (ws : List ℕ) (n c : ℕ) → continuation_of (kind f c) ≡ none → NotHidden f ws n c
unfolding opaque_call call_touches any
ordinary f ws n c h = record {
  call = ap (any (theory.opaque f)) (no_callees f c h);
  touched = λ a l t. clash (call_touches f c a) t (ap (any (λ b. touches f b a)) (no_callees f c h));
}

none-opaque-there : {f : Flow} {ws : List ℕ} {n c : ℕ} → ((k : ℕ) → continuation_of (kind f c) ≡ some k → call ws n c ≢ unentered) → call ws n c ≢ opaque → CallState f ws n c → NotHidden f ws n c
none-opaque-there {f} {ws} {n} {c} done d (CallState.is_none e) = go (continuation_of (kind f c)) refl
  where
    go : (o : Option ℕ) → continuation_of (kind f c) ≡ o → NotHidden f ws n c
    go none q = ordinary f ws n c q
    go (some k) q = absurd (done k q e)
none-opaque-there done d (CallState.is_transparent e n o t) = record { call = o; touched = t }
none-opaque-there done d (CallState.is_opaque e n o) = absurd (d e)

opaque-there : {f : Flow} {ws : List ℕ} {n c : ℕ} → call ws n c ≡ opaque → CallState f ws n c → opaque_call f c ≡ true
opaque-there h (CallState.is_none e) = absurd (omega (arith, h, e))
opaque-there h (CallState.is_transparent e n o t) = absurd (omega (arith, h, e))
opaque-there h (CallState.is_opaque e n o) = o

pub summary_state-not : (b : Bool) (v : ℕ) → opaque ≢ v → transparent ≢ v → summary_state b ≢ v
summary_state-not true v h k = h
summary_state-not false v h k = k

-- Calls lead to the bodies that the calls on the walk enter, from every open body
pub body_leads : {f : Flow} {ws vs : List ℕ} {n e i b : ℕ} → OnwardBut e ws vs n → Leads f ws n e → Walks f e i → In b (callees f i) → Leads f vs n b
body_leads {f} {ws} {vs} {n} {e} {i} {b} p lead r m o l h = go (ℕ_discrete o e)
  where
    go : Dec (o ≡ e) → Calls⁺ f o b
    go (yes q) = subst (λ z. Calls⁺ f z b) (sym q) (Calls⁺.one (Calls.calls r m))
    go (no d) = Calls⁺.more (lead o l (p.was_open o l d h)) (Calls.calls r m)

-- RETURN

return-wipes : (k : Kind) → is_return k ≡ true → wipes k ≡ false
return-wipes Kind.other h = refl
return-wipes Kind.return h = refl
return-wipes Kind.clr h = clash false h refl
return-wipes Kind.run h = clash false h refl
return-wipes (Kind.dim items) h = clash false h refl
return-wipes (Kind.gosub l c) h = refl
return-wipes (Kind.on_gosub ls c) h = refl

return_stops : (f : Flow) (e j : ℕ) → is_return (kind f e) ≡ true → In j (walk_next f e) → ⊥
unfolding walk_next
return_stops f e j h m = Memᴰ.not-nil (subst (λ b. In j (cond b [] (or_else (continuation_of (kind f e)) (successors f e)))) h m)

-- the walk of a RETURN is itself
pub return-stays : (f : Flow) {e i : ℕ} → is_return (kind f e) ≡ true → Walks f e i → i ≡ e
return-stays f h Reach.here = refl
return-stays f {e} h (Reach.on {i = i} {j = j} r m) = absurd (return_stops f e j h (subst (λ x. In j (walk_next f x)) (return-stays f h r) m))

-- The walk, statement by statement

pub record Passed (f : Flow) (ws : List ℕ) (n e j : ℕ) : Type 0 where
  pub keeps : wipes (kind f j) ≡ false
  pub call : opaque_call f j ≡ false
  pub own : Holds (touched_by ws n e) (λ a. lists.elem a (references f j))
  pub nested : Holds (touched_by ws n e) (call_touches f j)

-- the statements below i of the walk were passed by; `found-opaque` says whether one of them is opaque
pub record PassedBelow (f : Flow) (ws₀ ws : List ℕ) (n e : ℕ) (found-opaque : Bool) (i : ℕ) : Type 0 where
  pub summing : Summing f ws n
  pub onward : Onward ws₀ ws n
  pub is_open : body ws n e ≡ opened
  pub passed : (j : ℕ) → j < i → Walks f e j → found-opaque ≡ false → Passed f ws n e j
  pub found : found-opaque ≡ true → theory.opaque f e ≡ true

pub record BodyLoop (f : Flow) (ws₀ ws : List ℕ) (n e : ℕ) (found-opaque : Bool) (from : ℕ) : Type 0 where
  pub below : PassedBelow f ws₀ ws n e found-opaque from
  pub high : from ≤ n

-- the next statement of the walk is i
pub record Reached (f : Flow) (ws₀ ws : List ℕ) (n e : ℕ) (found-opaque : Bool) (from i : ℕ) : Type 0 where
  pub below : PassedBelow f ws₀ ws n e found-opaque i
  pub later : from ≤ i
  pub low : i < n
  pub member : Walks f e i

module _ {f : Flow} {ws₀ ws : List ℕ} {n e from : ℕ} {found-opaque : Bool} (le : e < n) (p : BodyLoop f ws₀ ws n e found-opaque from) where
  walk_row : WalkRow f ws n e
  walk_row = open_row p.below.is_open (p.below.summing.bodies e le)

  -- no statement of the walk is passed over
  passed-to : {i : ℕ} → ((j : ℕ) → from ≤ j → j < i → has ws (row_at n e) j ≡ 0) → PassedBelow f ws₀ ws n e found-opaque i
  passed-to {i} absent = record {
    summing = p.below.summing;
    onward = p.below.onward;
    is_open = p.below.is_open;
    passed = λ j h r z. passed j h r z (dec_lt j from);
    found = p.below.found;
  }
    where
      passed : (j : ℕ) → j < i → Walks f e j → found-opaque ≡ false → Dec (j < from) → Passed f ws n e j
      passed j h r z (yes k) = p.below.passed j k r z
      passed j h r z (no k) = absurd (omega (arith, absent j (omega (arith, k)) h, walk_row.complete j r))

  pub reached : {i : ℕ} → Some i ≡ found_below (next_member ws (row_at n e) from n) n → Reached f ws₀ ws n e found-opaque from i
  reached {i} is =
      let found = next-some ws (row_at n e) from n p.high is in
      record { below = passed-to found.0.none; later = found.0.low; low = found.1; member = walk_row.sound i found.1 (found.0.member found.1) }

  pub walk_passed : None ≡ found_below (next_member ws (row_at n e) from n) n → PassedBelow f ws₀ ws n e found-opaque n
  walk_passed is = passed-to (next-none ws (row_at n e) from n p.high is)

pub passed_none : {f : Flow} {ws : List ℕ} {n e : ℕ} → Summing f ws n → body ws n e ≡ opened → PassedBelow f ws ws n e false 0
passed_none {ws = ws} {n} s h = record {
  summing = s;
  onward = onward-refl ws n n;
  is_open = h;
  passed = λ j l. absurd (omega arith);
  found = λ q. clash false q refl;
}

module _ {f : Flow} {n : ℕ} (w : WellFormed f) (sz : size f ≡ n) where
  low : {e : ℕ} → e < n → e < size f
  low {e} l = subst (λ m. e < m) (sym sz) l

  -- what a statement of the walk does belongs to the body

  own-within : {e i word : ℕ} → e < n → Walks f e i → MembersWord word (λ a. lists.elem a (references f i)) → Within word (touches f e)
  own-within {i = i} le r m a l h = touches-complete w (low le) (Touches.own r (elem-In a (references f i) (member-true m l h)))

  call-touches : {e i : ℕ} (a : ℕ) → e < n → Walks f e i → call_touches f i a ≡ true → touches f e a ≡ true
  call-touches {e} {i} a le r h = go (call_touches-sound f i a h)
    where
      go : CallTouches f i a → touches f e a ≡ true
      go (CallTouches.enters_touching m t) = touches-complete w (low le) (Touches.nested (Calls.calls r m) t)

  call-hides : {e i : ℕ} → e < n → Walks f e i → opaque_call f i ≡ true → theory.opaque f e ≡ true
  call-hides {e} {i} le r h = go (opaque_call-sound f i h)
    where
      go : OpaqueCall f i → theory.opaque f e ≡ true
      go (OpaqueCall.enters_opaque m o) = opaque-complete w (low le) (Opaque.calls (Calls.calls r m) o)

  -- a statement on the walk is passed by
  module _ {ws vs : List ℕ} {e i : ℕ} {found-opaque : Bool} (s : Summing f ws n) (room : matrix_at n ≤ length ws) (le : e < n) (li : i < n) (r : Walks f e i) (j : WalkPassed f ws vs n e i found-opaque) where
    word : ℕ
    word = bit_or j.own (call_touched_by ws n i)

    within : Within word (touches f e)
    unfolding word
    within a l h = go (ℕ_discrete (bit j.own a) 1)
      where
        go : Dec (bit j.own a ≡ 1) → touches f e a ≡ true
        go (yes q) = own-within le r j.set a l q
        go (no d) = call-touches a le r (s.call_touched i li a l (omega (arith, bit-or j.own (call_touched_by ws n i) a, bit-lt j.own a, bit-lt (call_touched_by ws n i) a, d, h)))

    pub walk_summing : Summing f vs n
    unfolding word
    walk_summing = rw j.slice (summing-touched w sz s room le word within)

    pub walk_onward : Onward ws vs n
    unfolding word
    walk_onward = rw j.slice (onward-touched w sz s room le word)

    joins : (a : ℕ) → bit word a ≡ 1 → bit (touched_by vs n e) a ≡ 1
    unfolding word
    joins a h = rw j.slice (joined-has ws (touched_at n + e) word a (omega arith) h)

    pub walk_own : Holds (touched_by vs n e) (λ a. lists.elem a (references f i))
    unfolding word
    walk_own a l h = joins a (omega (arith, bit-or j.own (call_touched_by ws n i) a, bit-lt (call_touched_by ws n i) a, true-member j.set l h))

    walk_nested : (a : ℕ) → bit (call_touched_by ws n i) a ≡ 1 → bit (touched_by vs n e) a ≡ 1
    unfolding word
    walk_nested a h = joins a (omega (arith, bit-or j.own (call_touched_by ws n i) a, bit-lt j.own a, h))

  -- a turn: the summary of i, and i is passed by
  module _ {ws₀ ws us vs : List ℕ} {e i : ℕ} {before found-opaque : Bool} (room : matrix_at n ≤ length ws) (le : e < n) (li : i < n) (r : Walks f e i)
      (p : PassedBelow f ws₀ ws n e before i) (k : CallSummed f ws us n i) (j : WalkPassed f us vs n e i found-opaque) where
    room-then : matrix_at n ≤ length us
    room-then = omega (arith, room, k.onward.keeps.size)

    onward_turn : Onward ws vs n
    onward_turn = onward-trans k.onward (walk_onward k.summing room-then le li r j)

    here : found-opaque ≡ false → Passed f vs n e i
    here h =
        let q = sym j.state ∙ h in
        let c = none-opaque-there k.done (eqb-false (call us n i) opaque (or-first (eqb (call us n i) opaque) (wipes (kind f i)) q)) (k.summing.calls i li) in
        record {
          keeps = or-second (eqb (call us n i) opaque) (wipes (kind f i)) q;
          call = c.call;
          own = walk_own k.summing room-then le li r j;
          nested = λ a l t. walk_nested k.summing room-then le li r j a (c.touched a l t);
        }

    further : {x : ℕ} → Passed f ws n e x → Passed f vs n e x
    further t = record {
      keeps = t.keeps;
      call = t.call;
      own = λ a l h. onward_turn.touched e a le (t.own a l h);
      nested = λ a l h. onward_turn.touched e a le (t.nested a l h);
    }

    hides : found-opaque ≡ true → theory.opaque f e ≡ true
    hides h =
        ⊎_elim (λ o. call-hides le r (opaque-there (eqb-true (call us n i) opaque o) (k.summing.calls i li))) (λ o. opaque-complete w (low le) (Opaque.own r o))
        (or_cases (eqb (call us n i) opaque) (wipes (kind f i)) (sym j.state ∙ h))

    pub body_turn : PassedBelow f ws₀ vs n e (before || found-opaque) (i + 1)
    body_turn = record {
      summing = walk_summing k.summing room-then le li r j;
      onward = onward-trans p.onward onward_turn;
      is_open = onward_turn.still_open e le (λ x. omega arith) p.is_open;
      passed = λ x l t h. passed x l t h (ℕ_discrete x i);
      found = λ h. ⊎_elim p.found hides (or_cases before found-opaque h);
    }
      where
        passed : (x : ℕ) → x < i + 1 → Walks f e x → (before || found-opaque) ≡ false → Dec (x ≡ i) → Passed f vs n e x
        passed x l t h (yes y) = subst (λ y. Passed f vs n e y) (sym y) (here (or-second before found-opaque h))
        passed x l t h (no d) = further (p.passed x (omega (arith, d)) t (or-first before found-opaque h))

  -- the walk is passed by: the body is summary_state
  module _ {ws₀ ws : List ℕ} {e : ℕ} {found-opaque : Bool} (room : matrix_at n ≤ length ws) (le : e < n) (p : PassedBelow f ws₀ ws n e found-opaque n) where
    passed_all : {j : ℕ} → Walks f e j → found-opaque ≡ false → Passed f ws n e j
    passed_all {j} r h = p.passed j (walk_low w sz le j r) r h

    is_transparent : found-opaque ≡ false → Transparent f e
    is_transparent h = Transparent.transparent (λ j r. (passed_all r h).keeps) (λ b k. go b k)
      where
        go : (b : ℕ) → Calls f e b → Transparent f b
        go b (Calls.calls {c = c} r m) = callee_transparent w c (passed_all r h).call m

    all_touched : found-opaque ≡ false → Holds (touched_by ws n e) (touches f e)
    all_touched h a l t =
        let x = any_find (λ j. lists.elem a (references f j) || call_touches f j a) (walked f e) (sym (touches-equation w e a (low le)) ∙ t) in
        let y = passed_all (walked-sound f e x.1) h in
        ⊎_elim (y.own a l) (y.nested a l) (or_cases (lists.elem a (references f x.0)) (call_touches f x.0 a) x.2)

    row : (v : ℕ) → WalkRow f (set ws (bodies_at n + e) v) n e
    row v = walk_kept (walk_low w sz le) (λ j m. rows-set ws n (bodies_at n + e) v (omega arith) (omega arith) e j) (open_row p.is_open (p.summing.bodies e le))

    state : (b : Bool) → found-opaque ≡ b → BodyState f (set ws (bodies_at n + e) (summary_state b)) n e
    state true h = BodyState.is_opaque (body-set w sz p.summing room le opaque) (p.found h) (row opaque)
    state false h =
        BodyState.is_transparent (body-set w sz p.summing room le transparent) (transparent-opaque (is_transparent h))
        (λ a l t. ap (λ x. bit x a) (body-other w sz p.summing room le transparent (touched_at n + e) (λ q. omega arith)) ∙ all_touched h a l t)
        (λ g. row transparent)

    pub body_done : (v : ℕ) → v ≡ summary_state found-opaque → {ws₁ : List ℕ} → OnwardBut e ws₁ ws₀ n → body ws₁ n e ≡ unentered → BodySummed f ws₁ (set ws (bodies_at n + e) v) n e
    body_done v q {ws₁} o was = rw q (record {
      summing = summing-body w sz p.summing room le (summary_state found-opaque) not_zero (state found-opaque refl);
      onward = onward-all (onward-trans o (onward-trans (onward_but e p.onward) (onward-body w sz p.summing room le (summary_state found-opaque)))) was (λ x. not_zero (sym is ∙ x)) (λ x. not_open (sym is ∙ x));
      done = λ x. not_zero (sym is ∙ x);
    })
      where
        is : body (set ws (bodies_at n + e) (summary_state found-opaque)) n e ≡ summary_state found-opaque
        is = body-set w sz p.summing room le (summary_state found-opaque)

        not_zero : summary_state found-opaque ≢ unentered
        not_zero = summary_state-not found-opaque unentered (λ x. omega arith) (λ x. omega arith)

        not_open : summary_state found-opaque ≢ opened
        not_open = summary_state-not found-opaque opened (λ x. omega arith) (λ x. omega arith)

  -- a RETURN touches what it references and calls nothing
  module _ {ws vs : List ℕ} {e : ℕ} {found-opaque : Bool} (s : Summing f ws n) (room : matrix_at n ≤ length ws) (le : e < n) (was : body ws n e ≡ unentered) (ret : is_return (kind f e) ≡ true)
      (j : WalkPassed f ws vs n e e found-opaque) where
    no_call : {c b : ℕ} → Walks f e c → In b (callees f c) → ⊥
    no_call {c} {b} r m =
        Memᴰ.not-nil (subst (λ l. In b l) (no_callees f e (return-ordinary (kind f e) ret)) (subst (λ x. In b (callees f x)) (return-stays f ret r) m))

    return_transparent : Transparent f e
    return_transparent = Transparent.transparent (λ i r. subst (λ x. wipes (kind f x) ≡ false) (sym (return-stays f ret r)) (return-wipes (kind f e) ret)) (λ b k. go b k)
      where
        go : (b : ℕ) → Calls f e b → Transparent f b
        go b (Calls.calls r m) = absurd (no_call r m)

    return_touches : (a : ℕ) → Touches f a e → lists.elem a (references f e) ≡ true
    return_touches a t = go e refl t
      where
        go : (x : ℕ) → x ≡ e → Touches f a x → lists.elem a (references f e) ≡ true
        go x q (Touches.own {i = i} r m) = In-elem (subst (λ y. In a (references f y)) (return-stays f ret (subst (λ y. Walks f y i) q r)) m)
        go x q (Touches.nested (Calls.calls {c = c} r m) t) = absurd (no_call (subst (λ y. Walks f y c) q r) m)

    vs_summing : Summing f vs n
    vs_summing = walk_summing s room le le Reach.here j

    return_room : matrix_at n ≤ length vs
    return_room = omega (arith, room, (walk_onward s room le le Reach.here j).keeps.size)

    pub return_done : BodySummed f ws (set vs (bodies_at n + e) transparent) n e
    return_done = record {
      summing = summing-body w sz vs_summing return_room le transparent (λ x. omega arith) (BodyState.is_transparent is (transparent-opaque return_transparent) holds (λ h. clash (is_return (kind f e)) ret h));
      onward = onward-all (onward-trans (onward_but e (walk_onward s room le le Reach.here j)) (onward-body w sz vs_summing return_room le transparent)) was (λ x. omega (arith, is, x)) (λ x. omega (arith, is, x));
      done = λ x. omega (arith, is, x);
    }
      where
        is : body (set vs (bodies_at n + e) transparent) n e ≡ transparent
        is = body-set w sz vs_summing return_room le transparent

        holds : Holds (touched_by (set vs (bodies_at n + e) transparent) n e) (touches f e)
        holds a l t =
            ap (λ x. bit x a) (body-other w sz vs_summing return_room le transparent (touched_at n + e) (λ q. omega arith))
            ∙ walk_own s room le le Reach.here j a l (return_touches a (touches-sound f e a t))
