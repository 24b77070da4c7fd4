-- Request E2: what is sure. The deciders say what `Returns`, `Missed` and `Sure` say. `sure` satisfies the paper's sentence on sure arrays, and nothing else does: along a walk that meets nothing
-- "missed" goes back from the RETURN to the body's start, and calls among bodies that are not opaque have no cycle. A sure array is touched. Assumes nothing.
use Prim.Native.Nat.{ℕ, zero, suc, ◌<◌, ◌≤◌}
use mathlib.Core.Bool.{Bool, true, false, cond, not, ◌&&◌}
use mathlib.Core.List.Memᴰ
use mathlib.Core.List.{List, []}
use mathlib.Core.Logic.{◌⊎◌, inl, inr, ⊎_elim}
use mathlib.Core.Option.{Option, none, some}
use mathlib.Core.Path.{◌≡◌, refl, ap, subst}
use native.Mathlib.Omega.{arith}
use borrow.Author.Tests.{not-true, not-false}
use Rattle.flow.specs.Flow.{Flow, Kind, size, enters}
use Rattle.theory.specs.Lists.{In, any, elem, option_list, up_to}
use Rattle.theory.specs.Reach.{Reach}
use Rattle.theory.specs.Body.{kind, references, call_lines, continuation_of, entered, if_some, callees, is_return, walk_next, Walks, walked, Calls, Touches, OpaqueCall, CallTouches, opaque, opaque_call, call_touches}
use Rattle.theory.specs.Sure.{is_gosub, gosub_body, Returns, Meets, AlwaysMet, Sentence, can_return, returning, Missed, Sure, missed_from, missed_after, missed, sure}
use Rattle.theory.specs.Clauses.WellFormed.{WellFormed}
use Rattle.theory.proofs.Lists.{clash, not_so, or_cases, or_right, and_both, and-true, same_test, any-In, any_find, any_none, none_any, In-elem, elem-In, elem-not, select-In, In-select, In-concat_map, In-option_list}
use Rattle.theory.proofs.Body.{walked-sound, walked-complete, walk_next-below, callees-below, opaque_call-sound, opaque_call-complete, call_touches-sound, call_touches-complete}
use Rattle.theory.proofs.Edges.{statement_of}
use Rattle.theory.proofs.Transparent.{Transparent, callee_not-opaque, not-opaque-call, callee_transparent}
use Rattle.theory.proofs.Rounds.{Rounds, rounds_closed}

-- Bodies

-- the test fails of a call that is not opaque
call-not-opaque : (f : Flow) (c : ℕ) → (OpaqueCall f c → ⊥) → opaque_call f c ≡ false
call-not-opaque f c h = not_so (opaque_call f c) (λ k. h (opaque_call-sound f c k))

callee_entered : (f : Flow) (c : ℕ) {b : ℕ} → In b (callees f c) → In b (entered f c)
unfolding callees
callee_entered f c {b} m = go (continuation_of (kind f c)) m
  where
    go : (o : Option ℕ) → In b (if_some o (entered f c) []) → In b (entered f c)
    go none m = absurd (Memᴰ.not-nil m)
    go (some k) m = m

entered-line : (f : Flow) (c : ℕ) {l b : ℕ} {o : Option ℕ} → kind f c ≡ Kind.gosub l o → In b (entered f c) → enters f l ≡ some b
unfolding entered
entered-line f c {l} {b} h m =
    let r = In-concat_map (λ l. option_list (enters f l)) (call_lines (kind f c)) m in
    let e : r.0 ≡ l = Memᴰ.eq_of_singleton (subst (λ k. In r.0 (call_lines k)) h r.1) in
    subst (λ x. enters f x ≡ some b) e (In-option_list (enters f r.0) r.2)

-- a plain GOSUB's body is one that it calls
pub gosub_callee : (f : Flow) (c : ℕ) {b : ℕ} → In b (gosub_body f c) → In b (callees f c)
unfolding gosub_body
gosub_callee f c {b} m = go (is_gosub (kind f c)) m
  where
    go : (t : Bool) → In b (cond t (callees f c) []) → In b (callees f c)
    go true m = m
    go false m = absurd (Memᴰ.not-nil m)

pub returning-body : (f : Flow) (c : ℕ) {b : ℕ} → In b (returning f c) → In b (gosub_body f c) × (can_return f b ≡ true)
unfolding returning
returning-body f c m = In-select (can_return f) (gosub_body f c) m

body-returning : (f : Flow) (c : ℕ) {b : ℕ} → In b (gosub_body f c) → can_return f b ≡ true → In b (returning f c)
unfolding returning
body-returning f c m h = select-In (can_return f) m h

-- it calls no other
pub gosub-one : (f : Flow) (c : ℕ) {b e : ℕ} → In b (gosub_body f c) → In e (callees f c) → b ≡ e
unfolding gosub_body
gosub-one f c {b} {e} m k = go (kind f c) refl m
  where
    go : (x : Kind) → kind f c ≡ x → In b (cond (is_gosub x) (callees f c) []) → b ≡ e
    go Kind.other h n = absurd (Memᴰ.not-nil n)
    go Kind.return h n = absurd (Memᴰ.not-nil n)
    go Kind.clr h n = absurd (Memᴰ.not-nil n)
    go Kind.run h n = absurd (Memᴰ.not-nil n)
    go (Kind.dim items) h n = absurd (Memᴰ.not-nil n)
    go (Kind.gosub l o) h n = let p = entered-line f c h (callee_entered f c n) in let q = entered-line f c h (callee_entered f c k) in cc
    go (Kind.on_gosub ls o) h n = absurd (Memᴰ.not-nil n)

-- only a plain GOSUB with a continuation has one

pub no_gosub : (f : Flow) (c : ℕ) {b : ℕ} → is_gosub (kind f c) ≡ false → In b (returning f c) → ⊥
unfolding gosub_body
no_gosub f c h m = Memᴰ.not-nil (rw h at (returning-body f c m).0)

pub no_continuation : (f : Flow) (c : ℕ) {b : ℕ} → continuation_of (kind f c) ≡ none → In b (returning f c) → ⊥
unfolding callees
no_continuation f c h m = Memᴰ.not-nil (rw h at (gosub_callee f c (returning-body f c m).0))

pub can_return-sound : (f : Flow) (b : ℕ) → can_return f b ≡ true → Returns f b
unfolding can_return
can_return-sound f b h =
    let r = any_find (λ r. is_return (kind f r)) (walked f b) h in
    Returns.at (walked-sound f b r.1) r.2

-- Missed

-- the rules, with a list of statements for those that are missed
data ByRule (f : Flow) (a : ℕ) (l : List ℕ) (i : ℕ) : Type 0 where
  at_return : elem a (references f i) ≡ false → is_return (kind f i) ≡ true → ByRule f a l i
  on : {j : ℕ} → elem a (references f i) ≡ false → ((b : ℕ) → In b (returning f i) → In b l) → In j (walk_next f i) → In j l → ByRule f a l i

module _ (f : Flow) (a : ℕ) (l : List ℕ) (i : ℕ) where
  all_in : any (λ b. not (elem b l)) (returning f i) ≡ false → (b : ℕ) → In b (returning f i) → In b l
  all_in h b m = elem-In b l (not-false (elem b l) (any_none (λ b. not (elem b l)) h m))

  from-rule : missed_from f a l i ≡ true → ByRule f a l i
  unfolding missed_from
  from-rule h = let r = and_both _ _ h in go (not-true _ r.0) (or_cases (is_return (kind f i)) _ r.1)
    where
      go : elem a (references f i) ≡ false
          → (is_return (kind f i) ≡ true) ⊎ ((not (any (λ b. not (elem b l)) (returning f i)) && any (λ j. elem j l) (walk_next f i)) ≡ true) → ByRule f a l i
      go n (inl q) = ByRule.at_return n q
      go n (inr q) =
          let s = and_both (not (any (λ b. not (elem b l)) (returning f i))) (any (λ j. elem j l) (walk_next f i)) q in
          let t = any_find (λ j. elem j l) (walk_next f i) s.1 in
          ByRule.on n (all_in (not-true _ s.0)) t.1 (elem-In t.0 l t.2)

  by_rule : ByRule f a l i → missed_from f a l i ≡ true
  unfolding missed_from
  by_rule (ByRule.at_return n q) = rw (n, q) refl
  by_rule (ByRule.on n b m h) =
      rw n (or_right (is_return (kind f i)) _ (and-true _ _ (ap not (none_any (λ b. not (elem b l)) (returning f i) (λ c k. ap not (In-elem (b c k))))) (any-In (λ j. elem j l) m (In-elem h))))

missed_round : (f : Flow) (a k : ℕ) {i : ℕ} → In i (missed_after k f a) → Missed f a i
unfolding missed_after
missed_round f a zero m = absurd (Memᴰ.not-nil m)
missed_round f a (suc k) {i} m =
    go (λ j. missed_round f a k) (from-rule f a (missed_after k f a) i (In-select (missed_from f a (missed_after k f a)) (up_to (size f)) m).1)
  where
    go : ((j : ℕ) → In j (missed_after k f a) → Missed f a j) → ByRule f a (missed_after k f a) i → Missed f a i
    go ih (ByRule.at_return n q) = Missed.at_return n q
    go ih (ByRule.on {j = j} n b m h) = Missed.on n (λ c k. ih c (b c k)) m (ih j h)

pub missed-sound : (f : Flow) (a i : ℕ) → missed f a i ≡ true → Missed f a i
unfolding missed
missed-sound f a i h = missed_round f a (size f) (elem-In i (missed_after (size f) f a) h)

missed_rounds : (f : Flow) (a : ℕ) → Rounds (size f) (missed_from f a) (λ k. missed_after k f a)
unfolding missed_after
missed_rounds f a = record {
  first = refl;
  next = λ k. refl;
  grows = λ l m within i h. by_rule f a m i (go within (from-rule f a l i h));
}
  where
    go : {l m : List ℕ} {i : ℕ} → ((i : ℕ) → In i l → In i m) → ByRule f a l i → ByRule f a m i
    go within (ByRule.at_return n q) = ByRule.at_return n q
    go within (ByRule.on {j = j} n b k h) = ByRule.on n (λ c p. within c (b c p)) k (within j h)

module _ {f : Flow} (w : WellFormed f) where
  pub can_return-complete : {b : ℕ} → b < size f → Returns f b → can_return f b ≡ true
  unfolding can_return
  can_return-complete l (Returns.at r h) = any-In (λ r. is_return (kind f r)) (walked-complete w l r) h

  returning-below : (c b : ℕ) → In b (returning f c) → b < size f
  returning-below c b m = callees-below w c b (gosub_callee f c (returning-body f c m).0)

  missed-last : {a i : ℕ} → i < size f → Missed f a i → In i (missed_after (size f) f a)
  missed-last {a} {i} l (Missed.at_return n q) =
      rounds_closed (missed_rounds f a) i l (by_rule f a (missed_after (size f) f a) i (ByRule.at_return n q))
  missed-last {a} {i} l (Missed.on {j = j} n b m h) =
      rounds_closed (missed_rounds f a) i l
      (by_rule f a (missed_after (size f) f a) i
      (ByRule.on n (λ c k. missed-last (returning-below i c k) (b c k)) m (missed-last (walk_next-below w i j m) h)))

  pub missed-complete : {a i : ℕ} → i < size f → Missed f a i → missed f a i ≡ true
  unfolding missed
  missed-complete l m = In-elem (missed-last l m)

  -- Sure

  pub sure-sound : (c a : ℕ) → sure f c a ≡ true → Sure f c a
  unfolding sure
  sure-sound c a h =
      let r = and_both (not (opaque_call f c)) _ h in
      let s = any_find (λ b. not (missed f a b)) (returning f c) r.1 in
      record {
        body = s.0;
        enters = s.1;
        not_opaque = λ o. clash (opaque_call f c) (opaque_call-complete w o) (not-true _ r.0);
        met = λ m. clash (missed f a s.0) (missed-complete (returning-below c s.0 s.1) m) (not-true _ s.2);
      }

pub sure-complete : {f : Flow} {c a : ℕ} → Sure f c a → sure f c a ≡ true
unfolding sure
sure-complete {f} {c} {a} s =
    and-true (not (opaque_call f c)) _
    (ap not (call-not-opaque f c s.not_opaque))
    (any-In (λ b. not (missed f a b)) s.enters (ap not (not_so (missed f a s.body) (λ h. s.met (missed-sound f a s.body h)))))

-- The sentence

-- what the sentence asks to be met on a walk
abbrev Met : Flow → (ℕ → ℕ → Bool) → ℕ → ℕ → Type 0
Met f S a i = In a (references f i) ⊎ (S i a ≡ true)

return_no_gosub : (k : Kind) → is_return k ≡ true → is_gosub k ≡ false
return_no_gosub Kind.other h = refl
return_no_gosub Kind.return h = refl
return_no_gosub Kind.clr h = refl
return_no_gosub Kind.run h = refl
return_no_gosub (Kind.dim items) h = refl
return_no_gosub (Kind.gosub l c) h = cc
return_no_gosub (Kind.on_gosub ls c) h = refl

-- what a walk meets, it meets at some statement of it
meets_at : {next : ℕ → List ℕ} {e : ℕ} {P : ℕ → Type 0} {i : ℕ} {w : Reach next e i} → Meets P i w → (j : ℕ) × Reach next e j × P j
meets_at (Meets.last {i = i} {w = w} p) = (i, w, p)
meets_at (Meets.before m) = meets_at m

meets_map : {next : ℕ → List ℕ} {e : ℕ} {P Q : ℕ → Type 0} {i : ℕ} {w : Reach next e i} → ((j : ℕ) → Reach next e j → P j → Q j) → Meets P i w → Meets Q i w
meets_map h (Meets.last {i = i} {w = w} p) = Meets.last (h i w p)
meets_map h (Meets.before m) = Meets.before (meets_map h m)

-- at its last statement, or before

MetBefore : {next : ℕ → List ℕ} {e i : ℕ} → (ℕ → Type 0) → Reach next e i → Type 0
MetBefore P Reach.here = ⊥
MetBefore P (Reach.on {i = i} w m) = Meets P i w

meets_cases : {next : ℕ → List ℕ} {e i : ℕ} {P : ℕ → Type 0} {w : Reach next e i} → Meets P i w → P i ⊎ MetBefore P w
unfolding MetBefore
meets_cases (Meets.last p) = inl p
meets_cases (Meets.before m) = inr m

module _ {f : Flow} (w : WellFormed f) where
  -- a statement before one that is missed is missed too, unless it is met: a body that it enters and that is not missed makes it sure
  met-or-missed : {a i j : ℕ} → opaque_call f i ≡ false → In j (walk_next f i) → Missed f a j → Met f (sure f) a i ⊎ Missed f a i
  met-or-missed {a} {i} {j} o m x = refers (elem a (references f i)) refl
    where
      bodies : elem a (references f i) ≡ false → (t : Bool) → sure f i a ≡ t → Met f (sure f) a i ⊎ Missed f a i
      bodies n true q = inl (inr q)
      bodies n false q = inr (Missed.on n (λ b k. missed-sound f a b (go b k (missed f a b) refl)) m x)
        where
          go : (b : ℕ) → In b (returning f i) → (t : Bool) → missed f a b ≡ t → missed f a b ≡ true
          go b k true e = e
          go b k false e =
              clash (sure f i a)
              (sure-complete (record {
                body = b;
                enters = k;
                not_opaque = λ p. clash (opaque_call f i) (opaque_call-complete w p) o;
                met = λ p. clash (missed f a b) (missed-complete w (returning-below w i b k) p) e;
              }))
              q

      refers : (t : Bool) → elem a (references f i) ≡ t → Met f (sure f) a i ⊎ Missed f a i
      refers true e = inl (inl (elem-In a (references f i) e))
      refers false e = bodies e (sure f i a) refl

  -- so a walk to a statement that is missed meets something, or its start is missed
  missed-back : {a e i : ℕ} → e < size f → opaque f e ≡ false → (v : Walks f e i) → Missed f a i → Meets (Met f (sure f) a) i v ⊎ Missed f a e
  missed-back l o Reach.here x = inr x
  missed-back {a} {e} l o (Reach.on {i = i} {j = j} v m) x = go (missed-back l o v) (met-or-missed (not-opaque-call w l o v) m x)
    where
      go : (Missed f a i → Meets (Met f (sure f) a) i v ⊎ Missed f a e) → Met f (sure f) a i ⊎ Missed f a i
          → Meets (Met f (sure f) a) j (Reach.on v m) ⊎ Missed f a e
      go ih (inl p) = inl (Meets.before (Meets.last p))
      go ih (inr y) = ⊎_elim (λ p. inl (Meets.before p)) inr (ih y)

  -- at the RETURN itself too
  missed-return : {a e r : ℕ} → e < size f → opaque f e ≡ false → is_return (kind f r) ≡ true → (v : Walks f e r)
      → Meets (Met f (sure f) a) r v ⊎ Missed f a e
  missed-return {a} {e} {r} l o q v = go (elem a (references f r)) refl
    where
      go : (t : Bool) → elem a (references f r) ≡ t → Meets (Met f (sure f) a) r v ⊎ Missed f a e
      go true h = inl (Meets.last (inl (elem-In a (references f r) h)))
      go false h = missed-back l o v (Missed.at_return h q)

  -- what is missed is not met
  not-met : (a i : ℕ) → elem a (references f i) ≡ false → ((b : ℕ) → In b (returning f i) → Missed f a b) → Met f (sure f) a i → ⊥
  not-met a i n b (inl m) = elem-not a (references f i) n m
  not-met a i n b (inr h) = let s = sure-sound w i a h in s.met (b s.body s.enters)

  -- from a statement that is missed some walk goes to a RETURN and meets nothing
  missed_walk : {a e i : ℕ} → ((r : ℕ) → is_return (kind f r) ≡ true → (v : Walks f e r) → Meets (Met f (sure f) a) r v)
      → Missed f a i → (v : Walks f e i) → (MetBefore (Met f (sure f) a) v → ⊥) → ⊥
  unfolding MetBefore
  missed_walk {a} {i = i} every (Missed.at_return n q) v h =
      ⊎_elim (not-met a i n (λ b m. absurd (no_gosub f i (return_no_gosub (kind f i) q) m))) h (meets_cases (every i q v))
  missed_walk {a} {i = i} every (Missed.on n b m x) v h = missed_walk every x (Reach.on v m) (λ p. ⊎_elim (not-met a i n b) h (meets_cases p))

  -- the paper's sentence
  pub sure_sentence : Sentence f (sure f)
  unfolding MetBefore
  sure_sentence = record { only = only; all = all }
    where
      only : (c a : ℕ) → sure f c a ≡ true → AlwaysMet f (sure f) c a
      only c a h =
          let s = sure-sound w c a h in
          let b = returning-body f c s.enters in
          let m = gosub_callee f c b.0 in
          let o = callee_not-opaque w c (call-not-opaque f c s.not_opaque) m in
          record {
            body = s.body;
            enters = b.0;
            not_opaque = s.not_opaque;
            returns = can_return-sound f s.body b.1;
            every = λ r q v. ⊎_elim (λ p. p) (λ x. absurd (s.met x)) (missed-return (callees-below w c s.body m) o q v);
          }

      all : (c a : ℕ) → AlwaysMet f (sure f) c a → sure f c a ≡ true
      all c a m = sure-complete (record {
        body = m.body;
        enters = body-returning f c m.enters (can_return-complete w (callees-below w c m.body (gosub_callee f c m.enters)) m.returns);
        not_opaque = m.not_opaque;
        met = λ x. missed_walk m.every x Reach.here (λ p. p);
      })

-- Nothing else satisfies it

module _ {f : Flow} (w : WellFormed f) where
  module _ {S S' : ℕ → ℕ → Bool} (p : Sentence f S) (p' : Sentence f S') where
    -- on the walks from b, calls that are sure for S are sure for S'
    Agree : ℕ → Type 0
    Agree b = (a r : ℕ) (v : Walks f b r) → Meets (Met f S a) r v → Meets (Met f S' a) r v

    agree_call : (c a : ℕ) → ((OpaqueCall f c → ⊥) → (b : ℕ) → In b (callees f c) → Agree b) → S c a ≡ true → S' c a ≡ true
    unfolding Agree
    agree_call c a ih h =
        let m = p.only c a h in
        p'.all c a (record {
          body = m.body;
          enters = m.enters;
          not_opaque = m.not_opaque;
          returns = m.returns;
          every = λ r q v. ih m.not_opaque m.body (gosub_callee f c m.enters) a r v (m.every r q v);
        })

    agree : {b : ℕ} → Transparent f b → Agree b
    unfolding Agree
    agree (Transparent.transparent h k) a r v m =
        meets_map (λ i u. ⊎_elim inl (λ q. inr (agree_call i a (λ o b n. agree (k b (Calls.calls u n))) q))) m

    implies : (c a : ℕ) → S c a ≡ true → S' c a ≡ true
    implies c a = agree_call c a (λ o b m. agree (callee_transparent w c (call-not-opaque f c o) m))

  pub sentence_unique : {S : ℕ → ℕ → Bool} → Sentence f S → (c a : ℕ) → S c a ≡ sure f c a
  sentence_unique {S} p c a =
      same_test (S c a) (sure f c a) (implies p (sure_sentence w) c a) (implies (sure_sentence w) p c a)

  -- A sure array is touched

  -- some walk of the body that is always met meets something
  some_walk : {c a : ℕ} (m : AlwaysMet f (sure f) c a) → (r : ℕ) × (v : Walks f m.body r) × Meets (Met f (sure f) a) r v
  some_walk {c} {a} m = go m.returns
    where
      go : Returns f m.body → (r : ℕ) × (v : Walks f m.body r) × Meets (Met f (sure f) a) r v
      go (Returns.at {r = r} v q) = (r, v, m.every r q v)

  met-touched : {b : ℕ} → Transparent f b → (a r : ℕ) (v : Walks f b r) → Meets (Met f (sure f) a) r v → Touches f a b
  met-touched (Transparent.transparent h k) a r v m =
      let s = meets_at m in
      ⊎_elim (Touches.own s.1)
      (λ q.
      let n = (sure_sentence w).only s.0 a q in
      let c = Calls.calls s.1 (gosub_callee f s.0 n.enters) in
      let u = some_walk n in
      Touches.nested c (met-touched (k n.body c) a u.0 u.1 u.2))
      s.2

  pub sure-touched : (c a : ℕ) → sure f c a ≡ true → call_touches f c a ≡ true
  sure-touched c a h =
      let m = (sure_sentence w).only c a h in
      let e = gosub_callee f c m.enters in
      let u = some_walk m in
      let t = callee_transparent w c (call-not-opaque f c m.not_opaque) e in
      call_touches-complete w (CallTouches.enters_touching e (met-touched t a u.0 u.1 u.2))

  pub touched-below : {a e : ℕ} → Touches f a e → a < f.arrays
  touched-below {a} (Touches.own {i = i} v m) = w.reference i a m
  touched-below (Touches.nested k t) = touched-below t

  -- only a statement has sure arrays, and only arrays of the flow

  pub sure-statement : (c a : ℕ) → sure f c a ≡ true → c < size f
  sure-statement c a h = go (continuation_of (kind f c)) refl
    where
      go : (o : Option ℕ) → continuation_of (kind f c) ≡ o → c < size f
      go none e = absurd (no_continuation f c e (sure-sound w c a h).enters)
      go (some k) e = statement_of f c e

  pub sure-array : (c a : ℕ) → sure f c a ≡ true → a < f.arrays
  sure-array c a h = go (call_touches-sound f c a (sure-touched c a h))
    where
      go : CallTouches f c a → a < f.arrays
      go (CallTouches.enters_touching m t) = touched-below t

  pub sure-below : (c a : ℕ) → f.arrays ≤ a → sure f c a ≡ false
  sure-below c a l = not_so (sure f c a) (λ h. let k = sure-array c a h in omega arith)
