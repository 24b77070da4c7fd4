-- The handler's summary, as the phases read it: the state of its body says whether that is opaque, and the word of the touched arrays is noted behind the words of the solver,
-- where nothing of the summaries stands. By the layout of the work area.
use Prim.Native.Nat.{ℕ, ◌+◌, ◌/◌, ◌%◌, ◌<◌, ◌≤◌}
use mathlib.Core.Bool.{Bool, true, false, cond}
use mathlib.Core.List.{List}
use mathlib.Core.Option.{none, some}
use mathlib.Core.Path.{◌≡◌, refl, sym, ap, ap₂, subst, ◌∙◌}
use native.Mathlib.Omega.{arith}
use lib.Dec.{eqb}
use lib.ListN.{length, get_or, set}
use lib.Seq.{get_or-set_same}
use Rattle.words.specs.Clauses.Row.{bit, has}
use Rattle.flow.specs.Limits.{max_arrays}
use Rattle.flow.specs.Flow.{Flow, size}
use Rattle.flow.specs.Format.{flow_of}
use Rattle.flow.specs.declared.Header.{Header}
use Rattle.records.proofs.Files.{limited}
use Rattle.theory.specs.Body.{opaque, touches}
use Rattle.theory.specs.Key.{on_handler, opaque_handler, handler_touches}
use Rattle.theory.specs.Clauses.WellFormed.{WellFormed}
use Rattle.statements.specs.Clauses.Layout.{bodies_at, touched_at, row_at, queue_at, set_words, max_width}
use Rattle.statements.specs.Clauses.Ready.{Keeps, MembersWord}
use Rattle.statements.proofs.Keeps.{keeps-has, keeps-set, keeps_widen, ready-size, ready_formed}
use Rattle.statements.proofs.WorkArea.{row_fits, member-word}
use Rattle.calls.specs.Clauses.Held as held
use Rattle.calls.specs.Clauses.Held.{HandlerSummary, Summarized}
use Rattle.calls.proofs.Summing.{walk_kept, walk_low, callee_low, handler-low}
use Rattle.calls.proofs.Gathered.{summaries_kept}
use Rattle.solve.specs.Clauses.Layout.{area_end, key_at}
use Rattle.solve.proofs.Room.{key-room}
use Rattle.dataflow.specs.Clauses.Transfer.{KeySet}
use Rattle.dataflow.specs.Clauses.Phases.{SummariesMade}
use Rattle.dataflow.proofs.Kept.{queue-above, indexed_stays}

module _ (f : Flow) where
  -- without a handler
  pub unkeyed_clear : f.handler ≡ none → opaque_handler f ≡ false
  unfolding opaque_handler
  unkeyed_clear q = ap (λ o. on_handler o false (opaque f)) q

  -- the handler's deciders, by its statement
  module _ {e : ℕ} (q : f.handler ≡ some e) where
    pub opaque-body : opaque_handler f ≡ opaque f e
    unfolding opaque_handler
    opaque-body = ap (λ o. on_handler o false (opaque f)) q

    touches-body : (a : ℕ) → handler_touches f a ≡ touches f e a
    unfolding handler_touches
    touches-body a = ap (λ o. on_handler o false (λ h. touches f h a)) q

-- the state of the handler's body tells whether it is opaque
pub body-told : {f : Flow} {ws : List ℕ} {n e : ℕ} → HandlerSummary f ws n → f.handler ≡ some e → eqb (get_or ws (bodies_at n + e) 0) held.opaque ≡ opaque_handler f
body-told {f} {e = e} x q = ap (λ v. eqb v held.opaque) (x.body e q) ∙ told (opaque f e) ∙ sym (opaque-body f q)
  where
    told : (b : Bool) → eqb (cond b held.opaque held.transparent) held.opaque ≡ b
    told true = refl
    told false = refl

-- a phase that writes behind the matrix keeps the summaries
summarized-stays : {f : Flow} {ws vs : List ℕ} {n hi : ℕ} → WellFormed f → size f ≡ n → Keeps (queue_at n) hi ws vs → Summarized f ws n → Summarized f vs n
summarized-stays {f} {ws} {vs} {n} {hi} wf z k x =
    let above = queue-above n in
    record {
      calls = summaries_kept (omega arith) k x.calls;
      handler = record {
        body = λ e q. let low = handler-low wf z e q in k.below (bodies_at n + e) (omega arith) ∙ x.handler.body e q;
        touched = λ e q o.
            let low = handler-low wf z e q in
            subst (λ (w : ℕ). MembersWord w (touches f e)) (sym (k.below (touched_at n + e) (omega arith))) (x.handler.touched e q o);
      };
      walks = λ c b l m r.
          let low = callee_low wf z c b m in
          walk_kept (walk_low wf z low) (λ i j. keeps-has k (row_at n b) i (λ p t. let fits = row_fits n low in let word = member-word j in omega arith)) (x.walks c b l m r);
    }

module _ {s : List ℕ} {h : Header} {ws : List ℕ} (made : SummariesMade s h ws) where
  abbrev n : ℕ
  n = h.statements

  abbrev w : ℕ
  w = set_words h.arrays

  pub few : h.arrays ≤ max_arrays
  few = subst (λ (x : Header). x.arrays ≤ max_arrays) (sym made.indexed.header) (limited made.indexed.ready.fit).arrays

  pub narrow : set_words h.arrays ≤ max_width
  narrow = omega (arith, few)

  -- the handler is a statement
  pub handler-below : (e : ℕ) → (flow_of s).handler ≡ some e → e < h.statements
  handler-below e q = handler-low (ready_formed made.indexed.ready) (ready-size made.indexed.ready) e q

  pub key_fits : (e : ℕ) → (flow_of s).handler ≡ some e → key_at h.statements (set_words h.arrays) + set_words h.arrays ≤ length ws
  key_fits e q = key-room made.indexed.ready (omega (arith, handler-below e q)) narrow

  -- a word behind the solver's is none of the summaries
  summaries_stay : (v : ℕ) → SummariesMade s h (set ws (key_at h.statements (set_words h.arrays)) v)
  summaries_stay v = record {
    indexed = indexed_stays keeps made.indexed;
    summarized = summarized-stays (ready_formed made.indexed.ready) (ready-size made.indexed.ready) keeps made.summarized;
    zero = λ x l b. behind.below x b ∙ made.zero x l b;
  }
    where
      behind : Keeps (area_end n w) (area_end n w + 1) ws (set ws (key_at n w) v)
      behind = keeps-set ws (key_at n w) v (omega arith) (omega arith)

      keeps : Keeps (queue_at n) (area_end n w + 1) ws (set ws (key_at n w) v)
      keeps = keeps_widen (omega arith) (omega arith) behind

  -- and there the handler's touched arrays are a set
  key-noted : opaque_handler (flow_of s) ≡ false → (e : ℕ) → (flow_of s).handler ≡ some e
      → KeySet (flow_of s) (set ws (key_at h.statements (set_words h.arrays)) (get_or ws (touched_at h.statements + e) 0)) h.statements (set_words h.arrays)
  unfolding has
  key-noted clear e q = record {
    member = λ d t a l.
        let bound : a < 64 = omega (arith, narrow) in
        let word : key_at n w + a / 64 ≡ key_at n w = omega arith in
        let place : a % 64 ≡ a = omega arith in
        ap₂ (λ (x y : ℕ). bit (get_or (set ws (key_at n w) touched) x 0) y) word place
        ∙ ap (λ (x : ℕ). bit x a) (get_or-set_same ws (key_at n w) touched 0 (omega (arith, key_fits e q)))
        ∙ (made.summarized.handler.touched e q (sym (opaque-body (flow_of s) q) ∙ clear)).member a bound
        ∙ ap (λ (b : Bool). cond b 1 0) (sym (touches-body (flow_of s) q a));
  }
    where
      touched : ℕ
      touched = get_or ws (touched_at n + e) 0

  -- both, of the slice that is written
  pub key-made : {vs : List ℕ} → opaque_handler (flow_of s) ≡ false → (e : ℕ) → (flow_of s).handler ≡ some e
      → vs ≡ set ws (key_at h.statements (set_words h.arrays)) (get_or ws (touched_at h.statements + e) 0)
      → SummariesMade s h vs × KeySet (flow_of s) vs h.statements (set_words h.arrays)
  key-made clear e q is = (
    subst (SummariesMade s h) (sym is) (summaries_stay (get_or ws (touched_at n + e) 0)),
    subst (λ (v : List ℕ). KeySet (flow_of s) v n w) (sym is) (key-noted clear e q),
  )

-- without a handler nothing is asked
pub key-none : {f : Flow} {ws : List ℕ} {n w : ℕ} → f.handler ≡ none → KeySet f ws n w
key-none {f} q = record { member = λ e t a l. absurd (apart (sym t ∙ q)) }
  where
    apart : {e : ℕ} → some e ≡ none → ⊥
    apart t = let z : ◌≡◌ {A = ℕ} 0 1 = cc in omega arith
