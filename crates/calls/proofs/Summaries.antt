-- The summaries of the handler's body and of all calls: at first nothing is entered, and in the end, with no body open, each state is that of the definitions.
-- How many bodies are unentered never rises, and falls when one is opened: so the summaries come to an end.
use Prim.Native.Nat.{ℕ, ◌+◌, ◌^◌, ◌<◌, ◌≤◌}
use mathlib.Core.Bool.{Bool, true, false, cond}
use mathlib.Core.List.Memᴰ
use mathlib.Core.List.{List, []}
use mathlib.Core.Logic.{◌≢◌}
use mathlib.Core.Option.{Option, none, some, some-injective}
use mathlib.Core.Path.{◌≡◌, refl, sym, ap, ◌∙◌, subst}
use native.Mathlib.Decide.{ℕ_discrete}
use native.Mathlib.Omega.{arith}
use borrow.Author.Tests.{eqb-true, eq-eqb, ne_eqb}
use lib.Dec.{eqb}
use lib.ListN.{get_or}
use Rattle.words.specs.Clauses.Row.{bit, Words}
use Rattle.words.proofs.Bit.{bit-lt, bit_of_zero}
use Rattle.flow.specs.Flow.{Flow, size}
use Rattle.theory.specs.Lists.{In, sum_below}
use Rattle.theory.specs.Body as theory
use Rattle.theory.specs.Body.{kind, continuation_of, entered, if_some, is_return, callees, touches, opaque_call, call_touches}
use Rattle.theory.specs.Sure.{sure}
use Rattle.theory.specs.Clauses.WellFormed.{WellFormed}
use Rattle.theory.proofs.Lists.{clash, sum_below-le, sum_below-lt}
use Rattle.statements.specs.Clauses.Layout.{sure_at, calls_at, call_touched_at, bodies_at, touched_at, matrix_at}
use Rattle.statements.specs.Clauses.Ready.{MembersWord}
use Rattle.calls.specs.Clauses.Held.{unentered, opened, transparent, opaque, WalkRow, NoSummaries, HandlerSummary, Summarized}
use Rattle.sure.specs.Clauses.SureArrays.{SureWords}
use Rattle.calls.specs.Clauses.Summing.{body, call, touched_by, call_touched_by, Within, Holds, BodyState, CallState, Summing, OnwardBut, Onward, Leads, BodySummed, CallSummed, HandlerSummed}
use Rattle.calls.proofs.Summing.{onward-refl, onward-trans, callee_low, handler-low}

-- Options

pub none-some : {o : Option ℕ} {k : ℕ} → o ≡ none → o ≡ some k → ⊥
none-some h q = let z : ◌≡◌ {A = ℕ} 0 1 = cc in omega arith

-- Unentered bodies

unfoldable pub fresh : List ℕ → ℕ → ℕ → ℕ
fresh ws n b = cond (eqb (body ws n b) unentered) 1 0

unfoldable pub unentered_count : List ℕ → ℕ → ℕ
unentered_count ws n = sum_below n (fresh ws n)

fresh-le : (ws vs : List ℕ) (n b : ℕ) → (body vs n b ≡ unentered → body ws n b ≡ unentered) → fresh vs n b ≤ fresh ws n b
unfolding fresh
fresh-le ws vs n b h = go (eqb (body vs n b) unentered) refl
  where
    go : (q : Bool) → eqb (body vs n b) unentered ≡ q → cond q 1 0 ≤ cond (eqb (body ws n b) unentered) 1 0
    go true q = rw (eq-eqb (body ws n b) unentered (h (eqb-true (body vs n b) unentered q))) (omega arith)
    go false q = omega arith

pub unentered-le : {ws vs : List ℕ} {n : ℕ} → Onward ws vs n → unentered_count vs n ≤ unentered_count ws n
unfolding unentered_count
unentered-le {ws} {vs} {n} p = sum_below-le n (fresh vs n) (fresh ws n) (λ b l. fresh-le ws vs n b (p.still_entered b l (λ q. omega arith)))

fresh_less : (ws vs : List ℕ) (n e : ℕ) → body ws n e ≡ unentered → body vs n e ≡ opened → fresh vs n e < fresh ws n e
unfolding fresh
fresh_less ws vs n e was now = rw (ne_eqb (body vs n e) unentered (λ q. omega (arith, now, q)), eq-eqb (body ws n e) unentered was) (omega arith)

-- a body is opened that was unentered
pub unentered-falls : {ws vs : List ℕ} {n e : ℕ} → OnwardBut e ws vs n → e < n → body ws n e ≡ unentered → body vs n e ≡ opened → unentered_count vs n < unentered_count ws n
unfolding unentered_count
unentered-falls {ws} {vs} {n} {e} p l was now =
    sum_below-lt n (fresh vs n) (fresh ws n) e l (λ b m. fresh-le ws vs n b (λ h. entered b m h (ℕ_discrete b e))) (fresh_less ws vs n e was now)
  where
    entered : (b : ℕ) → b < n → body vs n b ≡ unentered → Dec (b ≡ e) → body ws n b ≡ unentered
    entered b m h (yes q) = subst (λ x. body ws n x ≡ unentered) (sym q) was
    entered b m h (no d) = p.still_entered b m d h

-- At first

module _ {ws : List ℕ} {n : ℕ} (z : NoSummaries ws n) where
  nothing-within : (p : ℕ → Bool) (x : ℕ) → calls_at n ≤ x → x < matrix_at n → Within (get_or ws x 0) p
  nothing-within p x l h a m q = absurd (omega (arith, ap (λ w. bit w a) (z.words x l h), bit_of_zero a, q))

  pub fresh-summing : (f : Flow) → Summing f ws n
  fresh-summing f = record {
    bodies = λ b l. BodyState.is_unentered (z.words (bodies_at n + b) (omega arith) (omega arith));
    touched = λ b l. nothing-within (touches f b) (touched_at n + b) (omega arith) (omega arith);
    calls = λ c l. CallState.is_none (z.words (calls_at n + c) (omega arith) (omega arith));
    call_touched = λ c l. nothing-within (call_touches f c) (call_touched_at n + c) (omega arith) (omega arith);
  }

  fresh_shut : (b : ℕ) → b < n → body ws n b ≢ opened
  fresh_shut b l q = omega (arith, z.words (bodies_at n + b) (omega arith) (omega arith), q)

  -- nothing is on the way, and nothing has been since where the same bodies are open
  pub none_open : {vs : List ℕ} → Onward ws vs n → (b : ℕ) → b < n → body vs n b ≢ opened
  none_open p b l q = fresh_shut b l (p.was_open b l (λ z. omega arith) q)

  pub leads_any : {vs : List ℕ} (f : Flow) → Onward ws vs n → (b : ℕ) → Leads f vs n b
  leads_any f p b o l q = absurd (none_open p o l q)

  -- without a handler nothing is to be done
  pub no_handler : {f : Flow} → f.handler ≡ none → HandlerSummed f ws ws n
  no_handler {f} h = record { summing = fresh-summing f; onward = onward-refl ws n n; done = λ e q. absurd (none-some h q) }

pub handler-body : {f : Flow} {ws vs : List ℕ} {n b : ℕ} → f.handler ≡ some b → BodySummed f ws vs n b → HandlerSummed f ws vs n
handler-body {vs = vs} {n} {b} h s = record { summing = s.summing; onward = s.onward; done = λ e q. subst (λ x. body vs n x ≢ unentered) (some-injective b e (sym h ∙ q)) s.done }

-- The handler's body and the calls below c have their summaries

pub record SummedBelow (f : Flow) (ws₀ ws : List ℕ) (n c : ℕ) : Type 0 where
  pub high : c ≤ n
  pub summing : Summing f ws n
  pub onward : Onward ws₀ ws n
  pub done : (d k : ℕ) → d < c → continuation_of (kind f d) ≡ some k → call ws n d ≢ unentered
  pub handler : (e : ℕ) → e < n → f.handler ≡ some e → body ws n e ≢ unentered

pub below-first : {f : Flow} {ws vs : List ℕ} {n : ℕ} → HandlerSummed f ws vs n → SummedBelow f vs vs n 0
below-first {vs = vs} {n} s = record { high = omega arith; summing = s.summing; onward = onward-refl vs n n; done = λ d k l. absurd (omega arith); handler = λ e l. s.done e }

-- what was so since the handler's body has its summary was so from the start
pub below_since : {f : Flow} {ws us vs : List ℕ} {n c : ℕ} → HandlerSummed f ws us n → SummedBelow f us vs n c → SummedBelow f ws vs n c
below_since s p = record { high = p.high; summing = p.summing; onward = onward-trans s.onward p.onward; done = p.done; handler = p.handler }

pub below_next : {f : Flow} {ws₀ ws vs : List ℕ} {n c : ℕ} → SummedBelow f ws₀ ws n c → c < n → CallSummed f ws vs n c → SummedBelow f ws₀ vs n (c + 1)
below_next {f} {ws₀} {ws} {vs} {n} {c} p l s = record {
  high = omega arith;
  summing = s.summing;
  onward = onward-trans p.onward s.onward;
  done = λ d k h q. done d k h q (ℕ_discrete d c);
  handler = λ e h q z. p.handler e h q (s.onward.still_entered e h (λ y. omega arith) z);
}
  where
    done : (d k : ℕ) → d < c + 1 → continuation_of (kind f d) ≡ some k → Dec (d ≡ c) → call vs n d ≢ unentered
    done d k h q (yes e) = subst (λ x. call vs n x ≢ unentered) (sym e) (s.done k (subst (λ x. continuation_of (kind f x) ≡ some k) e q))
    done d k h q (no e) = λ z. let low : d < c = omega (arith, e) in p.done d k low q (s.onward.still_summed d (let b = p.high in omega arith) z)

-- In the end

ordinary : {f : Flow} {ws : List ℕ} {n c : ℕ} → continuation_of (kind f c) ≡ none → CallState f ws n c → call ws n c ≡ unentered
ordinary h (CallState.is_none e) = e
ordinary h (CallState.is_transparent e d o t) = absurd (none-some h d.continues)
ordinary h (CallState.is_opaque e d o) = absurd (none-some h d.continues)

summary_state-is : {f : Flow} {ws : List ℕ} {n c : ℕ} → call ws n c ≢ unentered → CallState f ws n c → call ws n c ≡ cond (opaque_call f c) opaque transparent
summary_state-is d (CallState.is_none e) = absurd (d e)
summary_state-is d (CallState.is_transparent e r o t) = e ∙ ap (λ b. cond b opaque transparent) (sym o)
summary_state-is d (CallState.is_opaque e r o) = e ∙ ap (λ b. cond b opaque transparent) (sym o)

transparent_says : {f : Flow} {ws : List ℕ} {n c : ℕ} → call ws n c ≡ transparent → CallState f ws n c → (opaque_call f c ≡ false) × Holds (call_touched_by ws n c) (call_touches f c)
transparent_says h (CallState.is_none e) = absurd (omega (arith, h, e))
transparent_says h (CallState.is_transparent e r o t) = (o, t)
transparent_says h (CallState.is_opaque e r o) = absurd (omega (arith, h, e))

callee_entered : {f : Flow} {ws : List ℕ} {n c b : ℕ} → call ws n c ≢ unentered → In b (callees f c) → CallState f ws n c → body ws n b ≢ unentered
callee_entered d m (CallState.is_none e) = absurd (d e)
callee_entered {b = b} d m (CallState.is_transparent e r o t) = r.bodies b m
callee_entered {b = b} d m (CallState.is_opaque e r o) = r.bodies b m

-- a body that was entered and is not open has its walk in its row
entered-row : {f : Flow} {ws : List ℕ} {n b : ℕ} → body ws n b ≢ unentered → is_return (kind f b) ≡ false → BodyState f ws n b → WalkRow f ws n b
entered-row d h (BodyState.is_unentered e) = absurd (d e)
entered-row d h (BodyState.is_open e r) = r
entered-row d h (BodyState.is_transparent e o t r) = r h
entered-row d h (BodyState.is_opaque e o r) = r

members : {w : ℕ} {p : ℕ → Bool} → w < 2 ^ 64 → Within w p → Holds w p → MembersWord w p
members {w} {p} l in_p holds = record { word = l; member = λ a m. go a m (p a) refl }
  where
    go : (a : ℕ) → a < 64 → (b : Bool) → p a ≡ b → bit w a ≡ cond b 1 0
    go a m true q = holds a m q
    go a m false q = off (ℕ_discrete (bit w a) 1)
      where
        off : Dec (bit w a ≡ 1) → bit w a ≡ 0
        off (yes e) = clash (p a) (in_p a m e) q
        off (no d) = omega (arith, bit-lt w a, d)

-- a statement with a callee is a call with a continuation
callee_continues : (f : Flow) (c : ℕ) {b : ℕ} → In b (callees f c) → (k : ℕ) × (continuation_of (kind f c) ≡ some k)
unfolding callees
callee_continues f c {b} m = go (continuation_of (kind f c)) refl m
  where
    go : (o : Option ℕ) → continuation_of (kind f c) ≡ o → In b (if_some o (entered f c) []) → (k : ℕ) × (continuation_of (kind f c) ≡ some k)
    go none q m = absurd (Memᴰ.not-nil m)
    go (some k) q m = (k, q)

-- a body that was entered and is not open has its summary
summed_state : {f : Flow} {ws : List ℕ} {n b : ℕ} → body ws n b ≢ unentered → body ws n b ≢ opened → BodyState f ws n b → body ws n b ≡ cond (theory.opaque f b) opaque transparent
summed_state d s (BodyState.is_unentered e) = absurd (d e)
summed_state d s (BodyState.is_open e r) = absurd (s e)
summed_state d s (BodyState.is_transparent e o t r) = e ∙ ap (λ x. cond x opaque transparent) (sym o)
summed_state d s (BodyState.is_opaque e o r) = e ∙ ap (λ x. cond x opaque transparent) (sym o)

summed_touches : {f : Flow} {ws : List ℕ} {n b : ℕ} → body ws n b ≢ unentered → body ws n b ≢ opened → theory.opaque f b ≡ false → BodyState f ws n b → Holds (touched_by ws n b) (touches f b)
summed_touches d s o (BodyState.is_unentered e) = absurd (d e)
summed_touches d s o (BodyState.is_open e r) = absurd (s e)
summed_touches d s o (BodyState.is_transparent e q t r) = t
summed_touches {f} {b = b} d s o (BodyState.is_opaque e q r) = absurd (clash (theory.opaque f b) q o)

handler_summary : {f : Flow} {ws₀ ws : List ℕ} {n c : ℕ} → WellFormed f → size f ≡ n → Words ws → NoSummaries ws₀ n → SummedBelow f ws₀ ws n c → HandlerSummary f ws n
handler_summary {n = n} w sz words fresh p = record {
  body = λ e q. let l = handler-low w sz e q in summed_state (p.handler e l q) (none_open fresh p.onward e l) (p.summing.bodies e l);
  touched = λ e q o. let l = handler-low w sz e q in members (words (touched_at n + e)) (p.summing.touched e l) (summed_touches (p.handler e l q) (none_open fresh p.onward e l) o (p.summing.bodies e l));
}

pub summarized : {f : Flow} {ws₀ ws : List ℕ} {n c : ℕ} → WellFormed f → size f ≡ n → Words ws → NoSummaries ws₀ n → SureWords f ws₀ n → SummedBelow f ws₀ ws n c → n ≤ c → Summarized f ws n
summarized {f} {ws₀} {ws} {n} {c} w sz words fresh sured p end = record {
  calls = record {
    ordinary = λ d l h. ordinary h (p.summing.calls d l);
    call = λ d k l h. summary_state-is (p.done d k (omega arith) h) (p.summing.calls d l);
    touched = λ d l h. members (words (call_touched_at n + d)) (p.summing.call_touched d l) (transparent_says h (p.summing.calls d l)).1;
    sure = λ d l h. subst (λ z. MembersWord z (sure f d)) (sym (p.onward.keeps.below (sure_at n + d) (omega arith))) (sured d l (transparent_says h (p.summing.calls d l)).0);
  };
  handler = handler_summary w sz words fresh p;
  walks = λ d b l m h. let k = callee_continues f d m in entered-row (callee_entered (p.done d k.0 (omega arith) k.1) m (p.summing.calls d l)) h (p.summing.bodies b (callee_low w sz d b m));
}
