-- The rows of a number's edges: that of the statement's act, and for the edge to the continuation of a call that is not opaque the one with the call's own
-- step. What the edges carry of these rows is what the doubled graph's edges bring of the number's masks.
use Prim.Native.Nat.{ℕ, ◌+◌, ◌*◌, ◌/◌, ◌%◌, ◌<◌}
use mathlib.Core.Bool.{Bool, true, false, cond, not, ◌&&◌}
use mathlib.Core.List.Memᴰ
use mathlib.Core.List.{List, [], ◌∷◌, ◌++◌, map}
use mathlib.Core.Path.{◌≡◌, refl, sym, ap, ap₂, ◌∙◌}
use native.Mathlib.Omega.{arith}
use lib.Bits.{bit_or}
use lib.Dec.{eqb, ltb}
use lib.ListN.{get_or}
use Rattle.words.specs.Clauses.Row as bits
use Rattle.masks.specs.declared.Effect.{Effect}
use Rattle.masks.specs.declared.Effect.TheVariants.{Reference, Touched}
use Rattle.masks.specs.Step.{step_of}
use Rattle.masks.proofs.Laws.{touched-reference}
use Rattle.flow.specs.Flow.{Flow}
use Rattle.flow.specs.Limits.{max_arrays}
use Rattle.theory.specs.Lists.{In}
use Rattle.theory.specs.Body.{call_touches}
use Rattle.theory.specs.Sure.{sure}
use Rattle.theory.specs.Key.{handler_touches}
use Rattle.theory.specs.Doubled.{Edge, number, statement_effects, entering, continuation_effects, own_effects, key_effects, edge_effects}
use Rattle.theory.specs.Queue.{step_all, brings}
use Rattle.theory.proofs.Lists.{says_one}
use Rattle.statements.specs.Clauses.Ready.{MembersWord}
use Rattle.calls.specs.Clauses.Slots.{to_arc}
use Rattle.solve.specs.Clauses.Rows.{mask_at, step_where, member}
use Rattle.dataflow.specs.Clauses.Transfer.{acted, plain_effects}
use Rattle.dataflow.specs.Clauses.Sent.{carried, masks_below}
use Rattle.dataflow.proofs.Unions.{cond-zero}
use Rattle.dataflow.proofs.Acted.{step_all-append, key_step}

-- a set of one word
word-has : (ws : List ℕ) (set a : ℕ) → a < max_arrays → bits.has ws set a ≡ bits.bit (get_or ws set 0) a
unfolding bits.has
word-has ws set a l =
    let word : set + a / 64 ≡ set = omega arith in
    let place : a % 64 ≡ a = omega arith in
    ap₂ (λ (x y : ℕ). bits.bit (get_or ws x 0) y) word place

-- a set of one word, as its members say
pub word-member : (ws : List ℕ) (set : ℕ) (p : ℕ → Bool) (a : ℕ) → a < max_arrays → MembersWord (get_or ws set 0) p → member ws set a ≡ p a
unfolding member
word-member ws set p a l w = ap (λ (y : ℕ). eqb y 1) (word-has ws set a l ∙ w.member a l) ∙ says_one (p a)

-- effects on a row of masks, by others that step a mask alike
acted-below : (count : ℕ) (E F : ℕ → List Effect) (m row : ℕ → ℕ) (a : ℕ) → row a ≡ masks_below count m a → ((v : ℕ) → step_all (E a) v ≡ step_all (F a) v)
    → acted count E row a ≡ masks_below count (λ b. step_all (F b) (m b)) a
unfolding acted masks_below
acted-below count E F m row a is same = at (ltb a count) is
  where
    at : (b : Bool) → row a ≡ cond b (m a) 0 → cond b (step_all (E a) (row a)) (row a) ≡ cond b (step_all (F a) (m a)) 0
    at true q = ap (step_all (E a)) q ∙ same (m a)
    at false q = q

-- on an edge that is not that to a continuation a statement has done no more than its act
own-plain : (f : Flow) (i : ℕ) (x : Edge) (a : ℕ) → x.continues ≡ false → (v : ℕ) → step_all (statement_effects f i a) v ≡ step_all (own_effects f i x a) v
unfolding own_effects step_all
own-plain f i x a e v =
    sym (step_all-append (statement_effects f i a) (cond x.continues (continuation_effects f i x a) []) v
    ∙ ap (λ (c : Bool). step_all (cond c (continuation_effects f i x a) []) (step_all (statement_effects f i a) v)) e)

pub act-row : (f : Flow) (i count : ℕ) (m row : ℕ → ℕ) (x : Edge) (a : ℕ) → row a ≡ masks_below count m a → x.continues ≡ false
    → acted count (statement_effects f i) row a ≡ masks_below count (λ b. step_all (own_effects f i x b) (m b)) a
act-row f i count m row x a is e = acted-below count (statement_effects f i) (own_effects f i x) m row a is (own-plain f i x a e)

pub plain_row : (f : Flow) (i count : ℕ) (m row : ℕ → ℕ) (x : Edge) (a : ℕ) → row a ≡ masks_below count m a → x.continues ≡ false
    → acted count (plain_effects f i) row a ≡ masks_below count (λ b. step_all (edge_effects f i x b) (m b)) a
unfolding edge_effects
plain_row f i count m row x a is e =
    acted-below count (plain_effects f i) (edge_effects f i x) m row a is (λ v.
    step_all-append (statement_effects f i a) (key_effects f a) v
    ∙ ap (step_all (key_effects f a)) (own-plain f i x a e v)
    ∙ sym (step_all-append (own_effects f i x a) (key_effects f a) v))

-- a row with the handler's touched step
pub key_row : (f : Flow) (i count : ℕ) (m row : ℕ → ℕ) (touched : ℕ → Bool) (x : Edge) (a : ℕ) → row a ≡ masks_below count (λ b. step_all (own_effects f i x b) (m b)) a → touched a ≡ handler_touches f a
    → step_where touched Touched row a ≡ masks_below count (λ b. step_all (edge_effects f i x b) (m b)) a
unfolding step_where masks_below edge_effects
key_row f i count m row touched x a is t =
    ap₂ (λ (b : Bool) (v : ℕ). cond b (step_of Touched v) v) t is ∙ at (ltb a count)
  where
    nothing : (b : Bool) → cond b (step_of Touched 0) 0 ≡ 0
    nothing true = refl
    nothing false = refl

    at : (b : Bool) → cond (handler_touches f a) (step_of Touched (cond b (step_all (own_effects f i x a) (m a)) 0)) (cond b (step_all (own_effects f i x a) (m a)) 0)
        ≡ cond b (step_all (own_effects f i x a ++ key_effects f a) (m a)) 0
    at true = key_step f a (step_all (own_effects f i x a) (m a)) ∙ sym (step_all-append (own_effects f i x a) (key_effects f a) (m a))
    at false = nothing (handler_touches f a)

-- the steps one after the other, as the call's own
own-step : (s t : Bool) (m : ℕ) → cond s (step_of Reference (cond t (step_of Touched m) m)) (cond t (step_of Touched m) m) ≡ step_all (cond s (Reference ∷ []) (cond t (Touched ∷ []) [])) m
unfolding step_all
own-step true true m = touched-reference m
own-step true false m = refl
own-step false true m = refl
own-step false false m = refl

-- and with the call's own step
pub back-row : (f : Flow) (i count : ℕ) (m row : ℕ → ℕ) (touched sured : ℕ → Bool) (x : Edge) (a : ℕ) → row a ≡ masks_below count m a → x.continues ≡ true
    → touched a ≡ call_touches f i a → sured a ≡ (sure f i a && not (entering f i x))
    → step_where sured Reference (step_where touched Touched (acted count (statement_effects f i) row)) a ≡ masks_below count (λ b. step_all (own_effects f i x b) (m b)) a
unfolding acted masks_below own_effects continuation_effects step_all step_where
back-row f i count m row touched sured x a is e t s = at (ltb a count) is
  where
    own : ℕ → ℕ
    own v = cond (sured a) (step_of Reference (cond (touched a) (step_of Touched v) v)) (cond (touched a) (step_of Touched v) v)

    nothing : (p q : Bool) → cond p (step_of Reference (cond q (step_of Touched 0) 0)) (cond q (step_of Touched 0) 0) ≡ 0
    nothing true true = refl
    nothing true false = refl
    nothing false true = refl
    nothing false false = refl

    at : (b : Bool) → row a ≡ cond b (m a) 0
        → own (cond b (step_all (statement_effects f i a) (row a)) (row a))
        ≡ cond b (step_all (statement_effects f i a ++ cond x.continues (cond (sure f i a && not (entering f i x)) (Reference ∷ []) (cond (call_touches f i a) (Touched ∷ []) [])) []) (m a)) 0
    at true q =
        ap (λ (v : ℕ). own (step_all (statement_effects f i a) v)) q
        ∙ own-step (sured a) (touched a) (step_all (statement_effects f i a) (m a))
        ∙ ap₂ (λ (p r : Bool). step_all (cond p (Reference ∷ []) (cond r (Touched ∷ []) [])) (step_all (statement_effects f i a) (m a))) s t
        ∙ sym (step_all-append (statement_effects f i a) (cond x.continues (cond (sure f i a && not (entering f i x)) (Reference ∷ []) (cond (call_touches f i a) (Touched ∷ []) [])) []) (m a)
        ∙ ap (λ (c : Bool). step_all (cond c (cond (sure f i a && not (entering f i x)) (Reference ∷ []) (cond (call_touches f i a) (Touched ∷ []) [])) []) (step_all (statement_effects f i a) (m a))) e)
    at false q = ap own q ∙ nothing (sured a) (touched a)

module _ (f : Flow) (ws : List ℕ) (w : ℕ) (from : Bool → ℕ) (i : ℕ) (m : ℕ → ℕ) (t : ℕ) where
  -- what the edges carry is what they bring of the masks
  pub carried-brings : (es : List Edge)
      → ((x : Edge) → In x es → (a : ℕ) → a < 64 * w → mask_at ws w (from x.continues) a ≡ masks_below f.arrays (λ b. step_all (edge_effects f i x b) (m b)) a)
      → (a : ℕ) → a < 64 * w → carried f ws w from es t a ≡ masks_below f.arrays (λ b. brings t b (m b) (map (to_arc f i) es)) a
  unfolding carried brings masks_below
  carried-brings [] h a l = cond-zero (ltb a f.arrays)
  carried-brings (x ∷ xs) h a l =
      ap₂ (λ (p q : ℕ). bit_or (cond (eqb (number f x.to) t) p 0) q) (h x (Memᴰ.head refl) a l) (carried-brings xs (λ y k. h y (Memᴰ.tail k)) a l)
      ∙ split (ltb a f.arrays) (eqb (number f x.to) t)
    where
      split : (b c : Bool) → bit_or (cond c (cond b (step_all (edge_effects f i x a) (m a)) 0) 0) (cond b (brings t a (m a) (map (to_arc f i) xs)) 0)
          ≡ cond b (bit_or (cond c (step_all (edge_effects f i x a) (m a)) 0) (brings t a (m a) (map (to_arc f i) xs))) 0
      split true c = refl
      split false true = refl
      split false false = refl
