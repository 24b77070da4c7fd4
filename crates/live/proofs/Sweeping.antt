-- A settled statement follows from its successors: a name in its sets is live, and whatever is not in the list afterwards has handed its live-in on to the statements that the
-- sweep has passed, since a statement takes what its successors have, and a later change of these puts them in the list. Assumes nothing.
use Prim.Native.Nat.{ℕ, suc, ◌+◌, ◌<◌, ◌≤◌}
use mathlib.Core.Bool.{Bool, true, false, not}
use mathlib.Core.List.Memᴰ
use mathlib.Core.List.{List, []}
use mathlib.Core.Logic.{◌⊎◌, inl, inr, ◌≢◌}
use mathlib.Core.Path.{◌≡◌, refl, sym, ◌∙◌, ap, ap₂, subst}
use native.Mathlib.Decide.{ℕ_discrete}
use native.Mathlib.Omega.{arith}
use borrow.Author.Tests.{eqb-true, not-false}
use lib.Bits.{bit_or}
use lib.Dec.{eqb}
use lib.ListN.{length, get_or, set}
use lib.Seq.{get_or-set_same, get_or-set_other}
use Rattle.words.specs.Clauses.Row.{bit}
use Rattle.words.specs.Clauses.Change.{without}
use Rattle.flow.specs.Flow.{Flow}
use Rattle.flow.specs.Format.{flow_of, successor_count, successor_at, read_at, written_at}
use Rattle.theory.specs.Lists.{In}
use Rattle.theory.specs.Body.{successors}
use Rattle.theory.specs.Queue.{union_below}
use Rattle.theory.specs.Live.{LiveOut}
use Rattle.theory.proofs.Lists.{get_or-In}
use Rattle.statements.specs.Clauses.Ready.{Ready, RecordOf}
use Rattle.statements.proofs.Names.{successor_in, written-word}
use Rattle.live.specs.Clauses.Solving.{transfer, Sound, HandedOn, Solving}
use Rattle.live.specs.Clauses.Sweeping.{gathered, Settled}
use Rattle.live.proofs.Bits.{union_has, has_union, union_cong}
use Rattle.live.proofs.Walks.{live-word}
use Rattle.live.proofs.Solving.{transfer-sound, sound-set}

-- before the last statement is settled, nothing is said of any
pub solving-none : {f : Flow} {n : ℕ} {ins outs : List ℕ} → Sound f n ins → Solving f n n ins outs []
solving-none sound = record {
  small = λ k m. absurd (Memᴰ.not-nil m);
  sound_in = sound;
  sound_out = λ i x o l. absurd (omega arith);
  handed_on = λ j l. inr (record { equation = λ o. absurd (omega arith); carried = λ i x o m. absurd (omega arith) });
}

-- what a statement takes from its successors

place_of : {j : ℕ} {l : List ℕ} → In j l → (m : ℕ) × (m < length l) × (get_or l m 0 ≡ j)
place_of (Memᴰ.head e) = (0, omega arith, sym e)
place_of (Memᴰ.tail m) = let r = place_of m in (suc r.0, omega (arith, r.1), r.2)

gathered-has : (f : Flow) (ins : List ℕ) (i j x : ℕ) → In j (successors f i) → bit (get_or ins j 0) x ≡ 1 → bit (gathered f ins i) x ≡ 1
gathered-has f ins i j x m e =
    let p = place_of m in
    union_has (length (successors f i)) (λ k. get_or ins (get_or (successors f i) k 0) 0) x p.0 p.1 (subst (λ z. bit (get_or ins z 0) x ≡ 1) (sym p.2) e)

-- by the record at p
pub settled_by : {s : List ℕ} {i p after read written left : ℕ} (ins outs : List ℕ) → RecordOf s i p → after ≡ union_below (successor_count s p) (λ k. get_or ins (successor_at s p k) 0)
    → read ≡ read_at s p → written ≡ written_at s p → left ≡ without after written
    → Settled (flow_of s) i ins (set ins i (bit_or read left)) outs (set outs i after) (not (eqb (bit_or read left) (get_or ins i 0)))
settled_by {s} {i} {p} {after} ins outs t u v w e =
    let l = t.successors in
    let out : after ≡ gathered (flow_of s) ins i = u ∙ sym (ap (λ k. union_below k (λ m. get_or ins (get_or (successors (flow_of s) i) m 0) 0)) l.count
    ∙ union_cong (successor_count s p) _ _ (λ m b. ap (λ j. get_or ins j 0) (l.at m 0 (omega (arith, l.count))))) in
    let value = ap₂ bit_or (v ∙ sym t.read) (e ∙ ap₂ without out (w ∙ sym t.written)) in
    record { live_in = ap (set ins i) value; live_out = ap (set outs i) out; changed = ap (λ z. not (eqb z (get_or ins i 0))) value }

module _ {s ws ins ins' outs outs' : List ℕ} {n i : ℕ} {r : Bool} (ready : Ready s ws n) (l : i < n) (room : n ≤ length ins) (sound : Sound (flow_of s) n ins)
    (t : Settled (flow_of s) i ins ins' outs outs' r) where
  gathered-sound : (x : ℕ) → bit (gathered (flow_of s) ins i) x ≡ 1 → LiveOut (flow_of s) x i
  gathered-sound x e =
      let g = has_union (length (successors (flow_of s) i)) (λ k. get_or ins (get_or (successors (flow_of s) i) k 0) 0) x e in
      let m = get_or-In (successors (flow_of s) i) g.0 0 g.1 in
      LiveOut.at_successor m (sound _ x (successor_in ready i _ m) g.2)

  pub settled-sound : Sound (flow_of s) n ins'
  settled-sound = subst (λ z. Sound (flow_of s) n z) (sym t.live_in) (sound-set ins _ (omega arith) sound (λ x.
      transfer-sound (flow_of s) i (gathered (flow_of s) ins i) x (live-word ready (gathered (flow_of s) ins i) gathered-sound) (written-word ready i) (gathered-sound x)))

  module _ {w v : List ℕ} {hi : ℕ} (out_room : n ≤ length outs) (next : hi ≡ i + 1) (h : Solving (flow_of s) hi n ins outs w)
      (small : (k : ℕ) → In k v → k < n) (stays : (k : ℕ) → In k w → In k v) (comes : r ≡ true → In i v) where
    in_here : get_or ins' i 0 ≡ transfer (flow_of s) i (gathered (flow_of s) ins i)
    in_here = ap (λ z. get_or z i 0) t.live_in ∙ get_or-set_same ins i _ 0 (omega arith)

    in_other : (k : ℕ) → k ≢ i → get_or ins' k 0 ≡ get_or ins k 0
    in_other k d = ap (λ z. get_or z k 0) t.live_in ∙ get_or-set_other ins i k _ 0 d

    out-here : get_or outs' i 0 ≡ gathered (flow_of s) ins i
    out-here = ap (λ z. get_or z i 0) t.live_out ∙ get_or-set_same outs i _ 0 (omega arith)

    out-other : (k : ℕ) → k ≢ i → get_or outs' k 0 ≡ get_or outs k 0
    out-other k d = ap (λ z. get_or z k 0) t.live_out ∙ get_or-set_other outs i k _ 0 d

    out-sound : (k x : ℕ) → i ≤ k → k < n → bit (get_or outs' k 0) x ≡ 1 → Dec (k ≡ i) → LiveOut (flow_of s) x k
    out-sound k x o b e (yes d) =
        subst (λ z. LiveOut (flow_of s) x z) (sym d) (gathered-sound x (subst (λ z. bit z x ≡ 1) (ap (λ z. get_or outs' z 0) d ∙ out-here) e))
    out-sound k x o b e (no d) = h.sound_out k x (omega (arith, d)) b (subst (λ z. bit z x ≡ 1) (out-other k d) e)

    -- what did not change has handed its live-in on

    same_here : (b : Bool) → r ≡ b → In i v ⊎ (get_or ins' i 0 ≡ get_or ins i 0)
    same_here true e = inl (comes e)
    same_here false e = inr (in_here ∙ eqb-true _ _ (not-false _ (sym t.changed ∙ e)))

    same : (j : ℕ) → Dec (j ≡ i) → In j v ⊎ (get_or ins' j 0 ≡ get_or ins j 0)
    same j (yes d) = subst (λ z. In z v ⊎ (get_or ins' z 0 ≡ get_or ins z 0)) (sym d) (same_here r refl)
    same j (no d) = inr (in_other j d)

    equation : (j : ℕ) → i ≤ j → HandedOn (flow_of s) hi n ins outs j → Dec (j ≡ i) → get_or ins' j 0 ≡ transfer (flow_of s) j (get_or outs' j 0)
    equation j o g (yes d) =
        subst (λ z. get_or ins' z 0 ≡ transfer (flow_of s) z (get_or outs' z 0)) (sym d) (in_here ∙ ap (transfer (flow_of s) i) (sym out-here))
    equation j o g (no d) = in_other j d ∙ g.equation (omega (arith, d)) ∙ ap (transfer (flow_of s) j) (sym (out-other j d))

    carried : (j k x : ℕ) → i ≤ k → k < n → In j (successors (flow_of s) k) → bit (get_or ins j 0) x ≡ 1 → HandedOn (flow_of s) hi n ins outs j → Dec (k ≡ i)
        → bit (get_or outs' k 0) x ≡ 1
    carried j k x o b m e g (yes d) =
        subst (λ z. bit z x ≡ 1) (sym (ap (λ z. get_or outs' z 0) d ∙ out-here))
        (gathered-has (flow_of s) ins i j x (subst (λ z. In j (successors (flow_of s) z)) d m) e)
    carried j k x o b m e g (no d) = subst (λ z. bit z x ≡ 1) (sym (out-other k d)) (g.carried k x (omega (arith, d)) b m e)

    handed_on : (j : ℕ) → j < n → In j v ⊎ (get_or ins' j 0 ≡ get_or ins j 0) → In j w ⊎ HandedOn (flow_of s) hi n ins outs j → In j v ⊎ HandedOn (flow_of s) i n ins' outs' j
    handed_on j b (inl m) g = inl m
    handed_on j b (inr e) (inl m) = inl (stays j m)
    handed_on j b (inr e) (inr g) = inr (record {
      equation = λ o. equation j o g (ℕ_discrete j i);
      carried = λ k x o c m a. carried j k x o c m (subst (λ z. bit z x ≡ 1) e a) g (ℕ_discrete k i);
    })

    pub settled-solving : Solving (flow_of s) i n ins' outs' v
    settled-solving = record {
      small = small;
      sound_in = settled-sound;
      sound_out = λ k x o b e. out-sound k x o b e (ℕ_discrete k i);
      handed_on = λ j b. handed_on j b (same j (ℕ_discrete j i)) (h.handed_on j b);
    }
