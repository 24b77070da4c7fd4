-- A sweep comes down to statement i: what is said holds of the statements from i on, and whether some live-in word differs is known. One sweep after another, from empty sets:
-- whatever they leave is live. Assumes nothing.
use Prim.Native.Nat.{ℕ, zero, suc, ◌+◌, ◌-◌, ◌<◌, ◌≤◌, zero-le}
use mathlib.Core.Bool.{Bool, true, false, not, ◌||◌, or-true, or-false, true≢false}
use mathlib.Core.List.Memᴰ
use mathlib.Core.List.{List, []}
use mathlib.Core.Path.{◌≡◌, refl, sym, ◌∙◌, ap, ap₂, subst}
use native.Mathlib.Nat.{le_refl, zero-add}
use native.Mathlib.Omega.{arith}
use borrow.Author.Tests.{eq-eqb, eqb-true, eqb-false}
use lib.Dec.{eqb}
use lib.ListN.{length, get_or, set}
use lib.Seq.{get_or-set_same, get_or-set_other, set-get_or}
use Rattle.words.specs.Clauses.Row.{bit}
use Rattle.words.specs.Clauses.Change.{differs, zeroed}
use Rattle.words.proofs.Bit.{bit_of_zero}
use Rattle.words.proofs.Rewritten.{differs_false}
use Rattle.words.proofs.Zeroed.{zeroed_first}
use Rattle.flow.specs.Flow.{Flow}
use Rattle.flow.specs.Format.{flow_of}
use Rattle.theory.proofs.Lists.{clash, or-first, or-second}
use Rattle.statements.specs.Clauses.Layout.{matrix_at}
use Rattle.statements.specs.Clauses.Ready.{Keeps}
use Rattle.statements.proofs.Keeps.{keeps-refl, keeps-trans, keeps_widen, keeps-set, keeps-zeroed, ready-keeps}
use Rattle.solve.specs.Clauses.Layout.{nodes_end}
use Rattle.live.specs.Clauses.Predecessors.{Noted}
use Rattle.live.specs.Clauses.Solving.{Sound, Solving}
use Rattle.live.specs.Clauses.Sweeping.{Settled, Swept}
use Rattle.live.specs.Clauses.LiveNames.{LiveStart}
use Rattle.live.proofs.Sweeping.{solving-none, settled-sound, settled-solving}

-- the words of the worklist stand above the noted places

pub start_keeps : {s ws vs ins ins' outs outs' : List ℕ} {n : ℕ} → LiveStart s ws ins outs n → Keeps (matrix_at n) (nodes_end n 0) ws vs → Keeps 0 n ins ins' → Keeps 0 n outs outs'
    → LiveStart s vs ins' outs' n
start_keeps b k i o = record {
  ready = ready-keeps b.ready k (omega arith);
  some = b.some;
  in_room = omega (arith, b.in_room, i.size);
  out_room = omega (arith, b.out_room, o.size);
}

pub noted-start : {s ws vs ins outs : List ℕ} {n i : ℕ} → LiveStart s ws ins outs n → Noted (flow_of s) ws vs n i → LiveStart s vs ins outs n
noted-start b t = start_keeps b (keeps_widen (le_refl _) (omega arith) t.kept) keeps-refl keeps-refl

pub settled_in : {f : Flow} {n i : ℕ} {ins ins' outs outs' : List ℕ} {r : Bool} → Settled f i ins ins' outs outs' r → i < n → Keeps 0 n ins ins'
settled_in {n = n} {ins = ins} t l = subst (λ z. Keeps 0 n ins z) (sym t.live_in) (keeps-set ins _ _ zero-le l)

pub settled-out : {f : Flow} {n i : ℕ} {ins ins' outs outs' : List ℕ} {r : Bool} → Settled f i ins ins' outs outs' r → i < n → Keeps 0 n outs outs'
settled-out {n = n} {outs = outs} t l = subst (λ z. Keeps 0 n outs z) (sym t.live_out) (keeps-set outs _ _ zero-le l)

-- whether words differ, one store at a time

differs-refl : (ws : List ℕ) (base width : ℕ) → differs ws ws base width ≡ false
unfolding differs
differs-refl ws base zero = refl
differs-refl ws base (suc k) = ap₂ (λ a b. a || not b) (differs-refl ws base k) (eq-eqb (get_or ws (base + k) 0) _ refl)

differs-set : (ws vs : List ℕ) (at v width : ℕ) → at < width → at < length vs → get_or vs at 0 ≡ get_or ws at 0
    → differs ws (set vs at v) 0 width ≡ (differs ws vs 0 width || not (eqb v (get_or vs at 0)))
differs-set ws vs at v width l room e = go (eqb v (get_or vs at 0)) refl
  where
    other : (b : Bool) → differs ws (set vs at v) 0 width ≡ b → eqb v (get_or vs at 0) ≡ false → b ≡ true
    other true c d = refl
    other false c d =
        absurd
        (eqb-false v (get_or vs at 0) d
        (sym (get_or-set_same vs at v 0 room)
        ∙ subst (λ z. get_or (set vs at v) z 0 ≡ get_or ws z 0) (zero-add at) (differs_false ws (set vs at v) 0 width c at l)
        ∙ sym e))

    go : (b : Bool) → eqb v (get_or vs at 0) ≡ b → differs ws (set vs at v) 0 width ≡ (differs ws vs 0 width || not b)
    go true d = ap (λ z. differs ws z 0 width) (ap (set vs at) (eqb-true _ _ d) ∙ set-get_or vs at 0) ∙ sym (or-false (differs ws vs 0 width))
    go false d = other (differs ws (set vs at v) 0 width) refl d ∙ sym (or-true (differs ws vs 0 width))

pub record Sweep (f : Flow) (n : ℕ) (ins₀ ins outs₀ outs : List ℕ) (changed : Bool) (i : ℕ) : Type 0 where
  pub low : i ≤ n
  pub sound : Sound f n ins
  pub solving : changed ≡ false → Solving f i n ins outs []
  pub ahead : (k : ℕ) → k < i → get_or ins k 0 ≡ get_or ins₀ k 0
  pub differ : changed ≡ differs ins₀ ins 0 n
  pub in_area : Keeps 0 n ins₀ ins
  pub out_area : Keeps 0 n outs₀ outs

pub sweep_none : {f : Flow} {n : ℕ} {ins outs : List ℕ} → Sound f n ins → Sweep f n ins ins outs outs false n
sweep_none {f} {n} {ins} sound = record {
  low = le_refl n;
  sound = sound;
  solving = λ e. solving-none sound;
  ahead = λ k l. refl;
  differ = sym (differs-refl ins 0 n);
  in_area = keeps-refl;
  out_area = keeps-refl;
}

pub sweep_more : {s ws ins₀ ins ins' outs₀ outs outs' : List ℕ} {n i : ℕ} {changed r : Bool} → LiveStart s ws ins outs n → Sweep (flow_of s) n ins₀ ins outs₀ outs changed i → 0 < i
    → Settled (flow_of s) (i - 1) ins ins' outs outs' r → Sweep (flow_of s) n ins₀ ins' outs₀ outs' (changed || r) (i - 1)
sweep_more {s} {ws} {ins₀} {ins} {ins'} {n = n} {i = i} {changed = changed} {r = r} b h p t =
    let l : i - 1 < n = omega (arith, h.low) in
    record {
      low = omega arith;
      sound = settled-sound b.ready l b.in_room h.sound t;
      solving = λ e.
          settled-solving b.ready l b.in_room h.sound t b.out_room (omega arith) (h.solving (or-first changed r e))
          (λ k m. absurd (Memᴰ.not-nil m)) (λ k m. m) (λ d. clash r d (or-second changed r e));
      ahead = λ k m. ap (λ z. get_or z k 0) t.live_in ∙ get_or-set_other ins (i - 1) k _ 0 (λ e. omega arith) ∙ h.ahead k (omega arith);
      differ =
          ap₂ ◌||◌ h.differ t.changed
          ∙ sym (ap (λ z. differs ins₀ z 0 n) t.live_in ∙ differs-set ins₀ ins (i - 1) _ n l (omega (arith, b.in_room)) (h.ahead (i - 1) (omega arith)));
      in_area = keeps-trans h.in_area (settled_in t l);
      out_area = keeps-trans h.out_area (settled-out t l);
    }

pub sweep_all : {f : Flow} {n i : ℕ} {ins₀ ins outs₀ outs : List ℕ} {changed : Bool} → Sweep f n ins₀ ins outs₀ outs changed i → i ≤ 0 → Swept f n ins₀ ins outs₀ outs changed
sweep_all {f} {n} {i} {ins₀} {ins} {outs₀} {outs} h l = record {
  sound = h.sound;
  solved = λ e. let z : i ≡ 0 = omega arith in subst (λ z. Solving f z n ins outs []) z (h.solving e);
  in_area = h.in_area;
  out_area = h.out_area;
}

-- one sweep after another

pub swept_refl : {f : Flow} {n : ℕ} {ins outs : List ℕ} → Sound f n ins → Swept f n ins ins outs outs true
swept_refl sound = record { sound = sound; solved = λ e. absurd (true≢false e); in_area = keeps-refl; out_area = keeps-refl }

pub swept_trans : {f : Flow} {n : ℕ} {ins ins' ins'' outs outs' outs'' : List ℕ} {a r b : Bool} → Swept f n ins ins' outs outs' a → Swept f n ins' ins'' outs' outs'' r → r ≡ b
    → Swept f n ins ins'' outs outs'' b
swept_trans s t e = record {
  sound = t.sound;
  solved = λ d. t.solved (e ∙ d);
  in_area = keeps-trans s.in_area t.in_area;
  out_area = keeps-trans s.out_area t.out_area;
}

-- empty sets
pub swept_zero : {f : Flow} {n : ℕ} {ins ins' outs : List ℕ} → n ≤ length ins → ins' ≡ zeroed ins 0 n → Swept f n ins ins' outs outs true
swept_zero {f} {n} {ins} {ins'} room e = record {
  sound = λ i x l d. absurd (let none : bit (get_or ins' i 0) x ≡ 0 = ap (λ z. bit z x) (word i l) ∙ bit_of_zero x in omega arith);
  solved = λ d. absurd (true≢false d);
  in_area = subst (λ z. Keeps 0 n ins z) (sym e) (keeps-zeroed ins 0 n zero-le (omega arith));
  out_area = keeps-refl;
}
  where
    word : (i : ℕ) → i < n → get_or ins' i 0 ≡ 0
    word i l = ap (λ z. get_or z i 0) e ∙ zeroed_first ins n i (omega arith) l
