-- One statement handled keeps the solver's invariant: the live-out words solve the law's problem, backward, so the law says which names they have afterwards and what has been handed on.
-- Besides, whatever does not wait satisfies its equation, and the names in a live-in are live. Assumes nothing.
use Prim.Native.Nat.{ℕ, suc, ◌^◌, ◌<◌, ◌≤◌, zero-le}
use mathlib.Core.Bool.{Bool, true, false}
use mathlib.Core.List.Memᴰ
use mathlib.Core.List.{List, ◌∷◌}
use mathlib.Core.Logic.{◌⊎◌, inl, inr, ⊎_elim, ◌≢◌}
use mathlib.Core.Path.{◌≡◌, refl, sym, ◌∙◌, ap, subst}
use native.Mathlib.Decide.{ℕ_discrete}
use native.Mathlib.Omega.{arith}
use borrow.Author.Tests.{eq-eqb}
use lib.ListN.{length, get_or, set}
use lib.Seq.{get_or-set_same, get_or-set_other}
use Rattle.words.specs.Clauses.Row.{bit}
use Rattle.words.proofs.Bit.{bits_ext}
use Rattle.flow.specs.Flow.{Flow, statement}
use Rattle.flow.specs.Format.{flow_of}
use Rattle.theory.specs.Lists as lists
use Rattle.theory.specs.Lists.{In}
use Rattle.theory.specs.Body.{successors}
use Rattle.theory.specs.Live.{LiveIn, LiveOut, bit_of}
use Rattle.theory.proofs.Lists.{says_one, In-elem, elem-In, elem-not}
use Rattle.statements.specs.Clauses.Ready.{Ready}
use Rattle.statements.proofs.Names.{written-word}
use Rattle.solve.specs.declared.Queue.{Queue}
use Rattle.solve.specs.Clauses.Sets as law
use Rattle.solve.proofs.Sets.{takes_all, handled}
use Rattle.live.specs.Clauses.Predecessors.{Predecessors}
use Rattle.live.specs.Clauses.Spread.{sets, Follows, PushedLive}
use Rattle.live.specs.Clauses.Solving.{backward, transfer, Sound, HandedOn, Solving}
use Rattle.live.proofs.Bits.{transfer-cases, transfer-has}
use Rattle.live.proofs.Walks.{leaves_in, out-comes, comes-out, live-word}

-- a name of a live-in that follows from a live-out is live
pub transfer-sound : (f : Flow) (j a x : ℕ) → a < 2 ^ 64 → (statement f j).written < 2 ^ 64 → (bit a x ≡ 1 → LiveOut f x j) → bit (transfer f j a) x ≡ 1 → LiveIn f x j
transfer-sound f j a x word written sound e = leaves_in (⊎_elim (λ d. inl d) (λ d. inr (d.0, out-comes (sound d.1))) (transfer-cases f j a x word written e))

-- a word whose names are live takes a place
pub sound-set : {f : Flow} {n j : ℕ} (ins : List ℕ) (live : ℕ) → j < length ins → Sound f n ins → ((x : ℕ) → bit live x ≡ 1 → LiveIn f x j) → Sound f n (set ins j live)
sound-set {f} {n} {j} ins live room s sound i x l e = go (ℕ_discrete i j)
  where
    go : Dec (i ≡ j) → LiveIn f x i
    go (yes d) = subst (λ z. LiveIn f x z) (sym d) (sound x (subst (λ z. bit z x ≡ 1) (ap (λ z. get_or (set ins j live) z 0) d ∙ get_or-set_same ins j live 0 room) e))
    go (no d) = s i x l (subst (λ z. bit z x ≡ 1) (get_or-set_other ins j i live 0 d) e)

-- the law holds of the live-out words

pub out-word : {s ws ins outs w : List ℕ} {n : ℕ} → Ready s ws n → Solving (flow_of s) 0 n ins outs w → (i : ℕ) → i < n → get_or outs i 0 < 2 ^ 64
out-word {outs = outs} r h i l = live-word r (get_or outs i 0) (λ x. h.sound_out i x zero-le l)

pub lawful : {s ws ins outs w : List ℕ} {n : ℕ} → Ready s ws n → Solving (flow_of s) 0 n ins outs w → (elements : ℕ) → law.Solving (backward (flow_of s)) n elements (sets outs) (λ k. In k w)
lawful {s} {outs = outs} r h elements = record {
  sound = λ i x l m e. out-comes (h.sound_out i x zero-le l e);
  started = λ i x l m e. absurd e;
  handed_on = λ j l.
      ⊎_elim (λ m. inl m)
      (λ t. inr (λ i x b m e g. t.carried i x zero-le b e (subst (λ z. bit z x ≡ 1) (sym (t.equation zero-le))
      (transfer-has (flow_of s) j (get_or outs j 0) x (out-word r h j l) (written-word r j) g))))
      (h.handed_on j l);
}

module _ {s ws vs us ins outs outs' w v : List ℕ} {n j live : ℕ} {q p : Queue} (r : Ready s ws n) (small : j < n) (room : n ≤ length ins) (rows : Predecessors (flow_of s) vs n)
    (h : Solving (flow_of s) 0 n ins outs (j ∷ w)) (value : live ≡ transfer (flow_of s) j (get_or outs j 0)) (push : PushedLive vs us outs outs' n q p j live)
    (rest : Follows n outs outs' w v) where
  -- the live-in is what leaves the statement, and the row holds the predecessors

  joins : (elements : ℕ) → law.Joins n elements (λ i. In j (successors (flow_of s) i)) (law.Leaves (backward (flow_of s)) (sets outs) j) (sets outs) (sets outs')
  joins elements = record {
    more = (push.joins elements).more;
    gets = λ i x l m e g. (push.joins elements).gets i x l m (l, rows i l j small ∙ ap bit_of (In-elem e)) (subst (λ z. bit z x ≡ 1) (sym value) (transfer-has (flow_of s) j (get_or outs j 0) x (out-word r h j small) (written-word r j) g));
    from = λ i x l m e.
        ⊎_elim (λ d. inl d)
        (λ t. inr (
          elem-In j (successors (flow_of s) i) (sym (says_one (lists.elem j (successors (flow_of s) i))) ∙ eq-eqb _ _ (sym (rows i l j small) ∙ t.0.1)),
          transfer-cases (flow_of s) j (get_or outs j 0) x (out-word r h j small) (written-word r j) (subst (λ z. bit z x ≡ 1) value t.1),
        ))
        ((push.joins elements).from i x l m e);
  }

  follows : (elements : ℕ) → law.Follows n elements (sets outs) (sets outs') (λ k. In k (j ∷ w) × (k ≢ j)) (λ k. In k v)
  follows elements = record {
    stays = λ k l m. ⊎_elim (λ e. absurd (m.1 e)) ((rest.follows elements).stays k l) (Memᴰ.cases_cons m.0);
    grows = (rest.follows elements).grows;
  }

  after : (elements : ℕ) → law.Solving (backward (flow_of s)) n elements (sets outs') (λ k. In k v)
  after elements = handled takes_all (lawful r h elements) small (joins elements) (follows elements)

  out-sound : (i x : ℕ) → i < n → bit (get_or outs' i 0) x ≡ 1 → LiveOut (flow_of s) x i
  out-sound i x l e = comes-out ((after (suc x)).sound i x l (omega arith) e)

  -- a statement that does not wait

  same : (k : ℕ) → k < n → (In k v → ⊥) → get_or outs' k 0 ≡ get_or outs k 0
  same k l out = bits_ext _ _ (λ x. ⊎_elim (λ m. absurd (out m)) (λ e. e x (omega arith)) ((rest.follows (suc x)).grows k l))

  equation : (k : ℕ) → k < n → (In k v → ⊥) → get_or (set ins j live) k 0 ≡ transfer (flow_of s) k (get_or outs' k 0)
  equation k l out = go (ℕ_discrete k j) (h.handed_on k l) ∙ ap (transfer (flow_of s) k) (sym (same k l out))
    where
      go : Dec (k ≡ j) → In k (j ∷ w) ⊎ HandedOn (flow_of s) 0 n ins outs k → get_or (set ins j live) k 0 ≡ transfer (flow_of s) k (get_or outs k 0)
      go (yes d) t = rw d (get_or-set_same ins j live 0 (omega arith) ∙ value)
      go (no d) (inl m) = absurd (out ((follows 0).stays k l (m, d)))
      go (no d) (inr t) = get_or-set_other ins j k live 0 d ∙ t.equation zero-le

  handed_on : (k : ℕ) → k < n → (b : Bool) → lists.elem k v ≡ b → In k v ⊎ HandedOn (flow_of s) 0 n (set ins j live) outs' k
  handed_on k l true e = inl (elem-In k v e)
  handed_on k l false e =
      let equal = equation k l (elem-not k v e) in
      inr (record {
        equation = λ o. equal;
        carried = λ i x o b m c.
            ⊎_elim (λ d. absurd (elem-not k v e d))
            (λ t. t i x b (omega arith) m (transfer-cases (flow_of s) k (get_or outs' k 0) x (live-word r (get_or outs' k 0) (λ y. out-sound k y l)) (written-word r k) (subst (λ z. bit z x ≡ 1) equal c)))
            ((after (suc x)).handed_on k l);
      })

  pub handled_solving : Solving (flow_of s) 0 n (set ins j live) outs' v
  handled_solving = record {
    small = λ k m. ⊎_elim (λ d. h.small k (Memᴰ.tail d)) (λ l. l) (rest.comes k m);
    sound_in = sound-set ins live (omega arith) h.sound_in (λ x e.
        transfer-sound (flow_of s) j (get_or outs j 0) x (out-word r h j small) (written-word r j) (h.sound_out j x zero-le small) (subst (λ z. bit z x ≡ 1) value e));
    sound_out = λ k x o. out-sound k x;
    handed_on = λ k l. handed_on k l (lists.elem k v) refl;
  }
