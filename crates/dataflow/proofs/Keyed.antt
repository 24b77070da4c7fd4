-- The key's edge: the masks of a number go to n + the handler as they are. They are joined there before the statement's edges are gone through, and that number waits after them. So what is sent is what
-- all edges bring, and no edge of the number to itself changes what the key's edge carries.
use Prim.Native.Nat.{ℕ, ◌*◌, ◌<◌}
use mathlib.Core.Bool.{Bool, true, false, cond}
use mathlib.Core.List.{List, [], ◌∷◌, ◌++◌, append-nil}
use mathlib.Core.Option.{Option, none, some, none-ne-some, some-injective}
use mathlib.Core.Path.{◌≡◌, refl, sym, ap, subst, ◌∙◌}
use native.Mathlib.Omega.{arith}
use lib.Bits.{bit_or, or_self, or_comm, or_zero_r}
use lib.Dec.{eqb, ltb}
use Rattle.flow.specs.declared.Base.TheVariants.{N}
use Rattle.flow.specs.Flow.{Flow, size}
use Rattle.theory.specs.Key.{on_handler}
use Rattle.theory.specs.Doubled.{at, number, key_arcs, arcs_of, doubled}
use Rattle.theory.specs.Queue.{Arc, brings, enqueue, step_all}
use Rattle.theory.specs.Clauses.WellFormed.{WellFormed}
use Rattle.theory.proofs.Term3.{key_arc}
use Rattle.statements.specs.Clauses.Layout.{queue_at}
use Rattle.statements.specs.Clauses.Ready.{Keeps}
use Rattle.statements.proofs.Keeps.{keeps-refl, keeps-trans, keeps_widen}
use Rattle.calls.proofs.Slots.{or_assoc}
use Rattle.solve.specs.declared.Queue.{Queue}
use Rattle.solve.specs.Clauses.Layout.{mask_row_at, settled_in, nodes_end, area_end}
use Rattle.solve.specs.Clauses.Waiting.{Waits, Enqueued}
use Rattle.solve.specs.Clauses.Pushed.{masks_at, Grown}
use Rattle.solve.proofs.Room.{row_from, nodes-within, not-state}
use Rattle.solve.proofs.Masks.{mask-cong, differ_as}
use Rattle.solve.proofs.Waiting.{rest-keeps}
use Rattle.dataflow.specs.Clauses.Sent.{masks_below, SettledSet, Grows, Shared, statement_arcs, Sends, KeyGrown, KeyJoined}
use Rattle.dataflow.proofs.Unions.{differ_self}
use Rattle.dataflow.proofs.Sending.{enqueue-append, grows_then, settled-then}
use Rattle.dataflow.proofs.Sharing.{shared-stays}
use Rattle.dataflow.proofs.Grown.{grown-masks, grown-settled, grown_grows, grown-keeps, grown-shared, grown-waits}
use Rattle.dataflow.proofs.Visiting.{below_or}

brings-append : (t a m : ℕ) (xs ys : List Arc) → brings t a m (xs ++ ys) ≡ bit_or (brings t a m xs) (brings t a m ys)
unfolding brings
brings-append t a m [] ys = refl
brings-append t a m (x ∷ xs) ys =
    ap (bit_or (cond (eqb x.to t) (step_all (x.effects a) m) 0)) (brings-append t a m xs ys)
    ∙ sym (or_assoc (cond (eqb x.to t) (step_all (x.effects a) m) 0) (brings t a m xs) (brings t a m ys))

-- where there is a handler, the key's edge is the last
arcs_are : (f : Flow) (d : ℕ) {e : ℕ} → f.handler ≡ some e → (doubled f).arcs d ≡ statement_arcs f d ++ (key_arc f e ∷ [])
unfolding doubled arcs_of key_arcs
arcs_are f d h = ap (λ (o : Option ℕ). statement_arcs f d ++ on_handler o [] (λ e. key_arc f e ∷ [])) h

pub arcs-unkeyed : (f : Flow) (d : ℕ) → f.handler ≡ none → (doubled f).arcs d ≡ statement_arcs f d
unfolding doubled arcs_of key_arcs
arcs-unkeyed f d h = ap (λ (o : Option ℕ). statement_arcs f d ++ on_handler o [] (λ e. key_arc f e ∷ [])) h ∙ append-nil (statement_arcs f d)

key-brings : (f : Flow) (e t a m : ℕ) → brings t a m (key_arc f e ∷ []) ≡ cond (eqb (number f (at N e)) t) m 0
unfolding brings step_all
key-brings f e t a m = or_zero_r (cond (eqb (number f (at N e)) t) m 0)

module _ (f : Flow) (ws us : List ℕ) (n w d e : ℕ) (sized : size f ≡ n) (low : e < n) (below : d < 2 * n) (grown : Grown ws us n w (mask_row_at n w d) (number f (at N e))) where
  key_below : (number f (at N e)) < 2 * n
  key_below = omega (arith, sized)

  -- what was joined to the masks of t
  key-masks : (t a : ℕ) → t < 2 * n → a < 64 * w → masks_at us n w t a ≡ bit_or (masks_at ws n w t a) (cond (eqb (number f (at N e)) t) (masks_at ws n w d a) 0)
  key-masks = grown-masks ws us n w (mask_row_at n w d) (number f (at N e)) key_below grown

  -- the masks of d are as they were, also where d is that number
  same_source : (a : ℕ) → a < 64 * w → masks_at us n w d a ≡ masks_at ws n w d a
  same_source a m = key-masks d a below m ∙ go (eqb (number f (at N e)) d)
    where
      go : (b : Bool) → bit_or (masks_at ws n w d a) (cond b (masks_at ws n w d a) 0) ≡ masks_at ws n w d a
      go true = or_self (masks_at ws n w d a)
      go false = or_zero_r (masks_at ws n w d a)

  pub key-keeps : Keeps (queue_at n) (nodes_end n w) ws us
  key-keeps = grown-keeps ws us n w (mask_row_at n w d) (number f (at N e)) key_below grown

  pub key-shared : Shared f ws n w → Shared f us n w
  key-shared = grown-shared ws us n w (mask_row_at n w d) (number f (at N e)) key_below grown

  pub key-waits : {queue : Queue} {l : List ℕ} → Waits ws n w queue l → Waits us n w queue l
  key-waits = grown-waits ws us n w (mask_row_at n w d) (number f (at N e)) key_below grown

  module _ (handler : f.handler ≡ some e) {vs os : List ℕ} {queue r q : Queue} (sent : Sends f us vs n w queue d (statement_arcs f d) r) (joined : Enqueued vs os n w r (number f (at N e)) q) where
    last-masks : (t a : ℕ) → a < 64 * w → masks_at os n w t a ≡ masks_at vs n w t a
    last-masks t a m = mask-cong vs os w (mask_row_at n w t) a m (λ x lo hi. joined.kept.above x (let least = row_from n w t in omega arith) (λ c b. not-state n w t x lo (omega arith) c))

    last-settled : SettledSet n w vs os
    last-settled t l =
        joined.kept.settled t l
        ∙ sym (ap (λ (b : Bool). cond b 0 (settled_in vs n w t))
        (differ_as (64 * w) (masks_at os n w t) (masks_at vs n w t) (masks_at vs n w t) (masks_at vs n w t) (λ a m. last-masks t a m) (λ a m. refl) ∙ differ_self (64 * w) (masks_at vs n w t)))

    last-keeps : Keeps (queue_at n) (nodes_end n w) vs os
    last-keeps = rest-keeps joined.kept

    wide : {xs ys : List ℕ} → Keeps (queue_at n) (nodes_end n w) xs ys → Keeps (queue_at n) (area_end n w) xs ys
    wide = keeps_widen (omega arith) (nodes-within n w)

    module _ (m : ℕ → ℕ) (h : (a : ℕ) → a < 64 * w → masks_at ws n w d a ≡ masks_below f.arrays m a) (t a : ℕ) (l : t < 2 * n) (b : a < 64 * w) where
      own : ℕ
      own = masks_below f.arrays (λ c. brings t c (m c) (statement_arcs f d)) a

      -- what the key's edge brings
      key_part : cond (eqb (number f (at N e)) t) (masks_at ws n w d a) 0 ≡ masks_below f.arrays (λ c. cond (eqb (number f (at N e)) t) (m c) 0) a
      unfolding masks_below
      key_part = ap (λ (v : ℕ). cond (eqb (number f (at N e)) t) v 0) (h a b) ∙ go (eqb (number f (at N e)) t) (ltb a f.arrays)
        where
          go : (x y : Bool) → cond x (cond y (m a) 0) 0 ≡ cond y (cond x (m a) 0) 0
          go true y = refl
          go false true = refl
          go false false = refl

      all-brought : bit_or own (masks_below f.arrays (λ c. cond (eqb (number f (at N e)) t) (m c) 0) a) ≡ masks_below f.arrays (λ c. brings t c (m c) ((doubled f).arcs d)) a
      unfolding own masks_below
      all-brought =
          below_or f.arrays (λ c. brings t c (m c) (statement_arcs f d)) (λ c. cond (eqb (number f (at N e)) t) (m c) 0) a
          ∙ ap (λ (v : ℕ). cond (ltb a f.arrays) v 0)
          (ap (bit_or (brings t a (m a) (statement_arcs f d))) (sym (key-brings f e t a (m a)))
          ∙ sym (brings-append t a (m a) (statement_arcs f d) (key_arc f e ∷ []))
          ∙ ap (brings t a (m a)) (sym (arcs_are f d handler)))

      sent-masks : masks_at os n w t a ≡ bit_or (masks_at ws n w t a) (masks_below f.arrays (λ c. brings t c (m c) ((doubled f).arcs d)) a)
      unfolding own
      sent-masks =
          last-masks t a b
          ∙ sent.masks m (λ c z. same_source c z ∙ h c z) t a l b
          ∙ ap (λ (v : ℕ). bit_or v own) (key-masks t a l b)
          ∙ or_assoc (masks_at ws n w t a) (cond (eqb (number f (at N e)) t) (masks_at ws n w d a) 0) own
          ∙ ap (bit_or (masks_at ws n w t a)) (or_comm (cond (eqb (number f (at N e)) t) (masks_at ws n w d a) 0) own ∙ ap (bit_or own) key_part ∙ all-brought)

    last-grows : Grows vs os n w
    last-grows t a l b = ap (bit_or (masks_at os n w t a)) (sym (last-masks t a b)) ∙ or_self (masks_at os n w t a)

    pub sends_keyed : Sends f ws os n w queue d ((doubled f).arcs d) q
    unfolding enqueue
    sends_keyed = record {
      waits = λ l z.
          subst (λ (x : List ℕ). Waits os n w q x)
          (sym (ap (λ (xs : List Arc). enqueue xs l) (arcs_are f d handler) ∙ enqueue-append (statement_arcs f d) (key_arc f e ∷ []) l))
          (joined.waits (enqueue (statement_arcs f d) l) (sent.waits l (key-waits z)));
      masks = sent-masks;
      grows = grows_then ws us os n w first-grows rest-grows;
      settled = settled-then ws us os n w (grown-settled ws us n w (mask_row_at n w d) (number f (at N e)) key_below grown) (settled-then us vs os n w sent.settled last-settled sent.grows last-grows) first-grows rest-grows;
      shared = shared-stays n w last-keeps last-grows sent.shared;
      keeps = keeps-trans (wide key-keeps) (keeps-trans sent.keeps (wide last-keeps));
    }
      where
        first-grows : Grows ws us n w
        first-grows = grown_grows ws us n w (mask_row_at n w d) (number f (at N e)) key_below grown

        rest-grows : Grows us os n w
        rest-grows = grows_then us vs os n w sent.grows last-grows

-- With a handler or without

grown-unkeyed : {ws us : List ℕ} {lo hi : ℕ} → us ≡ ws → Keeps lo hi ws us
grown-unkeyed {ws} {us} {lo} {hi} e = subst (Keeps lo hi ws) (sym e) keeps-refl

module _ (f : Flow) (wf : WellFormed f) (ws us : List ℕ) (n w d : ℕ) (sized : size f ≡ n) (below : d < 2 * n) where
  low : {e : ℕ} → f.handler ≡ some e → e < n
  low {e} h = subst (λ (m : ℕ). e < m) sized (wf.handler e h)

  pub first-keeps : KeyGrown f ws us n w d → Keeps (queue_at n) (area_end n w) ws us
  first-keeps (KeyGrown.unkeyed h e) = grown-unkeyed e
  first-keeps (KeyGrown.keyed {e = e} h g) = keeps_widen (omega arith) (nodes-within n w) (key-keeps f ws us n w d e sized (low h) below g)

  pub first-shared : KeyGrown f ws us n w d → Shared f ws n w → Shared f us n w
  first-shared (KeyGrown.unkeyed h e) s = subst (λ xs. Shared f xs n w) (sym e) s
  first-shared (KeyGrown.keyed {e = e} h g) s = key-shared f ws us n w d e sized (low h) below g s

  pub first-waits : {queue : Queue} {l : List ℕ} → KeyGrown f ws us n w d → Waits ws n w queue l → Waits us n w queue l
  first-waits {queue} {l} (KeyGrown.unkeyed h e) z = subst (λ xs. Waits xs n w queue l) (sym e) z
  first-waits (KeyGrown.keyed {e = e} h g) z = key-waits f ws us n w d e sized (low h) below g z

  -- what is sent is what all edges bring
  pub sends_all : (vs os : List ℕ) {queue r q : Queue} → KeyGrown f ws us n w d → Sends f us vs n w queue d (statement_arcs f d) r → KeyJoined f vs os n w r q → Sends f ws os n w queue d ((doubled f).arcs d) q
  sends_all vs os {queue} {r} {q} (KeyGrown.unkeyed h e) sent (KeyJoined.unkeyed k j z) =
      subst (λ (xs : List Arc). Sends f ws os n w queue d xs q) (sym (arcs-unkeyed f d h))
      (subst (λ (xs : List ℕ). Sends f ws xs n w queue d (statement_arcs f d) q) (sym j)
      (subst (λ (y : Queue). Sends f ws vs n w queue d (statement_arcs f d) y) (sym z)
      (subst (λ (xs : List ℕ). Sends f xs vs n w queue d (statement_arcs f d) r) e sent)))
  sends_all vs os (KeyGrown.unkeyed h e) sent (KeyJoined.keyed {e = c} k j) = absurd (none-ne-some c (sym h ∙ k))
  sends_all vs os (KeyGrown.keyed {e = c} h g) sent (KeyJoined.unkeyed k j z) = absurd (none-ne-some c (sym k ∙ h))
  sends_all vs os {queue} {r} {q} (KeyGrown.keyed {e = c} h g) sent (KeyJoined.keyed {e = b} k j) =
      sends_keyed f ws us n w d c sized (low h) below g h sent
      (subst (λ (x : ℕ). Enqueued vs os n w r (number f (at N x)) q) (some-injective b c (sym k ∙ h)) j)
