-- One number handled or settled keeps the worklist's invariant, and where nothing waits the sets are those of the walks: for every graph, in either direction, and for sets of any
-- width. By cases on the number and by induction on the walk. Assumes nothing.
use Prim.Native.Nat.{ℕ, ◌<◌, max}
use mathlib.Core.Logic.{◌⊎◌, inl, inr, ⊎_elim, ◌≢◌}
use mathlib.Core.Path.{◌≡◌, refl, sym, ◌∙◌, subst}
use native.Mathlib.Decide.{ℕ_discrete}
use native.Mathlib.Omega.{arith}
use Rattle.solve.specs.Clauses.Sets.{Problem, TakesAll, taking_all, Comes, Leaves, Due, Full, Solving, Joins, Follows, Settling, Settles, Within}

pub takes_all : {edge starts gives passes : ℕ → ℕ → Type 0} → TakesAll (taking_all edge starts gives passes)
takes_all = record { takes = λ i x. tt; needs = λ i b x q. q }

-- what leaves a number by its set does so by a walk
leaves_comes : {p : Problem} {n elements j x : ℕ} {sets : ℕ → ℕ → ℕ} {waits : ℕ → Type 0} → Solving p n elements sets waits → j < n → x < elements → Leaves p sets j x
    → p.gives j x ⊎ (p.passes j x × Comes p x j)
leaves_comes {j = j} {x = x} s l m (inl g) = inl g
leaves_comes {j = j} {x = x} s l m (inr t) = inr (t.0, s.sound j x l m t.1)

pub comes-on : {p : Problem} {i j x : ℕ} → TakesAll p → p.edge i j → p.gives j x ⊎ (p.passes j x × Comes p x j) → Comes p x i
comes-on {i = i} {x = x} all e (inl g) = Comes.given e (all.takes i x) (λ b q. absurd (all.needs i b x q)) g
comes-on {i = i} {x = x} all e (inr t) = Comes.through e (all.takes i x) (λ b q. absurd (all.needs i b x q)) t.0 t.1

module _ {p : Problem} {n elements j : ℕ} {sets sets' : ℕ → ℕ → ℕ} {waits waits' : ℕ → Type 0} (all : TakesAll p) (s : Solving p n elements sets waits) (small : j < n)
    (push : Joins n elements (λ i. p.edge i j) (Leaves p sets j) sets sets') (rest : Follows n elements sets sets' (λ k. waits k × (k ≢ j)) waits') where
  -- the same set, the same leaves
  leaves_same : (k x : ℕ) → ((y : ℕ) → y < elements → sets' k y ≡ sets k y) → x < elements → Leaves p sets' k x → Leaves p sets k x
  leaves_same k x same m (inl g) = inl g
  leaves_same k x same m (inr t) = inr (t.0, sym (same x m) ∙ t.1)

  abbrev HandsOn : ℕ → Type 0
  HandsOn k = (i x : ℕ) → i < n → x < elements → p.edge i k → Leaves p sets' k x → sets' i x ≡ 1

  -- the number itself, and any other, where its set is as it was

  here : ((x : ℕ) → x < elements → sets' j x ≡ sets j x) → HandsOn j
  here same i x l m e t = push.gets i x l m e (leaves_same j x same m t)

  other : (k : ℕ) → k < n → k ≢ j → ((x : ℕ) → x < elements → sets' k x ≡ sets k x) → waits' k ⊎ HandsOn k
  other k l d same =
      ⊎_elim (λ w. inl (rest.stays k l (w, d))) (λ h. inr (λ i x b m e t. push.more i x b m (h i x b m e (leaves_same k x same m t))))
      (s.handed_on k l)

  hands_on : (k : ℕ) → k < n → Dec (k ≡ j) → waits' k ⊎ ((x : ℕ) → x < elements → sets' k x ≡ sets k x) → waits' k ⊎ HandsOn k
  hands_on k l d (inl w) = inl w
  hands_on k l (yes e) (inr same) = inr (subst HandsOn (sym e) (here (subst (λ z. (x : ℕ) → x < elements → sets' z x ≡ sets z x) e same)))
  hands_on k l (no d) (inr same) = other k l d same

  pub handled : Solving p n elements sets' waits'
  handled = record {
    sound = λ i x l m e. ⊎_elim (s.sound i x l m) (λ t. comes-on all t.0 (leaves_comes s small m t.1)) (push.from i x l m e);
    started = λ i x l m e. push.more i x l m (s.started i x l m e);
    handed_on = λ k l. hands_on k l (ℕ_discrete k j) (rest.grows k l);
  }

-- Nothing waits

-- where all that is due is there, so is all that comes
pub full_complete : {p : Problem} {n elements : ℕ} {sets : ℕ → ℕ → ℕ} → Full p n elements sets → Within p n → {x i : ℕ} → i < n → x < elements → Comes p x i → sets i x ≡ 1
full_complete full in-n {x} {i} l m (Comes.start b) = full i x l m (Due.start b)
full_complete full in-n {x} {i} l m (Comes.given e t needed g) =
    full i x l m (Due.comes e t (λ b q. full_complete full in-n (in-n.needs i b x q) m (needed b q)) (inl g))
full_complete full in-n {x} {i} l m (Comes.through {j = j} e t needed q c) =
    full i x l m (Due.comes e t (λ b q. full_complete full in-n (in-n.needs i b x q) m (needed b q)) (inr (q, full_complete full in-n (in-n.edge i j e) m c)))

module _ {p : Problem} {n elements : ℕ} {sets : ℕ → ℕ → ℕ} {waits : ℕ → Type 0} (all : TakesAll p) (s : Solving p n elements sets waits) (none : (k : ℕ) → k < n → waits k → ⊥)
    (stays : (i j : ℕ) → p.edge i j → j < n) where
  full : Full p n elements sets
  full i x l m (Due.start b) = s.started i x l m b
  full i x l m (Due.comes {j = j} e t needed leaves) =
      ⊎_elim (λ w. absurd (none j (stays i j e) w)) (λ h. h i x l m e leaves) (s.handed_on j (stays i j e))

  pub complete : {i x : ℕ} → i < n → x < elements → Comes p x i → sets i x ≡ 1
  complete = full_complete full (record { edge = stays; needs = λ i b x q. absurd (all.needs i b x q) })

-- One number settled

module _ {p : Problem} {n elements i : ℕ} {sets sets' : ℕ → ℕ → ℕ} {waits waits' : ℕ → Type 0} (in-n : Within p n) (s : Settling p n elements sets waits) (small : i < n)
    (step : Settles p n elements i sets sets' waits waits') (decided : (k : ℕ) → Dec (waits' k)) where
  due_comes : {k x : ℕ} → x < elements → Due p sets k x → Comes p x k
  due_comes m (Due.start b) = Comes.start b
  due_comes {k} {x} m (Due.comes {j = j} e t needed (inl g)) = Comes.given e t (λ b q. s.sound b x (in-n.needs k b x q) m (needed b q)) g
  due_comes {k} {x} m (Due.comes {j = j} e t needed (inr q)) =
      Comes.through e t (λ b q. s.sound b x (in-n.needs k b x q) m (needed b q)) q.0 (s.sound j x (in-n.edge k j e) m q.1)

  -- a set of which it is known that it is as it was
  old : {k x : ℕ} → k < n → x < elements → (k ≡ i → sets' k x ≡ sets k x) → sets' k x ≡ 1 → sets k x ≡ 1
  old {k} {x} l m same e = go (ℕ_discrete k i)
    where
      go : Dec (k ≡ i) → sets k x ≡ 1
      go (yes d) = sym (same d) ∙ e
      go (no d) = sym (step.others k x l m d) ∙ e

  -- of a number that does not wait, nothing is due that was not before
  due_before : {k x : ℕ} → k < n → x < elements → (waits' k → ⊥) → Due p sets' k x → Due p sets k x
  due_before l m idle (Due.start b) = Due.start b
  due_before {k} {x} l m idle (Due.comes {j = j} e t needed leaves) =
      Due.comes e t (λ b q. old (in-n.needs k b x q) m (λ d. unchanged (inr (subst (λ z. p.needs k z x) d q)) b d) (needed b q))
      (⊎_elim (λ g. inl g) (λ q. inr (q.0, old (in-n.edge k j e) m (λ d. unchanged (inl (subst (p.edge k) d e)) j d) q.1)) leaves)
    where
      unchanged : p.edge k i ⊎ p.needs k i x → (b : ℕ) → b ≡ i → sets' b x ≡ sets b x
      unchanged follows b d =
          ⊎_elim (λ (same : (y : ℕ) → y < elements → sets' i y ≡ sets i y). subst (λ z. sets' z x ≡ sets z x) (sym d) (same x m)) (λ wake. absurd (idle (wake k x l follows))) step.wakes

  settled_at : (k : ℕ) → k < n → Dec (waits' k) → waits' k ⊎ ((x : ℕ) → x < elements → Due p sets' k x → sets' k x ≡ 1)
  settled_at k l (yes w) = inl w
  settled_at k l (no idle) = inr (λ x m due. has x m (due_before l m idle due) (ℕ_discrete k i))
    where
      has : (x : ℕ) → x < elements → Due p sets k x → Dec (k ≡ i) → sets' k x ≡ 1
      has x m due (yes d) = subst (λ z. sets' z x ≡ 1) (sym d) (step.gets x m (subst (λ z. Due p sets z x) d due))
      has x m due (no d) = step.others k x l m d ∙ ⊎_elim (λ w. absurd (idle (step.stays k l d w))) (λ h. h x m due) (s.settled k l)

  pub settled-one : Settling p n elements sets' waits'
  settled-one = record { sound = λ k x l m e. sound-at k x l m e (ℕ_discrete k i); settled = λ k l. settled_at k l (decided k) }
    where
      sound-at : (k x : ℕ) → k < n → x < elements → sets' k x ≡ 1 → Dec (k ≡ i) → Comes p x k
      sound-at k x l m e (no d) = s.sound k x l m (sym (step.others k x l m d) ∙ e)
      sound-at k x l m e (yes d) =
          subst (Comes p x) (sym d)
          (⊎_elim (λ b. s.sound i x small m b) (due_comes m) (step.from x m (subst (λ z. sets' z x ≡ 1) d e)))

-- nothing waits
pub settling_full : {p : Problem} {n elements : ℕ} {sets : ℕ → ℕ → ℕ} {waits : ℕ → Type 0} → Settling p n elements sets waits → ((k : ℕ) → k < n → waits k → ⊥) → Full p n elements sets
settling_full s none i x l m due = ⊎_elim (λ w. absurd (none i l w)) (λ h. h x m due) (s.settled i l)

-- Pushes one after another

pub joins-none : {n elements : ℕ} {to sent : ℕ → Type 0} {sets : ℕ → ℕ → ℕ} → ((i : ℕ) → to i → ⊥) → Joins n elements to sent sets sets
joins-none none = record { more = λ i x l m e. e; gets = λ i x l m t. absurd (none i t); from = λ i x l m e. inl e }

-- to one number
pub joins-one : {n elements i : ℕ} {bits : ℕ → ℕ} {sets sets' : ℕ → ℕ → ℕ} → ((k x : ℕ) → sets k x < 2) → ((x : ℕ) → bits x < 2) → ((x : ℕ) → x < elements → sets' i x ≡ max (sets i x) (bits x))
    → ((k x : ℕ) → k ≢ i → x < elements → sets' k x ≡ sets k x) → Joins n elements (λ k. k ≡ i) (λ x. bits x ≡ 1) sets sets'
joins-one {n} {elements} {i} {bits} {sets} {sets'} small few here other = record {
  more = λ k x l m e. more k x m e (ℕ_discrete k i);
  gets = λ k x l m d e. omega (arith, at k x m d, small k x);
  from = λ k x l m e. from k x m e (ℕ_discrete k i) (ℕ_discrete (bits x) 1);
}
  where
    at : (k x : ℕ) → x < elements → k ≡ i → sets' k x ≡ max (sets k x) (bits x)
    at k x m d = rw d (here x m)

    more : (k x : ℕ) → x < elements → sets k x ≡ 1 → Dec (k ≡ i) → sets' k x ≡ 1
    more k x m e (yes d) = omega (arith, at k x m d, few x)
    more k x m e (no d) = other k x d m ∙ e

    from : (k x : ℕ) → x < elements → sets' k x ≡ 1 → Dec (k ≡ i) → Dec (bits x ≡ 1) → (sets k x ≡ 1) ⊎ ((k ≡ i) × (bits x ≡ 1))
    from k x m e (yes d) (yes c) = inr (d, c)
    from k x m e (yes d) (no c) = inl (omega (arith, at k x m d, c, few x, small k x))
    from k x m e (no d) c = inl (sym (other k x d m) ∙ e)

pub joins-then : {n elements : ℕ} {first then to sent : ℕ → Type 0} {a b c : ℕ → ℕ → ℕ} → Joins n elements first sent a b → Joins n elements then sent b c
    → ((i : ℕ) → to i → first i ⊎ then i) → ((i : ℕ) → first i ⊎ then i → to i) → Joins n elements to sent a c
joins-then p q split join = record {
  more = λ i x l m e. q.more i x l m (p.more i x l m e);
  gets = λ i x l m t s. ⊎_elim (λ f. q.more i x l m (p.gets i x l m f s)) (λ f. q.gets i x l m f s) (split i t);
  from = λ i x l m e.
      ⊎_elim (λ d. ⊎_elim (λ b. inl b) (λ t. inr (join i (inl t.0), t.1)) (p.from i x l m d)) (λ t. inr (join i (inr t.0), t.1))
      (q.from i x l m e);
}

pub follows-refl : {n elements : ℕ} {sets : ℕ → ℕ → ℕ} {waits : ℕ → Type 0} → Follows n elements sets sets waits waits
follows-refl = record { stays = λ k l w. w; grows = λ k l. inr (λ x m. refl) }

pub follows-trans : {n elements : ℕ} {a b c : ℕ → ℕ → ℕ} {u v w : ℕ → Type 0} → Follows n elements a b u v → Follows n elements b c v w → Follows n elements a c u w
follows-trans p q = record {
  stays = λ k l m. q.stays k l (p.stays k l m);
  grows = λ k l. ⊎_elim (λ m. inl m) (λ e. ⊎_elim (λ m. inl (q.stays k l m)) (λ d. inr (λ x m. e x m ∙ d x m)) (p.grows k l)) (q.grows k l);
}
