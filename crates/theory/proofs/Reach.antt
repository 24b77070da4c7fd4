-- The closure `reached` lists exactly what a walk reaches, where the next numbers stay below n. Sound: what is seen or to do is reachable. Complete: what is
-- seen is closed up to what is to do, and the fuel lasts, since each number's next list is pushed once. Assumes nothing.
use Prim.Native.Nat.{ℕ, zero, suc, ◌+◌, ◌<◌}
use mathlib.Core.Bool.{Bool, true, false, cond}
use mathlib.Core.List.Memᴰ
use mathlib.Core.List.{List, [], ◌∷◌, ◌++◌}
use mathlib.Core.Logic.{◌⊎◌, inl, inr, ⊎_elim}
use mathlib.Core.Path.{◌≡◌, refl, sym, subst}
use native.Mathlib.Omega.{arith}
use lib.ListN.{length, length-append}
use borrow.Author.Tests.{eq-eqb, ne_eqb}
use Rattle.theory.specs.Lists.{In, elem, sum_below}
use Rattle.theory.specs.Reach.{Reach, closure, closure_fuel, reached}
use Rattle.theory.proofs.Lists.{elem-In, member-cases, sum_below_less}

-- Walks

pub reach_trans : {next : ℕ → List ℕ} {e i j : ℕ} → Reach next e i → Reach next i j → Reach next e j
reach_trans r Reach.here = r
reach_trans r (Reach.on s m) = Reach.on (reach_trans r s) m

pub reach_first : {next : ℕ → List ℕ} {e i j : ℕ} → In i (next e) → Reach next i j → Reach next e j
reach_first m r = reach_trans (Reach.on Reach.here m) r

pub reach_below : {next : ℕ → List ℕ} {n e i : ℕ} → ((i j : ℕ) → In j (next i) → j < n) → e < n → Reach next e i → i < n
reach_below stays l Reach.here = l
reach_below stays l (Reach.on {i = i} {j = j} r m) = stays i j m

-- what goes back a step goes back along a walk
pub reach_back : {next : ℕ → List ℕ} {e i : ℕ} (P : ℕ → Type 0) → ((i j : ℕ) → In j (next i) → P j → P i) → Reach next e i → P i → P e
reach_back P step Reach.here p = p
reach_back P step (Reach.on {i = i} {j = j} r m) p = reach_back P step r (step i j m p)

-- The two cases of the closure

closure-seen : (fuel : ℕ) (next : ℕ → List ℕ) (seen : List ℕ) (x : ℕ) (todo : List ℕ) → elem x seen ≡ true → closure (suc fuel) next seen (x ∷ todo) ≡ closure fuel next seen todo
unfolding closure
closure-seen fuel next seen x todo e = rw (e, closure) refl

closure-new : (fuel : ℕ) (next : ℕ → List ℕ) (seen : List ℕ) (x : ℕ) (todo : List ℕ) → elem x seen ≡ false → closure (suc fuel) next seen (x ∷ todo) ≡ closure fuel next (x ∷ seen) (next x ++ todo)
unfolding closure
closure-new fuel next seen x todo e = rw (e, closure) refl

-- Sound

module _ (next : ℕ → List ℕ) (e : ℕ) where
  closure-sound : (fuel : ℕ) (seen todo : List ℕ) → ((i : ℕ) → In i seen → Reach next e i) → ((i : ℕ) → In i todo → Reach next e i)
      → (i : ℕ) → In i (closure fuel next seen todo) → Reach next e i
  unfolding closure
  closure-sound zero seen todo hs ht i m = hs i m
  closure-sound (suc fuel) seen [] hs ht i m = hs i m
  closure-sound (suc fuel) seen (x ∷ todo) hs ht i m = go (elem x seen) refl (closure-sound fuel)
    where
      go : (b : Bool) → elem x seen ≡ b
          → ((seen' todo' : List ℕ) → ((i : ℕ) → In i seen' → Reach next e i) → ((i : ℕ) → In i todo' → Reach next e i) → (i : ℕ) → In i (closure fuel next seen' todo') → Reach next e i)
          → Reach next e i
      go true q ih = ih seen todo hs (λ j n. ht j (Memᴰ.tail n)) i (subst (λ c. In i c) (closure-seen fuel next seen x todo q) m)
      go false q ih =
          ih (x ∷ seen) (next x ++ todo)
          (λ j n. member-cases n (λ p. ht j (Memᴰ.head p)) (hs j))
          (λ j n. ⊎_elim (λ k. Reach.on (ht x (Memᴰ.head refl)) k) (λ k. ht j (Memᴰ.tail k)) (Memᴰ.append_cases (next x) n))
          i (subst (λ c. In i c) (closure-new fuel next seen x todo q) m)

pub reached-sound : (next : ℕ → List ℕ) (n e : ℕ) {i : ℕ} → In i (reached next n e) → Reach next e i
unfolding reached
reached-sound next n e {i} m =
    closure-sound next e (closure_fuel n next) [] (e ∷ [])
    (λ j k. absurd (Memᴰ.not-nil k))
    (λ j k. subst (λ z. Reach next e z) (sym (Memᴰ.eq_of_singleton k)) Reach.here)
    i m

-- Complete

-- the lengths of the next lists that are still to be pushed
unfoldable unpushed : ℕ → (ℕ → List ℕ) → List ℕ → ℕ
unpushed n next seen = sum_below n (λ i. cond (elem i seen) 0 (length (next i)))

unpushed-new : (n : ℕ) (next : ℕ → List ℕ) (seen : List ℕ) (x : ℕ) → x < n → elem x seen ≡ false → unpushed n next seen ≡ unpushed n next (x ∷ seen) + length (next x)
unfolding unpushed elem
unpushed-new n next seen x l e =
    sum_below_less n (λ i. cond (elem i seen) 0 (length (next i))) (λ i. cond (elem i (x ∷ seen)) 0 (length (next i))) x (length (next x)) l
    (λ i d. rw (ne_eqb i x d) refl)
    (rw (e, eq-eqb x x refl) (omega arith))

-- what a closure gives, from what was seen and what is to do
record Closure (next : ℕ → List ℕ) (seen todo c : List ℕ) : Type 0 where
  keeps : (i : ℕ) → In i seen → In i c
  takes : (i : ℕ) → In i todo → In i c
  closed : ((i j : ℕ) → In i seen → In j (next i) → In j seen ⊎ In j todo) → (i j : ℕ) → In i c → In j (next i) → In j c

module _ (n : ℕ) (next : ℕ → List ℕ) (stays : (i j : ℕ) → In j (next i) → j < n) where
  closure-complete : (fuel : ℕ) (seen todo : List ℕ) → ((i : ℕ) → In i todo → i < n) → length todo + unpushed n next seen < fuel
      → Closure next seen todo (closure fuel next seen todo)
  unfolding closure
  closure-complete zero seen todo ht l = absurd (omega arith)
  closure-complete (suc fuel) seen [] ht l = record {
    keeps = λ i m. m;
    takes = λ i m. absurd (Memᴰ.not-nil m);
    closed = λ h i j m k. ⊎_elim (λ p. p) (λ p. absurd (Memᴰ.not-nil p)) (h i j m k);
  }
  closure-complete (suc fuel) seen (x ∷ todo) ht l = go (elem x seen) refl (closure-complete fuel)
    where
      Closes : List ℕ → List ℕ → Type 0
      Closes seen' todo' = Closure next seen' todo' (closure fuel next seen' todo')

      -- x was seen: it is in the closure because all that was seen is
      again : elem x seen ≡ true → Closes seen todo → Closure next seen (x ∷ todo) (closure fuel next seen todo)
      again q r = record {
        keeps = r.keeps;
        takes = λ i m. member-cases m (λ p. r.keeps i (Memᴰ.cast p (elem-In x seen q))) (r.takes i);
        closed = λ h.
            r.closed (λ i j m k. ⊎_elim inl (λ p. member-cases p (λ p'. inl (Memᴰ.cast p' (elem-In x seen q))) inr) (h i j m k));
      }

      new : Closes (x ∷ seen) (next x ++ todo) → Closure next seen (x ∷ todo) (closure fuel next (x ∷ seen) (next x ++ todo))
      new r = record {
        keeps = λ i m. r.keeps i (Memᴰ.tail m);
        takes = λ i m.
            member-cases m (λ p. r.keeps i (Memᴰ.head p)) (λ p. r.takes i (Memᴰ.append_right (next x) p));
        closed = λ h.
            r.closed (λ i j m k. member-cases m (λ p. inr (Memᴰ.append_left todo (subst (λ z. In j (next z)) p k))) (λ p. ⊎_elim (λ p'. inl (Memᴰ.tail p')) (λ p'. member-cases p' (λ p''. inl (Memᴰ.head p'')) (λ p''. inr (Memᴰ.append_right (next x) p''))) (h i j p k)));
      }

      go : (b : Bool) → elem x seen ≡ b
          → ((seen' todo' : List ℕ) → ((i : ℕ) → In i todo' → i < n) → length todo' + unpushed n next seen' < fuel → Closes seen' todo')
          → Closure next seen (x ∷ todo) (closure (suc fuel) next seen (x ∷ todo))
      go true q ih =
          rw (closure-seen fuel next seen x todo q) (again q (ih seen todo (λ i m. ht i (Memᴰ.tail m)) (omega arith)))
      go false q ih =
          rw (closure-new fuel next seen x todo q)
          (new (ih (x ∷ seen) (next x ++ todo)
          (λ i m. ⊎_elim (stays x i) (λ p. ht i (Memᴰ.tail p)) (Memᴰ.append_cases (next x) m))
          (omega (arith, length-append (next x) todo, unpushed-new n next seen x (ht x (Memᴰ.head refl)) q))))

  reached-closure : (e : ℕ) → e < n → Closure next [] (e ∷ []) (reached next n e)
  unfolding reached closure_fuel unpushed elem
  reached-closure e l =
      closure-complete (closure_fuel n next) [] (e ∷ []) (λ i m. rw (Memᴰ.eq_of_singleton m) l) (omega arith)

  pub reached-complete : {e i : ℕ} → e < n → Reach next e i → In i (reached next n e)
  reached-complete {e} l Reach.here = (reached-closure e l).takes e (Memᴰ.head refl)
  reached-complete {e} l (Reach.on {i = i} {j = j} r m) =
      (reached-closure e l).closed (λ i' j' p. absurd (Memᴰ.not-nil p)) i j (reached-complete l r) m
