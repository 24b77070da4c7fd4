-- What joins the back of the queue: the numbers that waited stay, the targets of the edges are added, and no number stands there twice.
-- By induction on the list of edges. Assumes nothing.
use Prim.Native.Nat.{ℕ, ◌+◌, ◌*◌, ◌≤◌, ◌<◌, zero-le}
use mathlib.Core.Bool.{Bool, true, false, cond}
use mathlib.Core.List.Memᴰ
use mathlib.Core.List.{List, [], ◌∷◌, ◌++◌}
use mathlib.Core.Logic.{◌⊎◌, inl, inr, ⊎_elim}
use mathlib.Core.Path.{◌≡◌, refl, sym, ap}
use native.Mathlib.Omega.{arith}
use borrow.Author.Tests.{eq-eqb, ne_eqb}
use lib.ListN.{length, length-append}
use Rattle.theory.specs.Lists.{In, elem, Distinct, empty, more, sum_below}
use Rattle.theory.specs.Queue.{Arc, join, enqueue}
use Rattle.theory.proofs.Lists.{member-cases, not_so, elem-In, elem-not, sum_below_less, sum_below-le}
use Rattle.theory.proofs.Below.{sum_below_const}

pub join-keeps : (w : List ℕ) (t : ℕ) {x : ℕ} → In x w → In x (join w t)
join-keeps w t {x} m = go (elem t w)
  where
    go : (b : Bool) → In x (cond b w (w ++ (t ∷ [])))
    go true = m
    go false = Memᴰ.append_left (t ∷ []) m

pub join_adds : (w : List ℕ) (t : ℕ) → In t (join w t)
join_adds w t = go (elem t w) refl
  where
    go : (b : Bool) → elem t w ≡ b → In t (cond b w (w ++ (t ∷ [])))
    go true e = elem-In t w e
    go false e = Memᴰ.append_right w (Memᴰ.head refl)

pub join-cases : (w : List ℕ) (t : ℕ) {x : ℕ} → In x (join w t) → In x w ⊎ (x ≡ t)
join-cases w t {x} = go (elem t w)
  where
    go : (b : Bool) → In x (cond b w (w ++ (t ∷ []))) → In x w ⊎ (x ≡ t)
    go true m = inl m
    go false m = ⊎_elim (λ n. inl n) (λ n. inr (Memᴰ.eq_of_singleton n)) (Memᴰ.append_cases w m)

pub join-length : (w : List ℕ) (t : ℕ) → length (join w t) ≤ length w + 1
join-length w t = go (elem t w)
  where
    go : (b : Bool) → length (cond b w (w ++ (t ∷ []))) ≤ length w + 1
    go true = omega arith
    go false = let e : length (w ++ (t ∷ [])) ≡ length w + 1 = length-append w (t ∷ []) in omega arith

append-distinct : (w : List ℕ) (t : ℕ) → Distinct w → (In t w → ⊥) → Distinct (w ++ (t ∷ []))
append-distinct [] t d h = more Memᴰ.not-nil empty
append-distinct (x ∷ xs) t (more f d) h = more fresh (append-distinct xs t d (λ m. h (Memᴰ.tail m)))
  where
    fresh : In x (xs ++ (t ∷ [])) → ⊥
    fresh m = ⊎_elim f (λ n. h (Memᴰ.head (sym (Memᴰ.eq_of_singleton n)))) (Memᴰ.append_cases xs m)

pub join-distinct : (w : List ℕ) (t : ℕ) → Distinct w → Distinct (join w t)
join-distinct w t d = go (elem t w) refl
  where
    go : (b : Bool) → elem t w ≡ b → Distinct (cond b w (w ++ (t ∷ [])))
    go true e = d
    go false e = append-distinct w t d (elem-not t w e)

pub enqueue-keeps : (es : List Arc) (w : List ℕ) {x : ℕ} → In x w → In x (enqueue es w)
unfolding enqueue
enqueue-keeps [] w m = m
enqueue-keeps (e ∷ es) w m = enqueue-keeps es (join w e.to) (join-keeps w e.to m)

pub enqueue_adds : (es : List Arc) (w : List ℕ) {e : Arc} → In e es → In e.to (enqueue es w)
unfolding enqueue
enqueue_adds [] w m = absurd (Memᴰ.not-nil m)
enqueue_adds (x ∷ es) w {e} m =
    member-cases m (λ q. Memᴰ.cast (ap (λ y. y.to) q) (enqueue-keeps es (join w x.to) (join_adds w x.to))) (enqueue_adds es (join w x.to))

pub enqueue-cases : (es : List Arc) (w : List ℕ) {x : ℕ} → In x (enqueue es w) → In x w ⊎ ((e : Arc) × In e es × (e.to ≡ x))
unfolding enqueue
enqueue-cases [] w m = inl m
enqueue-cases (y ∷ es) w {x} m = ⊎_elim first (λ r. inr (r.0, Memᴰ.tail r.1, r.2)) (enqueue-cases es (join w y.to) m)
  where
    first : In x (join w y.to) → In x w ⊎ ((e : Arc) × In e (y ∷ es) × (e.to ≡ x))
    first n = ⊎_elim (λ k. inl k) (λ q. inr (y, Memᴰ.head refl, sym q)) (join-cases w y.to n)

pub enqueue-length : (es : List Arc) (w : List ℕ) → length (enqueue es w) ≤ length w + length es
unfolding enqueue
enqueue-length [] w = omega arith
enqueue-length (e ∷ es) w =
    let h = enqueue-length es (join w e.to) in
    let k = join-length w e.to in
    omega arith

pub enqueue-distinct : (es : List Arc) (w : List ℕ) → Distinct w → Distinct (enqueue es w)
unfolding enqueue
enqueue-distinct [] w d = d
enqueue-distinct (e ∷ es) w d = enqueue-distinct es (join w e.to) (join-distinct w e.to d)

-- numbers below n that stand in a list once are at most n

abbrev mark : List ℕ → ℕ → ℕ
mark l i = cond (elem i l) 1 0

mark-one : (l : List ℕ) (i : ℕ) → mark l i ≤ 1
mark-one l i = go (elem i l)
  where
    go : (b : Bool) → cond b 1 0 ≤ 1
    go true = omega arith
    go false = omega arith

mark_self : (x : ℕ) (l : List ℕ) → (In x l → ⊥) → mark (x ∷ l) x ≡ mark l x + 1
unfolding elem
mark_self x l f = rw (eq-eqb x x refl, not_so (elem x l) (λ e. f (elem-In x l e)))

mark-other : (x : ℕ) (l : List ℕ) (i : ℕ) → (i ≡ x → ⊥) → mark (x ∷ l) i ≡ mark l i
unfolding elem
mark-other x l i n = rw (ne_eqb i x n)

distinct-count : (n : ℕ) (l : List ℕ) → Distinct l → ((x : ℕ) → In x l → x < n) → length l ≤ sum_below n (mark l)
distinct-count n [] d h = zero-le
distinct-count n (x ∷ l) (more f d) h =
    let k : length l ≤ sum_below n (mark l) = distinct-count n l d (λ y m. h y (Memᴰ.tail m)) in
    let e : sum_below n (mark (x ∷ l)) ≡ sum_below n (mark l) + 1 =
    sum_below_less n (mark (x ∷ l)) (mark l) x 1 (h x (Memᴰ.head refl)) (mark-other x l) (mark_self x l f) in
    omega arith

pub distinct-length : (n : ℕ) (l : List ℕ) → Distinct l → ((x : ℕ) → In x l → x < n) → length l ≤ n
distinct-length n l d h =
    let counted : length l ≤ sum_below n (mark l) = distinct-count n l d h in
    let each : sum_below n (mark l) ≤ sum_below n (λ i. 1) = sum_below-le n (mark l) (λ i. 1) (λ i k. mark-one l i) in
    let all : sum_below n (λ i. 1) ≡ n * 1 = sum_below_const n 1 in
    omega arith
