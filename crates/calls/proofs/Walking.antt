-- One statement more in the row of a body walk, or several, and what one turn of the walk makes of the row and the stack: at its end, with the stack empty, the row is the walk.
-- By the invariant that every statement in the row is on the walk, and that the walk's next statements are in the row too unless it is still on the stack.
use Prim.Native.Nat.{ℕ, suc, ◌+◌, ◌*◌, ◌-◌, ◌/◌, ◌<◌, ◌≤◌}
use mathlib.Core.Bool.{Bool, true, false, cond}
use mathlib.Core.List.Memᴰ
use mathlib.Core.List.{List, [], ◌∷◌, ◌++◌}
use mathlib.Core.Logic.{◌⊎◌, inl, inr, ⊎_elim}
use mathlib.Core.Option.{Option}
use mathlib.Core.Path.{◌≡◌, refl, sym, ap, ◌∙◌, subst, subst₂}
use native.Mathlib.Decide.{dec_lt, ℕ_discrete}
use native.Mathlib.Nat.{le_refl}
use native.Mathlib.Numerals.{add-one}
use native.Mathlib.Omega.{arith}
use borrow.Author.Tests.{eqb-true, eqb-false}
use lib.Dec.{eqb}
use lib.ListN.{length, get_or, set, take, length-set}
use lib.Seq.{take-suc, get_or-set_same, get_or-set_other}
use Rattle.words.specs.Clauses.Row.{has}
use Rattle.words.specs.Clauses.Change.{Inserted, inserted}
use Rattle.words.proofs.Row.{has-lt, has-cong}
use Rattle.words.proofs.Tally.{tally-cong, tally-suc, tally-le}
use Rattle.words.proofs.Inserted.{length_inserted, inserted-other, insert_same, insert_other}
use Rattle.flow.specs.Flow.{Flow}
use Rattle.theory.specs.Lists.{In}
use Rattle.theory.specs.Reach.{Reach}
use Rattle.theory.specs.Body.{kind, successors, continuation_of, is_return, or_else, walk_next, Walks}
use Rattle.theory.proofs.Reach.{reach_below}
use Rattle.statements.specs.Clauses.Layout.{row_at, row_words, matrix_at, queue_at, entered_row_at}
use Rattle.statements.specs.Clauses.Ready.{Keeps}
use Rattle.statements.proofs.WorkArea.{member-word, row_from, row_fits, queue-below, area-fits}
use Rattle.calls.specs.Clauses.Held.{EmptyRow, OnlyRow, Walked}
use Rattle.calls.specs.Clauses.Walking.{met, Stack, Stacked, Entry, Met}

-- Words outside the row and the queue

pub only-refl : (ws : List ℕ) (n e : ℕ) → OnlyRow ws ws n e
only-refl ws n e = record { size = refl; below = λ x l. refl; between = λ x l h. refl; above = λ x l. refl }

pub only-trans : {ws vs us : List ℕ} {n e : ℕ} → OnlyRow ws vs n e → OnlyRow vs us n e → OnlyRow ws us n e
only-trans a b = record {
  size = b.size ∙ a.size;
  below = λ x l. b.below x l ∙ a.below x l;
  between = λ x l h. b.between x l h ∙ a.between x l h;
  above = λ x l. b.above x l ∙ a.above x l;
}

pub only_keeps : {ws vs : List ℕ} {n e : ℕ} → OnlyRow ws vs n e → Keeps (matrix_at n) (entered_row_at n) ws vs
only_keeps {n = n} {e} o = record { size = o.size; below = λ x l. o.below x (omega (arith, row_from n e)); above = o.above }

-- what was written to the row before its walk does not count
pub walked-after : {f : Flow} {ws zs vs : List ℕ} {n e : ℕ} → e < n → Keeps (row_at n e) (row_at n e + row_words n) ws zs → Walked f zs vs n e → Walked f ws vs n e
walked-after {n = n} l k w = record {
  row = w.row;
  only = only-trans (record { size = k.size; below = k.below; between = λ x a b. k.above x a; above = λ x a. k.above x (omega (arith, row_fits n l)) }) w.only;
}

-- Nothing more, and more after more

-- what the row has already
met-kept : {ws : List ℕ} {n e top : ℕ} {l : List ℕ} → ((j : ℕ) → In j l → (j < n) × (has ws (row_at n e) j ≡ 1)) → Met ws ws n e top top l
met-kept {ws} {n} {e} {top} there = record {
  only = only-refl ws n e;
  higher = le_refl top;
  under = λ k l. refl;
  pushed = λ k l g. absurd (omega arith);
  still = λ j l g. g;
  new = λ j l g. inl g;
  low = λ j m. (there j m).0;
  all = λ j m. (there j m).1;
  count = refl;
}

pub met-none : (ws : List ℕ) (n e top : ℕ) → Met ws ws n e top top []
met-none ws n e top = met-kept (λ j m. absurd (Memᴰ.not-nil m))

entry-still : {ws vs : List ℕ} {n e k : ℕ} → get_or vs (queue_at n + k) 0 ≡ get_or ws (queue_at n + k) 0
    → ((j : ℕ) → j < n → has ws (row_at n e) j ≡ 1 → has vs (row_at n e) j ≡ 1) → Entry ws n e k → Entry vs n e k
entry-still {n = n} q h r = record { statement = rw q r.statement; member = rw q (h _ r.statement r.member) }

stacked_on : {ws vs : List ℕ} {n top height i : ℕ} → top ≤ height → ((k : ℕ) → k < top → get_or vs (queue_at n + k) 0 ≡ get_or ws (queue_at n + k) 0)
    → Stacked ws n top i → Stacked vs n height i
stacked_on l u s = record { place = s.place; within = let w = s.within in omega arith; is = u s.place s.within ∙ s.is }

module _ {ws vs us : List ℕ} {n e top mid height : ℕ} {l k : List ℕ} (a : Met ws vs n e top mid l) (b : Met vs us n e mid height k) where
  pub met-trans : Met ws us n e top height (l ++ k)
  met-trans = record {
    only = only-trans a.only b.only;
    higher = let h = a.higher in let g = b.higher in omega arith;
    under = λ x m. let h = a.higher in b.under x (omega arith) ∙ a.under x m;
    pushed = λ x m h. pushed x m h (dec_lt x mid);
    still = λ j m h. b.still j m (a.still j m h);
    new = λ j m h. ⊎_elim (λ p. ⊎_elim inl (λ q. inr (Memᴰ.append_left k q.0, stacked_on b.higher b.under q.1)) (a.new j m p)) (λ p. inr (Memᴰ.append_right l p.0, p.1)) (b.new j m h);
    low = λ j m. ⊎_elim (a.low j) (b.low j) (Memᴰ.append_cases l m);
    all = λ j m. ⊎_elim (λ p. b.still j (a.low j p) (a.all j p)) (b.all j) (Memᴰ.append_cases l m);
    count = let p = a.count in let q = b.count in omega arith;
  }
    where
      pushed : (x : ℕ) → top ≤ x → x < height → Dec (x < mid) → Entry us n e x
      pushed x m h (yes p) = entry-still (b.under x p) b.still (a.pushed x m p)
      pushed x m h (no p) = b.pushed x (omega (arith, p)) h

-- what holds of the area goes on
pub met-stack : {ws vs : List ℕ} {n e top height : ℕ} {l : List ℕ} → Stack ws n e top → Met ws vs n e top height l → Stack vs n e height
met-stack s m = record {
  area = record { few = s.area.few; room = let r = s.area.room in let q = m.only.size in omega arith };
  high = let h = s.high in let q = m.count in omega arith;
}

-- the elements of a list, one after the other
pub met-more : {ws vs us : List ℕ} {n e top mid height k : ℕ} (l : List ℕ) {x : ℕ} → Met ws vs n e top mid (take k l) → Met vs us n e mid height (x ∷ [])
    → k < length l → x ≡ get_or l k 0 → Met ws us n e top height (take (k + 1) l)
met-more {k = k} l a b h q = rw (add-one k, take-suc l k 0, ← q) (met-trans a b)

-- One statement more

module _ {ws : List ℕ} {n e top i : ℕ} (s : Stack ws n e top) (le : e < n) (li : i < n) where
  pub in_row : row_at n e + i / 64 < length ws
  in_row = omega (arith, s.area.room, area-fits (omega arith) s.area.few, row_fits n le, member-word li)

  only-inserted : OnlyRow ws (inserted ws (row_at n e) i) n e
  only-inserted = record {
    size = length_inserted ws (row_at n e) i;
    below = λ x l. inserted-other ws (row_at n e) i x (λ q. omega arith);
    between = λ x l h. inserted-other ws (row_at n e) i x (λ q. omega (arith, member-word li));
    above = λ x l. inserted-other ws (row_at n e) i x (λ q. omega (arith, member-word li, row_fits n le));
  }

  -- i is there, and the others are as they were
  row-still : (j : ℕ) → has ws (row_at n e) j ≡ 1 → has (inserted ws (row_at n e) i) (row_at n e) j ≡ 1
  row-still j h = go (ℕ_discrete j i)
    where
      go : Dec (j ≡ i) → has (inserted ws (row_at n e) i) (row_at n e) j ≡ 1
      go (yes q) = rw q (insert_same ws (row_at n e) i in_row)
      go (no d) = insert_other ws (row_at n e) i j in_row d ∙ h

  pub met-old : has ws (row_at n e) i ≡ 1 → Met ws ws n e top top (i ∷ [])
  met-old h = met-kept (λ j m. rw (Memᴰ.eq_of_singleton m) (li, h))

  -- there is room for i on the stack
  pub not_full : has ws (row_at n e) i ≡ 0 → top < n
  unfolding met
  not_full h =
      omega (
        arith,
        s.high,
        tally-suc (has ws (row_at n e)) (has (inserted ws (row_at n e) i) (row_at n e)) n i li
            (omega (arith, insert_same ws (row_at n e) i in_row))
            (λ j d. insert_other ws (row_at n e) i j in_row d),
        tally-le (has (inserted ws (row_at n e) i) (row_at n e)) n (λ j l. omega (arith, has-lt (inserted ws (row_at n e) i) (row_at n e) j)),
      )

  pub met-new : has ws (row_at n e) i ≡ 0 → Met ws (set (inserted ws (row_at n e) i) (queue_at n + top) i) n e top (top + 1) (i ∷ [])
  unfolding met
  met-new h = record {
    only = only-trans only-inserted pushed-only;
    higher = omega arith;
    under = λ k l. get_or-set_other us (queue_at n + top) (queue_at n + k) i 0 (λ q. omega arith)
        ∙ inserted-other ws (row_at n e) i (queue_at n + k) (λ q. omega (arith, member-word li, row_fits n le));
    pushed = λ k l g. let same : k ≡ top = omega arith in rw same top_entry;
    still = λ j l g. row_same j l ∙ row-still j g;
    new = λ j l g. go j l g (ℕ_discrete j i);
    low = λ j m. rw (Memᴰ.eq_of_singleton m) li;
    all = λ j m. rw (Memᴰ.eq_of_singleton m) (row_same i li ∙ insert_same ws (row_at n e) i in_row);
    count = omega (
      arith,
      tally-cong (has vs (row_at n e)) (has us (row_at n e)) n row_same,
      tally-suc (has ws (row_at n e)) (has us (row_at n e)) n i li (omega (arith, insert_same ws (row_at n e) i in_row)) (λ j d. insert_other ws (row_at n e) i j in_row d),
    );
  }
    where
      us : List ℕ
      us = inserted ws (row_at n e) i

      vs : List ℕ
      vs = set us (queue_at n + top) i

      low : top < n
      low = not_full h

      in_queue : queue_at n + top < length us
      in_queue = omega (arith, s.area.room, area-fits (omega arith) s.area.few, length_inserted ws (row_at n e) i, low)

      pushed-only : OnlyRow us vs n e
      pushed-only = record {
        size = length-set us (queue_at n + top) i;
        below = λ x l. get_or-set_other us (queue_at n + top) x i 0 (λ q. omega (arith, row_fits n le));
        between = λ x l g. get_or-set_other us (queue_at n + top) x i 0 (λ q. omega arith);
        above = λ x l. get_or-set_other us (queue_at n + top) x i 0 (λ q. omega (arith, low));
      }

      row_same : (j : ℕ) → j < n → has vs (row_at n e) j ≡ has us (row_at n e) j
      row_same j l = has-cong vs us (row_at n e) j (get_or-set_other us (queue_at n + top) (row_at n e + j / 64) i 0 (λ q. omega (arith, member-word l, row_fits n le)))

      top_is : get_or vs (queue_at n + top) 0 ≡ i
      top_is = get_or-set_same us (queue_at n + top) i 0 in_queue

      top_entry : Entry vs n e top
      top_entry = record {
        statement = rw top_is li;
        member = rw top_is (row_same i li ∙ insert_same ws (row_at n e) i in_row);
      }

      go : (j : ℕ) → j < n → has vs (row_at n e) j ≡ 1 → Dec (j ≡ i) → (has ws (row_at n e) j ≡ 1) ⊎ (In j (i ∷ []) × Stacked vs n (top + 1) j)
      go j l g (yes q) = inr (Memᴰ.head q, record { place = top; within = omega arith; is = top_is ∙ sym q })
      go j l g (no d) = inl (sym (row_same j l ∙ insert_other ws (row_at n e) i j in_row d) ∙ g)

-- what the code finds in the row, which starts at base, and makes of it
module _ {ws : List ℕ} {n e top i base : ℕ} {r : Bool} (s : Stack ws n e top) (le : e < n) (li : i < n)
    (q : base ≡ row_at n e) (x : r ≡ eqb (has ws base i) 1) where
  found : r ≡ eqb (has ws (row_at n e) i) 1
  found = x ∙ ap (λ b. eqb (has ws b i) 1) q

  pub meet_old : r ≡ true → Met ws ws n e top top (i ∷ [])
  meet_old h = met-old s le li (eqb-true _ 1 (sym found ∙ h))

  is-new : r ≡ false → has ws (row_at n e) i ≡ 0
  is-new h = omega (arith, has-lt ws (row_at n e) i, eqb-false (has ws (row_at n e) i) 1 (sym found ∙ h))

  pub meet_room : r ≡ false → top < n
  meet_room h = not_full s le li (is-new h)

  pub meet_new : {us : List ℕ} {queue : ℕ} {b : Bool} → r ≡ false → Inserted ws us base i b → queue ≡ queue_at n → Met ws (set us (queue + top) i) n e top (top + 1) (i ∷ [])
  meet_new h m p = rw (m.slice ∙ ap (λ b. inserted ws b i) q, p) (met-new s le li (is-new h))

-- The walk

-- the walk of e as it is made, from ws₀ on: what is in the row is on the walk, and what follows it is in the row too, unless it is on the stack
pub record Walking (f : Flow) (ws₀ ws : List ℕ) (n e top : ℕ) : Type 0 where
  pub only : OnlyRow ws₀ ws n e
  pub stack : Stack ws n e top
  pub entries : (k : ℕ) → k < top → Entry ws n e k
  pub first : has ws (row_at n e) e ≡ 1
  pub sound : (i : ℕ) → i < n → has ws (row_at n e) i ≡ 1 → Walks f e i
  pub closed : (i : ℕ) → i < n → has ws (row_at n e) i ≡ 1 → ((j : ℕ) → In j (walk_next f i) → has ws (row_at n e) j ≡ 1) ⊎ Stacked ws n top i

-- what is left to do: a statement that was not met is put on the stack and taken off again
pub left : List ℕ → ℕ → ℕ → ℕ → ℕ
left ws n e top = 2 * (n - met ws n e) + top

pub met-le : (ws : List ℕ) (n e : ℕ) → met ws n e ≤ n
unfolding met
met-le ws n e = tally-le (has ws (row_at n e)) n (λ j l. omega (arith, has-lt ws (row_at n e) j))

pub walking_first : {f : Flow} {ws vs : List ℕ} {n e height : ℕ} → Stack ws n e 0 → e < n → EmptyRow ws n e → Met ws vs n e 0 height (e ∷ []) → Walking f vs vs n e height
walking_first {f} {ws} {vs} {n} {e} {height} s l empty m = record {
  only = only-refl vs n e;
  stack = met-stack s m;
  entries = λ k h. m.pushed k (omega arith) h;
  first = m.all e (Memᴰ.head refl);
  sound = λ i h g. ⊎_elim (λ p. absurd (omega (arith, empty i h))) (λ p. subst (λ x. Reach (walk_next f) e x) (sym (Memᴰ.eq_of_singleton p.0)) Reach.here) (m.new i h g);
  closed = λ i h g. ⊎_elim (λ p. absurd (omega (arith, empty i h))) (λ p. inr p.1) (m.new i h g);
}

-- the stack stands within the area
pub stack-fits : {ws : List ℕ} {n e top : ℕ} → Stack ws n e top → queue_at n + top ≤ 49 * n
stack-fits {ws} {n} {e} s = omega (arith, s.high, met-le ws n e, queue-below s.area.few)

pub stack_less : {ws : List ℕ} {n e top up : ℕ} → up ≡ suc top → Stack ws n e up → Stack ws n e top
stack_less q s = record { area = s.area; high = let h = s.high in omega arith }

-- where the walk goes on

module _ (f : Flow) (i : ℕ) where
  pub met-return : (ws : List ℕ) (n e top : ℕ) → is_return (kind f i) ≡ true → Met ws ws n e top top (walk_next f i)
  unfolding walk_next
  met-return ws n e top h =
      subst (λ b. Met ws ws n e top top (cond b [] (or_else (continuation_of (kind f i)) (successors f i)))) (sym h) (met-none ws n e top)

  pub met_next : {ws vs : List ℕ} {n e top height : ℕ} {o : Option ℕ} → is_return (kind f i) ≡ false → continuation_of (kind f i) ≡ o
      → Met ws vs n e top height (or_else o (successors f i)) → Met ws vs n e top height (walk_next f i)
  unfolding walk_next
  met_next {ws} {vs} {n} {e} {top} {height} h q m =
      subst₂ (λ b o. Met ws vs n e top height (cond b [] (or_else o (successors f i)))) (sym h) (sym q) m

-- what the row holds with what follows it is the walk
row-complete : (f : Flow) (ws : List ℕ) {n e i : ℕ} → e < n → ((i j : ℕ) → In j (walk_next f i) → j < n)
    → ((i j : ℕ) → i < n → has ws (row_at n e) i ≡ 1 → In j (walk_next f i) → has ws (row_at n e) j ≡ 1) → has ws (row_at n e) e ≡ 1
    → Walks f e i → has ws (row_at n e) i ≡ 1
row-complete f ws l below closed h Reach.here = h
row-complete f ws l below closed h (Reach.on {i = i} {j = j} r k) = closed i j (reach_below below l r) (row-complete f ws l below closed h r) k

-- a turn takes the top off the stack and goes on from it
module _ {f : Flow} {n e : ℕ} (le : e < n) (below : (i j : ℕ) → In j (walk_next f i) → j < n) where
  module _ {ws₀ ws vs : List ℕ} {top height : ℕ} (w : Walking f ws₀ ws n e (suc top)) (m : Met ws vs n e top height (walk_next f (get_or ws (queue_at n + top) 0))) where
    next-at : Walking f ws₀ vs n e height
    next-at = record {
      only = only-trans w.only m.only;
      stack = met-stack (stack_less refl w.stack) m;
      entries = λ k h. entries k h (dec_lt k top);
      first = m.still e le w.first;
      sound = λ i h g. ⊎_elim (w.sound i h) (λ p. Reach.on (w.sound _ at_top.statement at_top.member) p.0) (m.new i h g);
      closed = λ i h g. ⊎_elim (λ p. goes_on i (w.closed i h p)) (λ p. inr p.1) (m.new i h g);
    }
      where
        at_top : Entry ws n e top
        at_top = w.entries top (omega arith)

        entries : (k : ℕ) → k < height → Dec (k < top) → Entry vs n e k
        entries k h (yes p) = entry-still (m.under k p) m.still (w.entries k (omega arith))
        entries k h (no p) = m.pushed k (omega (arith, p)) h

        -- i is still on the stack, or it was the top and what follows it is in the row now
        place : (i : ℕ) (s : Stacked ws n (suc top) i) → Dec (s.place < top) → ((j : ℕ) → In j (walk_next f i) → has vs (row_at n e) j ≡ 1) ⊎ Stacked vs n height i
        place i s (yes p) = inr (stacked_on {ws = ws} m.higher m.under (record { place = s.place; within = p; is = s.is }))
        place i s (no p) =
            let same : s.place ≡ top = let q = s.within in omega (arith, p) in
            inl (λ j q. m.all j (subst (λ x. In j (walk_next f x)) (sym s.is ∙ ap (λ x. get_or ws (queue_at n + x) 0) same) q))

        goes_on : (i : ℕ) → ((j : ℕ) → In j (walk_next f i) → has ws (row_at n e) j ≡ 1) ⊎ Stacked ws n (suc top) i
            → ((j : ℕ) → In j (walk_next f i) → has vs (row_at n e) j ≡ 1) ⊎ Stacked vs n height i
        goes_on i (inl q) = inl (λ j k. m.still j (below i j k) (q j k))
        goes_on i (inr s) = place i s (dec_lt s.place top)

    left_at : left vs n e height < left ws n e (suc top)
    unfolding left
    left_at = let q = m.count in let h = m.higher in omega (arith, met-le vs n e, met-le ws n e)

  -- the same of the height up, which is one more
  module _ {ws₀ ws vs : List ℕ} {up top height i : ℕ} (q : up ≡ suc top) (is : i ≡ get_or ws (queue_at n + top) 0) (w : Walking f ws₀ ws n e up)
      (m : Met ws vs n e top height (walk_next f i)) where
    at_suc : Walking f ws₀ ws n e (suc top)
    at_suc = subst (Walking f ws₀ ws n e) q w

    at_top : Met ws vs n e top height (walk_next f (get_or ws (queue_at n + top) 0))
    at_top = subst (λ x. Met ws vs n e top height (walk_next f x)) is m

    pub walking_next : Walking f ws₀ vs n e height
    walking_next = next-at at_suc at_top

    pub left-falls : left vs n e height < left ws n e up
    left-falls = rw q (left_at at_suc at_top)

  pub walking_end : {us ws₀ ws : List ℕ} → OnlyRow us ws₀ n e → Walking f ws₀ ws n e 0 → Walked f us ws n e
  walking_end {ws = ws} o w = record { row = record { sound = w.sound; complete = complete }; only = only-trans o w.only }
    where
      closed : (i j : ℕ) → i < n → has ws (row_at n e) i ≡ 1 → In j (walk_next f i) → has ws (row_at n e) j ≡ 1
      closed i j l h k = ⊎_elim (λ q. q j k) (λ s. absurd (let q = s.within in omega arith)) (w.closed i l h)

      complete : (i : ℕ) → Walks f e i → has ws (row_at n e) i ≡ 1
      complete i r = row-complete f ws le below closed w.first r
