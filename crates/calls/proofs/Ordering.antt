-- The orders of calls noted one after the other: each list stands behind those before it and before the queue, so that what is noted of a call stays while that of a later one is noted.
-- By the words that each step writes, and by induction on the calls.
use Prim.Native.Nat.{ℕ, zero, suc, ◌+◌, ◌*◌, ◌^◌, ◌≤◌, ◌<◌}
use mathlib.Core.Bool.{Bool, true, false, cond, ◌&&◌}
use mathlib.Core.List.{List, [], ◌∷◌}
use mathlib.Core.Logic.{inl, inr, ⊎_elim}
use mathlib.Core.Path.{◌≡◌, refl, sym, ap, subst, ◌∙◌}
use native.Mathlib.Decide.{dec_lt}
use native.Mathlib.Nat.{le_refl}
use native.Mathlib.Numerals.{add-one}
use native.Mathlib.Omega.{arith}
use borrow.Author.Tests.{leb-true, le-leb, lt-leb}
use lib.ListN.{length, get_or, set, length-set, length-append}
use lib.Seq.{get_or-set_same, get_or-set_other}
use Rattle.flow.specs.Flow.{Flow, enters}
use Rattle.theory.specs.Lists.{concat_map, option_list}
use Rattle.theory.specs.Body.{kind, call_lines, entered}
use Rattle.theory.proofs.Lists.{clash, and_both, and-true}
use Rattle.statements.specs.Clauses.Layout.{row_words, touched_at, matrix_at, lists_at, queue_at, entered_row_at, solver_at}
use Rattle.statements.specs.Clauses.Ready.{Keeps}
use Rattle.statements.proofs.WorkArea.{row_from, row-words-le}
use Rattle.calls.specs.Clauses.Orders.{order, several, fits, list_end, list_after, lists_end, ListOf, OrderAt, OrderOf, Listing, OrderNoted, OrdersNoted}
use Rattle.calls.proofs.Listing.{firsts-length, option_length, entries-kept}

-- a call enters no more statements than it has lines
entered_short : (f : Flow) (ls : List ℕ) → length (concat_map (λ l. option_list (enters f l)) ls) ≤ length ls
unfolding concat_map
entered_short f [] = omega arith
entered_short f (l ∷ ls) = omega (arith, option_length (enters f l), entered_short f ls, length-append (option_list (enters f l)) (concat_map (λ k. option_list (enters f k)) ls))

order_short : (f : Flow) (i : ℕ) → length (order f i) ≤ length (call_lines (kind f i))
unfolding entered
order_short f i = omega (arith, firsts-length [] (entered f i), entered_short f (call_lines (kind f i)))

-- Where lists stand

module _ (f : Flow) (n : ℕ) where
  -- one that has room ends before the queue
  pub list-to : (p i : ℕ) → fits f n p i ≡ true → list_end p (length (order f i)) ≤ queue_at n
  list-to p i e = omega (arith, leb-true (list_end p (length (call_lines (kind f i)))) (queue_at n) e, order_short f i)

  after_listed : (p i : ℕ) → several f i ≡ true → fits f n p i ≡ true → list_after f n p i ≡ list_end p (length (order f i))
  after_listed p i s e = ap (λ (t : Bool). cond t (list_end p (length (order f i))) p) (and-true (several f i) (fits f n p i) s e)

  after-from : (p i : ℕ) → p ≤ list_after f n p i
  after-from p i = go (several f i && fits f n p i)
    where
      go : (t : Bool) → p ≤ cond t (list_end p (length (order f i))) p
      go true = omega arith
      go false = le_refl p

  after-to : (p i : ℕ) → p ≤ queue_at n → list_after f n p i ≤ queue_at n
  after-to p i l = go (several f i && fits f n p i) refl
    where
      go : (t : Bool) → (several f i && fits f n p i) ≡ t → cond t (list_end p (length (order f i))) p ≤ queue_at n
      go true e = list-to p i (and_both (several f i) (fits f n p i) e).1
      go false e = l

  pub lists_from : (c : ℕ) → lists_at n ≤ lists_end f n c
  unfolding lists_end
  lists_from zero = le_refl (lists_at n)
  lists_from (suc c) = omega (arith, lists_from c, after-from (lists_end f n c) c)

  pub lists_to : (c : ℕ) → lists_end f n c ≤ queue_at n
  unfolding lists_end
  lists_to zero = omega arith
  lists_to (suc c) = after-to (lists_end f n c) c (lists_to c)

  lists_later : (i c : ℕ) → i ≤ c → lists_end f n i ≤ lists_end f n c
  unfolding lists_end
  lists_later i zero l = let z : i ≡ 0 = omega arith in subst (λ (x : ℕ). lists_end f n x ≤ lists_at n) (sym z) (le_refl (lists_at n))
  lists_later i (suc c) l = go (dec_lt c i) (lists_later i c)
    where
      go : Dec (c < i) → (i ≤ c → lists_end f n i ≤ lists_end f n c) → lists_end f n i ≤ lists_end f n (suc c)
      go (yes m) ih = let last : i ≡ suc c = omega arith in subst (λ (x : ℕ). lists_end f n x ≤ lists_end f n (suc c)) (sym last) (le_refl (lists_end f n (suc c)))
      go (no m) ih = omega (arith, ih (omega (arith, m)), after-from (lists_end f n c) c)

  -- so the list of a call ends before those of the calls behind it
  list-before : (i c : ℕ) → i < c → several f i ≡ true → fits f n (lists_end f n i) i ≡ true → list_end (lists_end f n i) (length (order f i)) ≤ lists_end f n c
  unfolding lists_end
  list-before i c l s e = subst (λ (x : ℕ). x ≤ lists_end f n c) (after_listed (lists_end f n i) i s e) (lists_later (suc i) c (omega arith))

-- One call

module _ (f : Flow) {ws : List ℕ} {n c p : ℕ} where
  pub unasked : several f c ≡ false → OrderNoted f ws ws n c p p
  unasked none = record {
    next = sym (ap (λ (t : Bool). cond (t && fits f n p c) (list_end p (length (order f c))) p) none);
    size = refl;
    kept = λ x d o. refl;
    order_at = λ s. clash (several f c) s none;
  }

  pub roomless : queue_at n < list_end p (length (call_lines (kind f c))) → touched_at n + c < length ws → OrderNoted f ws (set ws (touched_at n + c) 0) n c p p
  roomless full room = record {
    next = sym (go (several f c));
    size = length-set ws (touched_at n + c) 0;
    kept = λ x d o. get_or-set_other ws (touched_at n + c) x 0 0 d;
    order_at = λ s. record {
      word = get_or-set_same ws (touched_at n + c) 0 0 room ∙ sym (ap (λ (t : Bool). cond t (p + 2 ^ 32 * length (order f c)) 0) none-fits);
      entries = λ e. clash (fits f n p c) e none-fits;
    };
  }
    where
      none-fits : fits f n p c ≡ false
      none-fits = lt-leb (list_end p (length (call_lines (kind f c)))) (queue_at n) full

      go : (t : Bool) → cond (t && fits f n p c) (list_end p (length (order f c))) p ≡ p
      go true = ap (λ (b : Bool). cond b (list_end p (length (order f c))) p) none-fits
      go false = refl

  module _ {zs us : List ℕ} {k : ℕ} (low : c < n) (from : lists_at n ≤ p) (is : several f c ≡ true) (fit : list_end p (length (call_lines (kind f c))) ≤ queue_at n) (room : touched_at n + c < length us)
      (empty : Keeps (entered_row_at n) (entered_row_at n + row_words n) ws zs) (l : Listing zs us n p (order f c) k) where
    other : (x : ℕ) → (x ≡ touched_at n + c → ⊥) → get_or (set us (touched_at n + c) (p + 2 ^ 32 * k)) x 0 ≡ get_or us x 0
    other x d = get_or-set_other us (touched_at n + c) x (p + 2 ^ 32 * k) 0 d

    has_room : fits f n p c ≡ true
    has_room = le-leb (list_end p (length (call_lines (kind f c)))) (queue_at n) fit

    pub listed : OrderNoted f ws (set us (touched_at n + c) (p + 2 ^ 32 * k)) n c p (list_end p k)
    listed = record {
      next = ap (list_end p) l.count ∙ sym (after_listed f n p c is has_room);
      size = length-set us (touched_at n + c) (p + 2 ^ 32 * k) ∙ l.kept.size ∙ empty.size;
      kept = λ x d o.
          other x d
          ∙ ⊎_elim (λ b. l.kept.below x b ∙ empty.below x (omega (arith, fit))) (λ b. l.kept.above x b ∙ empty.above x (omega (arith, row-words-le n))) o;
      order_at = λ s. record {
        word = get_or-set_same us (touched_at n + c) (p + 2 ^ 32 * k) 0 room
            ∙ ap (λ (m : ℕ). p + 2 ^ 32 * m) l.count ∙ sym (ap (λ (t : Bool). cond t (p + 2 ^ 32 * length (order f c)) 0) has_room);
        entries = λ e. entries-kept us (set us (touched_at n + c) (p + 2 ^ 32 * k)) (order f c) (λ x b g. other x (λ q. omega (arith, from, row_from n n))) l.entries;
      };
    }

-- One after the other

-- a list stays where its words do; and so an order, where its word stays too

pub list-kept : {f : Flow} {ws vs : List ℕ} {n i p k : ℕ} → ((x : ℕ) → x < queue_at n → get_or vs x 0 ≡ get_or ws x 0) → ListOf f ws n i p k → ListOf f vs n i p k
list-kept {f} {ws} {vs} {i = i} same l = record {
  from = l.from;
  to = l.to;
  count = l.count;
  entries = entries-kept ws vs (order f i) (λ x a b. same x (omega (arith, l.to, l.count))) l.entries;
}

pub order-kept : {f : Flow} {ws vs : List ℕ} {n i p : ℕ} → get_or vs (touched_at n + i) 0 ≡ get_or ws (touched_at n + i) 0
    → (fits f n p i ≡ true → (x : ℕ) → p ≤ x → x < list_end p (length (order f i)) → get_or vs x 0 ≡ get_or ws x 0) → OrderAt f ws n i p → OrderAt f vs n i p
order-kept {f} {ws} {vs} {i = i} word same o = record { word = word ∙ o.word; entries = λ e. entries-kept ws vs (order f i) (same e) (o.entries e) }

pub orders-none : {f : Flow} {ws : List ℕ} {n : ℕ} → OrdersNoted f ws ws n 0
orders-none = record {
  size = refl;
  low = λ x l. refl;
  rows = λ x l m. refl;
  high = λ x l. refl;
  orders = λ i l s. absurd (omega arith);
}

module _ {f : Flow} {ws₀ ws vs : List ℕ} {n c p r : ℕ} (s : OrdersNoted f ws₀ ws n c) (at : p ≡ lists_end f n c) (low : c < n) (o : OrderNoted f ws vs n c p r) where
  -- the lists of the calls before end at p, behind the words of all calls
  begins : lists_at n ≤ p
  begins = omega (arith, at, lists_from f n c)

  above : matrix_at n ≤ p
  above = omega (arith, begins, row_from n n)

  pub next-end : r ≡ lists_end f n (c + 1)
  unfolding lists_end
  next-end = o.next ∙ ap (λ (x : ℕ). list_after f n x c) at ∙ ap (lists_end f n) (sym (add-one c))

  go : (i : ℕ) → i < c + 1 → several f i ≡ true → Dec (i < c) → OrderOf f vs n i
  go i l q (yes m) =
      order-kept (o.kept (touched_at n + i) (λ e. omega arith) (inl (omega (arith, above))))
      (λ e x a b. o.kept x (λ z. omega (arith, lists_from f n i, row_from n n)) (inl (omega (arith, at, list-before f n i c m q e)))) (s.orders i m q)
  go i l q (no d) =
      let last : i ≡ c = omega (arith, d) in
      subst (OrderOf f vs n) (sym last) (subst (OrderAt f vs n c) at (o.order_at (subst (λ (x : ℕ). several f x ≡ true) last q)))

  pub orders-more : OrdersNoted f ws₀ vs n (c + 1)
  orders-more = record {
    size = o.size ∙ s.size;
    low = λ x l. o.kept x (λ q. omega arith) (inl (omega (arith, above))) ∙ s.low x l;
    rows = λ x l m. o.kept x (λ q. omega arith) (inl (omega (arith, begins))) ∙ s.rows x l m;
    high = λ x l. o.kept x (λ q. omega (arith, row_from n n)) (inr l) ∙ s.high x l;
    orders = λ i l q. go i l q (dec_lt i c);
  }

-- all that is written
pub orders_keep : {f : Flow} {ws₀ ws : List ℕ} {n c : ℕ} → OrdersNoted f ws₀ ws n c → Keeps (touched_at n) (solver_at n) ws₀ ws
orders_keep o = record { size = o.size; below = o.low; above = o.high }
