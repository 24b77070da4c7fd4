-- The words of sure arrays become others, one after the other; the sets, by which they do, stay. Assumes nothing.
use Prim.Native.Nat.{ℕ, ◌+◌, ◌-◌, ◌*◌, ◌/◌, ◌<◌, ◌≤◌}
use mathlib.Core.Bool.{cond}
use mathlib.Core.List.{List}
use mathlib.Core.Logic.{◌≢◌}
use mathlib.Core.Path.{◌≡◌, refl, sym, ap, ◌∙◌}
use native.Mathlib.Decide.{ℕ_discrete}
use native.Mathlib.Nat.{le_refl}
use native.Mathlib.Omega.{arith}
use lib.Dec.{eqb}
use lib.ListN.{length, get_or, set, length-set}
use lib.Seq.{get_or-set_same, get_or-set_other}
use Rattle.words.specs.Clauses.Row.{has}
use Rattle.words.specs.Clauses.Change.{inserted}
use Rattle.words.proofs.Row.{has-cong}
use Rattle.words.proofs.Inserted.{inserted-other, length_inserted, insert_same, insert_other}
use Rattle.statements.specs.Clauses.Layout.{row_words, sure_at, calls_at, row_at}
use Rattle.statements.proofs.WorkArea.{row_from, member-word, row-words-le}
use Rattle.sure.specs.Clauses.Layout.{set_at, waiting_at, words_end, mirror}
use Rattle.sure.specs.Clauses.Noting.{Waits}
use Rattle.sure.specs.Clauses.SureArrays.{opened, unmissed, WordsBecome, Opened}

pub record Becoming (become : ℕ → ℕ) (ws vs : List ℕ) (n k : ℕ) : Type 0 where
  pub size : length vs ≡ length ws
  pub low : (c : ℕ) → c < k → get_or vs (sure_at n + c) 0 ≡ become (get_or ws (sure_at n + c) 0)
  pub high : (c : ℕ) → k ≤ c → c < n → get_or vs (sure_at n + c) 0 ≡ get_or ws (sure_at n + c) 0
  pub elsewhere : (x : ℕ) → (sure_at n ≤ x → x < calls_at n → ⊥) → (waiting_at n ≤ x → x < words_end n → ⊥) → get_or vs x 0 ≡ get_or ws x 0

pub becoming_none : {become : ℕ → ℕ} {ws : List ℕ} {n : ℕ} → Becoming become ws ws n 0
becoming_none = record { size = refl; low = λ c l. absurd (omega arith); high = λ c l m. refl; elsewhere = λ x a b. refl }

pub becoming_all : {become : ℕ → ℕ} {ws vs : List ℕ} {n : ℕ} → Becoming become ws vs n n → WordsBecome become ws vs n
becoming_all b = record { size = b.size; words = b.low; elsewhere = b.elsewhere }

module _ {become : ℕ → ℕ} {ws vs : List ℕ} {n k : ℕ} (b : Becoming become ws vs n k) where
  -- the words of a set stay
  pub set-stays : (w e : ℕ) → w < n → e < 2 → get_or vs (set_at n w + e) 0 ≡ get_or ws (set_at n w + e) 0
  set-stays w e l m = let low = row_from n n in b.elsewhere (set_at n w + e) (λ p q. omega arith) (λ p q. omega arith)

  pub opened-stays : (w : ℕ) → w ≤ n → opened vs n w ≡ opened ws n w
  opened-stays w l = go (ℕ_discrete w 0)
    where
      go : Dec (w ≡ 0) → opened vs n w ≡ opened ws n w
      go (yes e) = rw e refl
      go (no d) = ap (λ z. cond (eqb w 0) 0 (cond (eqb z 0) 0 w)) (set-stays (w - 1) 1 (omega (arith, d)) (omega arith))

  pub unmissed-stays : (w : ℕ) → w ≤ n → unmissed vs n w ≡ unmissed ws n w
  unmissed-stays w l = go (ℕ_discrete w 0)
    where
      go : Dec (w ≡ 0) → unmissed vs n w ≡ unmissed ws n w
      go (yes e) = rw e refl
      go (no d) =
          let place : set_at n (w - 1) + 0 ≡ set_at n (w - 1) = omega arith in
          ap (λ z. cond (eqb w 0) 0 (18446744073709551615 - z)) (sym (ap (λ z. get_or vs z 0) place) ∙ set-stays (w - 1) 0 (omega (arith, d)) (omega arith) ∙ ap (λ z. get_or ws z 0) place)

  -- the next word, where it becomes what it is, and where it is written
  pub becoming_same : k < n → get_or vs (sure_at n + k) 0 ≡ become (get_or ws (sure_at n + k) 0) → Becoming become ws vs n (k + 1)
  becoming_same l e = record { size = b.size; low = λ c m. low c m (ℕ_discrete c k); high = λ c m. b.high c (omega arith); elsewhere = b.elsewhere }
    where
      low : (c : ℕ) → c < k + 1 → Dec (c ≡ k) → get_or vs (sure_at n + c) 0 ≡ become (get_or ws (sure_at n + c) 0)
      low c m (yes d) = rw d e
      low c m (no d) = b.low c (omega (arith, d))

  pub becoming_set : {at v : ℕ} → at ≡ sure_at n + k → k < n → sure_at n + k < length vs → v ≡ become (get_or ws (sure_at n + k) 0) → Becoming become ws (set vs at v) n (k + 1)
  becoming_set {at} {v} place l room e = record {
    size = length-set vs at v ∙ b.size;
    low = λ c m. low c m (ℕ_discrete c k);
    high = λ c m q. get_or-set_other vs at (sure_at n + c) v 0 (λ d. omega arith) ∙ b.high c (omega arith) q;
    elsewhere = λ x p q. get_or-set_other vs at x v 0 (λ d. p (omega arith) (omega arith)) ∙ b.elsewhere x p q;
  }
    where
      low : (c : ℕ) → c < k + 1 → Dec (c ≡ k) → get_or (set vs at v) (sure_at n + c) 0 ≡ become (get_or ws (sure_at n + c) 0)
      low c m (yes d) = rw (d, place) (get_or-set_same vs (sure_at n + k) v 0 room ∙ e)
      low c m (no d) = get_or-set_other vs at (sure_at n + c) v 0 (λ q. omega (arith, d)) ∙ b.low c (omega (arith, d))

  -- a statement that waits besides
  pub becoming_insert : {row i : ℕ} → k ≤ n → row ≡ waiting_at n → i < n → Becoming become ws (inserted vs row i) n k
  becoming_insert {row} {i} few place l =
      let low = row_from n n in
      let words = row-words-le n in
      let word = member-word l in
      record {
        size = length_inserted vs row i ∙ b.size;
        low = λ c m. inserted-other vs row i (sure_at n + c) (λ d. omega arith) ∙ b.low c m;
        high = λ c m q. inserted-other vs row i (sure_at n + c) (λ d. omega arith) ∙ b.high c m q;
        elsewhere = λ x p q. inserted-other vs row i x (λ d. q (omega arith) (omega arith)) ∙ b.elsewhere x p q;
      }

-- The bodies that are asked no more

pub record Opening (ws vs : List ℕ) (n k : ℕ) : Type 0 where
  pub become : Becoming (opened ws n) ws vs n k
  pub wakes : (c : ℕ) → c < k → get_or vs (sure_at n + c) 0 ≢ get_or ws (sure_at n + c) 0 → Waits vs n c
  pub stays : (c : ℕ) → c < n → Waits ws n c → Waits vs n c

pub opening_none : {ws : List ℕ} {n : ℕ} → Opening ws ws n 0
opening_none = record { become = becoming_none; wakes = λ c l. absurd (omega arith); stays = λ c l w. w }

pub opening_all : {ws vs : List ℕ} {n : ℕ} → Opening ws vs n n → Opened ws vs n
opening_all o = record { become = becoming_all o.become; wakes = o.wakes; stays = o.stays }

module _ {ws vs : List ℕ} {n k : ℕ} (o : Opening ws vs n k) (l : k < n) where
  -- the next word is as it was
  pub opening_same : get_or vs (sure_at n + k) 0 ≡ opened ws n (get_or ws (sure_at n + k) 0) → Opening ws vs n (k + 1)
  opening_same e = record { become = becoming_same o.become l e; wakes = λ c m d. wakes c m d (ℕ_discrete c k); stays = o.stays }
    where
      wakes : (c : ℕ) → c < k + 1 → get_or vs (sure_at n + c) 0 ≢ get_or ws (sure_at n + c) 0 → Dec (c ≡ k) → Waits vs n c
      wakes c m d (yes q) = absurd (d (rw q (o.become.high k (le_refl k) l)))
      wakes c m d (no q) = o.wakes c (omega (arith, q)) d

  -- it is written, and its statement waits
  pub opening_set : {at v row i : ℕ} → at ≡ sure_at n + k → row ≡ waiting_at n → i ≡ mirror n k → words_end n ≤ length ws → v ≡ opened ws n (get_or ws (sure_at n + k) 0)
      → Opening ws (inserted (set vs at v) row i) n (k + 1)
  opening_set {at} {v} {row} {i} place row_is i-is room e = record {
    become = becoming_insert written (omega arith) row_is small;
    wakes = λ c m d. wakes c m d (ℕ_discrete c k);
    stays = λ c m w. waits c (ℕ_discrete (mirror n c) i) m (keeps c m w);
  }
    where
      low : 7 * n ≤ row_at n n
      low = row_from n n

      small : i < n
      small = omega arith

      word : i / 64 < row_words n
      word = member-word small

      written : Becoming (opened ws n) ws (set vs at v) n (k + 1)
      written = becoming_set o.become place l (omega (arith, low, o.become.size)) e

      inside : row + i / 64 < length (set vs at v)
      inside = omega (arith, word, row-words-le n, written.size)

      -- the row of those that wait is not written with the word
      keeps : (c : ℕ) → c < n → Waits ws n c → has (set vs at v) row (mirror n c) ≡ 1
      keeps c m w = rw row_is (has-cong (set vs at v) vs (waiting_at n) (mirror n c) (get_or-set_other vs at (waiting_at n + mirror n c / 64) v 0 (λ q. omega (arith, low))) ∙ o.stays c m w)

      waits : (c : ℕ) → Dec (mirror n c ≡ i) → c < n → has (set vs at v) row (mirror n c) ≡ 1 → Waits (inserted (set vs at v) row i) n c
      waits c (yes q) m w = rw (q, sym row_is) (insert_same (set vs at v) row i inside)
      waits c (no q) m w = rw (sym row_is) (insert_other (set vs at v) row i (mirror n c) inside q ∙ w)

      wakes : (c : ℕ) → c < k + 1 → get_or (inserted (set vs at v) row i) (sure_at n + c) 0 ≢ get_or ws (sure_at n + c) 0 → Dec (c ≡ k) → Waits (inserted (set vs at v) row i) n c
      wakes c m d (yes q) = rw (q, sym i-is, sym row_is) (insert_same (set vs at v) row i inside)
      wakes c m d (no q) =
          waits c (ℕ_discrete (mirror n c) i) (omega (arith, q))
          (rw row_is (has-cong (set vs at v) vs (waiting_at n) (mirror n c) (get_or-set_other vs at (waiting_at n + mirror n c / 64) v 0 (λ z. omega (arith, low)))
          ∙ o.wakes c (omega (arith, q)) (λ z. d (inserted-other (set vs at v) row i (sure_at n + c) (λ y. omega (arith, low, word)) ∙ get_or-set_other vs at (sure_at n + c) v 0 (λ y. omega (arith, q)) ∙ z))))
