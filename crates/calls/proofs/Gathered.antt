-- Where the RETURNs of a call's bodies go: bit by bit of a word, word by word of a row that has the walks and of the row of RETURNs, and call by call.
-- Each step adds what its part gives, so that the whole is what the definitions say.
use Prim.Native.Nat.{ℕ, ◌+◌, ◌*◌, ◌/◌, ◌%◌, ◌^◌, ◌≤◌, ◌<◌, min, max}
use mathlib.Core.Bool.{Bool, true, false, cond, ◌&&◌, ◌||◌, or-false, and_comm, and-false}
use mathlib.Core.List.{List, [], ◌∷◌, ◌++◌, append-nil}
use mathlib.Core.Logic.{◌⊎◌, inl, inr}
use mathlib.Core.Option.{Option, none, some}
use mathlib.Core.Path.{◌≡◌, refl, sym, ◌∙◌, ap, ap₂, subst}
use native.Mathlib.Decide.{dec_lt, ℕ_discrete}
use native.Mathlib.Numerals.{add-one}
use native.Mathlib.Omega.{arith}
use borrow.Author.Tests.{eqb-true, eq-eqb, ne_eqb, lt-ltb, le-ltb}
use lib.Bits.{bit_and}
use lib.Count.{count_trailing_zeros}
use lib.Dec.{eqb, ltb}
use lib.ListN.{length, get_or}
use Rattle.words.specs.Clauses.Row as row
use Rattle.words.specs.Clauses.Row.{bit, has}
use Rattle.words.specs.Clauses.Change.{Inserted, without}
use Rattle.words.proofs.Bit.{bit_of_zero, trailing_zero}
use Rattle.words.proofs.Lowest.{lowest-lt, lowest-one, lowest-other}
use Rattle.words.proofs.Row.{has-lt, has_both, has-cong}
use Rattle.flow.specs.Flow.{Flow, size}
use Rattle.theory.specs.Lists.{any, elem, concat_map, up_to}
use Rattle.theory.specs.Reach.{Reach}
use Rattle.theory.specs.Body.{kind, continuation_of, is_return, entered, callees, walked, opaque_call, call_touches}
use Rattle.theory.specs.Sure.{sure}
use Rattle.theory.specs.Clauses.WellFormed.{WellFormed}
use Rattle.theory.specs.Doubled.{returns_to, is_some}
use Rattle.theory.proofs.Lists.{same_test, not_so, eqb_sym, says_one, any_append, In-elem, elem-In, elem-not, elem-append, concat_map-append}
use Rattle.theory.proofs.Body.{entered_below, walked-sound, walked-complete}
use Rattle.statements.specs.Clauses.Layout.{sure_at, calls_at, call_touched_at, bodies_at, matrix_at, row_at, row_words, queue_at, solver_at, returns_row_at}
use Rattle.statements.specs.Clauses.Ready.{Keeps, MembersWord}
use Rattle.statements.proofs.WorkArea.{member-word, row_from, row_fits}
use Rattle.statements.proofs.Keeps.{keeps-has}
use Rattle.calls.specs.Clauses.Held.{WalkRow, Empty, EmptyRow, CallSummaries, Summarized, Leads, Leaders, Linked, transparent, opaque}
use Rattle.calls.specs.Clauses.Orders.{OrdersNoted}
use Rattle.calls.specs.Clauses.Joins.{Joins, Gains, Apart, Gathers, Adds, NotesCalls, Summary, BodyRows, ReturnSet, in_word, is_shared, body_of, bodies_of, from_bodies}
use Rattle.calls.proofs.Joined.{joins-none, joins-then, joins-same, gains-none, gains-same, gains_insert, gains-then, gains-after, gains-joins, row_stays, adds_same, adds_all}
use Rattle.calls.proofs.Summing.{walk_low, walk_kept}
use Rattle.calls.proofs.BodySummary.{return-stays, return-ordinary}
use Rattle.calls.proofs.Ordering.{orders_keep}

-- A word, bit by bit

-- the lowest bit, and the word without it
module _ (w j : ℕ) (h : w < 2 ^ 64) (some : 0 < w) where
  word_first : (s : ℕ) → (eqb s (64 * j + count_trailing_zeros 64 w) || in_word (without w (2 ^ count_trailing_zeros 64 w)) j s) ≡ in_word w j s
  word_first s = at (ℕ_discrete s (64 * j + t))
    where
      t : ℕ
      t = count_trailing_zeros 64 w

      at : Dec (s ≡ 64 * j + t) → (eqb s (64 * j + t) || in_word (without w (2 ^ t)) j s) ≡ in_word w j s
      at (yes e) =
          let low = lowest-lt w h some in
          let place : s % 64 ≡ t = omega arith in
          rw (eq-eqb s (64 * j + t) e, eq-eqb (s / 64) j (omega arith), place, lowest-one w h some)
      at (no d) = rw (ne_eqb s (64 * j + t) d) (go (ℕ_discrete (s / 64) j))
        where
          go : Dec (s / 64 ≡ j) → in_word (without w (2 ^ t)) j s ≡ in_word w j s
          go (yes q) = ap (λ (x : ℕ). eqb (s / 64) j && eqb x 1) (lowest-other w h some (s % 64) (λ e. d (omega arith)))
          go (no q) = rw (ne_eqb (s / 64) j q)

  -- k joins the row of the lowest, and then those of the others
  pub word_on : {ws us vs : List ℕ} {n k : ℕ} {b : Bool} → Inserted ws us (row_at n (64 * j + count_trailing_zeros 64 w)) k b → 64 * j + count_trailing_zeros 64 w < n → k < n → queue_at n ≤ length ws
      → Gains us vs n (queue_at n) (in_word (without w (2 ^ count_trailing_zeros 64 w)) j) k → Gains ws vs n (queue_at n) (in_word w j) k
  word_on i lr lk room g = gains-same (gains-then (gains_insert i lr lk room) g) (λ s l. word_first s)

-- the bits from the lowest on are no statements
pub word_past : {n : ℕ} (w j : ℕ) → n ≤ 64 * j + count_trailing_zeros 64 w → (s : ℕ) → s < n → in_word w j s ≡ false
word_past w j h s l = go (ℕ_discrete (s / 64) j)
  where
    go : Dec (s / 64 ≡ j) → in_word w j s ≡ false
    go (yes q) = rw (trailing_zero 64 w (s % 64) (omega arith)) (and-false (eqb (s / 64) j))
    go (no q) = rw (ne_eqb (s / 64) j q)

pub word_none : {w : ℕ} (j : ℕ) → w ≡ 0 → (s : ℕ) → in_word w j s ≡ false
word_none j e s = rw (e, bit_of_zero (s % 64)) (and-false (eqb (s / 64) j))

-- Two rows, word by word

-- the rows of the statements that are in the first j words of both have k
pub record Noting (ws₀ ws : List ℕ) (n row k j : ℕ) : Type 0 where
  pub gains : Gains ws₀ ws n (queue_at n) (λ s. ltb (s / 64) j && is_shared ws₀ n row s) k
  pub below : j ≤ row_words n

pub noting_start : {ws₀ : List ℕ} {n row k : ℕ} → Noting ws₀ ws₀ n row k 0
noting_start = record { gains = gains-none (λ s l. rw (le-ltb (s / 64) 0 (omega arith))); below = omega arith }

module _ {ws₀ ws : List ℕ} {n row k j : ℕ} (inv : Noting ws₀ ws n row k j) where
  -- both rows are as they were

  returns-same : (s : ℕ) → has ws (returns_row_at n) s ≡ has ws₀ (returns_row_at n) s
  returns-same s = keeps-has inv.gains.kept (returns_row_at n) s (λ a b. omega arith)

  row_same : Apart ws₀ n row → (s : ℕ) → s < n → has ws row s ≡ has ws₀ row s
  row_same a s l = go a.place
    where
      go : (queue_at n ≤ row) ⊎ ((b : ℕ) × (b < n) × (row ≡ row_at n b) × (has ws₀ (returns_row_at n) b ≡ 0)) → has ws row s ≡ has ws₀ row s
      go (inl h) = keeps-has inv.gains.kept row s (λ a b. omega arith)
      go (inr (b, lb, e, z)) =
          let out : (ltb (b / 64) j && is_shared ws₀ n row b) ≡ false = rw z (ap (λ (t : Bool). ltb (b / 64) j && t) (and-false (eqb (has ws₀ row b) 1)) ∙ and-false (ltb (b / 64) j)) in
          subst (λ (x : ℕ). has ws x s ≡ has ws₀ x s) (sym e)
          (inv.gains.rows b s lb l ∙ ap (λ (t : Bool). max (has ws₀ (row_at n b) s) (cond (t && eqb s k) 1 0)) out ∙ omega arith)

  pub noting_on : {vs : List ℕ} → Apart ws₀ n row → j < row_words n
      → Gains ws vs n (queue_at n) (in_word (bit_and (get_or ws (row + j) 0) (get_or ws (returns_row_at n + j) 0)) j) k → Noting ws₀ vs n row k (j + 1)
  noting_on {vs} a l g = record { gains = gains-same (gains-then inv.gains g) (λ s ls. step s ls (ℕ_discrete (s / 64) j) (dec_lt (s / 64) j)); below = omega arith }
    where
      word : ℕ
      word = bit_and (get_or ws (row + j) 0) (get_or ws (returns_row_at n + j) 0)

      both : (a b : ℕ) → a < 2 → b < 2 → Dec (a ≡ 1) → Dec (b ≡ 1) → eqb (min a b) 1 ≡ (eqb a 1 && eqb b 1)
      both a b la lb (yes p) (yes q) = rw (p, q)
      both a b la lb (yes p) (no d) = rw (p, ne_eqb b 1 d, ne_eqb (min 1 b) 1 (λ e. d (omega arith)))
      both a b la lb (no d) q = rw (ne_eqb a 1 d, ne_eqb (min a b) 1 (λ e. d (omega arith)))

      step : (s : ℕ) → s < n → Dec (s / 64 ≡ j) → Dec (s / 64 < j) → ((ltb (s / 64) j && is_shared ws₀ n row s) || in_word word j s) ≡ (ltb (s / 64) (j + 1) && is_shared ws₀ n row s)
      step s ls (yes e) lt =
          let bits : bit word (s % 64) ≡ min (has ws₀ row s) (has ws₀ (returns_row_at n) s) =
          subst (λ (x : ℕ). bit (bit_and (get_or ws (row + x) 0) (get_or ws (returns_row_at n + x) 0)) (s % 64) ≡ min (has ws₀ row s) (has ws₀ (returns_row_at n) s)) e
          (has_both ws row (returns_row_at n) s ∙ ap₂ min (row_same a s ls) (returns-same s)) in
          rw (le-ltb (s / 64) j (omega arith), eq-eqb (s / 64) j e, lt-ltb (s / 64) (j + 1) (omega arith), bits)
          (both (has ws₀ row s) (has ws₀ (returns_row_at n) s) (has-lt ws₀ row s) (has-lt ws₀ (returns_row_at n) s) (ℕ_discrete (has ws₀ row s) 1) (ℕ_discrete (has ws₀ (returns_row_at n) s) 1))
      step s ls (no d) (yes lt) = rw (lt-ltb (s / 64) j lt, ne_eqb (s / 64) j d, lt-ltb (s / 64) (j + 1) (omega arith)) (or-false (is_shared ws₀ n row s))
      step s ls (no d) (no lt) = rw (le-ltb (s / 64) j (omega (arith, lt)), ne_eqb (s / 64) j d, le-ltb (s / 64) (j + 1) (omega (arith, lt, d)))

  pub noting_done : row_words n ≤ j → Gains ws₀ ws n (queue_at n) (is_shared ws₀ n row) k
  noting_done h = gains-same inv.gains (λ s l. ap (λ (t : Bool). t && is_shared ws₀ n row s) (lt-ltb (s / 64) j (omega (arith, member-word l))))

-- A body's walk

-- the row that holds a walk has what the walk meets
pub row_walked : {f : Flow} {ws : List ℕ} {n e : ℕ} → WellFormed f → size f ≡ n → e < n → WalkRow f ws n e
    → (i : ℕ) → i < n → row.has ws (row_at n e) i ≡ cond (elem i (walked f e)) 1 0
row_walked {f} {ws} {n} {e} w z l r i li = go (elem i (walked f e)) refl
  where
    go : (b : Bool) → elem i (walked f e) ≡ b → row.has ws (row_at n e) i ≡ cond b 1 0
    go true q = r.complete i (walked-sound f e (elem-In i (walked f e) q))
    go false q =
        let out : row.has ws (row_at n e) i ≡ 1 → ⊥ = λ h. elem-not i (walked f e) q (walked-complete w (omega arith) (r.sound i li h)) in
        omega (arith, out, has-lt ws (row_at n e) i)

-- the walk of a RETURN is itself

return_walk : {f : Flow} {e : ℕ} → WellFormed f → e < size f → is_return (kind f e) ≡ true → (s : ℕ) → elem s (e ∷ []) ≡ elem s (walked f e)
unfolding elem
return_walk {f} {e} w l is s =
    or-false (eqb s e)
    ∙ same_test (eqb s e) (elem s (walked f e))
    (λ q. subst (λ (x : ℕ). elem x (walked f e) ≡ true) (sym (eqb-true s e q)) (In-elem (walked-complete w l Reach.here)))
    (λ q. eq-eqb s e (return-stays f is (walked-sound f e (elem-In s (walked f e) q))))

-- a body that joins a row by itself, since no walk is asked for or its walk is itself
pub adds_alone : {f : Flow} {ws vs : List ℕ} {n to e : ℕ} (whole : Bool) → (whole ≡ true → is_return (kind f e) ≡ true) → WellFormed f → e < size f → Adds to ws vs n (e ∷ []) → Adds to ws vs n (body_of f whole e)
adds_alone false is w l a = a
adds_alone true is w l a = adds_same a (return_walk w l (is refl))

-- rows of walks stay where their members do

pub rows-kept : {f : Flow} {ws vs : List ℕ} {n hi : ℕ} {q : ℕ → ℕ → Bool} (c : ℕ) → WellFormed f → size f ≡ n → Joins f ws vs n hi q
    → BodyRows f ws n c → BodyRows f vs n c
rows-kept c w z js rs b m other =
    let l = subst (λ x. b < x) z (entered_below w c b m) in
    walk_kept (walk_low w z l) (λ i li. js.others b i l li other) (rs b m other)

pub rows_stay : {f : Flow} {ws vs : List ℕ} {n lo hi : ℕ} (c : ℕ) → WellFormed f → size f ≡ n → Keeps lo hi ws vs → queue_at n ≤ lo → BodyRows f ws n c → BodyRows f vs n c
rows_stay c w z k h rs b m other =
    let l = subst (λ x. b < x) z (entered_below w c b m) in
    walk_kept (walk_low w z l) (λ i li. row_stays k h l li) (rs b m other)

-- what the bodies that the call enters add to a row
module _ (f : Flow) where
  pub bodies-append : (whole : Bool) (xs ys : List ℕ) → bodies_of f whole (xs ++ ys) ≡ bodies_of f whole xs ++ bodies_of f whole ys
  bodies-append whole = concat_map-append (body_of f whole)

  pub bodies-one : (whole : Bool) (b : ℕ) → bodies_of f whole (b ∷ []) ≡ body_of f whole b
  unfolding concat_map
  bodies-one whole b = append-nil (body_of f whole b)

  pub bodies-alone : (bs : List ℕ) → bodies_of f false bs ≡ bs
  unfolding concat_map
  bodies-alone [] = refl
  bodies-alone (b ∷ bs) = ap (λ (xs : List ℕ). b ∷ xs) (bodies-alone bs)

  elem-walks : (s : ℕ) (bs : List ℕ) → elem s (bodies_of f true bs) ≡ any (λ e. elem s (walked f e)) bs
  unfolding concat_map any elem
  elem-walks s [] = refl
  elem-walks s (b ∷ bs) = elem-append s (walked f b) (bodies_of f true bs) ∙ ap (λ (t : Bool). elem s (walked f b) || t) (elem-walks s bs)

  -- from the row of a body's walk, and line by line

  pub body-gathered : {ws : List ℕ} {n b : ℕ} → WellFormed f → size f ≡ n → b < n → WalkRow f ws n b → (s : ℕ) → s < n → row.has ws (row_at n b) s ≡ cond (any (λ e. elem s (walked f e)) (b ∷ [])) 1 0
  unfolding any
  body-gathered {b = b} w z lb r s l = row_walked w z lb r s l ∙ ap (λ (t : Bool). cond t 1 0) (sym (or-false (elem s (walked f b))))

  pub lines-gathered : {ws us : List ℕ} {n to : ℕ} (bs : List ℕ) → Empty ws n to → Adds to ws us n (bodies_of f true bs)
      → (s : ℕ) → s < n → row.has us to s ≡ cond (any (λ e. elem s (walked f e)) bs) 1 0
  lines-gathered bs empty a s l = adds_all empty a s l ∙ ap (λ (t : Bool). cond t 1 0) (elem-walks s bs)

  -- the RETURNs among them go to k
  pub bodies-noted : {ws us vs : List ℕ} {n at : ℕ} (k : ℕ) (bs : List ℕ) → Gathers f ws us n bs at → ReturnSet f us n → Gains us vs n (queue_at n) (is_shared us n at) k
      → Joins f ws vs n (solver_at n) (from_bodies f bs k)
  bodies-noted k bs g rs gains =
      let walks : ℕ → Bool = λ s. any (λ e. elem s (walked f e)) bs in
      gains-joins walks (gains-after g.kept (omega arith) gains)
      (λ s l. ap₂ (λ (x y : ℕ). eqb x 1 && eqb y 1) (g.holds s l) (rs.holds s l) ∙ ap₂ ◌&&◌ (says_one (walks s)) (says_one (is_return (kind f s))))

-- Call by call

returns_nowhere : (f : Flow) (r k c : ℕ) → continuation_of (kind f c) ≡ none → returns_to f r k c ≡ false
unfolding returns_to callees
returns_nowhere f r k c e = rw e refl

module _ {f : Flow} {ws : List ℕ} {n hi : ℕ} (c : ℕ) where
  pub call_none : continuation_of (kind f c) ≡ none → Joins f ws ws n hi (λ r k. returns_to f r k c)
  call_none e = joins-same joins-none (λ r k lr lk is. sym (returns_nowhere f r k c e))

  pub call-transparent : Summary f ws n c → (get_or ws (calls_at n + c) 0 ≡ opaque → ⊥) → Joins f ws ws n hi (λ r k. returns_to f r k c)
  unfolding returns_to
  call-transparent s h = joins-same joins-none (λ r k lr lk is. sym (go r k (continuation_of (kind f c)) refl))
    where
      go : (r k : ℕ) (o : Option ℕ) → continuation_of (kind f c) ≡ o → returns_to f r k c ≡ false
      go r k none e = returns_nowhere f r k c e
      go r k (some m) e =
          let not_opaque : opaque_call f c ≡ false = not_so (opaque_call f c) (λ t. h (s.call m e ∙ ap (λ (b : Bool). cond b opaque transparent) t)) in
          rw not_opaque (and-false (is_some (continuation_of (kind f c)) k))

  pub call-opaque : {vs : List ℕ} (k : ℕ) → Summary f ws n c → get_or ws (calls_at n + c) 0 ≡ opaque → continuation_of (kind f c) ≡ some k
      → Joins f ws vs n hi (from_bodies f (entered f c) k) → Joins f ws vs n hi (λ r j. returns_to f r j c)
  unfolding returns_to callees
  call-opaque k s h e js = joins-same js (λ r j lr lj is. rw (e, is_opaque (opaque_call f c) (sym (s.call k e) ∙ h)) (and_comm (bodies r) (eqb j k) ∙ ap (λ (t : Bool). t && bodies r) (eqb_sym j k)))
    where
      bodies : ℕ → Bool
      bodies r = any (λ b. elem r (walked f b)) (entered f c)

      is_opaque : (b : Bool) → cond b opaque transparent ≡ opaque → b ≡ true
      is_opaque true q = refl
      is_opaque false q = absurd (omega arith)

-- the RETURNs go where the calls below c make them go
pub record Calling (f : Flow) (ws₀ ws : List ℕ) (n c : ℕ) : Type 0 where
  pub below : c ≤ n
  pub joins : Joins f ws₀ ws n (solver_at n) (λ r k. any (returns_to f r k) (up_to c))

pub calling_start : (f : Flow) (ws : List ℕ) (n : ℕ) → Calling f ws ws n 0
unfolding any up_to
calling_start f ws n = record { below = omega arith; joins = joins-none }

pub calling_on : {f : Flow} {ws₀ ws vs : List ℕ} {n c : ℕ} → Calling f ws₀ ws n c → c < n → Joins f ws vs n (solver_at n) (λ r k. returns_to f r k c) → Calling f ws₀ vs n (c + 1)
unfolding any up_to
calling_on {f} {c = c} inv l js = record {
  below = omega arith;
  joins = joins-same (joins-then inv.joins js)
      (λ r k lr lk is.
      sym (ap (λ (m : ℕ). any (returns_to f r k) (up_to m)) (add-one c) ∙ any_append (returns_to f r k) (up_to c) (c ∷ [])
      ∙ ap (λ (t : Bool). any (returns_to f r k) (up_to c) || t) (or-false (returns_to f r k c))));
}

-- what the calls' summaries say stays

pub summaries_kept : {f : Flow} {ws vs : List ℕ} {n lo hi : ℕ} → bodies_at n ≤ lo → Keeps lo hi ws vs → CallSummaries f ws n → CallSummaries f vs n
summaries_kept {f} {ws} {vs} {n} m k s = record {
  ordinary = λ c l e. same c l ∙ s.ordinary c l e;
  call = λ c j l e. same c l ∙ s.call c j l e;
  touched = λ c l e. subst (λ (w : ℕ). MembersWord w (call_touches f c)) (sym (k.below (call_touched_at n + c) (omega arith))) (s.touched c l (sym (same c l) ∙ e));
  sure = λ c l e. subst (λ (w : ℕ). MembersWord w (sure f c)) (sym (k.below (sure_at n + c) (omega arith))) (s.sure c l (sym (same c l) ∙ e));
}
  where
    same : (c : ℕ) → c < n → get_or vs (calls_at n + c) 0 ≡ get_or ws (calls_at n + c) 0
    same c l = k.below (calls_at n + c) (omega arith)

pub summary_kept : {f : Flow} {ws vs : List ℕ} {n c hi : ℕ} {q : ℕ → ℕ → Bool} → WellFormed f → size f ≡ n → Summarized f ws n → Joins f ws vs n hi q → c < n → Summary f vs n c
unfolding callees
summary_kept {f} {n = n} {c = c} w z s js l = record {
  call = λ k e. (summaries_kept (omega arith) js.kept s.calls).call c k l e;
  bodies = λ k e. rows-kept c w z js (λ b m other. s.walks c b l (rw e m) other);
}

-- the edges are known once the leaders are noted too, which writes words of the bodies only, and the orders of calls, which stand outside the rows
pub linked : {f : Flow} {ws us vs ts qs : List ℕ} {n hi : ℕ} → size f ≡ n → Summarized f ws n → ((r : ℕ) → r < n → is_return (kind f r) ≡ true → EmptyRow ws n r)
    → Joins f ws us n hi (λ r k. any (returns_to f r k) (up_to n)) → NotesCalls f us vs n 0 n
    → Keeps (bodies_at n) (matrix_at n) vs ts → Leaders f ts n → OrdersNoted f ts qs n n → Linked f qs n
linked {f} {ws} {us} {vs} {ts} {qs} {n} z s free js ns k ls o = record {
  calls = summaries_kept (omega arith) (orders_keep o) (summaries_kept (omega arith) k (summaries_kept (omega arith) ns.kept (summaries_kept (omega arith) js.kept s.calls)));
  bodies = λ c j l lj e. row c j l lj ∙ ns.noted c j (omega arith) l lj (sym (state c l ∙ k.below (calls_at n + c) (omega arith) ∙ ns.kept.below (calls_at n + c) (omega arith)) ∙ e);
  returns = λ r j lr lj is.
      let goes : ℕ → ℕ = λ m. cond (any (returns_to f r j) (up_to m)) 1 0 in
      let only : max 0 (goes n) ≡ goes n = omega arith in
      row r j lr lj ∙ ns.others r j lr lj (λ a b e. no_call r lr is e)
      ∙ js.joined r j lr lj is ∙ ap (λ (x : ℕ). max x (goes n)) (free r lr is j lj) ∙ only ∙ ap goes (sym z);
  leaders = λ r l is.
      let y = ls r l is in
      subst (λ (x : ℕ). Leads qs n r x) (sym (o.low (bodies_at n + r) (omega arith)))
      (record { below = y.below; same = λ j m. beside (get_or ts (bodies_at n + r) 0) j y.below m ∙ y.same j m ∙ sym (beside r j l m) });
  orders = o.orders;
}
  where
    state : (c : ℕ) → c < n → get_or qs (calls_at n + c) 0 ≡ get_or ts (calls_at n + c) 0
    state c l = o.low (calls_at n + c) (omega arith)

    beside : (e j : ℕ) → e < n → j < n → has qs (row_at n e) j ≡ has ts (row_at n e) j
    beside e j l m = has-cong qs ts (row_at n e) j (o.rows (row_at n e + j / 64) (omega (arith, row_from n e)) (omega (arith, row_fits n l, member-word m)))

    row : (e j : ℕ) → e < n → j < n → has qs (row_at n e) j ≡ has vs (row_at n e) j
    row e j l m = beside e j l m ∙ keeps-has k (row_at n e) j (λ a b. omega (arith, row_from n e))

    -- a RETURN is no transparent call
    no_call : (r : ℕ) → r < n → is_return (kind f r) ≡ true → get_or us (calls_at n + r) 0 ≡ transparent → ⊥
    no_call r l is e = omega (arith, e, js.kept.below (calls_at n + r) (omega arith), s.calls.ordinary r l (return-ordinary (kind f r) is))
