-- One statement noted wherever its set follows from, and all of them. A RETURN follows from nothing and waits; a call with a continuation follows from that and from the body that it asks; any
-- other statement from its successors.
-- By the definitions of a body walk's next statements and of the body asked. Assumes nothing.
use Prim.Native.Nat.{ℕ, ◌+◌, ◌*◌, ◌-◌, ◌/◌, ◌%◌, ◌<◌, ◌≤◌}
use mathlib.Core.Bool.{true, false, cond, true≢false}
use mathlib.Core.List.Memᴰ
use mathlib.Core.List.{List, [], ◌∷◌}
use mathlib.Core.Logic.{◌⊎◌, inl, inr}
use mathlib.Core.Option.{Option, none, some}
use mathlib.Core.Path.{◌≡◌, refl, sym, ◌∙◌, ap, subst}
use native.Mathlib.Decide.{ℕ_discrete}
use native.Mathlib.Omega.{arith}
use lib.ListN.{length, get_or}
use Rattle.words.specs.Clauses.Change.{inserted, zeroed}
use Rattle.words.proofs.Inserted.{insert_same}
use Rattle.words.proofs.Zeroed.{zeroed-word}
use Rattle.flow.specs.Flow.{Flow}
use Rattle.theory.specs.Lists.{In}
use Rattle.theory.specs.Body.{kind, successors, continuation_of, is_return, or_else, walk_next}
use Rattle.theory.specs.Sure.{gosub_body}
use Rattle.statements.specs.Clauses.Layout.{matrix_at, lists_at, row_at}
use Rattle.statements.specs.Clauses.Ready.{Keeps}
use Rattle.statements.proofs.Keeps.{keeps-refl, keeps-trans, keeps_widen, keeps-has, keeps-inserted, keeps-zeroed}
use Rattle.statements.proofs.WorkArea.{member-word, row-words-le, row_from, row_fits}
use Rattle.sure.specs.Clauses.Layout.{first_at, waiting_at, words_end, mirror, more}
use Rattle.sure.specs.Clauses.Noting.{body_word, asked, FollowsFrom, Noted, Firsts, Waits, NotesFollower, StatementNoted, StatementsNoted}
use Rattle.sure.proofs.Bodies.{return-ends, no_continuation}
use Rattle.sure.proofs.Followers.{mirror-low, insert_stays, noted-same, asked-some}

-- What a statement follows from

module _ (f : Flow) (i : ℕ) where
  return_nowhere : is_return (kind f i) ≡ true → walk_next f i ≡ []
  unfolding walk_next
  return_nowhere e = ap (λ b. cond b [] (or_else (continuation_of (kind f i)) (successors f i))) e

  walks-on : {o : Option ℕ} → is_return (kind f i) ≡ false → continuation_of (kind f i) ≡ o → walk_next f i ≡ or_else o (successors f i)
  unfolding walk_next
  walks-on e d = rw (e, d)

  -- no body is asked
  none-asked : (j : ℕ) → continuation_of (kind f i) ≡ none → body_word (gosub_body f i) ≡ j + 1 → ⊥
  none-asked j e q = let zero : 0 ≡ j + 1 = sym (ap body_word (no_continuation f i e)) ∙ q in omega arith

  pub return_alone : is_return (kind f i) ≡ true → (j : ℕ) → FollowsFrom f (gosub_body f) j i → ⊥
  return_alone e j (inl m) = Memᴰ.not-nil (subst (λ l. In j l) (return_nowhere e) m)
  return_alone e j (inr q) = none-asked j (return-ends (kind f i) e) q

  pub follows-successors : is_return (kind f i) ≡ false → continuation_of (kind f i) ≡ none → (j : ℕ) → FollowsFrom f (gosub_body f) j i → In j (successors f i)
  follows-successors e d j (inl m) = subst (λ l. In j l) (walks-on e d) m
  follows-successors e d j (inr q) = absurd (none-asked j d q)

  pub follows-call : {k w : ℕ} → is_return (kind f i) ≡ false → continuation_of (kind f i) ≡ some k → w ≡ body_word (gosub_body f i) → (j : ℕ) → FollowsFrom f (gosub_body f) j i → In j (k ∷ asked w)
  follows-call e d a j (inl m) = Memᴰ.head (Memᴰ.eq_of_singleton (subst (λ l. In j l) (walks-on e d) m))
  follows-call {w = w} e d a j (inr q) = Memᴰ.tail (subst (λ l. In j l) (sym (asked-some w j (a ∙ q))) (Memᴰ.head refl))

-- Words before the row of those that wait keep what is noted

module _ {ws vs : List ℕ} {n : ℕ} (kept : Keeps (waiting_at n) (words_end n) ws vs) where
  pub firsts_keep : Firsts ws n → Firsts vs n
  firsts_keep firsts j l = subst (λ z. (z ≡ 0) ⊎ ((0 < z % more) × (z % more ≤ n))) (sym (kept.below (first_at n j) (omega arith))) (firsts j l)

  pub noted_keep : (j k : ℕ) → j < n → k < n → Noted ws n j k → Noted vs n j k
  noted_keep j k lj lk =
      noted-same ws vs n j k (kept.below (first_at n j) (omega arith))
      (keeps-has kept (row_at n j) (mirror n k) (λ a b. omega (arith, row_fits n lj, member-word (mirror-low lk))))

-- One statement

pub return-noted : {f : Flow} {ws : List ℕ} {n i : ℕ} → words_end n ≤ length ws → i < n → Firsts ws n → is_return (kind f i) ≡ true → StatementNoted f ws (inserted ws (waiting_at n) (mirror n i)) n i
return-noted {f} {ws} {n} {i} room li firsts e = record {
  words = firsts_keep kept firsts;
  here = λ j m. absurd (return_alone f i e j m);
  stays = noted_keep kept;
  returns = λ q. insert_same ws (waiting_at n) (mirror n i) (omega (arith, fits));
  waits = λ k l w. insert_stays ws (waiting_at n) (mirror n i) (mirror n k) (omega (arith, fits)) w;
  sets = λ x a b. kept.below x (omega arith);
  kept = keeps_widen (omega (arith, row_from n n)) (omega arith) kept;
}
  where
    fits : waiting_at n + mirror n i / 64 < words_end n
    fits = omega (arith, member-word (mirror-low li), row-words-le n)

    kept : Keeps (waiting_at n) (words_end n) ws (inserted ws (waiting_at n) (mirror n i))
    kept = keeps-inserted ws (waiting_at n) (mirror n i) (omega arith) fits

pub statement-noted : {f : Flow} {ws vs : List ℕ} {n i : ℕ} {js : List ℕ} → is_return (kind f i) ≡ false → ((j : ℕ) → FollowsFrom f (gosub_body f) j i → In j js) → NotesFollower ws vs n i js
    → StatementNoted f ws vs n i
statement-noted {n = n} e all p = record {
  words = p.words;
  here = λ j m. p.here j (all j m);
  stays = p.stays;
  returns = λ q. absurd (true≢false (sym q ∙ e));
  waits = λ k l w. keeps-has p.kept (waiting_at n) (mirror n k) (λ a b. omega arith) ∙ w;
  sets = p.sets;
  kept = keeps_widen (omega arith) (omega arith) p.kept;
}

-- All statements, one after another: the first i are noted
pub record NotedUpTo (f : Flow) (ws vs : List ℕ) (n i : ℕ) : Type 0 where
  pub words : Firsts vs n
  pub noted : (j k : ℕ) → j < n → k < i → FollowsFrom f (gosub_body f) j k → Noted vs n j k
  pub returns : (k : ℕ) → k < i → is_return (kind f k) ≡ true → Waits vs n k
  pub empty : (x : ℕ) → lists_at n ≤ x → x < first_at n 0 → get_or vs x 0 ≡ 0
  pub kept : Keeps (matrix_at n) (words_end n) ws vs

-- with all words zero, none is

module _ (ws : List ℕ) {vs : List ℕ} (n : ℕ) {at : ℕ} (place : at ≡ lists_at n) (zero : vs ≡ zeroed ws at (4 * n)) where
  pub zero-keeps : Keeps (matrix_at n) (words_end n) ws vs
  zero-keeps = subst (λ z. Keeps (matrix_at n) (words_end n) ws z) (sym zero) (keeps-zeroed ws at (4 * n) (omega (arith, row_from n n)) (omega arith))

  pub none-noted : {f : Flow} → words_end n ≤ length ws → NotedUpTo f vs vs n 0
  none-noted room = record {
    words = λ j l. inl (word (first_at n j) (omega arith) (omega arith));
    noted = λ j k lj lk. absurd (omega arith);
    returns = λ k l. absurd (omega arith);
    empty = λ x a b. word x a (omega arith);
    kept = keeps-refl;
  }
    where
      word : (x : ℕ) → lists_at n ≤ x → x < words_end n → get_or vs x 0 ≡ 0
      word x a b =
          let here : at + (x - at) ≡ x = omega arith in
          ap (λ z. get_or z x 0) zero ∙ subst (λ z. get_or (zeroed ws at (4 * n)) z 0 ≡ 0) here (zeroed-word ws at (4 * n) (omega arith) (x - at) (omega arith))

pub noted_more : {f : Flow} {ws vs us : List ℕ} {n i : ℕ} → NotedUpTo f ws vs n i → i < n → StatementNoted f vs us n i → NotedUpTo f ws us n (i + 1)
noted_more {f} {us = us} {n = n} {i} p l q = record {
  words = q.words;
  noted = λ j k lj lk m. noted j k lj lk m (ℕ_discrete k i);
  returns = λ k lk e. returns k lk e (ℕ_discrete k i);
  empty = λ x a b. q.sets x a b ∙ p.empty x a b;
  kept = keeps-trans p.kept q.kept;
}
  where
    noted : (j k : ℕ) → j < n → k < i + 1 → FollowsFrom f (gosub_body f) j k → Dec (k ≡ i) → Noted us n j k
    noted j k lj lk m (yes e) = subst (λ z. Noted us n j z) (sym e) (q.here j (subst (λ z. FollowsFrom f (gosub_body f) j z) e m))
    noted j k lj lk m (no d) = q.stays j k lj (omega arith) (p.noted j k lj (omega (arith, d)) m)

    returns : (k : ℕ) → k < i + 1 → is_return (kind f k) ≡ true → Dec (k ≡ i) → Waits us n k
    returns k lk m (yes e) = subst (λ z. Waits us n z) (sym e) (q.returns (subst (λ z. is_return (kind f z) ≡ true) e m))
    returns k lk m (no d) = q.waits k (omega arith) (p.returns k (omega (arith, d)) m)

pub all_noted : {f : Flow} {ws zs vs : List ℕ} {n i : ℕ} → Keeps (matrix_at n) (words_end n) ws zs → NotedUpTo f zs vs n i → n ≤ i → StatementsNoted f ws vs n
all_noted zero p h = record {
  followers = record { words = p.words; noted = λ j k lj lk m. p.noted j k lj (omega arith) m };
  returns = λ k l e. p.returns k (omega arith) e;
  empty = p.empty;
  kept = keeps-trans zero p.kept;
}
