-- A set joined to one word, and the queue after it: a word that grew has a bit more, so the number that joins the queue is paid for.
-- Changes one after another are one change. Assumes nothing.
use Prim.Native.Nat.{ℕ, ◌^◌, ◌<◌, ◌≤◌, zero-le}
use mathlib.Core.Bool.{Bool, true, false}
use mathlib.Core.List.{List}
use mathlib.Core.Logic.{◌⊎◌, inl, inr, ⊎_elim, ◌≢◌}
use mathlib.Core.Path.{◌≡◌, sym, ◌∙◌, ap, subst}
use native.Mathlib.Decide.{ℕ_discrete}
use native.Mathlib.Nat.{le_refl}
use native.Mathlib.Omega.{arith}
use lib.ListN.{length, get_or}
use Rattle.words.specs.Clauses.Row.{Words, bit}
use Rattle.words.specs.Clauses.Change.{Joined}
use Rattle.words.proofs.Bit.{bit-lt, bit-or}
use Rattle.words.proofs.Row.{members-le}
use Rattle.words.proofs.Inserted.{joined_word, joined-other}
use Rattle.words.proofs.Joined.{not-grown, grew-members}
use Rattle.theory.specs.Lists.{In}
use Rattle.theory.specs.Queue.{join}
use Rattle.theory.proofs.Enqueue.{join-keeps, join_adds, join-cases, join-length}
use Rattle.statements.specs.Clauses.Ready.{Keeps}
use Rattle.statements.proofs.Keeps.{keeps-refl, keeps-trans, keeps-joined}
use Rattle.solve.specs.declared.Queue.{Queue}
use Rattle.solve.specs.Clauses.Sets.{Joins}
use Rattle.solve.specs.Clauses.Waiting.{Enqueued}
use Rattle.solve.proofs.Sets.{joins-none, joins-one, joins-then, follows-refl, follows-trans}
use Rattle.solve.proofs.Waiting.{rest-refl, rest-trans}
use Rattle.live.specs.Clauses.Spread.{sets, missing, Follows, Spread, PushedTo}

unchanged : {n : ℕ} {before w : List ℕ} → Follows n before before w w
unchanged = record { follows = λ elements. follows-refl; comes = λ k m. inl m; falls = le_refl _ }

pub spread_none : {ws before : List ℕ} {n live : ℕ} {q : Queue} {to : ℕ → Type 0} → ((k : ℕ) → to k → ⊥) → Spread ws ws before before n q q to live
spread_none none = record {
  joins = λ elements. joins-none none;
  waits = λ w h. (w, h, unchanged);
  area = keeps-refl;
  kept = rest-refl;
}

pub spread-then : {ws vs us a b c : List ℕ} {n live : ℕ} {o p q : Queue} {first then to : ℕ → Type 0} → Spread ws vs a b n o p first live → Spread vs us b c n p q then live
    → ((k : ℕ) → to k → first k ⊎ then k) → ((k : ℕ) → first k ⊎ then k → to k) → Spread ws us a c n o q to live
spread-then s t split join = record {
  joins = λ elements. joins-then (s.joins elements) (t.joins elements) split join;
  waits = λ w h.
      let x = s.waits w h in
      let y = t.waits x.0 x.1 in (
        y.0,
        y.1,
        record {
          follows = λ elements. follows-trans (x.2.follows elements) (y.2.follows elements);
          comes = λ k m. ⊎_elim (x.2.comes k) (λ l. inr l) (y.2.comes k m);
          falls = omega (arith, x.2.falls, y.2.falls);
        },
      );
  area = keeps-trans s.area t.area;
  kept = rest-trans s.kept t.kept;
}

-- one word

module _ {before after : List ℕ} {n i live : ℕ} {r : Bool} (j : Joined before after i live r) (l : i < n) (room : n ≤ length before) where
  other : (k : ℕ) → k ≢ i → get_or after k 0 ≡ get_or before k 0
  other k d = rw j.slice (joined-other before i live k d)

  joins-word : (elements : ℕ) → Joins n elements (λ k. k ≡ i) (λ x. bit live x ≡ 1) (sets before) (sets after)
  joins-word elements =
      joins-one (λ k. bit-lt (get_or before k 0)) (bit-lt live)
      (λ x m. rw j.slice (ap (λ z. bit z x) (joined_word before i live (omega arith)) ∙ bit-or (get_or before i 0) live x)) (λ k x d m. ap (λ z. bit z x) (other k d))

  area-word : Keeps 0 n before after
  area-word = rw j.slice (keeps-joined before i live zero-le l)

  pub pushed_waits : {ws vs : List ℕ} {q p : Queue} → r ≡ true → Words before → live < 2 ^ 64 → Enqueued ws vs n 0 q i p → PushedTo ws vs before after n q p i live
  unfolding missing
  pushed_waits e words fits s = record {
    joins = joins-word;
    waits = λ w h. (
      join w i,
      s.waits w h,
      record {
        follows = λ elements. record { stays = λ k b m. join-keeps w i m; grows = λ k b. grown w k (ℕ_discrete k i) };
        comes = λ k m. ⊎_elim (λ x. inl x) (λ x. inr (rw x l)) (join-cases w i m);
        falls = omega (arith, join-length w i, grew-members j words fits 0 n (omega arith) (omega arith) (omega arith) e, members-le after 0 n);
      },
    );
    area = area-word;
    kept = s.kept;
  }
    where
      grown : {elements : ℕ} (w : List ℕ) (k : ℕ) → Dec (k ≡ i) → In k (join w i) ⊎ ((x : ℕ) → x < elements → bit (get_or after k 0) x ≡ bit (get_or before k 0) x)
      grown w k (yes d) = inl (subst (λ z. In z (join w i)) (sym d) (join_adds w i))
      grown w k (no d) = inr (λ x m. ap (λ z. bit z x) (other k d))

  pub pushed_same : {ws : List ℕ} {q : Queue} → r ≡ false → PushedTo ws ws before after n q q i live
  pushed_same e = record {
    joins = joins-word;
    waits = λ w h. (w, h, subst (λ z. Follows n before z w w) (sym (not-grown j e)) unchanged);
    area = area-word;
    kept = rest-refl;
  }
