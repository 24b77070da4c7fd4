-- Two words joined to a statement's set: its members, those of the other sets, and the statements that wait. A set that grew has a bit more, so the statement that joins those that wait
-- is paid for. Assumes nothing.
use Prim.Native.Nat.{ℕ, ◌+◌, ◌*◌, ◌/◌, ◌^◌, ◌<◌, ◌≤◌, max}
use mathlib.Core.Bool.{Bool, true, false}
use mathlib.Core.List.Memᴰ
use mathlib.Core.List.{List, [], ◌∷◌, ◌++◌}
use mathlib.Core.Logic.{◌⊎◌, inl, inr, ⊎_elim, ◌≢◌}
use mathlib.Core.Path.{◌≡◌, sym, ◌∙◌, ap, subst}
use native.Mathlib.Decide.{ℕ_discrete}
use native.Mathlib.Nat.{le_refl}
use native.Mathlib.Numerals.{add-one}
use native.Mathlib.Omega.{arith}
use lib.ListN.{length, get_or, take}
use lib.Seq.{take-suc, take_all}
use Rattle.words.specs.Clauses.Row.{Words, has, members}
use Rattle.words.specs.Clauses.Change.{PairJoined, Inserted, inserted}
use Rattle.words.proofs.Row.{has-lt, members-cong, members-le}
use Rattle.words.proofs.Inserted.{inserted-other, insert_same, insert_other, insert_else, insert_again, insert_members}
use Rattle.words.proofs.Pair.{pair-length, pair-other, pair_else, pair-here, pair_same, pair-grew}
use Rattle.theory.specs.Lists.{In}
use Rattle.statements.specs.Clauses.Layout.{row_words}
use Rattle.statements.specs.Clauses.Ready.{Keeps}
use Rattle.statements.proofs.WorkArea.{member-word, row-holds}
use Rattle.statements.proofs.Keeps.{keeps-refl, keeps-trans, keeps-pair, keeps-inserted}
use Rattle.solve.specs.Clauses.Sets.{Joins, Follows}
use Rattle.solve.proofs.Sets.{joins-none, joins-one, joins-then, follows-refl, follows-trans}
use Rattle.certain.specs.Clauses.Layout.{set_at, waiting_at, waiting_end, elements}
use Rattle.certain.specs.Clauses.Unwritten.{sets, Waits, left, Spread, Pushed}

module _ {ws us : List ℕ} {n j at names reached : ℕ} {grew : Bool} (l : j < n) (room : waiting_end n ≤ length ws) (place : at ≡ set_at n j) (join : PairJoined ws us at names reached grew) where
  pair : PairJoined ws us (set_at n j) names reached grew
  pair = subst (λ z. PairJoined ws us z names reached grew) place join

  fits : set_at n j + 2 ≤ length ws
  fits = omega arith

  -- the set of j, and every other set

  here : (x : ℕ) → x < elements → has us (set_at n j) x ≡ max (has ws (set_at n j) x) (has (names ∷ reached ∷ []) 0 x)
  here = pair-here pair fits

  other : (i x : ℕ) → i ≢ j → x < elements → has us (set_at n i) x ≡ has ws (set_at n i) x
  other i x d m = pair_else pair fits (set_at n i) x (λ e. omega (arith, d)) (λ e. omega (arith, d))

  joins_us : Joins n elements (λ i. i ≡ j) (λ x. has (names ∷ reached ∷ []) 0 x ≡ 1) (sets ws n) (sets us n)
  joins_us = joins-one (λ i. has-lt ws (set_at n i)) (has-lt (names ∷ reached ∷ []) 0) here other

  kept_us : Keeps n (waiting_end n) ws us
  kept_us = keeps-pair pair (omega arith) (omega arith)

  -- neither word grew
  pub pushed_same : grew ≡ false → Pushed ws us n j (names ∷ reached ∷ [])
  pushed_same e =
      let same : us ≡ ws = pair_same pair fits e in
      record {
        joins = joins_us;
        follows = subst (λ z. Follows n elements (sets ws n) (sets z n) (Waits ws n) (Waits z n)) (sym same) follows-refl;
        falls = subst (λ z. left z n ≤ left ws n) (sym same) (le_refl _);
        kept = kept_us;
      }

  -- one of them grew, and j waits

  waiting_us : members us (waiting_at n) (row_words n) ≡ members ws (waiting_at n) (row_words n)
  waiting_us = members-cong us ws (waiting_at n) (row_words n) (λ k m. pair-other pair fits (waiting_at n + k) (λ e. omega arith) (λ e. omega arith))

  waits_us : (k : ℕ) → has us (waiting_at n) k ≡ has ws (waiting_at n) k
  waits_us k = pair_else pair fits (waiting_at n) k (λ e. omega arith) (λ e. omega arith)

  module _ {ts : List ℕ} {row : ℕ} {fresh : Bool} (words : Words ws) (small : names < 2 ^ 64) (small' : reached < 2 ^ 64) (more : grew ≡ true) (row_is : row ≡ waiting_at n)
      (new : Inserted us ts row j fresh) where
    c : Inserted us ts (waiting_at n) j fresh
    c = subst (λ z. Inserted us ts z j fresh) row_is new

    size_us : length us ≡ length ws
    size_us = pair-length pair fits

    more_us : members ws n (2 * n) < members us n (2 * n)
    more_us = pair-grew pair fits words small small' n (2 * n) (omega arith) (omega arith) (omega arith) more

    in_room : waiting_at n + j / 64 < length us
    in_room = omega (arith, size_us, member-word l)

    sets_ts : (i x : ℕ) → i < n → x < elements → has ts (set_at n i) x ≡ has us (set_at n i) x
    sets_ts i x k m = ap (λ z. has z (set_at n i) x) c.slice ∙ insert_else us (waiting_at n) j (set_at n i) x (λ e. omega arith)

    waits_ts : (k : ℕ) → Dec (k ≡ j) → Waits ws n k → Waits ts n k
    waits_ts k (yes e) w = subst (λ z. has z (waiting_at n) k ≡ 1) (sym c.slice) (subst (λ z. has (inserted us (waiting_at n) j) (waiting_at n) z ≡ 1) (sym e) (insert_same us (waiting_at n) j in_room))
    waits_ts k (no d) w = ap (λ z. has z (waiting_at n) k) c.slice ∙ insert_other us (waiting_at n) j k in_room d ∙ waits_us k ∙ w

    grown : (k : ℕ) → k < n → Dec (k ≡ j) → Waits ts n k ⊎ ((x : ℕ) → x < elements → sets ts n k x ≡ sets ws n k x)
    grown k b (yes e) = inl (subst (λ z. has z (waiting_at n) k ≡ 1) (sym c.slice) (subst (λ z. has (inserted us (waiting_at n) j) (waiting_at n) z ≡ 1) (sym e) (insert_same us (waiting_at n) j in_room)))
    grown k b (no d) = inr (λ x m. sets_ts k x b m ∙ other k x d m)

    waiting_ts : members ts (waiting_at n) (row_words n) ≤ members us (waiting_at n) (row_words n) + 1
    waiting_ts = subst (λ z. members z (waiting_at n) (row_words n) ≤ members us (waiting_at n) (row_words n) + 1) (sym c.slice) (go (ℕ_discrete (has us (waiting_at n) j) 1))
      where
        go : Dec (has us (waiting_at n) j ≡ 1) → members (inserted us (waiting_at n) j) (waiting_at n) (row_words n) ≤ members us (waiting_at n) (row_words n) + 1
        go (yes e) = subst (λ z. members z (waiting_at n) (row_words n) ≤ members us (waiting_at n) (row_words n) + 1) (sym (insert_again us (waiting_at n) j e)) (omega arith)
        go (no d) =
            let more = insert_members us (waiting_at n) j (row_words n) (omega (arith, size_us)) (omega (arith, row-holds n)) (omega (arith, d, has-lt us (waiting_at n) j)) in
            omega arith

    members_ts : members ts n (2 * n) ≡ members us n (2 * n)
    members_ts = members-cong ts us n (2 * n) (λ k m. ap (λ z. get_or z (n + k) 0) c.slice ∙ inserted-other us (waiting_at n) j (n + k) (λ e. omega arith))

    pub pushed_waits : Pushed ws ts n j (names ∷ reached ∷ [])
    unfolding left
    pushed_waits = record {
      joins = record {
        more = λ i x k m e. sets_ts i x k m ∙ joins_us.more i x k m e;
        gets = λ i x k m e t. sets_ts i x k m ∙ joins_us.gets i x k m e t;
        from = λ i x k m e. joins_us.from i x k m (sym (sets_ts i x k m) ∙ e);
      };
      follows = record { stays = λ k m w. waits_ts k (ℕ_discrete k j) w; grows = λ k m. grown k m (ℕ_discrete k j) };
      falls = omega (arith, waiting_ts, waiting_us, members_ts, more_us, members-le us n (2 * n));
      kept = keeps-trans kept_us (subst (λ z. Keeps n (waiting_end n) us z) (sym c.slice) (keeps-inserted us (waiting_at n) j (omega arith) (omega (arith, member-word l))));
    }

-- To the elements of a list one after another

pub spread_none : {ws : List ℕ} {n : ℕ} {to sent : ℕ → Type 0} → ((i : ℕ) → to i → ⊥) → Spread ws ws n to sent
spread_none none = record { joins = joins-none none; follows = follows-refl; falls = le_refl _; kept = keeps-refl }

pub spread-then : {ws vs us : List ℕ} {n : ℕ} {first then to sent : ℕ → Type 0} → Spread ws vs n first sent → Spread vs us n then sent → ((i : ℕ) → to i → first i ⊎ then i)
    → ((i : ℕ) → first i ⊎ then i → to i) → Spread ws us n to sent
spread-then p q split join = record {
  joins = joins-then p.joins q.joins split join;
  follows = follows-trans p.follows q.follows;
  falls = omega (arith, p.falls, q.falls);
  kept = keeps-trans p.kept q.kept;
}

-- the first k elements
abbrev pub PushedTo : List ℕ → List ℕ → List ℕ → ℕ → ℕ → (ℕ → Type 0) → Type 0
PushedTo l ws vs n k sent = Spread ws vs n (λ j. In j (take k l)) sent

pub pushing_more : (l : List ℕ) (k : ℕ) {ws vs us : List ℕ} {n : ℕ} {sent : ℕ → Type 0} → PushedTo l ws vs n k sent → k < length l → Spread vs us n (λ i. i ≡ get_or l k 0) sent
    → PushedTo l ws us n (k + 1) sent
pushing_more l k p short q =
    let list : take (k + 1) l ≡ take k l ++ (get_or l k 0 ∷ []) = ap (λ z. take z l) (add-one k) ∙ take-suc l k 0 short in
    spread-then p q
    (λ i m. ⊎_elim (λ a. inl a) (λ a. inr (Memᴰ.eq_of_singleton a)) (Memᴰ.append_cases (take k l) (subst (λ z. In i z) list m)))
    (λ i m. subst (λ z. In i z) (sym list) (⊎_elim (λ a. Memᴰ.append_left (get_or l k 0 ∷ []) a) (λ e. Memᴰ.append_right (take k l) (Memᴰ.head e)) m))

pub pushing_all : (l : List ℕ) (k : ℕ) {ws vs : List ℕ} {n : ℕ} {sent : ℕ → Type 0} → PushedTo l ws vs n k sent → length l ≤ k → Spread ws vs n (λ j. In j l) sent
pushing_all l k {ws} {vs} {n} {sent} p h = subst (λ z. Spread ws vs n (λ j. In j z) sent) (take_all k l h) p
