-- One statement taken and settled keeps the law's invariant: its set gets what is due, by the sets of the statements that a body walk goes on to and of the body that it asks, and if it grew,
-- whatever follows from it waits. There is then less to do: one statement less waits, or a bit more is in the sets. Assumes nothing.
use Prim.Native.Nat.{ℕ, ◌+◌, ◌*◌, ◌-◌, ◌/◌, ◌^◌, ◌<◌, ◌≤◌, min, max}
use mathlib.Core.Bool.{Bool, true, false}
use mathlib.Core.List.{List, [], ◌∷◌}
use mathlib.Core.Logic.{◌⊎◌, inl, inr, ⊎_elim, ◌≢◌}
use mathlib.Core.Path.{◌≡◌, refl, sym, ◌∙◌, ap, subst}
use native.Mathlib.Decide.{ℕ_discrete}
use native.Mathlib.Nat.{add-mul, one-mul, mul-le-mul_right, lt_of_le_of_lt}
use native.Mathlib.Omega.{arith}
use lib.Bits.{bit_and, and_le_l}
use lib.ListN.{length, get_or}
use Rattle.words.specs.Clauses.Row.{Words, bit, has, members}
use Rattle.words.specs.Clauses.Change.{PairJoined, removed}
use Rattle.words.proofs.Bit.{bit-lt, bit-and}
use Rattle.words.proofs.Row.{has-lt, has-cong, members-cong, members-le}
use Rattle.words.proofs.Pair.{pair-cases, row_low, row-high, pair_else, pair-here, pair_same, pair-grew}
use Rattle.words.proofs.Removed.{removed-other, remove_else, remove_other, remove_members}
use Rattle.flow.specs.Format.{flow_of}
use Rattle.theory.specs.Lists.{In, elem}
use Rattle.theory.specs.Body.{kind, references, is_return, walk_next}
use Rattle.statements.specs.Clauses.Layout.{row_words, sure_at, lists_at}
use Rattle.statements.specs.Clauses.Ready.{Ready, Keeps}
use Rattle.statements.proofs.WorkArea.{member-word, row-holds, row-words-le, row_from}
use Rattle.statements.proofs.Keeps.{keeps-refl}
use Rattle.statements.proofs.Names.{no_array}
use Rattle.solve.specs.Clauses.Sets.{Due, Settles, Within}
use Rattle.solve.proofs.Sets.{settled-one}
use Rattle.sure.specs.Clauses.Layout.{set_at, waiting_at, words_end, elements, mirror}
use Rattle.sure.specs.Clauses.Noting.{body_word, Asks, Followers, Waits}
use Rattle.sure.specs.Clauses.Missing.{backward, sets, ReturnsAskNone, NextSet, LetThrough, Woken, left, OnlySets, Visited}
use Rattle.sure.proofs.Sets.{goes_on}
use Rattle.sure.proofs.Kept.{only-trans, only-waiting, only-removed, only-pair, only-room, only-noted}

-- What may still be done, as numbers: of k bits m are in the sets, w statements wait, and fewer than c ever do

less_waits : (k c m m' w w' : ℕ) → m' ≡ m → w ≡ w' + 1 → (k - m') * c + w' < (k - m) * c + w
less_waits k c m m' w w' e d = subst (λ z. (k - z) * c + w' < (k - m) * c + w) (sym e) (omega arith)

more-has : (k c m m' w w' : ℕ) → m < m' → m' ≤ k → w' < c → (k - m') * c + w' < (k - m) * c + w
more-has k c m m' w w' more all few =
    let step : k - m' + 1 ≤ k - m = omega arith in
    omega (arith, mul-le-mul_right c step, add-mul (k - m') 1 c, one-mul c)

module _ {s ws vs us ts : List ℕ} {n i row place at a b t : ℕ} {grew : Bool} (r : Ready s ws n) (room : words_end n ≤ length ws) (l : i < n) (words : Words ws) (words-vs : Words vs)
    (row_is : row ≡ waiting_at n) (place_is : place ≡ mirror n i) (at-is : at ≡ set_at n i) (out : vs ≡ removed ws row place) (next : NextSet (flow_of s) vs n i (a ∷ b ∷ [])) (through : LetThrough (flow_of s) vs n i t)
    (join : PairJoined vs us at (bit_and a t) b grew) (fits : a < 2 ^ 64) (fits' : b < 2 ^ 64) (after : ((grew ≡ false) × (ts ≡ us)) ⊎ ((grew ≡ true) × Woken us ts n i)) where
  taken : vs ≡ removed ws (waiting_at n) (mirror n i)
  taken = out ∙ ap (λ z. removed ws z place) row_is ∙ ap (removed ws (waiting_at n)) place_is

  pair : PairJoined vs us (set_at n i) (bit_and a t) b grew
  pair = subst (λ z. PairJoined vs us z (bit_and a t) b grew) at-is join

  mirrored : mirror n i < n
  mirrored = omega arith

  -- only the sets and the row of those that wait change

  only-vs : OnlySets ws vs n
  only-vs = only-removed l row_is place_is out

  room-vs : words_end n ≤ length vs
  room-vs = only-room only-vs room

  inside : set_at n i + 2 ≤ length vs
  inside = omega (arith, room-vs)

  only_us : OnlySets ws us n
  only_us = only-trans only-vs (only-pair l room-vs at-is join)

  kept_ts : Keeps (waiting_at n) (words_end n) us ts
  kept_ts = ⊎_elim (λ q. subst (λ z. Keeps (waiting_at n) (words_end n) us z) (sym q.1) keeps-refl) (λ q. q.1.kept) after

  only_ts : OnlySets ws ts n
  only_ts = only-trans only_us (only-waiting kept_ts)

  -- the sets

  same-sets : (k x : ℕ) → k < n → x < elements → sets vs n k x ≡ sets ws n k x
  same-sets k x m e = ap (λ z. has z (set_at n k) x) taken ∙ remove_else ws (waiting_at n) (mirror n i) (set_at n k) x (λ d. omega arith)

  sets_ts : (k x : ℕ) → k < n → x < elements → sets ts n k x ≡ sets us n k x
  sets_ts k x m e = has-cong ts us (set_at n k) x (kept_ts.below (set_at n k + x / 64) (omega arith))

  other : (k x : ℕ) → k < n → x < elements → k ≢ i → sets ts n k x ≡ sets ws n k x
  other k x m e d = sets_ts k x m e ∙ pair_else pair inside (set_at n k) x (λ q. omega (arith, d)) (λ q. omega (arith, d)) ∙ same-sets k x m e

  here : (x : ℕ) → x < elements → sets ts n i x ≡ max (sets ws n i x) (has (bit_and a t ∷ b ∷ []) 0 x)
  here x m = sets_ts i x l m ∙ pair-here pair inside x m ∙ ap (λ z. max z (has (bit_and a t ∷ b ∷ []) 0 x)) (same-sets i x l m)

  -- those that wait

  in_row : waiting_at n + mirror n i / 64 < length ws
  in_row = omega (arith, member-word mirrored, row-words-le n, room)

  waits_us : (k : ℕ) → k < n → k ≢ i → Waits ws n k → Waits us n k
  waits_us k m d w =
      pair_else pair inside (waiting_at n) (mirror n k) (λ e. omega arith) (λ e. omega arith) ∙ ap (λ z. has z (waiting_at n) (mirror n k)) taken
      ∙ remove_other ws (waiting_at n) (mirror n i) words in_row (mirror n k) (λ e. omega (arith, d)) ∙ w

  waits_ts : (k : ℕ) → k < n → k ≢ i → Waits ws n k → Waits ts n k
  waits_ts k m d w = ⊎_elim (λ q. subst (λ z. Waits z n k) (sym q.1) (waits_us k m d w)) (λ q. q.1.stays k m (waits_us k m d w)) after

  -- What is due

  module _ (bodies : ℕ → List ℕ) (none : ReturnsAskNone (flow_of s) bodies n) (asks : Asks bodies ws n) (within : Within (backward (flow_of s) bodies) n) where
    asked-vs : get_or vs (sure_at n + i) 0 ≡ body_word (bodies i)
    asked-vs = only-vs.kept.below (sure_at n + i) (omega (arith, row_from n n)) ∙ asks i l

    -- what comes, if the statement does not refer to it, and the body that it asks has it
    next_due : (x : ℕ) → x < elements → has (a ∷ b ∷ []) 0 x ≡ 1 → elem x (references (flow_of s) i) ≡ false → ((c : ℕ) → (x < 64) × (body_word (bodies i) ≡ c + 1) → sets ws n c x ≡ 1)
        → Due (backward (flow_of s) bodies) (sets ws n) i x
    next_due x m e free needed = go (is_return (kind (flow_of s) i)) refl
      where
        go : (v : Bool) → is_return (kind (flow_of s) i) ≡ v → Due (backward (flow_of s) bodies) (sets ws n) i x
        go true d = Due.start (d, free)
        go false d =
            let q = (next.next d).from x m e in
            Due.comes q.1 free needed (inr (tt, sym (same-sets q.0 x (within.edge i q.0 q.1) m) ∙ q.2))

    due_next : (x : ℕ) → x < elements → Due (backward (flow_of s) bodies) (sets ws n) i x → has (a ∷ b ∷ []) 0 x ≡ 1
    due_next x m (Due.start q) = next.return q.0 x m
    due_next x m (Due.comes e free needed (inl g)) = absurd g
    due_next x m (Due.comes {j = j} e free needed (inr q)) = (next.next (goes_on (flow_of s) i e)).gets j x e m (same-sets j x (within.edge i j e) m ∙ q.1)

    due_through : (x : ℕ) → x < 64 → Due (backward (flow_of s) bodies) (sets ws n) i x → bit t x ≡ 1
    due_through x m (Due.start q) = through.all x m q.1 (λ c d. absurd (omega (arith, asked-vs, none i l q.0)))
    due_through x m (Due.comes e free needed leaves) =
        through.all x m free (λ c d. let q : (x < 64) × (body_word (bodies i) ≡ c + 1) = (m, sym asked-vs ∙ d) in same-sets c x (within.needs i c x q) (omega arith) ∙ needed c q)

    row_due : (x : ℕ) → x < elements → has (bit_and a t ∷ b ∷ []) 0 x ≡ 1 → Due (backward (flow_of s) bodies) (sets ws n) i x
    row_due = pair-cases (λ x. has (bit_and a t ∷ b ∷ []) 0 x ≡ 1 → Due (backward (flow_of s) bodies) (sets ws n) i x) low high
      where
        low : (x : ℕ) → x < 64 → has (bit_and a t ∷ b ∷ []) 0 x ≡ 1 → Due (backward (flow_of s) bodies) (sets ws n) i x
        low x m e =
            let both : min (bit a x) (bit t x) ≡ 1 = sym (bit-and a t x) ∙ sym (row_low (bit_and a t) b x m) ∙ e in
            let lets : bit t x ≡ 1 = omega (arith, bit-lt t x) in
            next_due x (omega arith) (row_low a b x m ∙ omega (arith, bit-lt a x)) (through.others x m lets)
            (λ c q. sym (same-sets c x (within.needs i c x q) (omega arith)) ∙ through.asked x c m lets (asked-vs ∙ q.1))

        high : (x : ℕ) → x < 64 → has (bit_and a t ∷ b ∷ []) 0 (64 + x) ≡ 1 → Due (backward (flow_of s) bodies) (sets ws n) i (64 + x)
        high x m e = next_due (64 + x) (omega arith) (row-high a b x m ∙ sym (row-high (bit_and a t) b x m) ∙ e) (no_array r i (64 + x) (omega arith)) (λ c q. absurd (omega (arith, q.0)))

    due_row : (x : ℕ) → x < elements → Due (backward (flow_of s) bodies) (sets ws n) i x → has (bit_and a t ∷ b ∷ []) 0 x ≡ 1
    due_row = pair-cases (λ x. Due (backward (flow_of s) bodies) (sets ws n) i x → has (bit_and a t ∷ b ∷ []) 0 x ≡ 1) low high
      where
        low : (x : ℕ) → x < 64 → Due (backward (flow_of s) bodies) (sets ws n) i x → has (bit_and a t ∷ b ∷ []) 0 x ≡ 1
        low x m d =
            let one : bit a x ≡ 1 = sym (row_low a b x m) ∙ due_next x (omega arith) d in
            row_low (bit_and a t) b x m ∙ bit-and a t x ∙ omega (arith, due_through x m d)

        high : (x : ℕ) → x < 64 → Due (backward (flow_of s) bodies) (sets ws n) i (64 + x) → has (bit_and a t ∷ b ∷ []) 0 (64 + x) ≡ 1
        high x m d = row-high (bit_and a t) b x m ∙ sym (row-high a b x m) ∙ due_next (64 + x) (omega arith) d

    from : (x : ℕ) → x < elements → sets ts n i x ≡ 1 → Dec (has (bit_and a t ∷ b ∷ []) 0 x ≡ 1) → (sets ws n i x ≡ 1) ⊎ Due (backward (flow_of s) bodies) (sets ws n) i x
    from x m e (yes d) = inr (row_due x m d)
    from x m e (no d) = inl (omega (arith, here x m, has-lt ws (set_at n i) x, has-lt (bit_and a t ∷ b ∷ []) 0 x, d))

    module _ (followers : Followers (flow_of s) bodies ws n) where
      wakes : ((x : ℕ) → x < elements → sets ts n i x ≡ sets ws n i x) ⊎ ((k x : ℕ) → k < n → In i (walk_next (flow_of s) k) ⊎ ((x < 64) × (body_word (bodies k) ≡ i + 1)) → Waits ts n k)
      wakes =
          ⊎_elim (λ q. inl (λ x m. sets_ts i x l m ∙ ap (λ z. has z (set_at n i) x) (pair_same pair inside q.0) ∙ same-sets i x l m))
          (λ q. inr (λ k x m f. q.1.wakes k m (only-noted only_us i k l m (followers.noted i k l m (⊎_elim (λ e. inl e) (λ e. inr e.1) f)))))
          after

      settles : Settles (backward (flow_of s) bodies) n elements i (sets ws n) (sets ts n) (Waits ws n) (Waits ts n)
      settles = record {
        others = other;
        gets = λ x m d. omega (arith, here x m, due_row x m d, has-lt ws (set_at n i) x);
        more = λ x m e. omega (arith, here x m, has-lt (bit_and a t ∷ b ∷ []) 0 x);
        from = λ x m e. from x m e (ℕ_discrete (has (bit_and a t ∷ b ∷ []) 0 x) 1);
        stays = waits_ts;
        wakes = wakes;
      }

  -- There is less to do

  taken_members : Waits ws n i → members ws (waiting_at n) (row_words n) ≡ members vs (waiting_at n) (row_words n) + 1
  taken_members w =
      remove_members ws (waiting_at n) (mirror n i) words in_row (row_words n) (omega (arith, row-holds n, mirrored)) w ∙ ap (λ z. members z (waiting_at n) (row_words n) + 1) (sym taken)

  sets-vs : members vs (lists_at n) (2 * n) ≡ members ws (lists_at n) (2 * n)
  sets-vs = members-cong vs ws (lists_at n) (2 * n) (λ k m. ap (λ z. get_or z (lists_at n + k) 0) taken ∙ removed-other ws (waiting_at n) (mirror n i) (lists_at n + k) (λ e. omega arith))

  grown : grew ≡ true → members ws (lists_at n) (2 * n) < members ts (lists_at n) (2 * n)
  grown e =
      let more = pair-grew pair inside words-vs (lt_of_le_of_lt (and_le_l a t) fits) fits' (lists_at n) (2 * n) (omega arith) (omega arith) (omega (arith, room-vs)) e in
      omega (arith, sets-vs, members-cong ts us (lists_at n) (2 * n) (λ k m. kept_ts.below (lists_at n + k) (omega arith)))

  falls : Waits ws n i → left ts n < left ws n
  unfolding left
  falls w =
      ⊎_elim
      (λ q. subst (λ z. (64 * (2 * n) - members z (lists_at n) (2 * n)) * (64 * row_words n + 1) + members z (waiting_at n) (row_words n) < (64 * (2 * n) - members ws (lists_at n) (2 * n)) * (64 * row_words n + 1) + members ws (waiting_at n) (row_words n)) (sym (q.1 ∙ pair_same pair inside q.0))
      (less_waits (64 * (2 * n)) (64 * row_words n + 1) (members ws (lists_at n) (2 * n)) (members vs (lists_at n) (2 * n)) (members ws (waiting_at n) (row_words n)) (members vs (waiting_at n) (row_words n)) sets-vs (taken_members w)))
      (λ q. more-has (64 * (2 * n)) (64 * row_words n + 1) (members ws (lists_at n) (2 * n)) (members ts (lists_at n) (2 * n)) (members ws (waiting_at n) (row_words n)) (members ts (waiting_at n) (row_words n)) (grown q.0) (members-le ts (lists_at n) (2 * n)) (omega (arith, members-le ts (waiting_at n) (row_words n))))
      after

  pub visited : Visited (flow_of s) ws ts n i
  visited = record {
    held = λ bodies none asks followers within h. settled-one within h l (settles bodies none asks within followers) (λ k. ℕ_discrete (has ts (waiting_at n) (mirror n k)) 1);
    falls = falls;
    only = only_ts;
  }
