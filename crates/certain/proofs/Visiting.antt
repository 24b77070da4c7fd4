-- One statement taken and handled keeps the law's invariant: what leaves it is what it does not write of its set, and taking it out is the one step by which there is less to do.
-- Assumes nothing.
use Prim.Native.Nat.{ℕ, ◌+◌, ◌*◌, ◌/◌, ◌<◌, ◌≤◌}
use mathlib.Core.List.{List, [], ◌∷◌}
use mathlib.Core.Logic.{inl, inr, ⊎_elim, ◌≢◌}
use mathlib.Core.Path.{◌≡◌, sym, ◌∙◌, ap, subst}
use native.Mathlib.Nat.{le_refl}
use native.Mathlib.Omega.{arith}
use lib.ListN.{length, get_or}
use Rattle.words.specs.Clauses.Row.{Words, bit, has, members}
use Rattle.words.specs.Clauses.Change.{removed, without}
use Rattle.words.proofs.Row.{members-cong}
use Rattle.words.proofs.Pair.{pair-cases, set-low, set-high, row_low, row-high}
use Rattle.words.proofs.Removed.{removed-other, remove_else, remove_other, remove_members}
use Rattle.flow.specs.Flow.{statement}
use Rattle.flow.specs.Format.{flow_of}
use Rattle.theory.specs.Lists.{In}
use Rattle.theory.specs.Body.{successors}
use Rattle.statements.specs.Clauses.Layout.{row_words}
use Rattle.statements.specs.Clauses.Ready.{Ready, Keeps}
use Rattle.statements.proofs.WorkArea.{member-word, row-holds, row-words-le}
use Rattle.statements.proofs.Keeps.{keeps-trans, keeps-removed, ready-keeps}
use Rattle.statements.proofs.Names.{kept-cases, kept-bit, written-word, no_name}
use Rattle.solve.specs.Clauses.Sets.{Leaves, Joins, Follows}
use Rattle.solve.proofs.Sets.{takes_all, handled}
use Rattle.certain.specs.Clauses.Layout.{set_at, waiting_at, waiting_end, elements}
use Rattle.certain.specs.Clauses.Unwritten.{forward, sets, Waits, left, PushedAll, Visited}

-- the words of this call fit, and a row of statements for those who read its words

pub area-room : {s ws : List ℕ} {n : ℕ} → Ready s ws n → 0 < n → waiting_end n ≤ length ws
area-room {n = n} r l = omega (arith, r.room, row-words-le n)

-- taking a statement out changes no noted place
pub taken_ready : {s ws vs : List ℕ} {n i row : ℕ} → Ready s ws n → i < n → row ≡ waiting_at n → vs ≡ removed ws row i → Ready s vs n
taken_ready {s} {ws} {vs} {n} {i} {row} r l e out =
    subst (λ z. Ready s z n) (sym (out ∙ ap (λ z. removed ws z i) e))
    (ready-keeps r (keeps-removed ws {lo = n} {hi = waiting_end n} (waiting_at n) i (omega arith) (omega (arith, member-word l))) (le_refl n))

-- A visit: i is taken out, and the row of the two words goes to its successors

module _ {s ws vs us : List ℕ} {n i at row names reached : ℕ} (r : Ready s ws n) (l : i < n) (words : Words ws) (row_is : row ≡ waiting_at n) (place : at ≡ set_at n i)
    (out : vs ≡ removed ws row i) (names_is : names ≡ without (get_or vs at 0) (statement (flow_of s) i).written) (reached-is : reached ≡ get_or vs (at + 1) 0)
    (push : PushedAll (flow_of s) vs us n i (names ∷ reached ∷ [])) where
  room : waiting_at n + i / 64 < length ws
  room = omega (arith, area-room r (omega arith), member-word l)

  taken : vs ≡ removed ws (waiting_at n) i
  taken = out ∙ ap (λ z. removed ws z i) row_is

  -- no set changes with it

  same_word : (x : ℕ) → x < waiting_at n → get_or vs x 0 ≡ get_or ws x 0
  same_word x m = ap (λ z. get_or z x 0) taken ∙ removed-other ws (waiting_at n) i x (λ e. omega arith)

  same-sets : (k x : ℕ) → k < n → x < elements → sets vs n k x ≡ sets ws n k x
  same-sets k x m b = ap (λ z. has z (set_at n k) x) taken ∙ remove_else ws (waiting_at n) i (set_at n k) x (λ e. omega arith)

  low_word : names ≡ without (get_or ws (set_at n i) 0) (statement (flow_of s) i).written
  low_word = names_is ∙ ap (λ z. without (get_or vs z 0) (statement (flow_of s) i).written) place ∙ ap (λ z. without z (statement (flow_of s) i).written) (same_word (set_at n i) (omega arith))

  high_word : reached ≡ get_or ws (set_at n i + 1) 0
  high_word = reached-is ∙ ap (λ z. get_or vs (z + 1) 0) place ∙ same_word (set_at n i + 1) (omega arith)

  -- what leaves the statement

  row_leaves : (x : ℕ) → x < elements → has (names ∷ reached ∷ []) 0 x ≡ 1 → Leaves (forward (flow_of s)) (sets ws n) i x
  row_leaves = pair-cases (λ x. has (names ∷ reached ∷ []) 0 x ≡ 1 → Leaves (forward (flow_of s)) (sets ws n) i x) low high
    where
      low : (x : ℕ) → x < 64 → has (names ∷ reached ∷ []) 0 x ≡ 1 → Leaves (forward (flow_of s)) (sets ws n) i x
      low x m e =
          let both = kept-cases (flow_of s) i (get_or ws (set_at n i) 0) x (words (set_at n i)) (written-word r i) (subst (λ z. bit z x ≡ 1) low_word (sym (row_low names reached x m) ∙ e)) in
          inr (both.0, set-low ws (set_at n i) x m ∙ both.1)

      high : (x : ℕ) → x < 64 → has (names ∷ reached ∷ []) 0 (64 + x) ≡ 1 → Leaves (forward (flow_of s)) (sets ws n) i (64 + x)
      high x m e = inr (no_name r i (64 + x) (omega arith), set-high ws (set_at n i) x m ∙ subst (λ z. bit z x ≡ 1) high_word (sym (row-high names reached x m) ∙ e))

  leaves_row : (x : ℕ) → x < elements → Leaves (forward (flow_of s)) (sets ws n) i x → has (names ∷ reached ∷ []) 0 x ≡ 1
  leaves_row = pair-cases (λ x. Leaves (forward (flow_of s)) (sets ws n) i x → has (names ∷ reached ∷ []) 0 x ≡ 1) low high
    where
      low : (x : ℕ) → x < 64 → Leaves (forward (flow_of s)) (sets ws n) i x → has (names ∷ reached ∷ []) 0 x ≡ 1
      low x m (inl g) = absurd g
      low x m (inr t) =
          row_low names reached x m
          ∙ subst (λ z. bit z x ≡ 1) (sym low_word)
          (kept-bit (flow_of s) i (get_or ws (set_at n i) 0) x (words (set_at n i)) (written-word r i) t.0 (sym (set-low ws (set_at n i) x m) ∙ t.1))

      high : (x : ℕ) → x < 64 → Leaves (forward (flow_of s)) (sets ws n) i (64 + x) → has (names ∷ reached ∷ []) 0 (64 + x) ≡ 1
      high x m (inl g) = absurd g
      high x m (inr t) = row-high names reached x m ∙ subst (λ z. bit z x ≡ 1) (sym high_word) (sym (set-high ws (set_at n i) x m) ∙ t.1)

  joins : Joins n elements (λ k. In k (successors (flow_of s) i)) (Leaves (forward (flow_of s)) (sets ws n) i) (sets ws n) (sets us n)
  joins = record {
    more = λ k x b m e. push.joins.more k x b m (same-sets k x b m ∙ e);
    gets = λ k x b m t p. push.joins.gets k x b m t (leaves_row x m p);
    from = λ k x b m e. ⊎_elim (λ d. inl (sym (same-sets k x b m) ∙ d)) (λ t. inr (t.0, row_leaves x m t.1)) (push.joins.from k x b m e);
  }

  follows : Follows n elements (sets ws n) (sets us n) (λ k. Waits ws n k × (k ≢ i)) (Waits us n)
  follows = record {
    stays = λ k b w. push.follows.stays k b (ap (λ z. has z (waiting_at n) k) taken ∙ remove_other ws (waiting_at n) i words room k w.1 ∙ w.0);
    grows = λ k b. ⊎_elim (λ w. inl w) (λ e. inr (λ x m. e x m ∙ same-sets k x b m)) (push.follows.grows k b);
  }

  less : Waits ws n i → left vs n < left ws n
  unfolding left
  less w =
      let one = remove_members ws (waiting_at n) i words room (row_words n) (omega (arith, row-holds n)) w in
      let waiting : members vs (waiting_at n) (row_words n) ≡ members (removed ws (waiting_at n) i) (waiting_at n) (row_words n) = ap (λ z. members z (waiting_at n) (row_words n)) taken in
      let bits : members vs n (2 * n) ≡ members ws n (2 * n) = members-cong vs ws n (2 * n) (λ k m. same_word (n + k) (omega arith)) in
      omega arith

  pub visited : Visited (flow_of s) ws us n i
  visited = record {
    held = λ h. handled takes_all h l joins follows;
    falls = λ w. omega (arith, push.falls, less w);
    kept = keeps-trans (subst (λ z. Keeps n (waiting_end n) ws z) (sym taken) (keeps-removed ws (waiting_at n) i (omega arith) (omega (arith, member-word l)))) push.kept;
  }
