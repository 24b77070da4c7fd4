-- The pairs of the words that a statement starts and ends with are those of the definition, and so are the pairs of the names that are used, with a handler: a word with these pairs is the word
-- of the definition, since no other word has its bits. Assumes nothing.
use Prim.Native.Nat.{ℕ, ◌+◌, ◌^◌, ◌<◌, ◌≤◌}
use mathlib.Core.List.{List}
use mathlib.Core.Logic.{◌⊎◌, inl, inr, ⊎_elim}
use mathlib.Core.Option.{Option, none, some}
use mathlib.Core.Path.{◌≡◌, sym, ◌∙◌, subst}
use native.Mathlib.Decide.{ℕ_discrete}
use native.Mathlib.Nat.{lt_of_lt_of_le}
use native.Mathlib.Omega.{arith}
use lib.Bits.{bit_or}
use lib.ListN.{get_or}
use lib.Pow.{pow_mono}
use Rattle.words.specs.Clauses.Row.{bit}
use Rattle.words.specs.Clauses.Change.{zeroed}
use Rattle.words.proofs.Zeroed.{zeroed_first}
use Rattle.flow.specs.Flow.{size, statement}
use Rattle.flow.specs.Format.{flow_of}
use Rattle.records.proofs.Files.{limited}
use Rattle.theory.specs.Live.{member, LiveIn, live_in_word, live_out_word}
use Rattle.theory.specs.Interference.{After, Used, Together, Interferes, interferes, interference_word}
use Rattle.theory.proofs.Lists.{same_test}
use Rattle.theory.proofs.Names.{names_word_unique, live_in_word-lt, live_in_word-sound, live_in_word-complete, live_out_word-lt, live_out_word-sound, live_out_word-complete}
use Rattle.theory.proofs.Interference.{interferes-sound, interferes-complete, interferes-used, handler-all}
use Rattle.statements.specs.Clauses.Ready.{Ready, Keeps}
use Rattle.statements.specs.Clauses.Uses.{Gathered}
use Rattle.statements.proofs.Keeps.{ready-size, ready_formed, keeps-trans, keeps-zeroed}
use Rattle.statements.proofs.WellFormed.{names_is}
use Rattle.statements.proofs.Names.{member-bit, bit-member, or-first, or-second, or_either, bit_below, word_below, read_name, written_name}
use Rattle.interference.specs.Clauses.Clique.{CliqueAdded, NewCliqueAdded, Both, Pairs}
use Rattle.interference.specs.Clauses.Rows.{RowsStart, after_word, Seen, BothUsed, Noted, Rows}
use Rattle.interference.proofs.Paired.{pairs_as, pairs-none, pairs_added, added_keeps, Going, going_as, going_new}

module _ {s ws : List ℕ} {n : ℕ} (r : Ready s ws n) where
  -- a name that is used is one of the flow's

  used_name : {x : ℕ} → Used (flow_of s) x → x < (flow_of s).names
  used_name {x} (Used.read {i = i} l e) = subst (λ z. x < z) (sym (names_is s)) (read_name r i x e)
  used_name {x} (Used.written {i = i} l e) = subst (λ z. x < z) (sym (names_is s)) (written_name r i x e)

  pub names-few : (flow_of s).names ≤ 64
  names-few = omega (arith, names_is s, (limited r.fit).names)

  pub after-lt : (i : ℕ) → after_word (flow_of s) i < 2 ^ (flow_of s).names
  after-lt i =
      word_below (after_word (flow_of s) i) (flow_of s).names
      (λ x e. ⊎_elim (λ d. bit_below (live_out_word (flow_of s) i) (flow_of s).names x (live_out_word-lt (flow_of s) i) d)
      (λ d. subst (λ z. x < z) (sym (names_is s)) (written_name r i x (bit-member (statement (flow_of s) i).written x d)))
      (or_either (live_out_word (flow_of s) i) (statement (flow_of s) i).written x e))

  -- what a word has at a statement, by the definition

  in_live : (i x : ℕ) → bit (live_in_word (flow_of s) i) x ≡ 1 → LiveIn (flow_of s) x i
  in_live i x e = live_in_word-sound (flow_of s) i x (bit_below (live_in_word (flow_of s) i) (flow_of s).names x (live_in_word-lt (flow_of s) i) e) (bit-member (live_in_word (flow_of s) i) x e)

  live_in : {i x : ℕ} → i < size (flow_of s) → x < (flow_of s).names → LiveIn (flow_of s) x i → bit (live_in_word (flow_of s) i) x ≡ 1
  live_in {i} {x} k l h = member-bit (live_in_word (flow_of s) i) x (live_in_word-complete (ready_formed r) k l h)

  word_after : (i x : ℕ) → bit (after_word (flow_of s) i) x ≡ 1 → After (flow_of s) x i
  word_after i x e =
      ⊎_elim (λ d. After.live (live_out_word-sound (flow_of s) i x (bit_below (live_out_word (flow_of s) i) (flow_of s).names x (live_out_word-lt (flow_of s) i) d) (bit-member (live_out_word (flow_of s) i) x d)))
      (λ d. After.written (bit-member (statement (flow_of s) i).written x d))
      (or_either (live_out_word (flow_of s) i) (statement (flow_of s) i).written x e)

  after-word : {i x : ℕ} → x < (flow_of s).names → After (flow_of s) x i → bit (after_word (flow_of s) i) x ≡ 1
  after-word {i} {x} l (After.live h) =
      or-first (live_out_word (flow_of s) i) (statement (flow_of s) i).written x (member-bit (live_out_word (flow_of s) i) x (live_out_word-complete (ready_formed r) l h))
  after-word {i} {x} l (After.written e) = or-second (live_out_word (flow_of s) i) (statement (flow_of s) i).written x (member-bit (statement (flow_of s) i).written x e)

  -- Without a handler

  seen-together : {x y : ℕ} → Seen (flow_of s) n x y → Together (flow_of s) x y
  seen-together {x} {y} (i, l, t) =
      let small : i < size (flow_of s) = omega (arith, ready-size r) in
      ⊎_elim (λ (b : Both (live_in_word (flow_of s) i) x y). Together.at_start small (in_live i x b.0) (in_live i y b.1))
      (λ (b : Both (after_word (flow_of s) i) x y). Together.at_end small (word_after i x b.0) (word_after i y b.1)) t

  together-seen : (flow_of s).handler ≡ none → {x y : ℕ} → x < (flow_of s).names → y < (flow_of s).names → Together (flow_of s) x y → Seen (flow_of s) n x y
  together-seen unkeyed k l (Together.at_start {i = i} m a b) = (i, omega (arith, ready-size r), inl (live_in m k a, live_in m l b))
  together-seen unkeyed k l (Together.at_end {i = i} m a b) = (i, omega (arith, ready-size r), inr (after-word k a, after-word l b))
  together-seen unkeyed k l (Together.by_handler {h = h} q a b) = let z : ◌≡◌ {A = Option ℕ} none (some h) = sym unkeyed ∙ q in let bad : ◌≡◌ {A = ℕ} 0 1 = cc in absurd (omega arith)

  -- one statement more
  pub seen_more : (i x y : ℕ) → (Seen (flow_of s) i x y ⊎ Both (live_in_word (flow_of s) i) x y) ⊎ Both (after_word (flow_of s) i) x y → Seen (flow_of s) (i + 1) x y
  seen_more i x y t =
      ⊎_elim (λ u. ⊎_elim (λ (p : Seen (flow_of s) i x y). (p.0, omega (arith, p.1), p.2)) (λ b. (i, omega arith, inl b)) u) (λ b. (i, omega arith, inr b)) t

  pub more-seen : (i x y : ℕ) → Seen (flow_of s) (i + 1) x y → (Seen (flow_of s) i x y ⊎ Both (live_in_word (flow_of s) i) x y) ⊎ Both (after_word (flow_of s) i) x y
  more-seen i x y (k, l, t) = go (ℕ_discrete k i)
    where
      go : Dec (k ≡ i) → (Seen (flow_of s) i x y ⊎ Both (live_in_word (flow_of s) i) x y) ⊎ Both (after_word (flow_of s) i) x y
      go (yes e) =
          ⊎_elim (λ b. inl (inr (subst (λ z. Both (live_in_word (flow_of s) z) x y) e b))) (λ b. inr (subst (λ z. Both (after_word (flow_of s) z) x y) e b)) t
      go (no d) = inl (inl (k, omega (arith, d), t))

  pub going_statement : {rows₀ rows vs us : List ℕ} {i last a b p q : ℕ} → Going (flow_of s).names (Seen (flow_of s) i) rows₀ rows last → last < 2 ^ 64 → p < 2 ^ 64 → a ≡ live_in_word (flow_of s) i → b ≡ after_word (flow_of s) i
      → NewCliqueAdded rows vs last a p → NewCliqueAdded vs us p b q → Going (flow_of s).names (Seen (flow_of s) (i + 1)) rows₀ us q
  going_statement {rows₀} {rows} {vs} {us} {i} {last} {a} {b} {p} {q} g fits fits' in_is out-is first second =
      going_as (seen_more i) (more-seen i)
      (going_new (going_new g names-few (live_in_word-lt (flow_of s) i) fits (subst (λ z. NewCliqueAdded rows vs last z p) in_is first)) names-few (after-lt i) fits'
      (subst (λ z. NewCliqueAdded vs us p z q) out-is second))

  -- The names that are used

  pub used_both : {w v : ℕ} → Gathered (flow_of s) n w v → (x : ℕ) → bit (bit_or w v) x ≡ 1 → Used (flow_of s) x
  used_both {w} {v} g x e =
      ⊎_elim (λ d. let t = g.written.user x d in Used.written (omega (arith, t.1, ready-size r)) t.2)
      (λ d. let t = g.read.user x d in Used.read (omega (arith, t.1, ready-size r)) t.2) (or_either w v x e)

  both_used : {w v : ℕ} → Gathered (flow_of s) n w v → {x : ℕ} → Used (flow_of s) x → bit (bit_or w v) x ≡ 1
  both_used {w} {v} g {x} (Used.written {i = i} l e) = or-first w v x (g.written.all x i (omega (arith, ready-size r)) e)
  both_used {w} {v} g {x} (Used.read {i = i} l e) = or-second w v x (g.read.all x i (omega (arith, ready-size r)) e)

  pub used-lt : {w v : ℕ} → Gathered (flow_of s) n w v → bit_or w v < 2 ^ (flow_of s).names
  used-lt {w} {v} g = word_below (bit_or w v) (flow_of s).names (λ x e. used_name (used_both g x e))

  pub noted-used : {rows vs : List ℕ} {w v : ℕ} → Gathered (flow_of s) n w v → CliqueAdded rows vs (bit_or w v) → Noted (flow_of s) (BothUsed (flow_of s)) rows vs
  noted-used {rows} {vs} {w} {v} g m =
      let fits = lt_of_lt_of_le (used-lt g) (pow_mono names-few) in
      record {
        pairs = λ z. pairs_as (λ x y t. ⊎_elim (λ (e : ⊥). absurd e) (λ (b : Both (bit_or w v) x y). (used_both g x b.0, used_both g y b.1)) t)
            (λ x y u. inr (both_used g u.0, both_used g u.1))
            (pairs_added fits m z);
        kept = added_keeps fits m (used-lt g);
      }

  -- The words

  -- pairs that are those that interfere
  row_word : (P : ℕ → ℕ → Type 0) {rows : List ℕ} → Pairs rows (flow_of s).names P → ((x y : ℕ) → (x ≡ y → ⊥) → P x y → Interferes (flow_of s) x y)
      → ((x y : ℕ) → x < (flow_of s).names → y < (flow_of s).names → Interferes (flow_of s) x y → P x y) → (x : ℕ) → x < (flow_of s).names → get_or rows x 0 ≡ interference_word (flow_of s) x
  unfolding interference_word
  row_word P {rows} p to from x l =
      names_word_unique (flow_of s) (interferes (flow_of s) x) (get_or rows x 0) (word_below (get_or rows x 0) (flow_of s).names (λ y e. used_name (interferes-used (ready_formed r) (pair y e)).1))
      (λ y m. same_test (member (get_or rows x 0) y) (interferes (flow_of s) x y) (λ e. interferes-complete (ready_formed r) (pair y (member-bit (get_or rows x 0) y e)))
      (λ e. let i = interferes-sound (flow_of s) x y e in bit-member (get_or rows x 0) y (p.complete x y l i.different (from x y l m i))))
    where
      pair : (y : ℕ) → bit (get_or rows x 0) y ≡ 1 → Interferes (flow_of s) x y
      pair y e = let t = p.sound x y l e in to x y t.0 t.1

-- and so are those that are noted in words that held none

module _ {s ws rows vs : List ℕ} {names n : ℕ} (p : RowsStart s ws rows names n) (clear : vs ≡ zeroed rows 0 names) where
  cleared : Pairs vs (flow_of s).names (λ x y. ⊥)
  cleared = pairs-none (λ x l. subst (λ (z : List ℕ). get_or z x 0 ≡ 0) (sym clear) (zeroed_first rows names x (omega (arith, p.names_is)) (omega (arith, p.names_is, p.rows_room.room))))

  kept_clear : Keeps 0 (flow_of s).names rows vs
  kept_clear = subst (λ (z : List ℕ). Keeps 0 (flow_of s).names rows z) (sym clear) (keeps-zeroed rows 0 names (omega arith) (omega (arith, p.names_is)))

  rows_of : {us : List ℕ} (P : ℕ → ℕ → Type 0) → Noted (flow_of s) P vs us → ((x y : ℕ) → (x ≡ y → ⊥) → P x y → Interferes (flow_of s) x y)
      → ((x y : ℕ) → x < (flow_of s).names → y < (flow_of s).names → Interferes (flow_of s) x y → P x y) → Rows (flow_of s) rows us
  rows_of P m to from = record { word = row_word p.rows_room.ready P (m.pairs cleared) to from; kept = keeps-trans kept_clear m.kept }

  pub live_rows : {us : List ℕ} → (flow_of s).handler ≡ none → Noted (flow_of s) (Seen (flow_of s) n) vs us → Rows (flow_of s) rows us
  live_rows unkeyed m =
      let r = p.rows_room.ready in
      rows_of (Seen (flow_of s) n) m (λ x y d t. record { different = d; together = seen-together r t }) (λ x y k l i. together-seen r unkeyed k l i.together)

  pub used_rows : {us : List ℕ} {h : ℕ} → (flow_of s).handler ≡ some h → Noted (flow_of s) (BothUsed (flow_of s)) vs us → Rows (flow_of s) rows us
  used_rows keyed m =
      let r = p.rows_room.ready in
      rows_of (BothUsed (flow_of s)) m (λ x y d u. handler-all (ready_formed r) keyed d u.0 u.1) (λ x y k l i. interferes-used (ready_formed r) i)
