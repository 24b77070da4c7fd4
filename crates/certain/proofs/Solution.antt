-- From the entry's set to the sets of all statements: at the start only the entry has elements, a visit keeps the law's invariant, and where nothing waits the sets are those of the walks.
-- Assumes nothing.
use Prim.Native.Nat.{ℕ, ◌+◌, ◌*◌, ◌/◌, ◌<◌, ◌≤◌}
use mathlib.Core.List.Memᴰ
use mathlib.Core.List.{List, [], ◌∷◌}
use mathlib.Core.Logic.{◌⊎◌, inl, inr, ⊎_elim}
use mathlib.Core.Path.{◌≡◌, refl, sym, ◌∙◌, ap, subst}
use native.Mathlib.Decide.{dec_lt, ℕ_discrete}
use native.Mathlib.Omega.{arith}
use lib.ListN.{length, get_or, get_or-eq_default}
use Rattle.std.specs.Prelude.{None}
use Rattle.words.specs.Clauses.Row.{has, SomeMember}
use Rattle.words.specs.Clauses.Change.{zeroed}
use Rattle.words.proofs.Pair.{full_row}
use Rattle.words.proofs.Zeroed.{zeroed-word}
use Rattle.flow.specs.Flow.{Flow, Statement, size, no_statement}
use Rattle.theory.specs.Lists.{In}
use Rattle.theory.specs.Body.{successors}
use Rattle.theory.specs.Certain.{Unwritten}
use Rattle.statements.specs.Clauses.Layout.{row_words}
use Rattle.statements.specs.Clauses.Ready.{Keeps}
use Rattle.statements.proofs.Keeps.{keeps-refl, keeps-trans, keeps-zeroed}
use Rattle.statements.proofs.Members.{zero_has}
use Rattle.solve.specs.Clauses.Sets.{Comes, Leaves}
use Rattle.solve.proofs.Sets.{takes_all, complete}
use Rattle.certain.specs.Clauses.Layout.{set_at, waiting_at, waiting_end, elements}
use Rattle.certain.specs.Clauses.Unwritten.{forward, sets, Waits, Held, Pushed, Begun, Solved}

-- Walks of the law and of the definition

comes-unwritten : {f : Flow} {x i : ℕ} → Comes (forward f) x i → Unwritten f x i
comes-unwritten {f} {x} (Comes.start e) = subst (λ z. Unwritten f x z) (sym e) Unwritten.entry
comes-unwritten (Comes.given e t q g) = absurd g
comes-unwritten (Comes.through e t q p c) = Unwritten.on (comes-unwritten c) p e

unwritten-comes : {f : Flow} {x i : ℕ} → Unwritten f x i → Comes (forward f) x i
unwritten-comes Unwritten.entry = Comes.start refl
unwritten-comes (Unwritten.on u p e) = Comes.through e tt (λ b q. absurd q) p (unwritten-comes u)

-- only a statement has successors
successor_of : (f : Flow) (i j : ℕ) → In i (successors f j) → j < size f
successor_of f i j m = go (dec_lt j (size f))
  where
    go : Dec (j < size f) → j < size f
    go (yes l) = l
    go (no l) = absurd (Memᴰ.not-nil (subst (λ (z : Statement). In i z.successors) (get_or-eq_default f.statements no_statement (omega (arith, l))) m))

-- The start

module _ (ws : List ℕ) (n : ℕ) {vs us : List ℕ} {entry width : ℕ} (l : entry < n) (room : waiting_end n ≤ length ws) (width_is : width ≡ 2 * n + row_words n) (clear : vs ≡ zeroed ws n width)
    (push : Pushed vs us n entry (18446744073709551615 ∷ 18446744073709551615 ∷ [])) where
  empty : (i x : ℕ) → i < n → x < elements → sets vs n i x ≡ 0
  empty i x k m =
      zero_has vs (set_at n i) x
      (let place : n + (2 * i + x / 64) ≡ set_at n i + x / 64 = omega arith in
      ap (λ z. get_or z (set_at n i + x / 64) 0) clear ∙ subst (λ z. get_or (zeroed ws n width) z 0 ≡ 0) place (zeroed-word ws n width (omega arith) (2 * i + x / 64) (omega arith)))

  full : (x : ℕ) → x < elements → sets us n entry x ≡ 1
  full x m = push.joins.gets entry x l m refl (full_row x m)

  pub begun : Begun ws us n entry
  begun = record {
    all = full;
    only = λ i x k m e. ⊎_elim (λ d. absurd (omega (arith, empty i x k m))) (λ t. t.0) (push.joins.from i x k m e);
    waits = ⊎_elim (λ w. w) (λ same. absurd (omega (arith, same 0 (omega arith), empty entry 0 l (omega arith), full 0 (omega arith)))) (push.follows.grows entry l);
    kept = keeps-trans (subst (λ z. Keeps n (waiting_end n) ws z) (sym clear) (keeps-zeroed ws n width (omega arith) (omega arith))) push.kept;
  }

begun_held : (f : Flow) {ws vs : List ℕ} {n entry : ℕ} → entry ≡ f.entry → Begun ws vs n entry → Held f vs n
begun_held f {ws} {vs} {n} {entry} e b = record {
  sound = λ i x l m d. Comes.start (b.only i x l m d ∙ e);
  started = λ i x l m d. subst (λ z. sets vs n z x ≡ 1) (sym (d ∙ sym e)) (b.all x m);
  handed_on = λ j l. hands_on j l (ℕ_discrete j entry);
}
  where
    hands_on : (j : ℕ) → j < n → Dec (j ≡ entry) → Waits vs n j ⊎ ((i x : ℕ) → i < n → x < elements → In i (successors f j) → Leaves (forward f) (sets vs n) j x → sets vs n i x ≡ 1)
    hands_on j l (yes d) = inl (subst (λ z. Waits vs n z) (sym d) b.waits)
    hands_on j l (no d) = inr (λ i x k m t p. ⊎_elim (λ (g : ⊥). absurd g) (λ q. absurd (d (b.only j x l m q.1))) p)

-- The loop

pub record Solving (f : Flow) (ws₀ ws : List ℕ) (n last : ℕ) : Type 0 where
  pub held : Held f ws n
  pub low : last ≤ n
  pub kept : Keeps n (waiting_end n) ws₀ ws

pub solving-first : (f : Flow) {ws vs : List ℕ} {n entry : ℕ} → entry < n → entry ≡ f.entry → Begun ws vs n entry → Solving f vs vs n entry
solving-first f l e b = record { held = begun_held f e b; low = omega arith; kept = keeps-refl }

-- where no statement waits
pub solved : {f : Flow} {ws₀ ws vs : List ℕ} {n last row : ℕ} → size f ≡ n → Keeps n (waiting_end n) ws₀ ws → Solving f ws vs n last → row ≡ waiting_at n → SomeMember vs row n None
    → Solved f ws₀ vs n
solved {f} {vs = vs} {n} size k h e none = record {
  sound = λ a x b m p. comes-unwritten (h.held.sound a x b m p);
  complete = λ a x b m u. complete takes_all h.held (λ j l w. absurd (omega (arith, still j l, w))) (λ c j p. subst (λ z. j < z) size (successor_of f c j p)) b m (unwritten-comes u);
  kept = keeps-trans k h.kept;
}
  where
    still : (j : ℕ) → j < n → has vs (waiting_at n) j ≡ 0
    still = subst (λ z. SomeMember vs z n None) e none
