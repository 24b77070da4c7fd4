-- A row of masks steps word by word: the words of the three sets that are written, and after k words the masks of the arrays in them. The set lies elsewhere, and the row that is stepped
-- lies elsewhere or is the same one: a word of it is read before it is written, so that each is read as it was at first.
use Prim.Native.Nat.{ℕ, ◌+◌, ◌*◌, ◌/◌, ◌%◌, ◌≤◌, ◌<◌, zero-le}
use mathlib.Core.Bool.{Bool, true, false, cond}
use mathlib.Core.List.{List}
use mathlib.Core.Logic.{◌⊎◌, inl, inr, ⊎_elim, ◌≢◌}
use mathlib.Core.Path.{◌≡◌, refl, sym, ap, ap₂, subst, ◌∙◌}
use native.Mathlib.Decide.{dec_lt}
use native.Mathlib.Nat.{add-zero, le_refl}
use native.Mathlib.Omega.{arith}
use lib.Dec.{eqb}
use lib.ListN.{length, get_or, set, length-set}
use lib.Seq.{get_or-set_same, get_or-set_other}
use Rattle.words.specs.Clauses.Row.{bit, has}
use Rattle.masks.specs.declared.Effect.{Effect}
use Rattle.masks.specs.Step.{step_of}
use Rattle.masks.specs.Clauses.Sets.{mask_of, Holders}
use Rattle.masks.proofs.Sets as sets
use Rattle.masks.proofs.Laws.{step-lt}
use Rattle.words.specs.Clauses.Change.{Chosen}
use Rattle.words.proofs.Bit.{bit-lt}
use Rattle.statements.specs.Clauses.Ready.{Keeps}
use Rattle.statements.proofs.Keeps.{keeps-refl, keeps-trans, keeps-word, keeps-set}
use Rattle.solve.specs.Clauses.Rows.{mask_at, RowIs, Beside, Aside, step_where, member, words_set, WordStepped}
use Rattle.solve.proofs.Masks.{mask-words}

module _ (ws : List ℕ) (w row k x y z : ℕ) (l : k < w) where
  words-keeps : Keeps row (row + 3 * w) ws (words_set ws w row k x y z)
  words-keeps =
      keeps-trans (keeps-set ws (row + k) x (omega arith) (omega arith))
      (keeps-trans (keeps-set (set ws (row + k) x) (row + w + k) y (omega arith) (omega arith))
      (keeps-set (set (set ws (row + k) x) (row + w + k) y) (row + 2 * w + k) z (omega arith) (omega arith)))

  words_else : (p : ℕ) → p ≢ row + k → p ≢ row + w + k → p ≢ row + 2 * w + k → get_or (words_set ws w row k x y z) p 0 ≡ get_or ws p 0
  words_else p a b c =
      get_or-set_other (set (set ws (row + k) x) (row + w + k) y) (row + 2 * w + k) p z 0 c
      ∙ get_or-set_other (set ws (row + k) x) (row + w + k) p y 0 b
      ∙ get_or-set_other ws (row + k) p x 0 a

  module _ (fits : row + 3 * w ≤ length ws) where
    words-first : get_or (words_set ws w row k x y z) (row + k) 0 ≡ x
    words-first =
        get_or-set_other (set (set ws (row + k) x) (row + w + k) y) (row + 2 * w + k) (row + k) z 0 (λ e. omega arith)
        ∙ get_or-set_other (set ws (row + k) x) (row + w + k) (row + k) y 0 (λ e. omega arith)
        ∙ get_or-set_same ws (row + k) x 0 (omega arith)

    words-second : get_or (words_set ws w row k x y z) (row + w + k) 0 ≡ y
    words-second =
        get_or-set_other (set (set ws (row + k) x) (row + w + k) y) (row + 2 * w + k) (row + w + k) z 0 (λ e. omega arith)
        ∙ get_or-set_same (set ws (row + k) x) (row + w + k) y 0 (omega (arith, length-set ws (row + k) x))

    words_third : get_or (words_set ws w row k x y z) (row + 2 * w + k) 0 ≡ z
    words_third =
        get_or-set_same (set (set ws (row + k) x) (row + w + k) y) (row + 2 * w + k) z 0
        (omega (arith, length-set ws (row + k) x, length-set (set ws (row + k) x) (row + w + k) y))

-- of 64 arrays those that are chosen step
pub word-masks : {e : Effect} {chosen none auto dimmed hn ha hd rn ra rd : ℕ} → Holders e 0 none auto dimmed hn → Holders e 1 none auto dimmed ha → Holders e 2 none auto dimmed hd
    → Chosen chosen hn none rn → Chosen chosen ha auto ra → Chosen chosen hd dimmed rd
    → (j : ℕ) → j < 64 → let m : ℕ = mask_of (bit none j) (bit auto j) (bit dimmed j) in mask_of (bit rn j) (bit ra j) (bit rd j) ≡ cond (eqb (bit chosen j) 1) (step_of e m) m
word-masks {e} {chosen} {none} {auto} {dimmed} {rn = rn} {ra = ra} {rd = rd} hn ha hd cn ca cd j l =
    let m : ℕ = mask_of (bit none j) (bit auto j) (bit dimmed j) in
    let c : Bool = eqb (bit chosen j) 1 in
    let n : bit rn j ≡ cond c (bit (step_of e m) 0) (bit none j) = cn.member j ∙ ap (λ (v : ℕ). cond c v (bit none j)) (hn.member j l) in
    let a : bit ra j ≡ cond c (bit (step_of e m) 1) (bit auto j) = ca.member j ∙ ap (λ (v : ℕ). cond c v (bit auto j)) (ha.member j l) in
    let d : bit rd j ≡ cond c (bit (step_of e m) 2) (bit dimmed j) = cd.member j ∙ ap (λ (v : ℕ). cond c v (bit dimmed j)) (hd.member j l) in
    let whole : mask_of (bit rn j) (bit ra j) (bit rd j) ≡ mask_of (cond c (bit (step_of e m) 0) (bit none j)) (cond c (bit (step_of e m) 1) (bit auto j)) (cond c (bit (step_of e m) 2) (bit dimmed j)) =
    omega arith in
    whole
    ∙ at (eqb (bit chosen j) 1)
  where
    at : (c : Bool) → mask_of (cond c (bit (step_of e (mask_of (bit none j) (bit auto j) (bit dimmed j))) 0) (bit none j)) (cond c (bit (step_of e (mask_of (bit none j) (bit auto j) (bit dimmed j))) 1) (bit auto j))
        (cond c (bit (step_of e (mask_of (bit none j) (bit auto j) (bit dimmed j))) 2) (bit dimmed j))
        ≡ cond c (step_of e (mask_of (bit none j) (bit auto j) (bit dimmed j))) (mask_of (bit none j) (bit auto j) (bit dimmed j))
    at true = sets.mask_of_bits _ (step-lt e _ (sets.mask_lt _ _ _ (bit-lt none j) (bit-lt auto j) (bit-lt dimmed j)))
    at false = refl

-- the place of one of the three sets in a row
abbrev Third : ℕ → ℕ → Type 0
Third w b = (b ≡ 0) ⊎ ((b ≡ w) ⊎ (b ≡ 2 * w))

third_le : {w b : ℕ} → Third w b → b ≤ 2 * w
third_le (inl e) = omega arith
third_le (inr (inl e)) = omega arith
third_le (inr (inr e)) = omega arith

-- of one row, word q of a set is not word k of a set
third_apart : {w k q b d : ℕ} → k < q → q < w → Third w b → Third w d → b + q ≢ d + k
third_apart l m (inl p) (inl r) e = omega arith
third_apart l m (inl p) (inr (inl r)) e = omega arith
third_apart l m (inl p) (inr (inr r)) e = omega arith
third_apart l m (inr (inl p)) (inl r) e = omega arith
third_apart l m (inr (inl p)) (inr (inl r)) e = omega arith
third_apart l m (inr (inl p)) (inr (inr r)) e = omega arith
third_apart l m (inr (inr p)) (inl r) e = omega arith
third_apart l m (inr (inr p)) (inr (inl r)) e = omega arith
third_apart l m (inr (inr p)) (inr (inr r)) e = omega arith

unwritten : {w to from k q b d : ℕ} → Beside w to from → k < q → q < w → Third w b → Third w d → from + b + q ≢ to + d + k
unwritten (inl (inl s)) l m p r e = omega (arith, third_le p, third_le r)
unwritten (inl (inr s)) l m p r e = omega (arith, third_le p, third_le r)
unwritten (inr s) l m p r e = third_apart l m p r (omega arith)

-- how far the row has stepped
pub record Stepping (ws₀ : List ℕ) (w to from set : ℕ) (e : Effect) (ws : List ℕ) (k : ℕ) : Type 0 where
  pub some : k ≤ w
  pub keeps : Keeps to (to + 3 * w) ws₀ ws
  pub masks : (a : ℕ) → a < 64 * k → mask_at ws w to a ≡ step_where (member ws₀ set) e (mask_at ws₀ w from) a
  pub unread : (b q : ℕ) → Third w b → k ≤ q → q < w → get_or ws (from + b + q) 0 ≡ get_or ws₀ (from + b + q) 0

pub stepping_none : {ws : List ℕ} {w to from set : ℕ} {e : Effect} → Stepping ws w to from set e ws 0
stepping_none = record { some = zero-le; keeps = keeps-refl; masks = λ a l. absurd (omega arith); unread = λ b q p l m. refl }

pub stepping_more : {ws₀ ws vs : List ℕ} {w to from set k : ℕ} {e : Effect} → Stepping ws₀ w to from set e ws k → k < w → Aside w set to → to + 3 * w ≤ length ws₀
    → Beside w to from → WordStepped ws vs w to from k (get_or ws (set + k) 0) e → Stepping ws₀ w to from set e vs (k + 1)
unfolding mask_at step_where member has
stepping_more {ws₀} {ws} {vs} {w} {to} {from} {set} {k} {e} s l aside fits apart x = record {
  some = omega arith;
  keeps = keeps-trans s.keeps (subst (Keeps to (to + 3 * w) ws) (sym x.slice) (words-keeps ws w to k x.none x.auto x.dimmed l));
  masks = λ a m. at a m (dec_lt a (64 * k));
  unread = λ b q p m n.
      written _ _ (words_else ws w to k x.none x.auto x.dimmed l (from + b + q)
      (λ y. unwritten apart (omega arith) n p (inl refl) (y ∙ ap (λ z. z + k) (sym (add-zero to))))
      (unwritten apart (omega arith) n p (inr (inl refl)))
      (unwritten apart (omega arith) n p (inr (inr refl))))
      ∙ s.unread b q p (omega arith) n;
}
  where
    room : to + 3 * w ≤ length ws
    room = omega (arith, s.keeps.size)

    written : (p v : ℕ) → get_or (words_set ws w to k x.none x.auto x.dimmed) p 0 ≡ v → get_or vs p 0 ≡ v
    written p v h = ap (λ (us : List ℕ). get_or us p 0) x.slice ∙ h

    chosen : get_or ws (set + k) 0 ≡ get_or ws₀ (set + k) 0
    chosen = keeps-word s.keeps (set + k) (λ p q. ⊎_elim (λ d. omega arith) (λ d. omega arith) aside)

    at : (a : ℕ) → a < 64 * (k + 1) → Dec (a < 64 * k) → mask_at vs w to a ≡ step_where (member ws₀ set) e (mask_at ws₀ w from) a
    at a m (yes b) =
        mask-words ws vs w to a (written _ _ (words_else ws w to k x.none x.auto x.dimmed l (to + a / 64) (λ q. omega arith) (λ q. omega arith) (λ q. omega arith)))
        (written _ _ (words_else ws w to k x.none x.auto x.dimmed l (to + w + a / 64) (λ q. omega arith) (λ q. omega arith) (λ q. omega arith)))
        (written _ _ (words_else ws w to k x.none x.auto x.dimmed l (to + 2 * w + a / 64) (λ q. omega arith) (λ q. omega arith) (λ q. omega arith)))
        ∙ s.masks a b
    at a m (no b) =
        let word : a / 64 ≡ k = omega (arith, b) in
        let j : ℕ = a % 64 in
        let first : get_or vs (to + a / 64) 0 ≡ x.none = ap (λ (q : ℕ). get_or vs (to + q) 0) word ∙ written _ _ (words-first ws w to k x.none x.auto x.dimmed l room) in
        let second : get_or vs (to + w + a / 64) 0 ≡ x.auto = ap (λ (q : ℕ). get_or vs (to + w + q) 0) word ∙ written _ _ (words-second ws w to k x.none x.auto x.dimmed l room) in
        let third : get_or vs (to + 2 * w + a / 64) 0 ≡ x.dimmed = ap (λ (q : ℕ). get_or vs (to + 2 * w + q) 0) word ∙ written _ _ (words_third ws w to k x.none x.auto x.dimmed l room) in
        let none : get_or ws (from + k) 0 ≡ get_or ws₀ (from + a / 64) 0 =
        sym (ap (λ (q : ℕ). get_or ws (q + k) 0) (add-zero from)) ∙ s.unread 0 k (inl refl) (le_refl k) l ∙ ap (λ (q : ℕ). get_or ws₀ (q + k) 0) (add-zero from) ∙ ap (λ (q : ℕ). get_or ws₀ (from + q) 0) (sym word) in
        let auto : get_or ws (from + w + k) 0 ≡ get_or ws₀ (from + w + a / 64) 0 = s.unread w k (inr (inl refl)) (le_refl k) l ∙ ap (λ (q : ℕ). get_or ws₀ (from + w + q) 0) (sym word) in
        let dimmed : get_or ws (from + 2 * w + k) 0 ≡ get_or ws₀ (from + 2 * w + a / 64) 0 = s.unread (2 * w) k (inr (inr refl)) (le_refl k) l ∙ ap (λ (q : ℕ). get_or ws₀ (from + 2 * w + q) 0) (sym word) in
        let which : get_or ws (set + k) 0 ≡ get_or ws₀ (set + a / 64) 0 = chosen ∙ ap (λ (q : ℕ). get_or ws₀ (set + q) 0) (sym word) in
        let same : mask_of (bit (get_or vs (to + a / 64) 0) j) (bit (get_or vs (to + w + a / 64) 0) j) (bit (get_or vs (to + 2 * w + a / 64) 0) j) ≡ mask_of (bit x.none j) (bit x.auto j) (bit x.dimmed j) =
        omega (arith, ap (λ (v : ℕ). bit v j) first, ap (λ (v : ℕ). bit v j) second, ap (λ (v : ℕ). bit v j) third) in
        let from' : mask_of (bit (get_or ws (from + k) 0) j) (bit (get_or ws (from + w + k) 0) j) (bit (get_or ws (from + 2 * w + k) 0) j) ≡ mask_at ws₀ w from a =
        omega (arith, ap (λ (v : ℕ). bit v j) none, ap (λ (v : ℕ). bit v j) auto, ap (λ (v : ℕ). bit v j) dimmed) in
        same ∙ x.masks j (omega arith)
        ∙ ap₂ (λ (c v : ℕ). cond (eqb c 1) (step_of e v) v) (ap (λ (v : ℕ). bit v j) which) from'

pub stepping_all : {ws₀ ws : List ℕ} {w to from set k : ℕ} {e : Effect} → Stepping ws₀ w to from set e ws k → k ≡ w
    → RowIs ws₀ ws w to (step_where (member ws₀ set) e (mask_at ws₀ w from))
stepping_all s q = record { keeps = s.keeps; masks = λ a l. s.masks a (omega arith) }
