-- The rows of a proposal as the solver's rows of masks: a row is loaded a word of its three sets at a time, or joined from the row before it where the bytes are the same, and the rows one after the other. A mask below 8 is that of its
-- three bits.
use Prim.Native.Nat.{ℕ, suc, ◌+◌, ◌-◌, ◌*◌, ◌/◌, ◌%◌, ◌≤◌, ◌<◌, min, zero-le}
use mathlib.Core.Bool.{Bool, cond}
use mathlib.Core.List.{List}
use mathlib.Core.Logic.{◌≢◌, inr}
use mathlib.Core.Path.{◌≡◌, refl, sym, ap, subst, ◌∙◌}
use native.Mathlib.Decide.{dec_lt}
use native.Mathlib.Nat.{le_refl, one-mul, mul-le-mul_right, mul_assoc, suc-mul, mul-zero}
use native.Mathlib.Omega.{arith}
use borrow.Author.Tests.{lt-ltb, le-ltb}
use lib.Dec.{ltb}
use lib.Bits.{bit_or, bit_xor, or_zero_l}
use lib.ListN.{length, get_or, set, length-set}
use lib.Seq.{get_or-set_same, get_or-set_other}
use Rattle.std.specs.List.{between}
use Rattle.std.proofs.lemmas.List.Edits.{length-between, get_or-between}
use Rattle.words.specs.Clauses.Row.{bit, has}
use Rattle.words.specs.Clauses.Change.{Unioned}
use Rattle.masks.specs.Clauses.Sets.{mask_of}
use Rattle.masks.proofs.Sets as sets
use Rattle.statements.specs.Clauses.Layout.{set_words}
use Rattle.statements.specs.Clauses.Ready.{Keeps}
use Rattle.statements.proofs.Keeps.{keeps-refl, keeps-trans, keeps_widen, keeps-set, keeps-unioned}
use Rattle.solve.specs.Clauses.Layout.{mask_row_at, state_at, waits_in, settled_in, nodes_end}
use Rattle.solve.specs.Clauses.Rows.{mask_at, RowIs}
use Rattle.solve.specs.Clauses.Pushed.{masks_at}
use Rattle.solve.proofs.Room.{rows_apart}
use Rattle.solve.proofs.Masks.{mask-cong, unioned-mask}
use Rattle.solve.proofs.Growing.{source_first}
use Rattle.dataflow.specs.Clauses.Sent.{masks_below}
use Rattle.dataflow.proofs.Sharing.{zero-mask}
use Rattle.theory.specs.Queue.{union_below}
use Rattle.accept.specs.Clauses.Bytes.{Masks}
use Rattle.accept.specs.Clauses.Rows.{SetOf, SetsOf, row_of, LoadedBefore, Unloaded, Loaded}
use Rattle.accept.proofs.Filled.{union_most, apart_none}

-- A row, a word of its three sets at a time

-- whether the mask of array a has the state of bit t
abbrev plane : List ℕ → ℕ → ℕ → ℕ
plane s t a = cond (ltb a (length s)) (bit (get_or s a 0) t) 0

-- the bytes of word k
pub record WordOf (s q : List ℕ) (k : ℕ) : Type 0 where
  pub size : length q ≡ min 64 (length s - 64 * k)
  pub same : (j : ℕ) → j < length q → get_or q j 0 ≡ get_or s (64 * k + j) 0

pub word-of : (s : List ℕ) (k count : ℕ) → count ≡ min 64 (length s - 64 * k) → 64 * k ≤ length s → WordOf s (between (64 * k) (64 * k + count) s) k
word-of s k count e l = record {
  size = length-between s (64 * k) (64 * k + count) (omega arith) ∙ omega arith;
  same = λ j m. get_or-between s (64 * k) (64 * k + count) j 0 (omega (arith, length-between s (64 * k) (64 * k + count) (omega arith)));
}

-- the first k words are loaded
pub record RowLoading (s ws vs : List ℕ) (row w k : ℕ) : Type 0 where
  pub some : k ≤ w
  pub none : (a : ℕ) → a < 64 * k → has vs row a ≡ plane s 0 a
  pub auto : (a : ℕ) → a < 64 * k → has vs (row + w) a ≡ plane s 1 a
  pub dimmed : (a : ℕ) → a < 64 * k → has vs (row + 2 * w) a ≡ plane s 2 a
  pub keeps : Keeps row (row + 3 * w) ws vs

pub loading_none : {s ws : List ℕ} {row w : ℕ} → RowLoading s ws ws row w 0
loading_none = record { some = zero-le; none = λ a l. absurd (omega arith); auto = λ a l. absurd (omega arith); dimmed = λ a l. absurd (omega arith); keeps = keeps-refl }

-- one word more of one of the sets
plane-more : (s q vs os : List ℕ) (to t k word : ℕ) → get_or os (to + k) 0 ≡ word → ((q : ℕ) → q < k → get_or os (to + q) 0 ≡ get_or vs (to + q) 0)
    → WordOf s q k → SetOf q t 0 word → ((a : ℕ) → a < 64 * k → has vs to a ≡ plane s t a)
    → (a : ℕ) → a < 64 * (k + 1) → has os to a ≡ plane s t a
unfolding has
plane-more s q vs os to t k word here others part is before a m = go (dec_lt a (64 * k))
  where
    within : (j : ℕ) → 64 * k + j ≡ a → j < 64 → Dec (a < length s) → cond (ltb (0 + j) (length q)) (bit (get_or q (0 + j) 0) t) 0 ≡ plane s t a
    within j e b (yes c) =
        let own : get_or q (0 + j) 0 ≡ get_or s a 0 = part.same (0 + j) (omega (arith, part.size)) ∙ ap (λ (x : ℕ). get_or s x 0) (omega arith) in
        rw (lt-ltb (0 + j) (length q) (omega (arith, part.size)), lt-ltb a (length s) c) (ap (λ (x : ℕ). bit x t) own)
    within j e b (no c) = rw (le-ltb (0 + j) (length q) (omega (arith, part.size, c)), le-ltb a (length s) (omega (arith, c))) refl

    go : Dec (a < 64 * k) → has os to a ≡ plane s t a
    go (yes b) = ap (λ (y : ℕ). bit y (a % 64)) (others (a / 64) (omega arith)) ∙ before a b
    go (no b) =
        let j : ℕ = a % 64 in
        let word_is : a / 64 ≡ k = omega (arith, b) in
        let array : 64 * k + j ≡ a = omega (arith, b) in
        ap (λ (y : ℕ). bit y j) (ap (λ (q : ℕ). get_or os (to + q) 0) word_is ∙ here)
        ∙ is j (omega arith)
        ∙ within j array (omega arith) (dec_lt a (length s))

pub loading_more : {s q ws vs : List ℕ} {row w k : ℕ} (x y z : ℕ) → RowLoading s ws vs row w k → k < w → row + 3 * w ≤ length ws → WordOf s q k
    → SetsOf q 0 x y z → RowLoading s ws (set (set (set vs (row + k) x) (row + w + k) y) (row + 2 * w + k) z) row w (k + 1)
loading_more {s} {q} {ws} {vs} {row} {w} {k} x y z h l room part is = record {
  some = omega arith;
  none = plane-more s q vs os row 0 k x (third (row + k) (λ e. omega arith) ∙ second (row + k) (λ e. omega arith) ∙ get_or-set_same vs (row + k) x 0 (omega arith)) (λ q m. else (row + q) (λ e. omega arith) (λ e. omega arith) (λ e. omega arith)) part is.none_is h.none;
  auto = plane-more s q vs os (row + w) 1 k y (third (row + w + k) (λ e. omega arith) ∙ get_or-set_same (set vs (row + k) x) (row + w + k) y 0 (omega (arith, length-set vs (row + k) x))) (λ q m. else (row + w + q) (λ e. omega arith) (λ e. omega arith) (λ e. omega arith)) part is.auto_is h.auto;
  dimmed = plane-more s q vs os (row + 2 * w) 2 k z (get_or-set_same (set (set vs (row + k) x) (row + w + k) y) (row + 2 * w + k) z 0 (omega (arith, length-set vs (row + k) x, length-set (set vs (row + k) x) (row + w + k) y))) (λ q m. else (row + 2 * w + q) (λ e. omega arith) (λ e. omega arith) (λ e. omega arith)) part is.dimmed_is h.dimmed;
  keeps = keeps-trans h.keeps
      (keeps-trans (keeps-set vs (row + k) x (omega arith) (omega arith))
      (keeps-trans (keeps-set (set vs (row + k) x) (row + w + k) y (omega arith) (omega arith))
      (keeps-set (set (set vs (row + k) x) (row + w + k) y) (row + 2 * w + k) z (omega arith) (omega arith))));
}
  where
    os : List ℕ
    os = set (set (set vs (row + k) x) (row + w + k) y) (row + 2 * w + k) z

    size : length vs ≡ length ws
    size = h.keeps.size

    third : (p : ℕ) → p ≢ row + 2 * w + k → get_or os p 0 ≡ get_or (set (set vs (row + k) x) (row + w + k) y) p 0
    third p n = get_or-set_other (set (set vs (row + k) x) (row + w + k) y) (row + 2 * w + k) p z 0 n

    second : (p : ℕ) → p ≢ row + w + k → get_or (set (set vs (row + k) x) (row + w + k) y) p 0 ≡ get_or (set vs (row + k) x) p 0
    second p n = get_or-set_other (set vs (row + k) x) (row + w + k) p y 0 n

    else : (p : ℕ) → p ≢ row + k → p ≢ row + w + k → p ≢ row + 2 * w + k → get_or os p 0 ≡ get_or vs p 0
    else p a b c = third p c ∙ second p b ∙ get_or-set_other vs (row + k) p x 0 a

pub loading_all : {s ws vs : List ℕ} {row w k : ℕ} → RowLoading s ws vs row w k → k ≡ w → Masks s (length s) → RowIs ws vs w row (masks_below (length s) (λ a. get_or s a 0))
unfolding mask_at masks_below
loading_all {s} {ws} {vs} {row} {w} x whole masks = record {
  keeps = x.keeps;
  masks = λ a l.
      let all : mask_of (has vs row a) (has vs (row + w) a) (has vs (row + 2 * w) a) ≡ mask_of (plane s 0 a) (plane s 1 a) (plane s 2 a) =
      omega (arith, x.none a (omega arith), x.auto a (omega arith), x.dimmed a (omega arith)) in
      all ∙ go a (dec_lt a (length s));
}
  where
    go : (a : ℕ) → Dec (a < length s) → mask_of (plane s 0 a) (plane s 1 a) (plane s 2 a) ≡ cond (ltb a (length s)) (get_or s a 0) 0
    go a (yes l) = rw (lt-ltb a (length s) l) (sets.mask_of_bits (get_or s a 0) (masks.below a l))
    go a (no l) = rw (le-ltb a (length s) (omega (arith, l)))

-- a row that was cut out of the proposal is that of its number
pub loaded_row : (s q : List ℕ) (d : ℕ) {ws vs : List ℕ} {w row arrays : ℕ} → length q ≡ arrays → ((a : ℕ) → a < arrays → get_or q a 0 ≡ row_of s arrays d a)
    → RowIs ws vs w row (masks_below (length q) (λ a. get_or q a 0)) → RowIs ws vs w row (masks_below arrays (row_of s arrays d))
unfolding masks_below
loaded_row s q d {arrays = arrays} size same x = record { keeps = x.keeps; masks = λ a l. x.masks a l ∙ ap (λ (n : ℕ). cond (ltb a n) (get_or q a 0) 0) size ∙ go a (dec_lt a arrays) }
  where
    go : (a : ℕ) → Dec (a < arrays) → cond (ltb a arrays) (get_or q a 0) 0 ≡ cond (ltb a arrays) (row_of s arrays d a) 0
    go a (yes l) = ap (λ (v : ℕ). cond (ltb a arrays) v 0) (same a l)
    go a (no l) = ap (λ (b : Bool). cond b (get_or q a 0) 0) (le-ltb a arrays (omega (arith, l))) ∙ sym (ap (λ (b : Bool). cond b (row_of s arrays d a) 0) (le-ltb a arrays (omega (arith, l))))

-- A row whose bytes are those of the row before it: the masks there are joined to its own, which are still zero
pub repeated : {s ws vs : List ℕ} {n w arrays d : ℕ} {r : Bool} → d < 2 * n → 0 < d → nodes_end n w ≤ length ws → LoadedBefore s ws n w arrays d
    → ((a : ℕ) → a < arrays → row_of s arrays d a ≡ row_of s arrays (d - 1) a) → Unioned ws vs (mask_row_at n w d) (mask_row_at n w (d - 1)) (3 * w) r → RowIs ws vs w (mask_row_at n w d) (masks_below arrays (row_of s arrays d))
unfolding masks_below
repeated {s} {ws} {vs} {n} {w} {arrays} {d} low some room x same u = record {
  keeps = subst (Keeps (mask_row_at n w d) (mask_row_at n w d + 3 * w) ws) (sym u.slice) (keeps-unioned ws (mask_row_at n w d) (mask_row_at n w (d - 1)) (3 * w) (omega arith) (omega arith));
  masks = λ a l.
      ap (λ (us : List ℕ). mask_at us w (mask_row_at n w d) a) u.slice
      ∙ unioned-mask ws w (mask_row_at n w d) (mask_row_at n w (d - 1)) (let fits = rows_apart n w low in omega arith) (source_first n w (mask_row_at n w (d - 1)) d (inr (d - 1, omega arith, refl))) a l
      ∙ ap (λ (m : ℕ). bit_or m (masks_at ws n w (d - 1) a)) (zero-mask ws w (mask_row_at n w d) a l (λ y lo hi. x.unloaded y lo (let fits = rows_apart n w low in omega arith)))
      ∙ or_zero_l (masks_at ws n w (d - 1) a) ∙ x.before a some l ∙ go a (dec_lt a arrays);
}
  where
    go : (a : ℕ) → Dec (a < arrays) → cond (ltb a arrays) (row_of s arrays (d - 1) a) 0 ≡ cond (ltb a arrays) (row_of s arrays d a) 0
    go a (yes l) = ap (λ (v : ℕ). cond (ltb a arrays) v 0) (sym (same a l))
    go a (no l) = ap (λ (b : Bool). cond b (row_of s arrays (d - 1) a) 0) (le-ltb a arrays (omega (arith, l))) ∙ sym (ap (λ (b : Bool). cond b (row_of s arrays d a) 0) (le-ltb a arrays (omega (arith, l))))

-- the row before
pub row_before : (d arrays : ℕ) → 0 < d → d * arrays - arrays ≡ (d - 1) * arrays
row_before Prim.Native.Nat.zero arrays l = elim l [ ]
row_before (suc d) arrays l = let e : d ≡ suc d - 1 = omega arith in let less : suc d * arrays - arrays ≡ d * arrays = omega (arith, suc-mul d arrays) in less ∙ ap (λ (x : ℕ). x * arrays) e

-- The rows one after the other

-- the row of d lies within the proposal
pub row-room : {s : List ℕ} (n arrays : ℕ) {d : ℕ} → Masks s (2 * (n * arrays)) → d < 2 * n → d * arrays + arrays ≤ 2 * (n * arrays)
row-room {s} n arrays {d} m l = omega (arith, mul-le-mul_right arrays l, suc-mul d arrays, mul_assoc 2 n arrays)

pub row-at : (s : List ℕ) (arrays d : ℕ) (a : ℕ) → a < arrays → get_or (between (d * arrays) (d * arrays + arrays) s) a 0 ≡ row_of s arrays d a
row-at s arrays d a l = get_or-between s (d * arrays) (d * arrays + arrays) a 0 (omega arith)

pub row-size : {s : List ℕ} (n arrays : ℕ) {d : ℕ} → Masks s (2 * (n * arrays)) → d < 2 * n → length (between (d * arrays) (d * arrays + arrays) s) ≡ arrays
row-size {s} n arrays {d} m l = length-between s (d * arrays) (d * arrays + arrays) (omega (arith, row-room n arrays m l, m.room)) ∙ omega arith

-- no bit is another in the row before
pub repeats : {s : List ℕ} (n arrays : ℕ) {d : ℕ} → Masks s (2 * (n * arrays)) → d < 2 * n → 0 < d
    → let before : List ℕ = between (d * arrays - arrays) (d * arrays) s in
    let own : List ℕ = between (d * arrays) (d * arrays + arrays) s in
    union_below (length before) (λ k. bit_xor (get_or before k 0) (get_or own k 0)) ≡ 0 → (a : ℕ) → a < arrays → row_of s arrays d a ≡ row_of s arrays (d - 1) a
repeats {s} n arrays {d} m l some none a b =
    let before : List ℕ = between (d * arrays - arrays) (d * arrays) s in
    let own : List ℕ = between (d * arrays) (d * arrays + arrays) s in
    let least : arrays ≤ d * arrays = subst (λ (x : ℕ). x ≤ d * arrays) (one-mul arrays) (mul-le-mul_right arrays some) in
    let size : length before ≡ arrays = length-between s (d * arrays - arrays) (d * arrays) (omega (arith, row-room n arrays m l, m.room)) ∙ omega arith in
    let bit : bit_xor (get_or before a 0) (get_or own a 0) ≡ 0 = omega (arith, union_most (length before) (λ k. bit_xor (get_or before k 0) (get_or own k 0)) a (omega arith), none) in
    sym (row-at s arrays d a b) ∙ sym (apart_none (get_or before a 0) (get_or own a 0) bit)
    ∙ get_or-between s (d * arrays - arrays) (d * arrays) a 0 (omega arith) ∙ ap (λ (x : ℕ). get_or s (x + a) 0) (row_before d arrays some)

pub row-masks : {s : List ℕ} (n arrays : ℕ) {d : ℕ} → Masks s (2 * (n * arrays)) → d < 2 * n → Masks (between (d * arrays) (d * arrays + arrays) s) (length (between (d * arrays) (d * arrays + arrays) s))
row-masks {s} n arrays {d} m l =
    let size = row-size n arrays m l in
    record { room = le_refl _; below = λ a b. let low : a < arrays = omega (arith, size, b) in subst (λ (x : ℕ). x < 8) (sym (row-at s arrays d a low)) (m.below (d * arrays + a) (omega (arith, row-room n arrays m l))) }

pub rows_none : {s ws : List ℕ} {n arrays : ℕ} → Loaded s ws ws n arrays 0
rows_none = record { masks = λ d a l. absurd (omega arith); settled = λ d l. absurd (omega arith); waits = λ d l. absurd (omega arith); keeps = keeps-refl }

-- what the next row is loaded from
pub loaded_before : {s ws us : List ℕ} {n arrays k : ℕ} → Loaded s ws us n arrays k → k ≤ 2 * n → Unloaded ws n (set_words arrays) 0 → LoadedBefore s us n (set_words arrays) arrays k
loaded_before {n = n} {arrays = arrays} {k = k} x low h = record {
  unloaded = λ y lo hi. x.keeps.above y lo ∙ h y (let first = mul-zero (set_words arrays) in omega arith) hi;
  before = λ a some l. x.masks (k - 1) a (omega arith) l;
}

module _ {s ws us vs : List ℕ} {n arrays k : ℕ} (x : Loaded s ws us n arrays k) (low : k < 2 * n) (room : nodes_end n (set_words arrays) ≤ length ws)
    (row : RowIs us vs (set_words arrays) (mask_row_at n (set_words arrays) k) (masks_below arrays (row_of s arrays k))) where
  abbrev w : ℕ
  w = set_words arrays

  abbrev os : List ℕ
  os = set vs (state_at n w k) (waits_in vs n w k + 2)

  state-at : get_or os (state_at n w k) 0 ≡ waits_in us n w k + 2
  state-at =
      let fits = rows_apart n w low in
      let a = row.keeps.size in
      let b = x.keeps.size in
      get_or-set_same vs (state_at n w k) (waits_in vs n w k + 2) 0 (omega arith) ∙ ap (λ (y : ℕ). y % 2 + 2) (row.keeps.above (state_at n w k) (omega arith))

  step_keeps : Keeps (mask_row_at n w k) (state_at n w k + 1) us os
  step_keeps = keeps-trans (keeps_widen (omega arith) (omega arith) row.keeps) (keeps-set vs (state_at n w k) (waits_in vs n w k + 2) (omega arith) (omega arith))

  -- the words of the numbers before stay
  earlier : (d y : ℕ) → d < k → y < state_at n w d + 1 → get_or os y 0 ≡ get_or us y 0
  earlier d y l m = step_keeps.below y (let far = rows_apart n w l in omega arith)

  was : waits_in us n w k ≡ waits_in ws n w k
  was = ap (λ (y : ℕ). y % 2) (x.keeps.above (state_at n w k) (omega arith))

  pub rows_more : Loaded s ws os n arrays (k + 1)
  rows_more = record {
    masks = λ d a l m. masks d a m (dec_lt d k) l;
    settled = λ d l. settled d (dec_lt d k) l;
    waits = λ d l. waits d (dec_lt d k) l;
    keeps = keeps-trans (keeps_widen (omega arith) (let far = rows_apart n w {d = k} {k = k + 1} (omega arith) in omega arith) x.keeps) (keeps_widen (let first = rows-from in omega arith) (let far = rows_apart n w {d = k} {k = k + 1} (omega arith) in omega arith) step_keeps);
  }
    where
      rows-from : mask_row_at n w 0 ≤ mask_row_at n w k
      rows-from = omega (arith, mul-zero w)

      masks : (d a : ℕ) → a < 64 * w → Dec (d < k) → d < k + 1 → masks_at os n w d a ≡ masks_below arrays (row_of s arrays d) a
      masks d a m (yes b) l = mask-cong us os w (mask_row_at n w d) a m (λ y lo hi. earlier d y b (omega arith)) ∙ x.masks d a b m
      masks d a m (no b) l =
          let e : d ≡ k = omega (arith, b) in
          subst (λ (y : ℕ). masks_at os n w y a ≡ masks_below arrays (row_of s arrays y) a) (sym e)
          (mask-cong vs os w (mask_row_at n w k) a m (λ y lo hi. get_or-set_other vs (state_at n w k) y (waits_in vs n w k + 2) 0 (λ q. omega arith)) ∙ row.masks a m)

      settled : (d : ℕ) → Dec (d < k) → d < k + 1 → settled_in os n w d ≡ 1
      settled d (yes b) l = ap (λ (y : ℕ). y / 2) (earlier d (state_at n w d) b (omega arith)) ∙ x.settled d b
      settled d (no b) l =
          let e : d ≡ k = omega (arith, b) in
          subst (λ (y : ℕ). settled_in os n w y ≡ 1) (sym e) (ap (λ (y : ℕ). y / 2) state-at ∙ omega arith)

      waits : (d : ℕ) → Dec (d < k) → d < k + 1 → waits_in os n w d ≡ waits_in ws n w d
      waits d (yes b) l = ap (λ (y : ℕ). y % 2) (earlier d (state_at n w d) b (omega arith)) ∙ x.waits d b
      waits d (no b) l =
          let e : d ≡ k = omega (arith, b) in
          subst (λ (y : ℕ). waits_in os n w y ≡ waits_in ws n w y) (sym e) (ap (λ (y : ℕ). y % 2) state-at ∙ omega arith ∙ was)
