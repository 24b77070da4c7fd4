-- A row of masks joined to another: each mask is united, the number is settled no more where some mask is another, and every other word stays.
-- By the union of rows of masks, which are one or lie apart.
use Prim.Native.Nat.{ℕ, ◌+◌, ◌*◌, ◌/◌, ◌%◌, ◌≤◌, ◌<◌}
use mathlib.Core.Bool.{Bool, true, false, cond}
use mathlib.Core.List.{List}
use mathlib.Core.Logic.{◌≢◌, inl, inr}
use mathlib.Core.Path.{◌≡◌, refl, sym, ap, subst, ◌∙◌}
use native.Mathlib.Decide.{dec_lt, ℕ_discrete}
use native.Mathlib.Omega.{arith}
use lib.Bits.{bit_or}
use lib.ListN.{length, get_or, set}
use lib.Seq.{get_or-set_same, get_or-set_other}
use Rattle.words.specs.Clauses.Row.{Words}
use Rattle.words.specs.Clauses.Change.{unioned, Unioned, ReadFirst}
use Rattle.words.proofs.Unioned.{words-unioned, union_same}
use Rattle.theory.specs.Lists.{differ}
use Rattle.statements.specs.Clauses.Ready.{Keeps}
use Rattle.statements.proofs.Keeps.{keeps-set, keeps-unioned, keeps-trans, keeps-refl, keeps_widen}
use Rattle.solve.specs.declared.Queue.{Queue}
use Rattle.solve.specs.Clauses.Layout.{mask_row_at, state_at, waits_in, settled_in, nodes_end}
use Rattle.solve.specs.Clauses.Rows.{mask_at}
use Rattle.solve.specs.Clauses.Waiting.{Waits, Enqueued, unsettled}
use Rattle.solve.specs.Clauses.Pushed.{masks_at, Source, Grown, Pushed}
use Rattle.solve.proofs.Room.{rows_apart, row_from, row_first, row_fits, not-state}
use Rattle.solve.proofs.Masks.{mask-cong, unioned-mask, differs-masks, differ_as}
use Rattle.solve.proofs.Waiting.{rest-keeps, waits_kept}

-- the masks of a number stay where the words from the first row on do
pub masks_kept : (ws vs : List ℕ) (n w : ℕ) → ((x : ℕ) → mask_row_at n w 0 ≤ x → x < nodes_end n w → get_or vs x 0 ≡ get_or ws x 0)
    → (t a : ℕ) → t < 2 * n → a < 64 * w → masks_at vs n w t a ≡ masks_at ws n w t a
masks_kept ws vs n w h t a l m =
    mask-cong ws vs w (mask_row_at n w t) a m (λ x lo hi. h x (let low = row_from n w t in let first = row_first n w in omega arith) (let fits = row_fits n w l in omega arith))

-- a row that may be pushed is read before it is written
pub source_first : (n w from d : ℕ) → Source n w from → ReadFirst (mask_row_at n w d) from (3 * w)
source_first n w from d (inl s) j k lt l e = let low = row_from n w d in omega arith
source_first n w from d (inr s) j k lt l e = go (dec_lt s.0 d) (dec_lt d s.0)
  where
    at : from ≡ mask_row_at n w s.0
    at = s.2

    go : Dec (s.0 < d) → Dec (d < s.0) → ⊥
    go (yes b) c = let far = rows_apart n w b in omega (arith, at)
    go (no b) (yes c) = let far = rows_apart n w c in omega (arith, at)
    go (no b) (no c) = let same : s.0 ≡ d = omega (arith, b, c) in let here : mask_row_at n w s.0 ≡ mask_row_at n w d = rw same in omega (arith, at)

pub source_fits : (n w from : ℕ) → Source n w from → from + 3 * w ≤ nodes_end n w
source_fits n w from (inl s) = omega (arith, row_from n w (2 * n), row_first n w)
source_fits n w from (inr s) = omega (arith, row_fits n w s.1, s.2)

-- what a number's own words are keeps those of another
module _ (n w d : ℕ) {ws vs : List ℕ} (k : Keeps (mask_row_at n w d) (state_at n w d + 1) ws vs) where
  pub other_word : (e : ℕ) → e ≢ d → (x : ℕ) → mask_row_at n w e ≤ x → x < state_at n w e + 1 → get_or vs x 0 ≡ get_or ws x 0
  other_word e ne x lo hi = go (dec_lt e d)
    where
      go : Dec (e < d) → get_or vs x 0 ≡ get_or ws x 0
      go (yes b) = k.below x (let far = rows_apart n w b in omega arith)
      go (no b) = let less : d < e = omega (arith, b, ne) in let far = rows_apart n w less in k.above x (omega arith)

  -- the queue goes by other words, and by whether the number itself waits
  module _ (own : waits_in vs n w d ≡ waits_in ws n w d) where
    same_flag : (e : ℕ) → Dec (e ≡ d) → waits_in vs n w e ≡ waits_in ws n w e
    same_flag e (yes q) = ap (waits_in vs n w) q ∙ own ∙ sym (ap (waits_in ws n w) q)
    same_flag e (no q) = ap (λ z. z % 2) (other_word e q (state_at n w e) (omega arith) (omega arith))

    pub waits-grown : {queue : Queue} {l : List ℕ} → Waits ws n w queue l → Waits vs n w queue l
    waits-grown h = waits_kept h (λ x lo hi. k.below x (let low = row_from n w d in omega arith)) (λ e m. same_flag e (ℕ_discrete e d))

module _ (ws : List ℕ) (n w from d : ℕ) (room : nodes_end n w ≤ length ws) (below : d < 2 * n) (source : Source n w from) (ww : Words ws) where
  abbrev to : ℕ
  to = mask_row_at n w d

  united : (us : List ℕ) → us ≡ unioned ws to from (3 * w) → (a : ℕ) → a < 64 * w → masks_at us n w d a ≡ bit_or (masks_at ws n w d a) (mask_at ws w from a)
  united us is a l =
      ap (λ (l : List ℕ). mask_at l w to a) is
      ∙ unioned-mask ws w to from (let fits = row_fits n w below in omega arith) (source_first n w from d source) a l

  differ-is : {us : List ℕ} {r : Bool} → Unioned ws us to from (3 * w) r → r ≡ differ (64 * w) (masks_at us n w d) (masks_at ws n w d)
  differ-is {us} u =
      u.grew ∙ differs-masks ws us w to ww (subst Words (sym u.slice) (words-unioned ws to from (3 * w) ww))

  pub grown-not : {us : List ℕ} → Unioned ws us to from (3 * w) false → Grown ws us n w from d
  grown-not {us} u =
      let same : us ≡ ws = union_same u refl in
      record {
        masks = united us u.slice;
        settled = ap (λ (l : List ℕ). settled_in l n w d) same ∙ ap (λ (b : Bool). cond b 0 (settled_in ws n w d)) (differ-is u);
        waits = ap (λ (l : List ℕ). waits_in l n w d) same;
        keeps = subst (Keeps to (state_at n w d + 1) ws) (sym same) keeps-refl;
      }

  union_keeps : {us : List ℕ} {r : Bool} → Unioned ws us to from (3 * w) r → Keeps to (state_at n w d) ws us
  union_keeps u = subst (Keeps to (state_at n w d) ws) (sym u.slice) (keeps-unioned ws to from (3 * w) (omega arith) (omega arith))

  pub grown_more : {us : List ℕ} → Unioned ws us to from (3 * w) true → Grown ws (set us (state_at n w d) (waits_in us n w d)) n w from d
  grown_more {us} u =
      let fits = row_fits n w below in
      let long : length us ≡ length ws = (union_keeps u).size in
      let vs : List ℕ = set us (state_at n w d) (waits_in us n w d) in
      let state : get_or vs (state_at n w d) 0 ≡ waits_in us n w d = get_or-set_same us (state_at n w d) (waits_in us n w d) 0 (omega arith) in
      let row : (a : ℕ) → a < 64 * w → masks_at vs n w d a ≡ masks_at us n w d a =
      λ a l. mask-cong us vs w to a l (λ x lo hi. get_or-set_other us (state_at n w d) x (waits_in us n w d) 0 (λ q. omega arith)) in
      record {
        masks = λ a l. row a l ∙ united us u.slice a l;
        settled = ap (λ z. z / 2) state ∙ bare (get_or us (state_at n w d) 0)
            ∙ ap (λ (b : Bool). cond b 0 (settled_in ws n w d)) (differ-is u ∙ differ_as (64 * w) (masks_at us n w d) (masks_at vs n w d) (masks_at ws n w d) (masks_at ws n w d) (λ a l. sym (row a l)) (λ a l. refl));
        waits = ap (λ z. z % 2) state ∙ again (get_or us (state_at n w d) 0) ∙ ap (λ z. z % 2) ((union_keeps u).above (state_at n w d) (omega arith));
        keeps = keeps-trans (keeps_widen (omega arith) (omega arith) (union_keeps u)) (keeps-set us (state_at n w d) (waits_in us n w d) (omega arith) (omega arith));
      }
    where
      bare : (x : ℕ) → (x % 2) / 2 ≡ 0
      bare x = omega arith

      again : (x : ℕ) → (x % 2) % 2 ≡ x % 2
      again x = omega arith

  pub grown_by : (r : Bool) {us : List ℕ} → Unioned ws us to from (3 * w) r → Grown ws (unsettled r us n w d) n w from d
  grown_by true u = grown_more u
  grown_by false u = grown-not u

  -- the queue goes by other words
  pub waits_unioned : {us : List ℕ} {r : Bool} {queue : Queue} {l : List ℕ} → Unioned ws us to from (3 * w) r → Waits ws n w queue l → Waits us n w queue l
  waits_unioned u h = waits-grown n w d (keeps_widen (omega arith) (omega arith) (union_keeps u)) (ap (λ z. z % 2) ((union_keeps u).above (state_at n w d) (omega arith))) h

-- a union by the place that was found
pub union_at : {ws us : List ℕ} {to from to' width : ℕ} {r r' : Bool} → to' ≡ to → r' ≡ r → Unioned ws us to' from width r' → Unioned ws us to from width r
union_at {ws} {us} {to} {from} {to'} {width} {r} p t u =
    subst (λ (x : ℕ). Unioned ws us x from width r) p (subst (λ (b : Bool). Unioned ws us to' from width b) t u)

-- a row is joined, and then the number waits
pub pushed : {ws us vs : List ℕ} {n w from d : ℕ} {queue r : Queue} → d < 2 * n → Grown ws us n w from d → Enqueued us vs n w queue d r
    → Pushed ws vs n w queue from d r
pushed {ws} {us} {vs} {n} {w} {from} {d} {queue} {r} below x y =
    let word : (e z : ℕ) → mask_row_at n w e ≤ z → z < state_at n w e → get_or vs z 0 ≡ get_or us z 0 =
    λ e z lo hi. y.kept.above z (let low = row_from n w e in omega arith) (λ c m. not-state n w e z lo hi c) in
    let masks : (e a : ℕ) → a < 64 * w → masks_at vs n w e a ≡ masks_at us n w e a =
    λ e a l. mask-cong us vs w (mask_row_at n w e) a l (λ z lo hi. word e z lo (omega arith)) in
    record {
      masks = λ a l. masks d a l ∙ x.masks a l;
      others = λ e a b ne l. masks e a l ∙ mask-cong ws us w (mask_row_at n w e) a l (λ z lo hi. other_word n w d x.keeps e ne z lo (omega arith));
      settled = y.kept.settled d below ∙ x.settled
          ∙ ap (λ (b : Bool). cond b 0 (settled_in ws n w d)) (differ_as (64 * w) (masks_at us n w d) (masks_at vs n w d) (masks_at ws n w d) (masks_at ws n w d) (λ a l. sym (masks d a l)) (λ a l. refl));
      others_settled = λ e b ne. y.kept.settled e b ∙ ap (λ z. z / 2) (other_word n w d x.keeps e ne (state_at n w e) (omega arith) (omega arith));
      rows = λ z lo hi. y.kept.above z lo (λ c m q. let low = row_from n w c in let first = row_first n w in omega arith) ∙ x.keeps.below z (let low = row_from n w d in let first = row_first n w in omega arith);
      waits = λ l h. y.waits l (waits-grown n w d x.keeps x.waits h);
      keeps = keeps-trans (keeps_widen (let low = row_from n w d in omega arith) (let fits = row_fits n w below in omega arith) x.keeps) (rest-keeps y.kept);
    }
