-- What the RETURNs with one leader have sent, every continuation of theirs holds: it stays so while masks grow, and once more was sent along all edges of one of them.
-- By the rows of RETURNs, which are that of their leader.
use Prim.Native.Nat.{ℕ, zero, suc, ◌+◌, ◌*◌, ◌/◌, ◌%◌, ◌≤◌, ◌<◌}
use mathlib.Core.Bool.{Bool, true, false, cond}
use mathlib.Core.List.Memᴰ
use mathlib.Core.List.{List, [], ◌∷◌}
use mathlib.Core.Logic.{◌≢◌}
use mathlib.Core.Option.{Option, none, some}
use mathlib.Core.Path.{◌≡◌, refl, sym, ap, ap₂, subst, ◌∙◌}
use native.Mathlib.Decide.{dec_lt, ℕ_discrete}
use native.Mathlib.Nat.{zero-add}
use native.Mathlib.Omega.{arith}
use borrow.Author.Tests.{eq-eqb}
use lib.Bits.{bit_or, or_self, or_comm, or_zero_r}
use lib.Dec.{eqb}
use lib.ListN.{length, get_or, drop}
use Rattle.words.specs.Clauses.Row.{has}
use Rattle.words.specs.Clauses.Change.{Unioned, ReadFirst}
use Rattle.flow.specs.declared.Base.TheVariants.{Zero}
use Rattle.flow.specs.Flow.{Flow, size}
use Rattle.theory.specs.Lists.{In, any, up_to, concat_map, option_list}
use Rattle.theory.specs.Body.{kind, is_return}
use Rattle.theory.specs.Doubled.{Edge, at, plain, number, returns_to}
use Rattle.statements.specs.Clauses.Layout.{bodies_at, row_at, queue_at}
use Rattle.statements.specs.Clauses.Ready.{Keeps}
use Rattle.statements.proofs.WorkArea as area
use Rattle.statements.proofs.Keeps.{keeps-has, keeps-unioned, keeps_widen, keeps-trans}
use Rattle.statements.proofs.Members.{zero_has}
use Rattle.calls.specs.Clauses.Held.{Linked}
use Rattle.calls.specs.Clauses.Slots.{return_slots, present}
use Rattle.calls.proofs.Slots.{or_assoc}
use Rattle.calls.proofs.Found.{member-here}
use Rattle.solve.specs.declared.Queue.{Queue}
use Rattle.solve.specs.Clauses.Layout.{mask_row_at, state_at, nodes_end, sent_row_at, area_end}
use Rattle.solve.specs.Clauses.Rows.{mask_at}
use Rattle.solve.specs.Clauses.Waiting.{Waits}
use Rattle.solve.specs.Clauses.Pushed.{masks_at, Source}
use Rattle.solve.proofs.Room.{row_from, row_fits, nodes-within, sent-apart, sent-from}
use Rattle.solve.proofs.Masks.{mask-cong, unioned-mask, differ_as}
use Rattle.solve.proofs.Waiting.{waits_kept}
use Rattle.solve.proofs.Growing.{source_fits}
use Rattle.dataflow.specs.Clauses.Sent.{carried, Grows, Sent, MembersHold, Shared, Goes}
use Rattle.dataflow.proofs.Sending.{carried_same, joined-grows}

-- x is within y, and y within z
within : (x y z : ℕ) → bit_or y x ≡ y → bit_or z y ≡ z → bit_or z x ≡ z
within x y z e d = ap (λ (v : ℕ). bit_or v x) (sym d) ∙ or_assoc z y x ∙ ap (bit_or z) e ∙ d

-- the words that lead, the rows of RETURNs and what was sent stay
module _ (n w : ℕ) {ws vs : List ℕ} (k : Keeps (queue_at n) (nodes_end n w) ws vs) where
  lead_stays : (r : ℕ) → r < n → get_or vs (bodies_at n + r) 0 ≡ get_or ws (bodies_at n + r) 0
  lead_stays r l = k.below (bodies_at n + r) (let low = area.row_from n n in omega arith)

  row_stays : (r j : ℕ) → r < n → j < n → has vs (row_at n r) j ≡ has ws (row_at n r) j
  row_stays r j l m = keeps-has k (row_at n r) j (λ a b. let fits = area.row_fits n l in let word = area.member-word m in omega arith)

  pub shared-stays : {f : Flow} → Grows ws vs n w → Shared f ws n w → Shared f vs n w
  shared-stays {f} grows h = record {
    held = λ r l is j a m e b.
        subst (λ (y : ℕ). bit_or (masks_at vs n w j a) (mask_at vs w (sent_row_at n w y) a) ≡ masks_at vs n w j a) (sym (lead_stays r l))
        (ap (bit_or (masks_at vs n w j a)) (sent-same (get_or ws (bodies_at n + r) 0) a b)
        ∙ within (mask_at ws w (sent_row_at n w (get_or ws (bodies_at n + r) 0)) a) (masks_at ws n w j a) (masks_at vs n w j a) (h.held r l is j a m (sym (row_stays r j l m) ∙ e) b) (grows j a (omega arith) b));
  }
    where
      sent-same : (y a : ℕ) → a < 64 * w → mask_at vs w (sent_row_at n w y) a ≡ mask_at ws w (sent_row_at n w y) a
      sent-same y a b = mask-cong ws vs w (sent_row_at n w y) a b (λ x lo hi. k.above x (let from = sent-from n w y in omega arith))

-- a row of zeros
pub zero-mask : (ws : List ℕ) (w row a : ℕ) → a < 64 * w → ((x : ℕ) → row ≤ x → x < row + 3 * w → get_or ws x 0 ≡ 0) → mask_at ws w row a ≡ 0
unfolding mask_at
zero-mask ws w row a l h =
    omega (
      arith,
      zero_has ws row a (h (row + a / 64) (omega arith) (omega arith)),
      zero_has ws (row + w) a (h (row + w + a / 64) (omega arith) (omega arith)),
      zero_has ws (row + 2 * w) a (h (row + 2 * w + a / 64) (omega arith) (omega arith)),
    )

-- nothing was sent yet
pub shared-none : {f : Flow} {ws : List ℕ} {n w : ℕ} → Linked f ws n → ((x : ℕ) → nodes_end n w ≤ x → x < area_end n w → get_or ws x 0 ≡ 0) → Shared f ws n w
shared-none {f} {ws} {n} {w} linked empty = record {
  held = λ r l is j a b e m.
      let y : ℕ = get_or ws (bodies_at n + r) 0 in
      let far = sent-from n w y in
      let end = sent-apart n w (linked.leaders r l is).below in
      ap (bit_or (masks_at ws n w j a)) (zero-mask ws w (sent_row_at n w y) a m (λ x lo hi. empty x (omega arith) (omega arith)))
      ∙ or_zero_r (masks_at ws n w j a);
}

-- where nothing more is noted
pub goes_sent : {f : Flow} {ws vs : List ℕ} {n w i : ℕ} {from : Bool → ℕ} {queue r : Queue} {xs : List Edge} → Shared f ws n w → Sent f ws vs n w from queue i xs r → Goes f ws vs n w from queue i xs r
goes_sent {ws = ws} {vs = vs} {n = n} {w = w} h s = record {
  waits = s.waits;
  masks = s.masks;
  settled = s.settled;
  shared = shared-stays n w s.keeps (λ t a l m. joined-grows (masks_at ws n w t a) _ (masks_at vs n w t a) (s.masks t a l m)) h;
  keeps = keeps_widen (omega arith) (nodes-within n w) s.keeps;
}

-- a row that brings nothing to what was sent brings nothing to a continuation
pub members_hold : {f : Flow} {ws : List ℕ} (n w i l from : ℕ) → Shared f ws n w → i < n → is_return (kind f i) ≡ true → l ≡ get_or ws (bodies_at n + i) 0
    → ((a : ℕ) → a < 64 * w → bit_or (mask_at ws w (sent_row_at n w l) a) (mask_at ws w from a) ≡ mask_at ws w (sent_row_at n w l) a) → MembersHold ws n w i from
members_hold {f} {ws} n w i l from h below is e no_more k a m q b =
    within (mask_at ws w from a) (mask_at ws w (sent_row_at n w l) a) (masks_at ws n w k a) (no_more a b)
    (subst (λ (y : ℕ). bit_or (masks_at ws n w k a) (mask_at ws w (sent_row_at n w y) a) ≡ masks_at ws n w k a) (sym e) (h.held i below is k a m q b))

-- what continuations hold they hold still
pub hold_on : {f : Flow} {ws vs : List ℕ} {n w i from : ℕ} {queue r : Queue} {xs : List Edge} → Sent f ws vs n w (λ b. from) queue i xs r → (j : ℕ) → MembersHold ws n w j from
    → (k a : ℕ) → k < n → has ws (row_at n j) k ≡ 1 → a < 64 * w → bit_or (masks_at vs n w k a) (mask_at vs w from a) ≡ masks_at vs n w k a
hold_on {f} {ws} {vs} {n} {w} {i} {from} s j h k a l e m =
    ap (bit_or (masks_at vs n w k a)) (s.source true a m)
    ∙ within (mask_at ws w from a) (masks_at ws n w k a) (masks_at vs n w k a) (h k a l e m) (joined-grows (masks_at ws n w k a) _ (masks_at vs n w k a) (s.masks k a (omega arith) m))

-- The row of the leader is joined with what is sent

-- an edge whose slot is left is an edge
left-In : {x : Edge} (c : ℕ) (xs : List (Option Edge)) → In x (present (drop c xs)) → In x (present xs)
unfolding present concat_map option_list
left-In zero xs m = m
left-In (suc c) [] m = m
left-In (suc c) (none ∷ xs) m = left-In c xs m
left-In (suc c) (some y ∷ xs) m = Memᴰ.tail (left-In c xs m)

-- what an edge carries is among what all of them do
carried-holds : (f : Flow) (ws : List ℕ) (w : ℕ) (from : Bool → ℕ) (t a : ℕ) {x : Edge} (xs : List Edge) → In x xs → number f x.to ≡ t
    → bit_or (carried f ws w from xs t a) (mask_at ws w (from x.continues) a) ≡ carried f ws w from xs t a
unfolding carried
carried-holds f ws w from t a {x = x} [] m q = elim m [ ]
carried-holds f ws w from t a {x} (y ∷ ys) (Memᴰ.head e) q =
    let row : ℕ = mask_at ws w (from x.continues) a in
    let rest : ℕ = carried f ws w from ys t a in
    let here : cond (eqb (number f y.to) t) (mask_at ws w (from y.continues) a) 0 ≡ row =
    ap (λ (z : Edge). cond (eqb (number f z.to) t) (mask_at ws w (from z.continues) a) 0) (sym e) ∙ ap (λ (b : Bool). cond b row 0) (eq-eqb (number f x.to) t q) in
    ap (λ (v : ℕ). bit_or (bit_or v rest) row) here ∙ or_comm (bit_or row rest) row ∙ sym (or_assoc row row rest) ∙ ap (λ (v : ℕ). bit_or v rest) (or_self row) ∙ ap (λ (v : ℕ). bit_or v rest) (sym here)
carried-holds f ws w from t a {x} (y ∷ ys) (Memᴰ.tail m) q =
    or_assoc (cond (eqb (number f y.to) t) (mask_at ws w (from y.continues) a) 0) (carried f ws w from ys t a) (mask_at ws w (from x.continues) a)
    ∙ ap (bit_or (cond (eqb (number f y.to) t) (mask_at ws w (from y.continues) a) 0)) (carried-holds f ws w from t a ys m q)

module _ {f : Flow} {ws us : List ℕ} {n w i l from : ℕ} {g : Bool} (z : size f ≡ n) (linked : Linked f ws n) (h : Shared f ws n w) (below : i < n) (is : is_return (kind f i) ≡ true) (room : area_end n w ≤ length ws) (source : Source n w from)
    (lead : l ≡ get_or ws (bodies_at n + i) 0) (u : Unioned ws us (sent_row_at n w l) from (3 * w) g) where
  low : l < n
  low = subst (λ (y : ℕ). y < n) (sym lead) (linked.leaders i below is).below

  fits : sent_row_at n w l + 3 * w ≤ area_end n w
  fits = sent-apart n w low

  apart : ReadFirst (sent_row_at n w l) from (3 * w)
  apart j k lt m e = let end = source_fits n w from source in let far = sent-from n w l in omega arith

  noted : Keeps (sent_row_at n w l) (sent_row_at n w l + 3 * w) ws us
  noted = subst (Keeps (sent_row_at n w l) (sent_row_at n w l + 3 * w) ws) (sym u.slice) (keeps-unioned ws (sent_row_at n w l) from (3 * w) (omega arith) (omega arith))

  -- the words of the numbers stay, and the row that is sent
  lower : (x : ℕ) → x < nodes_end n w → get_or us x 0 ≡ get_or ws x 0
  lower x b = noted.below x (let far = sent-from n w l in omega arith)

  pub noted-keeps : Keeps (nodes_end n w) (area_end n w) ws us
  noted-keeps = keeps_widen (sent-from n w l) fits noted

  pub noted-waits : {queue : Queue} {q : List ℕ} → Waits ws n w queue q → Waits us n w queue q
  noted-waits hq = waits_kept hq (λ x lo hi. lower x (let far = row_from n w (2 * n) in omega arith)) (λ d m. ap (λ (z : ℕ). z % 2) (lower (state_at n w d) (omega (arith, row_fits n w m))))

  noted-masks : (t a : ℕ) → t < 2 * n → a < 64 * w → masks_at us n w t a ≡ masks_at ws n w t a
  noted-masks t a b m = mask-cong ws us w (mask_row_at n w t) a m (λ x lo hi. lower x (let fit = row_fits n w b in omega arith))

  noted-row : (a : ℕ) → a < 64 * w → mask_at us w from a ≡ mask_at ws w from a
  noted-row a m = mask-cong ws us w from a m (λ x lo hi. lower x (let fit = source_fits n w from source in omega arith))

  joined-row : (a : ℕ) → a < 64 * w → mask_at us w (sent_row_at n w l) a ≡ bit_or (mask_at ws w (sent_row_at n w l) a) (mask_at ws w from a)
  joined-row a m = ap (λ (v : List ℕ). mask_at v w (sent_row_at n w l) a) u.slice ∙ unioned-mask ws w (sent_row_at n w l) from (omega (arith, fits)) apart a m

  -- where it did not grow, the row brings nothing
  pub brings-nothing : us ≡ ws → MembersHold ws n w i from
  brings-nothing e = members_hold n w i l from h below is lead (λ a m. sym (joined-row a m) ∙ ap (λ (v : List ℕ). mask_at v w (sent_row_at n w l) a) e)

  module _ {vs : List ℕ} {queue r : Queue} (s : Sent f us vs n w (λ b. from) queue i (present (return_slots f Zero i)) r) where
    all : List Edge
    all = present (return_slots f Zero i)

    goes_masks : (t a : ℕ) → t < 2 * n → a < 64 * w → masks_at vs n w t a ≡ bit_or (masks_at ws n w t a) (carried f ws w (λ b. from) (present (return_slots f Zero i)) t a)
    goes_masks t a b m = s.masks t a b m ∙ ap₂ bit_or (noted-masks t a b m) (carried_same f ws w (λ b. from) t a us (λ b. noted-row a m) (present (return_slots f Zero i)))

    -- a continuation of a RETURN with that leader is one of i's
    member : (r' k : ℕ) → r' < n → k < n → is_return (kind f r') ≡ true → get_or ws (bodies_at n + r') 0 ≡ l → has ws (row_at n r') k ≡ 1 → In (plain (at Zero k)) (present (return_slots f Zero i))
    member r' k b m is' e one =
        let mine : has ws (row_at n i) k ≡ 1 =
        sym ((linked.leaders i below is).same k m) ∙ ap (λ (y : ℕ). has ws (row_at n y) k) (sym lead ∙ sym e) ∙ (linked.leaders r' b is').same k m ∙ one in
        left-In k (return_slots f Zero i)
        (subst (λ (xs : List Edge). In (plain (at Zero k)) xs) (sym (member-here f i k (omega (arith, z)) (says (any (returns_to f i k) (up_to (size f))) (sym (linked.returns i k below m is) ∙ mine)))) (Memᴰ.head refl))
      where
        says : (b : Bool) → ◌≡◌ {A = ℕ} (cond b 1 0) 1 → b ≡ true
        says true q = refl
        says false q = absurd (omega arith)

    gets : (k a : ℕ) → k < n → a < 64 * w → In (plain (at Zero k)) (present (return_slots f Zero i)) → bit_or (masks_at vs n w k a) (mask_at ws w from a) ≡ masks_at vs n w k a
    gets k a m b e =
        let c : ℕ = carried f ws w (λ b. from) (present (return_slots f Zero i)) k a in
        let is-k : number f (at Zero k) ≡ k = zero-add k in
        ap (λ (y : ℕ). bit_or y (mask_at ws w from a)) (goes_masks k a (omega arith) b) ∙ or_assoc (masks_at ws n w k a) c (mask_at ws w from a)
        ∙ ap (bit_or (masks_at ws n w k a)) (carried-holds f ws w (λ b. from) k a (present (return_slots f Zero i)) e is-k) ∙ sym (goes_masks k a (omega arith) b)

    sent-shared : Shared f vs n w
    sent-shared = record {
      held = λ r' b is' k a m one d.
          let since : get_or vs (bodies_at n + r') 0 ≡ get_or ws (bodies_at n + r') 0 = lead_stays n w s.keeps r' b ∙ lower (bodies_at n + r') (let far = row_from n w (2 * n) in let matrix = area.row_from n n in omega arith) in
          let one' : has ws (row_at n r') k ≡ 1 = sym (row_of r' k b m) ∙ one in
          let grew = joined-grows (masks_at ws n w k a) _ (masks_at vs n w k a) (goes_masks k a (omega arith) d) in
          subst (λ (y : ℕ). bit_or (masks_at vs n w k a) (mask_at vs w (sent_row_at n w y) a) ≡ masks_at vs n w k a) (sym since)
          (at r' k a b m is' one' d grew (ℕ_discrete (get_or ws (bodies_at n + r') 0) l));
    }
      where
        row_of : (r' k : ℕ) → r' < n → k < n → has vs (row_at n r') k ≡ has ws (row_at n r') k
        row_of r' k b m = row_stays n w s.keeps r' k b m ∙ keeps-has noted-keeps (row_at n r') k (λ p q. let fit = area.row_fits n b in let word = area.member-word m in let far = row_from n w (2 * n) in omega arith)

        kept_row : (y a : ℕ) → a < 64 * w → mask_at vs w (sent_row_at n w y) a ≡ mask_at us w (sent_row_at n w y) a
        kept_row y a d = mask-cong us vs w (sent_row_at n w y) a d (λ x lo hi. s.keeps.above x (let far = sent-from n w y in omega arith))

        other_row : (y a : ℕ) → y ≢ l → a < 64 * w → mask_at us w (sent_row_at n w y) a ≡ mask_at ws w (sent_row_at n w y) a
        other_row y a ne d = mask-cong ws us w (sent_row_at n w y) a d (λ x lo hi. go x lo hi (dec_lt y l))
          where
            go : (x : ℕ) → sent_row_at n w y ≤ x → x < sent_row_at n w y + 3 * w → Dec (y < l) → get_or us x 0 ≡ get_or ws x 0
            go x lo hi (yes c) = noted.below x (let far = sent-apart n w c in omega arith)
            go x lo hi (no c) = let less : l < y = omega (arith, c, ne) in noted.above x (let far = sent-apart n w less in omega arith)

        at : (r' k a : ℕ) → r' < n → k < n → is_return (kind f r') ≡ true → has ws (row_at n r') k ≡ 1 → a < 64 * w → bit_or (masks_at vs n w k a) (masks_at ws n w k a) ≡ masks_at vs n w k a
            → Dec (get_or ws (bodies_at n + r') 0 ≡ l) → bit_or (masks_at vs n w k a) (mask_at vs w (sent_row_at n w (get_or ws (bodies_at n + r') 0)) a) ≡ masks_at vs n w k a
        at r' k a b m is' one d grew (yes e) =
            let old = within (mask_at ws w (sent_row_at n w l) a) (masks_at ws n w k a) (masks_at vs n w k a)
            (subst (λ (y : ℕ). bit_or (masks_at ws n w k a) (mask_at ws w (sent_row_at n w y) a) ≡ masks_at ws n w k a) e (h.held r' b is' k a m one d)) grew in
            ap (bit_or (masks_at vs n w k a)) (ap (λ (y : ℕ). mask_at vs w (sent_row_at n w y) a) e ∙ kept_row l a d ∙ joined-row a d)
            ∙ sym (or_assoc (masks_at vs n w k a) (mask_at ws w (sent_row_at n w l) a) (mask_at ws w from a)) ∙ ap (λ (y : ℕ). bit_or y (mask_at ws w from a)) old
            ∙ gets k a m d (member r' k b m is' e one)
        at r' k a b m is' one d grew (no ne) =
            ap (bit_or (masks_at vs n w k a)) (kept_row (get_or ws (bodies_at n + r') 0) a d ∙ other_row (get_or ws (bodies_at n + r') 0) a ne d)
            ∙ within (mask_at ws w (sent_row_at n w (get_or ws (bodies_at n + r') 0)) a) (masks_at ws n w k a) (masks_at vs n w k a) (h.held r' b is' k a m one d) grew

    pub goes_returned : Goes f ws vs n w (λ b. from) queue i (present (return_slots f Zero i)) r
    goes_returned = record {
      waits = λ q hq. s.waits q (noted-waits hq);
      masks = goes_masks;
      settled = λ t b.
          s.settled t b
          ∙ ap₂ (λ (x : Bool) (y : ℕ). cond x 0 y)
          (differ_as (64 * w) (masks_at vs n w t) (masks_at vs n w t) (masks_at us n w t) (masks_at ws n w t) (λ a m. refl) (λ a m. noted-masks t a b m))
          (ap (λ (z : ℕ). z / 2) (lower (state_at n w t) (let fit = row_fits n w b in omega arith)));
      shared = sent-shared;
      keeps = keeps-trans (keeps_widen (let far = row_from n w (2 * n) in omega arith) (omega arith) noted-keeps) (keeps_widen (omega arith) (nodes-within n w) s.keeps);
    }
