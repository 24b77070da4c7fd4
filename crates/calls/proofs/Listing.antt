-- The order of a call as it is listed: a statement that is in the list changes nothing, and any other becomes its last entry; line by line the list is the order of what the lines enter.
-- By the laws of lists, and because the list and the row of entered statements lie apart.
use Prim.Native.Nat.{ℕ, ◌+◌, ◌*◌, ◌/◌, ◌%◌, ◌^◌, ◌≤◌, ◌<◌}
use mathlib.Core.Bool.{Bool, true, false, cond}
use mathlib.Core.List.{List, [], ◌∷◌, ◌++◌}
use mathlib.Core.Option.{Option, none, some}
use mathlib.Core.Path.{◌≡◌, refl, sym, ap, subst, ◌∙◌}
use native.Mathlib.Decide.{dec_lt, ℕ_discrete}
use native.Mathlib.Omega.{arith}
use borrow.Author.Tests.{eqb-true, eqb-false}
use lib.ListN.{length, get_or, length-append, get_or-append}
use lib.Seq.{get_or_at}
use Rattle.words.specs.Clauses.Row.{has}
use Rattle.words.specs.Clauses.Change.{Inserted, inserted}
use Rattle.words.proofs.Row.{has-lt}
use Rattle.words.proofs.Inserted.{inserted-other, insert_same, insert_other, insert_again}
use Rattle.theory.specs.Lists.{elem, option_list}
use Rattle.theory.specs.Queue.{join}
use Rattle.theory.proofs.Lists.{not_so, elem-last, elem-before}
use Rattle.theory.proofs.Enqueue.{join-length}
use Rattle.statements.specs.Clauses.Layout.{row_words, queue_at, entered_row_at, solver_at}
use Rattle.statements.specs.Clauses.Ready.{Keeps}
use Rattle.statements.proofs.WorkArea.{member-word, row-words-le, area-fits}
use Rattle.statements.proofs.Keeps.{keeps-refl, keeps-trans, keeps_widen, keeps-has, keeps-inserted}
use Rattle.calls.specs.Clauses.Held.{Area, Empty}
use Rattle.calls.specs.Clauses.Orders.{firsts, entry_at, list_end, Entries, Put, Listing}

-- Lists, each statement once

pub firsts-append : (xs bs cs : List ℕ) → firsts (firsts xs bs) cs ≡ firsts xs (bs ++ cs)
unfolding firsts
firsts-append xs [] cs = refl
firsts-append xs (b ∷ bs) cs = firsts-append (join xs b) bs cs

pub firsts-length : (xs bs : List ℕ) → length (firsts xs bs) ≤ length xs + length bs
unfolding firsts
firsts-length xs [] = omega arith
firsts-length xs (b ∷ bs) = omega (arith, firsts-length (join xs b) bs, join-length xs b)

pub option_length : (o : Option ℕ) → length (option_list o) ≤ 1
unfolding option_list
option_length none = omega arith
option_length (some b) = omega arith

-- The list as it is made

-- entries are read from their words
pub entries-kept : (ws vs : List ℕ) {p : ℕ} (xs : List ℕ) → ((x : ℕ) → p ≤ x → x < list_end p (length xs) → get_or vs x 0 ≡ get_or ws x 0) → Entries ws p xs → Entries vs p xs
entries-kept ws vs {p} xs same e k l = ap (λ (w : ℕ). w / 2 ^ (12 * (k % 5)) % 4096) (same (p + k / 5) (omega arith) (omega arith)) ∙ e k l

module _ {ws₀ ws : List ℕ} {n p b k : ℕ} {xs : List ℕ} (l : Listing ws₀ ws n p xs k) (low : b < n) where
  abbrev row : ℕ
  row = entered_row_at n

  -- what the row says of b
  says : {t : Bool} → elem b xs ≡ t → has ws row b ≡ cond t 1 0
  says e = l.seen b low ∙ ap (λ (t : Bool). cond t 1 0) e

  pub listing-again : {us : List ℕ} {r : Bool} → Inserted ws us row b r → r ≡ false → Listing ws₀ us n p (firsts xs (b ∷ [])) k
  unfolding firsts
  listing-again {us} i e =
      let held : has ws row b ≡ 1 = omega (arith, has-lt ws row b, eqb-false (has ws row b) 0 (sym i.fresh ∙ e)) in
      let there : elem b xs ≡ true = is (elem b xs) refl held in
      subst (λ (vs : List ℕ). Listing ws₀ vs n p (join xs b) k) (sym (i.slice ∙ insert_again ws row b held)) (rw there l)
    where
      is : (t : Bool) → elem b xs ≡ t → has ws row b ≡ 1 → t ≡ true
      is true q h = refl
      is false q h = absurd (omega (arith, says q))

  module _ {us vs : List ℕ} {r : Bool} (i : Inserted ws us row b r) (e : r ≡ true) (put : Put us vs p k b) (fits : list_end p (k + 1) ≤ queue_at n) (room : row + row_words n ≤ length ws) where
    new : elem b xs ≡ false
    new = not_so (elem b xs) (λ q. let absent = eqb-true (has ws row b) 0 (sym i.fresh ∙ e) in omega (arith, says q))

    member : b / 64 < row_words n
    member = member-word low

    -- a word outside the row, and one outside the list
    beside : (x : ℕ) → x < queue_at n → get_or us x 0 ≡ get_or ws x 0
    beside x m = ap (λ (z : List ℕ). get_or z x 0) i.slice ∙ inserted-other ws row b x (λ q. omega arith)

    seen_in : (j : ℕ) → has vs row j ≡ has (inserted ws row b) row j
    seen_in j = keeps-has put.kept row j (λ a c. omega (arith, fits)) ∙ ap (λ (z : List ℕ). has z row j) i.slice

    seen-new : (j : ℕ) → j < n → Dec (j ≡ b) → has vs row j ≡ cond (elem j (xs ++ (b ∷ []))) 1 0
    seen-new j m (yes q) =
        subst (λ (x : ℕ). has vs row x ≡ cond (elem x (xs ++ (b ∷ []))) 1 0) (sym q)
        (seen_in b ∙ insert_same ws row b (omega (arith, member)) ∙ ap (λ (t : Bool). cond t 1 0) (sym (elem-last xs b)))
    seen-new j m (no d) =
        seen_in j ∙ insert_other ws row b j (omega (arith, member)) d ∙ l.seen j m ∙ ap (λ (t : Bool). cond t 1 0) (sym (elem-before xs d))

    entry_new : (j : ℕ) → j < k + 1 → Dec (j < k) → entry_at vs p j ≡ get_or (xs ++ (b ∷ [])) j 0
    entry_new j m (yes q) =
        let in_list : j < length xs = omega (arith, l.count) in
        put.before j q
        ∙ entries-kept ws us xs (λ x a c. beside x (omega (arith, l.count, fits))) l.entries j in_list
        ∙ sym (get_or-append xs (b ∷ []) 0 j in_list)
    entry_new j m (no d) =
        let last : j ≡ k = omega (arith, d) in
        subst (λ (x : ℕ). entry_at vs p x ≡ get_or (xs ++ (b ∷ [])) x 0) (sym last) (put.here ∙ sym (get_or_at xs b [] 0 k (sym l.count)))

    longer : k + 1 ≡ length (xs ++ (b ∷ []))
    longer = omega (arith, l.count, length-append xs (b ∷ []))

    pub listing-more : Listing ws₀ vs n p (firsts xs (b ∷ [])) (k + 1)
    unfolding firsts
    listing-more = rw new (record {
      count = longer;
      entries = λ j m. entry_new j (omega (arith, longer)) (dec_lt j k);
      seen = λ j m. seen-new j m (ℕ_discrete j b);
      kept = keeps-trans l.kept
          (keeps-trans (subst (λ (z : List ℕ). Keeps p (solver_at n) ws z) (sym i.slice) (keeps-inserted ws row b (omega (arith, fits)) (omega (arith, member, row-words-le n))))
          (keeps_widen (omega arith) (omega (arith, fits)) put.kept));
    })

-- before the first line
pub listing_none : {ws : List ℕ} {n p : ℕ} → Empty ws n (entered_row_at n) → Listing ws ws n p (firsts [] []) 0
unfolding firsts elem
listing_none empty = record { count = refl; entries = λ k l. absurd (omega arith); seen = empty; kept = keeps-refl }

-- the row of entered statements lies in the work area
pub entered-room : {ws : List ℕ} {n : ℕ} → Area ws n → 0 < n → entered_row_at n + row_words n ≤ length ws
entered-room {n = n} a l = omega (arith, a.room, area-fits l a.few, row-words-le n)
