-- The row of RETURNs: it lies in the work area, it is made statement by statement, it stays while the matrix and the row of entered statements are written, and
-- what is known of calls and walks stays while it and the rows of RETURNs are written. By the laws of `Adds`, of lists and of the layout.
use Prim.Native.Nat.{ℕ, zero, suc, ◌+◌, ◌≤◌, ◌<◌}
use mathlib.Core.Bool.{Bool, true, false, cond}
use mathlib.Core.List.{List, [], ◌∷◌, ◌++◌, append-nil}
use mathlib.Core.Path.{◌≡◌, refl, sym, ◌∙◌, ap, subst}
use native.Mathlib.Numerals.{add-one}
use native.Mathlib.Omega.{arith}
use lib.ListN.{length}
use Rattle.words.specs.Clauses.Row.{has}
use Rattle.flow.specs.Flow.{Flow, size}
use Rattle.theory.specs.Lists.{In, elem, concat_map, up_to}
use Rattle.theory.specs.Body.{kind, is_return, touches}
use Rattle.theory.specs.Clauses.WellFormed.{WellFormed}
use Rattle.theory.proofs.Lists.{same_test, In-elem, elem-In, concat_map-In, In-concat_map, concat_map-append, up_to-In}
use Rattle.statements.specs.Clauses.Layout.{touched_at, matrix_at, row_words, rows_end, list_words, row_at, returns_row_at}
use Rattle.statements.specs.Clauses.Ready.{Ready, Keeps, MembersWord}
use Rattle.statements.proofs.WorkArea.{row-words-le}
use Rattle.statements.proofs.Keeps.{ready-room, keeps-has}
use Rattle.calls.specs.Clauses.Held.{Empty, HandlerSummary, Summarized}
use Rattle.calls.specs.Clauses.Joins.{Adds, ReturnSet, if_return}
use Rattle.calls.proofs.Joined.{adds_then, adds_all}
use Rattle.calls.proofs.Summing.{walk_low, walk_kept, callee_low, handler-low}
use mathlib.Core.List.Memᴰ
use Rattle.calls.proofs.Gathered.{summaries_kept}

pub returns-room : {s ws : List ℕ} (n : ℕ) → Ready s ws n → returns_row_at n + row_words n ≤ length ws
unfolding rows_end row_words list_words
returns-room zero r = omega arith
returns-room (suc n) r = omega (arith, row-words-le (suc n), ready-room r (omega arith))

pub return-set-stays : {f : Flow} {ws vs : List ℕ} {n lo hi : ℕ} → Keeps lo hi ws vs → hi ≤ returns_row_at n → ReturnSet f ws n → ReturnSet f vs n
return-set-stays {n = n} k h rs = record { holds = λ r l. keeps-has k (returns_row_at n) r (λ a b. omega arith) ∙ rs.holds r l }

-- Statement by statement

abbrev pub returns_below : Flow → ℕ → List ℕ
returns_below f k = concat_map (if_return f) (up_to k)

pub returns-more : (f : Flow) (r : ℕ) {to n : ℕ} {ws vs us : List ℕ} → Adds to ws vs n (returns_below f r) → Adds to vs us n (if_return f r) → Adds to ws us n (returns_below f (r + 1))
unfolding concat_map up_to
returns-more f r {to} {n} {ws} {vs} {us} a b =
    subst (λ (xs : List ℕ). Adds to ws us n xs)
    (sym (ap (returns_below f) (add-one r) ∙ concat_map-append (if_return f) (up_to r) (r ∷ []) ∙ ap (λ (xs : List ℕ). returns_below f r ++ xs) (append-nil (if_return f r)))) (adds_then a b)

elem-returns : (f : Flow) (k s : ℕ) → s < k → elem s (returns_below f k) ≡ is_return (kind f s)
elem-returns f k s l = same_test (elem s (returns_below f k)) (is_return (kind f s)) sound complete
  where
    only : (r : ℕ) (b : Bool) → is_return (kind f r) ≡ b → In s (cond b (r ∷ []) []) → is_return (kind f s) ≡ true
    only r true e m = subst (λ (x : ℕ). is_return (kind f x) ≡ true) (sym (Memᴰ.eq_of_singleton m)) e
    only r false e m = absurd (Memᴰ.not-nil m)

    sound : elem s (returns_below f k) ≡ true → is_return (kind f s) ≡ true
    sound q = let r = In-concat_map (if_return f) (up_to k) (elem-In s (returns_below f k) q) in only r.0 (is_return (kind f r.0)) refl r.2

    complete : is_return (kind f s) ≡ true → elem s (returns_below f k) ≡ true
    complete is = In-elem (concat_map-In (if_return f) (up_to-In k s l) (rw is (Memᴰ.head refl)))

pub returns-all : (f : Flow) {ws vs : List ℕ} {n : ℕ} → Empty ws n (returns_row_at n) → Adds (returns_row_at n) ws vs n (returns_below f n) → ReturnSet f vs n
returns-all f {n = n} empty a = record { holds = λ r l. adds_all empty a r l ∙ ap (λ (t : Bool). cond t 1 0) (elem-returns f n r l) }

-- the handler's summary stays where the words below the matrix do
pub handler-kept : {f : Flow} {ws vs : List ℕ} {n lo hi : ℕ} → WellFormed f → size f ≡ n → Keeps lo hi ws vs → matrix_at n ≤ lo → HandlerSummary f ws n → HandlerSummary f vs n
handler-kept {f} {n = n} w z k h s = record {
  body = λ e q. k.below _ (let l = handler-low w z e q in omega arith) ∙ s.body e q;
  touched = λ e q o. subst (λ (x : ℕ). MembersWord x (touches f e)) (sym (k.below (touched_at n + e) (let l = handler-low w z e q in omega arith))) (s.touched e q o);
}

-- what the summaries say stays where the rows are written that belong to RETURNs, and no others
pub summarized-stays : {f : Flow} {ws vs : List ℕ} {n lo hi : ℕ} → WellFormed f → size f ≡ n → Keeps lo hi ws vs → matrix_at n ≤ lo
    → ((e i : ℕ) → e < n → i < n → is_return (kind f e) ≡ false → has vs (row_at n e) i ≡ has ws (row_at n e) i) → Summarized f ws n → Summarized f vs n
summarized-stays w z k h others s = record {
  calls = summaries_kept (omega arith) k s.calls;
  handler = handler-kept w z k h s.handler;
  walks = λ c b l m other. let lb = callee_low w z c b m in walk_kept (walk_low w z lb) (λ i li. others b i lb li other) (s.walks c b l m other);
}
