-- Which slots a doubled number has: by the kind of statement and by what its call is.
-- A call's row holds the statements that it enters, and where it names one line, the statement that the line enters is the only one.
use Prim.Native.Nat.{ℕ, ◌+◌, ◌/◌, ◌≤◌, ◌<◌, zero-le}
use mathlib.Core.Bool.{Bool, true, false, cond}
use mathlib.Core.List.{List, [], ◌∷◌, append-nil}
use mathlib.Core.Option.{Option, none, some}
use mathlib.Core.Path.{◌≡◌, refl, sym, ◌∙◌, ap}
use native.Mathlib.Omega.{arith}
use native.Mathlib.Decide.{ℕ_discrete}
use borrow.Author.Tests.{ne_eqb, eq-eqb}
use lib.Dec.{eqb}
use lib.ListN.{length, get_or}
use Rattle.words.specs.Clauses.Row.{has, next_member, found_below, First}
use Rattle.words.proofs.Found.{next-some, next-none}
use Rattle.std.specs.Prelude as told
use Rattle.std.specs.Prelude.{Some, None, MatchOption}
use Rattle.std.specs.Option.{IsSomeAnd}
use Rattle.flow.specs.declared.StmtId.{StmtId}
use Rattle.flow.specs.Clauses.Answers.{statement_in}
use Rattle.flow.specs.declared.Base.{Base}
use Rattle.flow.specs.Flow.{Flow, size, enters}
use Rattle.theory.specs.Lists.{elem, concat_map, option_list}
use Rattle.theory.specs.Body.{kind, successors, call_lines, continuation_of, entered, is_return, opaque_call}
use Rattle.theory.specs.Doubled.{at}
use Rattle.theory.proofs.Lists.{clash}
use Rattle.statements.specs.Clauses.Layout.{calls_at, row_at}
use Rattle.calls.specs.Clauses.Held.{CallSummaries, Linked, transparent, opaque}
use Rattle.calls.specs.Clauses.Slots.{by_kind, call_slots, return_slots, listed_slots, slots_of, slots}
use Rattle.calls.specs.Clauses.Class.{transparent_call, CallOf}
use Rattle.calls.specs.declared.edges.Call.{Call}
use Rattle.calls.proofs.BodySummary.{return-ordinary}

-- no call that is not opaque: whatever the statement is, its edges carry no touched step
abbrev pub Plain : Flow → ℕ → Type 0
Plain f i = (k : ℕ) → continuation_of (kind f i) ≡ some k → opaque_call f i ≡ true

pub none-some : {P : Type 0} {k : ℕ} → ◌≡◌ {A = Option ℕ} none (some k) → P
none-some e = let z : ◌≡◌ {A = ℕ} 0 1 = cc in absurd (omega arith)

module _ {A : Type 0} (f : Flow) (i : ℕ) (r l : A) (c : ℕ → A) where
  by_return : is_return (kind f i) ≡ true → by_kind f i r l c (continuation_of (kind f i)) ≡ r
  by_return h = rw (return-ordinary (kind f i) h, h) refl

  by_call : (k : ℕ) → continuation_of (kind f i) ≡ some k → opaque_call f i ≡ false → by_kind f i r l c (continuation_of (kind f i)) ≡ c k
  by_call k e h = rw (e, h) refl

  by_listed : is_return (kind f i) ≡ false → Plain f i → by_kind f i r l c (continuation_of (kind f i)) ≡ l
  by_listed h op = go (continuation_of (kind f i)) refl
    where
      go : (o : Option ℕ) → continuation_of (kind f i) ≡ o → by_kind f i r l c (continuation_of (kind f i)) ≡ l
      go none e = rw (e, h) refl
      go (some k) e = rw (e, op k e) refl

  -- what holds in each case holds
  by_cases : (P : A → Type 0) → (is_return (kind f i) ≡ true → Plain f i → P r) → (is_return (kind f i) ≡ false → Plain f i → P l)
      → ((k : ℕ) → continuation_of (kind f i) ≡ some k → opaque_call f i ≡ false → P (c k)) → P (by_kind f i r l c (continuation_of (kind f i)))
  by_cases P x y z = go (continuation_of (kind f i)) refl (is_return (kind f i)) refl (opaque_call f i) refl
    where
      go : (o : Option ℕ) → continuation_of (kind f i) ≡ o → (t : Bool) → is_return (kind f i) ≡ t → (u : Bool) → opaque_call f i ≡ u → P (by_kind f i r l c (continuation_of (kind f i)))
      go none e true h u q = rw (e, h) (x h (λ k s. none-some (sym e ∙ s)))
      go none e false h u q = rw (e, h) (y h (λ k s. none-some (sym e ∙ s)))
      go (some k) e true h u q = none-some (sym (return-ordinary (kind f i) h) ∙ e)
      go (some k) e false h true q = rw (e, q) (y h (λ m s. q))
      go (some k) e false h false q = rw (e, q) (z k e q)

module _ (f : Flow) (b : Base) (i : ℕ) where
  pub slots-return : is_return (kind f i) ≡ true → slots f (at b i) ≡ return_slots f b i
  unfolding slots slots_of
  slots-return h = by_return f i _ _ _ h

  pub slots-call : (k : ℕ) → continuation_of (kind f i) ≡ some k → opaque_call f i ≡ false → slots f (at b i) ≡ call_slots f b i k
  unfolding slots slots_of
  slots-call k e h = by_call f i _ _ _ k e h

  pub slots_listed : is_return (kind f i) ≡ false → Plain f i → slots f (at b i) ≡ listed_slots f b i
  unfolding slots slots_of
  slots_listed h op = by_listed f i _ _ _ h op

-- What it says of a statement that it is a call, not opaque, or is not

pub call_says : (f : Flow) (i : ℕ) → transparent_call f i ≡ true → (k : ℕ) × (continuation_of (kind f i) ≡ some k) × (opaque_call f i ≡ false)
unfolding transparent_call
call_says f i = by_cases f i _ _ _ (λ (t : Bool). t ≡ true → (k : ℕ) × (continuation_of (kind f i) ≡ some k) × (opaque_call f i ≡ false))
    (λ h p e. clash false e refl) (λ h p e. clash false e refl) (λ k q o e. (k, q, o))

pub plain_says : (f : Flow) (i : ℕ) → transparent_call f i ≡ false → Plain f i
unfolding transparent_call
plain_says f i = by_cases f i _ _ _ (λ (t : Bool). t ≡ false → Plain f i) (λ h p e. p) (λ h p e. p) (λ k q o e. clash true refl e)

pub no_call : (f : Flow) (i : ℕ) → continuation_of (kind f i) ≡ none → transparent_call f i ≡ false
unfolding transparent_call
no_call f i e = go (is_return (kind f i)) refl
  where
    go : (t : Bool) → is_return (kind f i) ≡ t → by_kind f i false false (λ k. true) (continuation_of (kind f i)) ≡ false
    go true h = rw (e, h) refl
    go false h = rw (e, h) refl

-- the state of the call says so
pub call-state : {f : Flow} {ws : List ℕ} {n i : ℕ} → CallSummaries f ws n → i < n → eqb (get_or ws (calls_at n + i) 0) transparent ≡ transparent_call f i
unfolding transparent_call
call-state {f} {ws} {n} {i} h l = go (continuation_of (kind f i)) refl
  where
    go : (o : Option ℕ) → continuation_of (kind f i) ≡ o → eqb (get_or ws (calls_at n + i) 0) transparent ≡ transparent_call f i
    go none e = let free : get_or ws (calls_at n + i) 0 ≡ 0 = h.ordinary i l e in ne_eqb (get_or ws (calls_at n + i) 0) transparent (λ q. omega arith) ∙ sym (no_call f i e)
    go (some k) e = at (opaque_call f i) refl
      where
        at : (t : Bool) → opaque_call f i ≡ t → eqb (get_or ws (calls_at n + i) 0) transparent ≡ by_kind f i false false (λ k. true) (continuation_of (kind f i))
        at true q = ne_eqb (get_or ws (calls_at n + i) 0) transparent (λ s. let is : get_or ws (calls_at n + i) 0 ≡ opaque = h.call i k l e ∙ ap (λ (t : Bool). cond t opaque transparent) q in omega arith) ∙ sym (rw (e, q) refl)
        at false q = eq-eqb _ transparent (h.call i k l e ∙ ap (λ (t : Bool). cond t opaque transparent) q) ∙ sym (rw (e, q) refl)

-- What a call's row holds

pub call-row : {f : Flow} {ws : List ℕ} {n i : ℕ} {x : Call} → size f ≡ n → Linked f ws n → i < n → row_at n i + (n + 63) / 64 ≤ length ws
    → continuation_of (kind f i) ≡ some x.continuation.0 → opaque_call f i ≡ false
    → x.lines ≡ length (call_lines (kind f i)) → x.successors ≡ length (successors f i) → x.row ≡ row_at n i → CallOf f ws i x
call-row {f} {ws} {n} {i} {x} z h l room q o lines successors row = record {
  continues = q;
  lines = lines;
  successors = successors;
  place = row ∙ ap (λ (m : ℕ). row_at m i) (sym z);
  room = rw (row, z) room;
  entered = λ j m. rw row (h.bodies i j l (rw z at m) (h.calls.call i x.continuation.0 l q ∙ ap (λ (t : Bool). cond t opaque transparent) o));
}

-- of a call that names one line, the row holds the statement that the line enters

one_line : (f : Flow) (ls : List ℕ) (l : ℕ) → length ls ≡ 1 → l < length ls → concat_map (λ y. option_list (enters f y)) ls ≡ option_list (enters f (get_or ls l 0))
unfolding concat_map
one_line f [] l e m = absurd (omega arith)
one_line f (y ∷ []) l e m = let z : l ≡ 0 = omega arith in rw z (append-nil (option_list (enters f y)))
one_line f (y ∷ (x ∷ ls)) l e m = absurd (omega arith)

module _ {f : Flow} {ws : List ℕ} {n i : ℕ} {x : Call} (z : size f ≡ n) (h : CallOf f ws i x) (one : x.lines ≡ 1) {l : ℕ} (m : l < x.lines) where
  entry : Option ℕ
  entry = enters f (get_or (call_lines (kind f i)) l 0)

  holds : (o : Option ℕ) → entry ≡ o → (j : ℕ) → j < n → has ws x.row j ≡ cond (elem j (option_list o)) 1 0
  unfolding entered entry
  holds o q j b =
      let c = h.lines in
      h.entered j (omega arith) ∙ ap (λ (bs : List ℕ). cond (elem j bs) 1 0) (one_line f (call_lines (kind f i)) l (omega arith) (omega arith) ∙ ap option_list q)

  line-member : {r : ℕ} → Some r ≡ found_below (next_member ws x.row 0 n) n → entry ≡ some r
  unfolding option_list elem
  line-member {r} e = go entry refl
    where
      found : First ws x.row 0 n r × (r < n)
      found = next-some ws x.row 0 n zero-le e

      go : (o : Option ℕ) → entry ≡ o → entry ≡ some r
      go none q = absurd (omega (arith, holds none q r found.1, found.0.member found.1))
      go (some d) q = at (ℕ_discrete r d)
        where
          at : Dec (r ≡ d) → entry ≡ some r
          at (yes s) = q ∙ ap some (sym s)
          at (no s) = let has-none = rw (ne_eqb r d s) at (holds (some d) q r found.1) in absurd (omega (arith, has-none, found.0.member found.1))

  line_nowhere : None ≡ found_below (next_member ws x.row 0 n) n → ((d : ℕ) → entry ≡ some d → d < n) → entry ≡ none
  unfolding option_list elem
  line_nowhere e below = go entry refl
    where
      go : (o : Option ℕ) → entry ≡ o → entry ≡ none
      go none q = q
      go (some d) q = let s = below d q in let one = rw (eq-eqb d d refl) at (holds (some d) q d s) in absurd (omega (arith, one, next-none ws x.row 0 n zero-le e d zero-le s))

  -- so the row's first member is what the line enters
  pub line-first : (o : told.Option ℕ) (r : told.Option StmtId) → o ≡ found_below (next_member ws x.row 0 n) n → ((d : ℕ) → enters f (get_or (call_lines (kind f i)) l 0) ≡ some d → d < n)
      → MatchOption o (r ≡ None) (λ b. IsSomeAnd r (λ s. s.0 ≡ b)) → r ≡ statement_in (enters f (get_or (call_lines (kind f i)) l 0))
  unfolding entry
  line-first None r e below is = is ∙ sym (ap statement_in (line_nowhere e below))
  line-first (Some b) None e below is = absurd is
  line-first (Some b) (Some s) e below is = ap (λ (k : ℕ). Some (record { 0 = k })) is ∙ sym (ap statement_in (line-member e))
