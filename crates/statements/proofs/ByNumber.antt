-- A statement's record is found by its number: the noted place is that of a fit record, and what it says is the statement of the flow; the mark says
-- whether the statement acts.
-- By what a fit file gives its readers; the tests of a kind go by its number.
use Prim.Native.Nat.{ℕ, zero, suc, ◌^◌, ◌<◌, ◌≤◌}
use native.Mathlib.Omega.{arith}
use native.Mathlib.Nat.{zero-add}
use mathlib.Core.Bool.{◌||◌}
use mathlib.Core.List.{List, [], ◌∷◌}
use mathlib.Core.Option.{Option}
use mathlib.Core.Path.{◌≡◌, refl, sym, ap, ◌∙◌, subst}
use borrow.Author.Tests.{lt-ltb}
use lib.Dec.{eqb, ltb}
use lib.ListN.{length, get_or}
use Rattle.flow.specs.Limits.{max_kind}
use Rattle.flow.specs.Flow.{Kind, Item, statement, items}
use Rattle.flow.specs.Format.{flow_of, tabulate, record_place, statements_of, kind_at, kind_of, by_data, plain_kind, successor_count, successor_at, reference_count, reference_at, item_at}
use Rattle.flow.specs.Clauses.Answers.{FitRecord}
use Rattle.records.specs.declared.offsets.Noted.{Noted}
use Rattle.records.specs.Clauses.Fields.{item_count, acts_at, noted_of, word_at, noted_word, call_line_count, call_line_at}
use Rattle.flow.proofs.Records.{start_fits}
use Rattle.records.proofs.Files.{limited, record-fit}
use Rattle.records.proofs.Noting.{goes_back}
use Rattle.records.proofs.Values.{in_range}
use Rattle.records.proofs.Statements.{Says, says}
use Rattle.records.proofs.Tabulated.{length-tabulate, get_or-tabulate}
use Rattle.theory.specs.Body.{is_return, counts, wipes}
use Rattle.theory.specs.Sure.{is_gosub}
use Rattle.theory.specs.Doubled.{resets}
use Rattle.statements.specs.Clauses.Ready.{Ready, Elements, RecordOf, acts_in}

elements : {A : Type 0} {l : List A} (n : ℕ) (f : ℕ → A) → l ≡ tabulate n f → Elements l n f
elements n f e = record {
  list = e;
  count = ap length e ∙ length-tabulate f n;
  at = λ k d b. ap (λ x. get_or x k d) e ∙ get_or-tabulate f n k d (subst (λ (m : ℕ). k < m) (ap length e ∙ length-tabulate f n) b);
}

-- the tests of a kind go by its number

record Tests (k : ℕ) (x : Kind) : Type 0 where
  return : eqb k 1 ≡ is_return x
  resets : (eqb k 2 || eqb k 3) ≡ resets x
  gosub : eqb k 5 ≡ is_gosub x

module _ (is : List Item) (l : ℕ) (c : Option ℕ) (ls : List ℕ) (c' : Option ℕ) where
  tests : (k : ℕ) → k ≤ max_kind → Tests k (by_data k (Kind.dim is) (Kind.gosub l c) (Kind.on_gosub ls c') (plain_kind k))
  tests zero h = record { return = refl; resets = refl; gosub = refl }
  tests (suc zero) h = record { return = refl; resets = refl; gosub = refl }
  tests (suc (suc zero)) h = record { return = refl; resets = refl; gosub = refl }
  tests (suc (suc (suc zero))) h = record { return = refl; resets = refl; gosub = refl }
  tests (suc (suc (suc (suc zero)))) h = record { return = refl; resets = refl; gosub = refl }
  tests (suc (suc (suc (suc (suc zero))))) h = record { return = refl; resets = refl; gosub = refl }
  tests (suc (suc (suc (suc (suc (suc zero)))))) h = record { return = refl; resets = refl; gosub = refl }
  tests (suc (suc (suc (suc (suc (suc (suc k))))))) h = absurd (omega arith)

kind_tests : (s : List ℕ) (p : ℕ) → kind_at s p ≤ max_kind → Tests (kind_at s p) (kind_of s p)
unfolding kind_of
kind_tests s p h = tests _ _ _ _ _ (kind_at s p) h

counts-items : (is : List Item) → counts is ≡ ltb 0 (length is)
counts-items [] = refl
counts-items (x ∷ xs) = sym (lt-ltb 0 (length (x ∷ xs)) (omega arith))

-- a DIM that counts has items
pub wipes-is : (x : Kind) → wipes x ≡ (resets x || ltb 0 (length (items x)))
wipes-is Kind.other = refl
wipes-is Kind.return = refl
wipes-is Kind.clr = refl
wipes-is Kind.run = refl
wipes-is (Kind.dim is) = counts-items is
wipes-is (Kind.gosub l c) = refl
wipes-is (Kind.on_gosub ls c) = refl

record_said : {s : List ℕ} {i p : ℕ} → p ≡ record_place s i → FitRecord s p → Says s p (statement (flow_of s) i) → RecordOf s i p
record_said {s} {i} {p} e h t =
    let number = kind_tests s p (in_range h).kind in
    record {
      place = e;
      fit = h;
      return = number.return ∙ ap is_return (sym t.kind);
      resets = number.resets ∙ ap resets (sym t.kind);
      gosub = number.gosub ∙ ap is_gosub (sym t.kind);
      successors = elements (successor_count s p) (successor_at s p) t.successors;
      references = elements (reference_count s p) (reference_at s p) t.references;
      written = t.written;
      read = t.read;
      items = elements (item_count s p) (item_at s p) t.items;
      lines = elements (call_line_count s p) (call_line_at s p) t.lines;
      continuation = t.continuation;
    }

record_of : {s ws : List ℕ} {n i : ℕ} → Ready s ws n → i < n → RecordOf s i (record_place s i)
record_of {s} {ws} {n} {i} r l =
    let within : i < statements_of s = subst (λ (m : ℕ). i < m) r.count l in
    record_said refl (record-fit r.fit i within) (says s i within)

-- what is noted of statement i: the place of its record is below the mark, since a fit file is short
module _ {s ws : List ℕ} {n i : ℕ} (r : Ready s ws n) (l : i < n) where
  word : get_or ws i 0 ≡ noted_word s i
  word = ap (λ x. get_or ws x 0) (sym (zero-add i)) ∙ r.offsets i l

  small : record_place s i < 2 ^ 32
  small = omega (arith, (limited r.fit).file, start_fits (record_of r l).fit)

  is_noted : noted_of (get_or ws i 0) ≡ record { place = record_place s i; acts = acts_at s (record_place s i) }
  unfolding word_at
  is_noted = ap noted_of word ∙ goes_back (record_place s i) (acts_at s (record_place s i)) small

  pub noted_record : {x : Noted} → x ≡ noted_of (get_or ws i 0) → RecordOf s i x.place
  noted_record e = subst (λ (p : ℕ). RecordOf s i p) (sym (ap (λ (y : Noted). y.place) (e ∙ is_noted))) (record_of r l)

  acts_said : acts_at s (record_place s i) ≡ acts_in (flow_of s) i
  unfolding acts_at acts_in
  acts_said = let said = record_of r l in rw (said.resets, said.items.count, said.references.count)

  pub noted_acts : {x : Noted} → x ≡ noted_of (get_or ws i 0) → x.acts ≡ acts_in (flow_of s) i
  noted_acts e = ap (λ (y : Noted). y.acts) (e ∙ is_noted) ∙ acts_said
