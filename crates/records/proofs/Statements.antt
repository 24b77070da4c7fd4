-- The fields that are read by position are those of the `Flow` that the file stands for.
-- The flow's lists are given by their elements, and the data of a kind by its number.
use Prim.Native.Nat.{ℕ, ◌<◌}
use mathlib.Core.Bool.{Bool, true, false, cond}
use mathlib.Core.List.{List, [], ◌∷◌}
use mathlib.Core.Option.{none}
use mathlib.Core.Path.{◌≡◌, refl, sym, ap, fun_ext}
use lib.Dec.{eqb, ltb}
use lib.ListN.{get_or, get_or-eq_default}
use native.Mathlib.Nat.{add-zero}
use native.Mathlib.Omega.{arith}
use borrow.Author.Tests.{ne_eqb, ltb-true, ltb-false}
use Rattle.flow.specs.Flow as F
use Rattle.flow.specs.Flow.{Statement, no_statement, size, statement, items, call_lines, continuation}
use Rattle.flow.specs.Format.{tabulate, flow_of, statement_at, kind_of, statements_of, record_place, line_at, kind_at, successor_count, successor_at, reference_count, reference_at, written_at, read_at, data_place, data_count, element_place, item_at, u16_at}
use Rattle.records.specs.Clauses.Fields.{item_count, call_line_count, call_line_at, continuation_in}
use Rattle.records.proofs.KindNumber.{Number, number, dim, gosub, on_gosub, other}
use Rattle.records.proofs.Tabulated.{length-tabulate, get_or-tabulate}

-- a plain kind has no data
record Plain (k : F.Kind) : Type 0 where
  no_items : items k ≡ []
  no_lines : call_lines k ≡ []
  goes_nowhere : continuation k ≡ none

plain : (r c n : Bool) → Plain (cond r F.Kind.return (cond c F.Kind.clr (cond n F.Kind.run F.Kind.other)))
plain true c n = record { no_items = refl; no_lines = refl; goes_nowhere = refl }
plain false true n = record { no_items = refl; no_lines = refl; goes_nowhere = refl }
plain false false true = record { no_items = refl; no_lines = refl; goes_nowhere = refl }
plain false false false = record { no_items = refl; no_lines = refl; goes_nowhere = refl }

module _ (s : List ℕ) (p : ℕ) where
  items_are : Number (kind_at s p) → items (kind_of s p) ≡ tabulate (item_count s p) (item_at s p)
  unfolding kind_of item_count tabulate
  items_are (dim e) = rw e
  items_are (gosub e) = rw e
  items_are (on_gosub e) = rw e
  items_are (other d g o) =
      simp (ne_eqb (kind_at s p) 4 d, ne_eqb (kind_at s p) 5 g, ne_eqb (kind_at s p) 6 o)
      (plain (eqb (kind_at s p) 1) (eqb (kind_at s p) 2) (eqb (kind_at s p) 3)).no_items

  only-line : kind_at s p ≡ 5 → u16_at s (data_place s p) ≡ call_line_at s p 0
  unfolding call_line_at
  only-line e = rw e (ap (u16_at s) (sym (add-zero (data_place s p))))

  line-at : (kind_at s p ≡ 5 → ⊥) → (k : ℕ) → u16_at s (element_place s p k) ≡ call_line_at s p k
  unfolding call_line_at
  line-at n k = rw (ne_eqb (kind_at s p) 5 n)

  lines_are : Number (kind_at s p) → call_lines (kind_of s p) ≡ tabulate (call_line_count s p) (call_line_at s p)
  unfolding kind_of call_line_count tabulate
  lines_are (dim e) = rw e
  lines_are (gosub e) = rw e (ap (λ x. x ∷ []) (only-line e))
  lines_are (on_gosub e) = rw e (ap (tabulate (data_count s p)) (fun_ext (line-at (λ g. omega arith))))
  lines_are (other d g o) =
      simp (ne_eqb (kind_at s p) 4 d, ne_eqb (kind_at s p) 5 g, ne_eqb (kind_at s p) 6 o)
      (plain (eqb (kind_at s p) 1) (eqb (kind_at s p) 2) (eqb (kind_at s p) 3)).no_lines

  continuation-is : Number (kind_at s p) → continuation (kind_of s p) ≡ continuation_in s p
  unfolding kind_of continuation_in
  continuation-is (dim e) = rw e
  continuation-is (gosub e) = rw e
  continuation-is (on_gosub e) = rw e
  continuation-is (other d g o) =
      simp (ne_eqb (kind_at s p) 4 d, ne_eqb (kind_at s p) 5 g, ne_eqb (kind_at s p) 6 o)
      (plain (eqb (kind_at s p) 1) (eqb (kind_at s p) 2) (eqb (kind_at s p) 3)).goes_nowhere

-- what the statement t of a flow says is what the record at p says
pub record Says (s : List ℕ) (p : ℕ) (t : Statement) : Type 0 where
  pub line : t.line ≡ line_at s p
  pub kind : t.kind ≡ kind_of s p
  pub successors : t.successors ≡ tabulate (successor_count s p) (successor_at s p)
  pub references : t.references ≡ tabulate (reference_count s p) (reference_at s p)
  pub written : t.written ≡ written_at s p
  pub read : t.read ≡ read_at s p
  pub items : items t.kind ≡ tabulate (item_count s p) (item_at s p)
  pub lines : call_lines t.kind ≡ tabulate (call_line_count s p) (call_line_at s p)
  pub continuation : continuation t.kind ≡ continuation_in s p

pub says_at : (s : List ℕ) (p : ℕ) → Says s p (statement_at s p)
unfolding statement_at
says_at s p = record {
  line = refl;
  kind = refl;
  successors = refl;
  references = refl;
  written = refl;
  read = refl;
  items = items_are s p (number (kind_at s p));
  lines = lines_are s p (number (kind_at s p));
  continuation = continuation-is s p (number (kind_at s p));
}

pub size_is : (s : List ℕ) → size (flow_of s) ≡ statements_of s
unfolding flow_of
size_is s = length-tabulate (λ i. statement_at s (record_place s i)) (statements_of s)

-- statement i of the flow is what record i says
pub says : (s : List ℕ) (i : ℕ) → i < statements_of s → Says s (record_place s i) (statement (flow_of s) i)
unfolding flow_of
says s i l =
    rw (get_or-tabulate (λ j. statement_at s (record_place s j)) (statements_of s) i no_statement l) (says_at s (record_place s i))

-- what holds of no statement and of what each record says holds of every statement of the flow
pub every : (s : List ℕ) (P : Statement → Type 0) → P no_statement → ((i : ℕ) → i < statements_of s → P (statement_at s (record_place s i)))
    → (i : ℕ) → P (statement (flow_of s) i)
unfolding flow_of
every s P nothing each i = go (ltb i (statements_of s)) refl
  where
    at : ℕ → Statement
    at j = statement_at s (record_place s j)

    go : (b : Bool) → ltb i (statements_of s) ≡ b → P (get_or (tabulate (statements_of s) at) i no_statement)
    go true e =
        let below = ltb-true i (statements_of s) e in
        rw (get_or-tabulate at (statements_of s) i no_statement below) (each i below)
    go false e =
        let long = length-tabulate at (statements_of s) in
        let past = ltb-false i (statements_of s) e in
        rw (get_or-eq_default (tabulate (statements_of s) at) no_statement {n = i} (omega arith)) nothing
