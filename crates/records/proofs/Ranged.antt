-- The flow that an accepted file stands for has its numbers within their ranges.
-- By the checks of the header, of each record, of the lines and of the key, carried over to the flow's lists.
use Prim.Native.Nat.{ℕ, ◌^◌, ◌≤◌, ◌<◌}
use native.Mathlib.Omega.{arith}
use mathlib.Core.List.Memᴰ
use mathlib.Core.List.{List, Memᴰ}
use mathlib.Core.Option.{some}
use mathlib.Core.Path.{◌≡◌, ◌∙◌, sym, subst}
use lib.Pow.{pow_pos}
use Rattle.flow.specs.Limits.{max_statements, max_arrays, max_names}
use Rattle.flow.specs.Flow.{Flow, Statement, Item, size, statement, enters, items, continuation, no_statement}
use Rattle.flow.specs.Format.{flow_of, tabulate, statement_at, statements_of, arrays_of, names_of, line_count, line_number, line_first, successor_count, successor_at, reference_count, reference_at, item_at}
use Rattle.flow.specs.Clauses.Answers.{FitFile, FitRecord}
use Rattle.records.specs.Clauses.Fields.{item_count}
use Rattle.records.proofs.Files.{limited, record-fit, line_first_lem, handler-below}
use Rattle.records.proofs.Values.{in_range, item_in, continuation_in_lem}
use Rattle.records.proofs.Tabulated.{member_of}
use Rattle.records.proofs.Statements.{says_at, size_is, every}
use Rattle.records.proofs.LineSearch.{found_in}

pub record Ranged (f : Flow) : Type 0 where
  pub statements : size f ≤ max_statements
  pub arrays : f.arrays ≤ max_arrays
  pub names : f.names ≤ max_names
  pub entry : 0 < size f → f.entry < size f
  pub successor : (i j : ℕ) → Memᴰ j (statement f i).successors → j < size f
  pub continuation : (i t : ℕ) → continuation (statement f i).kind ≡ some t → t < size f
  pub first : (l e : ℕ) → enters f l ≡ some e → e < size f
  pub reference : (i a : ℕ) → Memᴰ a (statement f i).references → a < f.arrays
  pub dimmed : (i : ℕ) (x : Item) → Memᴰ x (items (statement f i).kind) → x.array < f.arrays
  pub written : (i : ℕ) → (statement f i).written < 2 ^ f.names
  pub read : (i : ℕ) → (statement f i).read < 2 ^ f.names
  pub handler : (i : ℕ) → f.handler ≡ some i → i < size f

-- the numbers of the statement t of a file's flow
pub record StatementInRange (s : List ℕ) (t : Statement) : Type 0 where
  pub successor : (j : ℕ) → Memᴰ j t.successors → j < statements_of s
  pub continuation : (k : ℕ) → continuation t.kind ≡ some k → k < statements_of s
  pub reference : (a : ℕ) → Memᴰ a t.references → a < arrays_of s
  pub dimmed : (x : Item) → Memᴰ x (items t.kind) → x.array < arrays_of s
  pub written : t.written < 2 ^ names_of s
  pub read : t.read < 2 ^ names_of s

nothing_in : (s : List ℕ) → StatementInRange s no_statement
nothing_in s = record {
  successor = λ j m. absurd (Memᴰ.not-nil m);
  continuation = λ k e. absurd (cc);
  reference = λ a m. absurd (Memᴰ.not-nil m);
  dimmed = λ x m. absurd (Memᴰ.not-nil m);
  written = pow_pos (names_of s);
  read = pow_pos (names_of s);
}

-- an element of a list that is given by its elements has what they have
elements_have : {A : Type 0} (P : A → Type 0) {xs : List A} (n : ℕ) (f : ℕ → A) → xs ≡ tabulate n f → ((k : ℕ) → k < n → P (f k))
    → (x : A) → Memᴰ x xs → P x
elements_have P n f e all x m = let w = member_of f n (subst (λ l. Memᴰ x l) e m) in subst P (sym w.2) (all w.0 w.1)

record_in : {s : List ℕ} {p : ℕ} → FitRecord s p → StatementInRange s (statement_at s p)
record_in {s} {p} h =
    let says = says_at s p in
    let range = in_range h in
    record {
      successor = elements_have (λ j. j < statements_of s) (successor_count s p) (successor_at s p) says.successors range.successor;
      continuation = λ k e. continuation_in_lem h k (sym says.continuation ∙ e);
      reference = elements_have (λ a. a < arrays_of s) (reference_count s p) (reference_at s p) says.references range.reference;
      dimmed = elements_have (λ x. x.array < arrays_of s) (item_count s p) (item_at s p) says.items (λ k l. (item_in h k l).0);
      written = subst (λ w. w < 2 ^ names_of s) (sym says.written) range.written;
      read = subst (λ w. w < 2 ^ names_of s) (sym says.read) range.read;
    }

pub statement_in : {s : List ℕ} → FitFile s → (i : ℕ) → StatementInRange s (statement (flow_of s) i)
statement_in {s} h = every s (StatementInRange s) (nothing_in s) (λ i l. record_in (record-fit h i l))

pub ranged : {s : List ℕ} → FitFile s → Ranged (flow_of s)
unfolding flow_of
ranged {s} h =
    let limits = limited h in
    let n = size_is s in
    let at = statement_in h in
    record {
      statements = let l = limits.statements in omega arith;
      arrays = limits.arrays;
      names = limits.names;
      entry = rw n limits.entry;
      successor = λ i j m. let l = (at i).successor j m in omega arith;
      continuation = λ i t e. let l = (at i).continuation t e in omega arith;
      first = λ l e q. first_in e (found_in (λ k. record { number = line_number s k; first = line_first s k }) l (line_count s) e q);
      reference = λ i. (at i).reference;
      dimmed = λ i. (at i).dimmed;
      written = λ i. (at i).written;
      read = λ i. (at i).read;
      handler = λ i e. let l = handler-below h i e in omega arith;
    }
  where
    first_in : (e : ℕ) → (k : ℕ) × (k < line_count s) × (line_first s k ≡ e) → e < size (flow_of s)
    first_in e r = let q = r.2 in omega (arith, size_is s, line_first_lem h r.0 r.1)
