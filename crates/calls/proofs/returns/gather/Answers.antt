-- The one body of a call of one line, if it is no RETURN, has its walk in its row; any other call is gathered line by line. Assumes nothing.
use Prim.Native.Nat.{ℕ, ◌<◌}
use mathlib.Core.Bool.{Bool, cond}
use mathlib.Core.List.{List}
use mathlib.Core.Logic.{inr}
use mathlib.Core.Option.{some}
use mathlib.Core.Path.{◌≡◌, sym, ap, ◌∙◌, subst}
use native.Mathlib.Omega.{arith}
use lib.ListN.{length, get_or}
use Rattle.words.specs.Clauses.Row.{has}
use Rattle.flow.specs.Flow.{enters}
use Rattle.flow.specs.Format.{flow_of}
use Rattle.theory.specs.Lists.{In}
use Rattle.theory.specs.Body.{kind, call_lines, entered}
use Rattle.theory.proofs.Body.{entered_below}
use Rattle.statements.proofs.WorkArea.{row_fits}
use Rattle.statements.proofs.Keeps.{keeps-refl, ready-most, ready-room, ready_formed, ready-size, ready-below}
use Rattle.calls.specs.Clauses.Joins.{Gathers}
use Rattle.statements.proofs.Told.{enters-at}
use Rattle.calls.proofs.Lines.{entered-one, entered-line}
use Rattle.calls.proofs.Gathered.{body-gathered}
use Rattle.std.specs.Prelude.{Some}
use Rattle.flow.specs.declared.StmtId.{StmtId}
use Rattle.flow.specs.Clauses.Answers.{statement_in}
use Rattle.statements.specs.Clauses.Ready.{Ready}
use Rattle.calls.proofs.returns.gather.Goals as goal

-- the call names one line, which enters b
record One (s ws : List ℕ) (n i b : ℕ) : Type 0 where
  one : length (call_lines (kind (flow_of s) i)) ≡ 1
  names : enters (flow_of s) (get_or (call_lines (kind (flow_of s) i)) 0 0) ≡ some b
  among : In b (entered (flow_of s) i)
  below : b < n

one_line : {s ws : List ℕ} {n i count : ℕ} {b : StmtId} → Ready s ws n → count ≡ length (call_lines (kind (flow_of s) i)) → count ≡ 1
    → statement_in (enters (flow_of s) (get_or (call_lines (kind (flow_of s) i)) 0 0)) ≡ Some b → One s ws n i b.0
one_line {s} {i = i} {b = b} r counted single told =
    let names = enters-at (enters (flow_of s) (get_or (call_lines (kind (flow_of s) i)) 0 0)) b told in
    let among = entered-line (flow_of s) i 0 b.0 (omega arith) names in
    record { one = sym counted ∙ single; names = names; among = among; below = ready-below r (entered_below (ready_formed r) i b.0 among) }

pub invariant_of-layout : goal.invariant_of-layout
invariant_of-layout c = record { few = ready-most c.requires.0.ready }

pub is_return-requires : goal.is_return-requires
is_return-requires c =
    let o = one_line c.requires.0.ready c.line_count.ensures c.if-line_count-eq1.true (sym c.entered.ensures ∙ c.in-Some.is) in
    (c.requires.0.ready, o.below)

pub row-requires : goal.row-requires
row-requires c =
    let o = one_line c.requires.0.ready c.line_count.ensures c.if-line_count-eq1.true (sym c.entered.ensures ∙ c.in-Some.is) in
    (o.below)

pub returns : goal.returns
returns c =
    let p = c.requires in
    let r = p.0.ready in
    let f = flow_of c.args.file.now in
    let ws = c.args.work.now in
    let n = c.args.h.statements in
    let b = c.in-Some.b.0 in
    let o = one_line r c.line_count.ensures c.if-line_count-eq1.true (sym c.entered.ensures ∙ c.in-Some.is) in
    let other = sym c.is_return.ensures ∙ c.if-not-is_return.true in
    subst (λ (bs : List ℕ). Gathers f ws ws n bs c.row.result) (sym (entered-one f c.args.c.0 b o.one o.names))
    (record {
      kept = keeps-refl;
      apart = record {
        room = omega (arith, ready-room r (omega (arith, o.below)), c.row.ensures, row_fits n o.below);
        place = inr (b, o.below, c.row.ensures, p.3.holds b o.below ∙ ap (λ (t : Bool). cond t 1 0) other);
      };
      holds = λ s l. ap (λ (x : ℕ). has ws x s) c.row.ensures ∙ body-gathered f (ready_formed r) (ready-size r) o.below (p.2 b o.among other) s l;
    })
