-- The row is emptied, and then gains one RETURN after the other. Assumes nothing.
use Prim.Native.Nat.{ℕ, ◌+◌}
use mathlib.Core.Path.{◌≡◌, subst}
use native.Mathlib.Omega.{arith}
use Rattle.flow.specs.Format.{flow_of}
use Rattle.theory.specs.Lists.{concat_map, up_to}
use Rattle.statements.specs.Clauses.Layout.{row_words, returns_row_at}
use Rattle.statements.specs.Clauses.Ready.{Keeps}
use Rattle.statements.proofs.Keeps.{keeps-trans}
use Rattle.calls.specs.Clauses.Held.{Empty}
use Rattle.calls.specs.Clauses.Joins.{Adds}
use Rattle.calls.proofs.Joined.{adds_none}
use Rattle.calls.proofs.ReturnSet.{returns-room, returns_below, returns-more, returns-all}
use mathlib.Core.List.{List}
use Rattle.calls.proofs.returns.note_returns.Goals as goal

-- the row was emptied, and no other word was written
emptied : {ws vs : List ℕ} {n at : ℕ} → at ≡ returns_row_at n → Empty vs n at × Keeps at (at + row_words n) ws vs
    → Empty vs n (returns_row_at n) × Keeps (returns_row_at n) (returns_row_at n + row_words n) ws vs
emptied {ws} {vs} {n} e z = subst (λ (to : ℕ). Empty vs n to × Keeps to (to + row_words n) ws vs) e z

pub zero_row-requires : goal.zero_row-requires
zero_row-requires c = (omega (arith, returns-room c.args.layout.n c.requires, c.returns_row.ensures))

pub loop-r-init : goal.loop-r-init
unfolding concat_map up_to
loop-r-init c = adds_none

pub loop-r-preserved : goal.loop-r-preserved
loop-r-preserved c = returns-more (flow_of c.args.file.now) c.loop-r.r c.loop-r.invariant c.note_return.ensures

pub returns : goal.returns
returns c =
    let n = c.args.layout.n in
    let f = flow_of c.args.file.now in
    let z = emptied c.returns_row.ensures c.zero_row.ensures in
    let all : c.loop-r.r ≡ n = omega arith in
    (returns-all f z.0 (subst (λ (m : ℕ). Adds (returns_row_at n) c.zero_row.new.work c.loop-r.work n (returns_below f m)) all c.loop-r.invariant), keeps-trans z.1 c.loop-r.invariant.kept)
