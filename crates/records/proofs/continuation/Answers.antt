-- The two bytes that end a call's record are its continuation (`continuation-ends`). Assumes nothing.
use native.Mathlib.Omega.{arith}
use Prim.Native.Nat.{ℕ, ◌-◌, ◌≤◌}
use mathlib.Core.Logic.{◌⊎◌, inl, inr}
use lib.Dec.{eqb}
use mathlib.Core.Path.{◌≡◌, sym, ap, ◌∙◌}
use Rattle.flow.specs.declared.kind.Kind.TheVariants.{Gosub, OnGosub}
use Rattle.flow.specs.Limits.{no_continuation}
use Rattle.flow.specs.Format.{u16_at, record_end, continuation_from}
use Rattle.flow.specs.Clauses.Answers.{statement_in}
use Rattle.flow.specs.declared.kind.Kind.{Kind}
use Rattle.flow.specs.Clauses.Kinds.{kind_number}
use Rattle.flow.proofs.KindNumbers.{number-not}
use Rattle.flow.proofs.Records.{end_fits, data-before-end}
use Rattle.records.proofs.KindData.{continuation-none, continuation-ends}
use Rattle.records.proofs.continuation.Goals as goal

-- the number of a call's kind is 5 or 6
call : {k : Kind} {n : ℕ} → kind_number k ≡ n → (k ≡ Gosub) ⊎ (k ≡ OnGosub) → 5 ≤ n
call e (inl w) = let m = ap kind_number w in omega (arith, e, m)
call e (inr w) = let m = ap kind_number w in omega (arith, e, m)

pub overflow_sub-record_end : goal.overflow_sub-record_end
overflow_sub-record_end c = omega (arith, data-before-end c.args.file.now c.args.p)

pub u16_at-requires : goal.u16_at-requires
u16_at-requires c = omega (arith, data-before-end c.args.file.now c.args.p, end_fits c.requires)

pub returns-in-Gosub : goal.returns-in-Gosub
returns-in-Gosub c =
    let s = c.args.file.now in
    let p = c.args.p in
    let at : c.u16_at.result ≡ u16_at s (record_end s p - 2) = cc in
    c.target.ensures
    ∙ ap (λ (t : ℕ). statement_in (continuation_from t (eqb t no_continuation))) at
    ∙ sym (ap statement_in (continuation-ends c.requires (call c.kind.ensures c.in-Gosub.is)))

pub returns-in_default : goal.returns-in_default
returns-in_default c =
    let k = c.kind.ensures in
    let no = c.in_default in
    ap statement_in (sym (continuation-none c.args.file.now c.args.p (number-not Gosub k no.not-Gosub) (number-not OnGosub k no.not-OnGosub)))
