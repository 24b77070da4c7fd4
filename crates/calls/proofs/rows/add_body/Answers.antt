-- `add_body` meets its contract: a body joins the row by itself, or with its walk, which is in its row unless it is a RETURN, whose walk is itself.
-- By the laws of `Adds`. Assumes nothing.
use mathlib.Core.Bool.{Bool, true}
use mathlib.Core.Path.{◌≡◌, sym, ◌∙◌, subst}
use native.Mathlib.Omega.{arith}
use Rattle.flow.specs.Format.{flow_of}
use Rattle.theory.specs.Body.{kind, is_return, walked}
use Rattle.theory.proofs.Lists.{clash}
use Rattle.statements.proofs.WorkArea.{member-word, row_fits}
use Rattle.statements.proofs.Keeps.{ready_formed, ready-size, ready-room}
use Rattle.calls.specs.Clauses.Joins.{Adds, body_of}
use Rattle.calls.proofs.Joined.{adds_insert, adds_union}
use Rattle.calls.proofs.Gathered.{row_walked, adds_alone}
use Rattle.calls.proofs.rows.add_body.Goals as goal
use Rattle.calls.proofs.rows.add_body.Goals.{else-whole-via-then-whole+else-not-is_return, else-whole-via-else-whole}

pub row-requires : goal.row-requires
row-requires c = let p = c.requires in (p.1)

pub union-requires : goal.union-requires
union-requires c =
    let p = c.requires in
    (omega (arith, p.2.high, c.row_words.ensures), omega (arith, c.row_words.ensures, c.row.ensures, row_fits _ p.1, ready-room p.0 (omega arith)))

pub insert-requires : goal.insert-requires
insert-requires c = let p = c.requires in omega (arith, p.2.high, member-word p.1)

pub returns-then-not-is_return : goal.returns-then-not-is_return
returns-then-not-is_return c =
    let a = c.args in
    let p = c.requires in
    subst (λ (whole : Bool). Adds a.to a.work.now c.union.new.ws a.layout.n (body_of (flow_of a.file.now) whole a.e.0)) (sym c.if-whole.true)
    (adds_union (walked (flow_of a.file.now) a.e.0) c.union.ensures c.row.ensures c.row_words.ensures p.1 (p.2.apart c.if-whole.true) p.2.high
    (row_walked (ready_formed p.0) (ready-size p.0) p.1 (p.3 c.if-whole.true (sym c.is_return.ensures ∙ c.if-not-is_return.true))))

pub returns-else-whole : goal.returns-else-whole
returns-else-whole c =
    let p = c.requires in
    let whole : c.args.whole ≡ true → is_return (kind (flow_of c.args.file.now) c.args.e.0) ≡ true = λ h.
    elim c.else-whole.branch [
      | else-whole-via-then-whole+else-not-is_return w ↦ sym w.is_return.ensures ∙ w.if-not-is_return.false
      | else-whole-via-else-whole w ↦ clash c.args.whole h w.if-whole.false
    ] in
    adds_alone c.args.whole whole (ready_formed p.0) (let z = ready-size p.0 in omega arith) (adds_insert c.insert.ensures p.1 p.2.high)
