-- `missed::visit` meets its contract: the statement is taken out, what is due is joined to its set, and if that grew, those wait that follow from it.
-- Assumes nothing.
use Prim.Native.Nat.{ℕ}
use mathlib.Core.Bool.{true, false}
use mathlib.Core.List.{List}
use mathlib.Core.Logic.{◌⊎◌, inl, inr}
use mathlib.Core.Path.{◌≡◌, refl}
use Rattle.std.proofs.Common.{rules}
use Rattle.words.specs.Clauses.Row.{Words}
use Rattle.flow.specs.Format.{flow_of}
use Rattle.sure.specs.Clauses.Missing.{OnlySets, Woken, Visited}
use Rattle.sure.proofs.Kept.{only-trans, only-removed, only-pair, only-ready, only-room, only-bodies, only-firsts}
use Rattle.sure.proofs.Visiting.{visited}
use Rattle.sure.proofs.missed.visit.Goals as goal
use Rattle.sure.proofs.missed.visit.Goals.{After-remove, After-union_pair}

-- the statement is taken out of those that wait
taken : (c : After-remove) → OnlySets c.args.work.now c.remove.new.ws c.args.layout.n
taken c = only-removed c.requires.2 c.waiting.ensures c.mirrored.ensures c.remove.ensures

pub next_set-next-requires : goal.next_set-next-requires
next_set-next-requires c =
    let out = taken (goal.at.next_set-next-requires c).After-remove in
    (only-ready out c.requires.0, only-room out c.requires.1, c.requires.2)

pub let_through-requires : goal.let_through-requires
let_through-requires c =
    let out = taken (goal.at.let_through-requires c).After-remove in
    (only-ready out c.requires.0, only-room out c.requires.1, c.requires.2, only-bodies out c.requires.3 c.args.i.0 c.requires.2)

pub set-requires : goal.set-requires
set-requires c = (c.requires.2)

pub wake-requires : goal.wake-requires
wake-requires c =
    let out = taken (goal.at.wake-requires c).After-remove in
    let joined = only-trans out (only-pair c.requires.2 (only-room out c.requires.1) c.set.ensures c.union_pair.ensures) in
    (only-room joined c.requires.1, c.requires.2, only-firsts joined c.requires.4)

-- and settled, whether its set grew or not
settled : (c : After-union_pair) {ts : List ℕ} → ((c.union_pair.result ≡ false) × (ts ≡ c.union_pair.new.ws)) ⊎ ((c.union_pair.result ≡ true) × Woken c.union_pair.new.ws ts c.args.layout.n c.args.i.0)
    → Visited (flow_of c.args.file.now) c.args.work.now ts c.args.layout.n c.args.i.0
settled c after =
    let before : Words c.args.work.now = λ x. search rules in
    let out : Words c.remove.new.ws = λ x. search rules in
    visited c.requires.0 c.requires.1 c.requires.2 before out c.waiting.ensures c.mirrored.ensures c.set.ensures c.remove.ensures c.next_set-next.ensures c.let_through.ensures c.union_pair.ensures
    (search rules) (search rules) after

pub returns-then-union_pair : goal.returns-then-union_pair
returns-then-union_pair c = settled (goal.at.returns-then-union_pair c).After-union_pair (inr (c.if-union_pair.true, c.wake.ensures))

pub returns-else-union_pair : goal.returns-else-union_pair
returns-else-union_pair c = settled (goal.at.returns-else-union_pair c).After-union_pair (inl (c.if-union_pair.false, refl))
