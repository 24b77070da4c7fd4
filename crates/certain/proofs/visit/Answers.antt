-- `certain::visit` meets its contract: the statement is taken out, and what it does not write goes to its successors.
-- Assumes nothing.
use mathlib.Core.Path.{refl, ◌∙◌, ap}
use Rattle.words.specs.Clauses.Change.{without}
use Prim.Native.Nat.{◌<◌}
use Rattle.statements.specs.Clauses.Ready.{Ready}
use Rattle.certain.proofs.Visiting.{taken_ready, visited}
use borrow.Author.Rules.{rules}
use Rattle.certain.proofs.visit.Goals as goal
use Rattle.certain.proofs.visit.Goals.{After-remove}

-- the places are noted where i is taken out
taken : (c : After-remove) → Ready c.args.file.now c.remove.new.ws c.args.layout.n × (c.args.i.0 < c.args.layout.n)
taken c = (taken_ready c.requires.0 c.requires.1 c.waiting.ensures c.remove.ensures, c.requires.1)

pub written-writes-requires : goal.written-writes-requires
written-writes-requires c = taken (goal.at.written-writes-requires c).After-remove

pub set-at-requires : goal.set-at-requires
set-at-requires c = (c.requires.1)

pub push_listed-requires : goal.push_listed-requires
push_listed-requires c = taken (goal.at.push_listed-requires c).After-remove

pub returns : goal.returns
returns c =
    visited c.requires.0 c.requires.1 (λ x. search rules) c.waiting.ensures c.set-at.ensures c.remove.ensures (c.difference-names.ensures ∙ ap (without _) c.written-writes.ensures) refl c.push_listed.ensures
