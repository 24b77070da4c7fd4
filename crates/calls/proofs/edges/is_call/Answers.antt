-- `is_call` meets its contract: a kind that is no call has no continuation, and the state of a call says the rest.
-- Assumes nothing.
use Prim.Native.Nat.{ℕ, ◌+◌}
use mathlib.Core.Path.{sym, ap, ◌∙◌}
use lib.Dec.{eqb}
use lib.ListN.{get_or}
use Rattle.flow.specs.Format.{flow_of}
use Rattle.records.proofs.KindData.{continuation-none}
use Rattle.calls.specs.Clauses.Held.{transparent}
use Rattle.calls.proofs.Classes.{no_call, call-state}
use Rattle.flow.specs.declared.kind.Kind.TheVariants.{Gosub, OnGosub}
use Rattle.flow.proofs.KindNumbers.{number-not}
use Rattle.theory.proofs.Lists.{clash}
use Rattle.calls.proofs.edges.is_call.Goals as goal
use Rattle.calls.proofs.edges.is_call.Goals.{in-Gosub, in_default}

pub returns-then-matches : goal.returns-then-matches
returns-then-matches c = ap (λ (b : ℕ). eqb (get_or c.args.work.now (b + c.args.i.0) 0) transparent) c.calls.ensures ∙ call-state c.requires.1.calls c.requires.2

pub returns-else-matches : goal.returns-else-matches
returns-else-matches c =
    let k = c.kind.ensures in
    elim c.match-matches.branch [
      | in-Gosub w ↦ clash c.match-matches.matches w.matches-is c.if-matches.false
      | in_default w ↦
          let no = w.in_default in
          c.if-matches.false
          ∙ sym (no_call (flow_of c.args.file.now) c.args.i.0
          (c.requires.3.continuation ∙ continuation-none c.args.file.now c.args.place (number-not Gosub k no.not-Gosub) (number-not OnGosub k no.not-OnGosub)))
    ]
