-- A call that is not opaque has a continuation. Assumes nothing.
use mathlib.Core.Path.{refl, sym, ap, ◌∙◌, subst}
use Rattle.std.specs.Option.{IsSome}
use Rattle.flow.specs.Format.{flow_of}
use Rattle.flow.specs.Clauses.Answers.{statement_in}
use Rattle.calls.proofs.Classes.{call_says}
use Rattle.calls.proofs.edges.continuation_of.Goals as goal

pub unwrap-requires : goal.unwrap-requires
unwrap-requires c =
    let says = call_says (flow_of c.args.file.now) c.args.i.0 c.requires.1 in
    subst IsSome (sym (c.continuation.ensures ∙ ap statement_in (sym c.requires.0.continuation ∙ says.1))) refl
