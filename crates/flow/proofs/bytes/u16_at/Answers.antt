-- The bytes were read whole, and their number is the definition's (`reads_bytes`). Assumes nothing.
use mir.Syntax.{w16}
use mathlib.Core.Path.{◌∙◌, ap}
use Rattle.std.specs.Int.{from_le_bytes}
use Rattle.std.proofs.lemmas.Result.{MatchResult-at_ok}
use Rattle.flow.proofs.Numbers.{reads_bytes}
use Rattle.flow.proofs.bytes.u16_at.Goals as goal

pub returns : goal.returns
returns c = c.from_le_bytes.ensures ∙ ap (from_le_bytes w16) (MatchResult-at_ok _ _ _ c.unwrap.ensures c.try_into.ensures.1).same ∙ reads_bytes w16 c.args.file.now c.args.at
