-- The RETURNs in the first j words of the row have k in their rows; the row itself stays.
use Rattle.calls.proofs.Gathered.{Noting}
use Rattle.calls.proofs.returns.note_shared.Given as goal

abbrev pub invariant-loop-j : goal.invariant-loop-j
invariant-loop-j l = Noting l.initial.work l.work l.layout.n l.row l.k.0 l.j
