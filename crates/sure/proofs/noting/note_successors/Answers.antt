-- `noting::note_successors` meets its contract: one more successor, at which the statement is noted.
-- Assumes nothing.
use mathlib.Core.List.{[], ◌∷◌}
use mathlib.Core.Path.{subst}
use native.Mathlib.Omega.{arith}
use Rattle.flow.specs.Format.{flow_of}
use Rattle.theory.specs.Body.{successors}
use Rattle.statements.proofs.Keeps.{ready_formed, ready-below}
use Rattle.statements.proofs.Names.{target_in}
use Rattle.sure.specs.Clauses.Noting.{NotesFollower}
use Rattle.sure.proofs.Followers.{notes_more}
use Rattle.sure.proofs.noting.note_successors.Goals as goal

pub note_follower-requires : goal.note_follower-requires
note_follower-requires c =
    let ready = c.requires.0 in
    let loop = c.loop-k in
    let low = target_in ready c.args.i.0 loop.k (omega (arith, c.offset-p.ensures.successors.count, c.successor_count-count.ensures)) in
    (omega (arith, c.requires.1, loop.invariant.kept.size), omega (arith, c.successor_at-j.ensures, low), c.requires.2, loop.invariant.words)

pub loop-k-preserved : goal.loop-k-preserved
loop-k-preserved c =
    let ready = c.requires.0 in
    let loop = c.loop-k in
    let i = c.args.i.0 in
    notes_more (successors (flow_of c.args.file.now) i) loop.k c.requires.2 (λ j m. ready-below ready ((ready_formed ready).successor i j m))
    (omega (arith, c.offset-p.ensures.successors.count, c.successor_count-count.ensures)) loop.invariant
    (subst (λ z. NotesFollower loop.work c.note_follower.new.work c.args.layout.n i (z ∷ [])) c.successor_at-j.ensures c.note_follower.ensures)
