-- `noting::note_call` meets its contract: noted at the continuation, and at the body if the word names one. That word stands below the words that are written.
-- Assumes nothing.
use Prim.Native.Nat.{ℕ, ◌+◌, ◌<◌}
use mathlib.Core.List.{List}
use mathlib.Core.Path.{◌≡◌, sym, ◌∙◌}
use native.Mathlib.Omega.{arith}
use lib.ListN.{get_or}
use Rattle.statements.specs.Clauses.Layout.{sure_at}
use Rattle.sure.specs.Clauses.Noting.{NotesFollower}
use Rattle.sure.proofs.Followers.{call_asks}
use Rattle.sure.proofs.Reading.{asks_body}
use Rattle.sure.proofs.noting.note_call.Goals as goal

-- the word of the body is what it was at the start
body_stays : {ws vs js : List ℕ} {n i : ℕ} → i < n → NotesFollower ws vs n i js → get_or vs (sure_at n + i) 0 ≡ get_or ws (sure_at n + i) 0
body_stays {n = n} {i} l noted = noted.kept.below (sure_at n + i) (omega arith)

pub returns-in-Some : goal.returns-in-Some
returns-in-Some c =
    let a = c.args in
    let p = c.requires in
    let asks = sym (body_stays p.2 c.note_follower.ensures) ∙ asks_body c.note_follower.new.work a.layout.n a.i.0 c.sure.ensures c.body_of.ensures c.in-Some.b c.in-Some.is in
    call_asks c.in-Some.b.0 p.2 p.1 asks c.note_follower.ensures c.note_follower-in-Some.ensures
