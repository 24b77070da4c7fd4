-- What the live sets are found from, and what they are: the words of the definitions, with every other word of the two areas as it was.
-- Of the work area only the words of the worklist are written.
use Rattle.std.specs.Prelude.{ℕ, ◌<◌, ◌≤◌, List, ◌≡◌, length, get_or}
use Rattle.flow.specs.Flow.{Flow}
use Rattle.theory.specs.Live.{live_in_word, live_out_word}
use Rattle.statements.specs.Clauses.Layout.{matrix_at}
use Rattle.statements.specs.Clauses.Ready.{Ready, Keeps}
use Rattle.solve.specs.declared.Queue.{Queue}
use Rattle.solve.specs.Clauses.Layout.{nodes_end}
use Rattle.live.specs.Clauses.Predecessors.{Predecessors}
use Rattle.live.specs.Clauses.Solving.{Held}

-- the areas have room for n words
pub record LiveStart (s ws ins outs : List ℕ) (n : ℕ) : Type 0 where
  pub ready : Ready s ws n
  pub some : 0 < n
  pub in_room : n ≤ length ins
  pub out_room : n ≤ length outs

-- the predecessors are noted, and the statements that have not handed their live-in on wait
pub record Begun (f : Flow) (n : ℕ) (ws vs ins ins' outs outs' : List ℕ) (q : Queue) : Type 0 where
  pub predecessors : Predecessors f vs n
  pub held : Held f 0 n vs ins' outs' q
  pub kept : Keeps (matrix_at n) (nodes_end n 0) ws vs
  pub in_area : Keeps 0 n ins ins'
  pub out_area : Keeps 0 n outs outs'

pub record LiveNames (f : Flow) (n : ℕ) (ws vs ins ins' outs outs' : List ℕ) : Type 0 where
  pub live_in : (i : ℕ) → i < n → get_or ins' i 0 ≡ live_in_word f i
  pub live_out : (i : ℕ) → i < n → get_or outs' i 0 ≡ live_out_word f i
  pub in_area : Keeps 0 n ins ins'
  pub out_area : Keeps 0 n outs outs'
  pub work : Keeps (matrix_at n) (nodes_end n 0) ws vs
