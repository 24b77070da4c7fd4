-- The pass over the edges of a proposed table: what the work area is once the first numbers have sent their masks.
use Rattle.std.specs.Prelude.{ℕ, ◌+◌, ◌*◌, ◌<◌, Bool, true, ◌&&◌, List, ◌≡◌, eqb}
use Rattle.flow.specs.declared.Header.{Header}
use Rattle.flow.specs.Flow.{Flow, size}
use Rattle.flow.specs.Format.{flow_of}
use Rattle.theory.specs.Lists.{all_below}
use Rattle.theory.specs.Accept.{Proposal, entry_held, row_held}
use Rattle.statements.specs.Clauses.Layout.{set_words, queue_at}
use Rattle.statements.specs.Clauses.Ready.{Indexed, Keeps}
use Rattle.calls.specs.Clauses.Held.{Linked}
use Rattle.solve.specs.declared.Queue.{Queue}
use Rattle.solve.specs.Clauses.Layout.{settled_in, area_end}
use Rattle.solve.specs.Clauses.Waiting.{Waits}
use Rattle.solve.specs.Clauses.Pushed.{masks_at}
use Rattle.dataflow.specs.Clauses.Sent.{masks_below, Shared}
use Rattle.dataflow.specs.Clauses.Transfer.{KeySet}

-- every byte of the table is a mask
abbrev pub Bytes : Flow → Proposal → Type 0
Bytes f t = (d a : ℕ) → d < size f + size f → a < f.arrays → t d a < 8

-- every number is settled: nothing that was sent made its masks grow
unfoldable pub all_settled : List ℕ → ℕ → ℕ → Bool
all_settled ws n w = all_below (2 * n) (λ d. eqb (settled_in ws n w d) 1)

-- the first k numbers have sent what they hold: every number is settled exactly where the entry and the edges of those k ask for nothing more, and then the masks are those of the table
pub record Passing (f : Flow) (t : Proposal) (ws : List ℕ) (n w : ℕ) (queue : Queue) (k : ℕ) : Type 0 where
  pub waiting : List ℕ
  pub waits : Waits ws n w queue waiting
  pub shared : Shared f ws n w
  pub told : all_settled ws n w ≡ (entry_held f t && all_below k (row_held f t))
  pub same : all_settled ws n w ≡ true → (d a : ℕ) → d < 2 * n → a < 64 * w → masks_at ws n w d a ≡ masks_below f.arrays (t d) a

-- what sending asks of the work area besides
pub record Edged (s : List ℕ) (h : Header) (ws : List ℕ) : Type 0 where
  pub indexed : Indexed s h ws
  pub linked : Linked (flow_of s) ws h.statements
  pub key : KeySet (flow_of s) ws h.statements (set_words h.arrays)
  pub some : 0 < h.statements

abbrev pub nothing : Queue
nothing = record { head = 0; len = 0 }

-- the number d has sent what it holds; besides only words of the solver are written
pub record Passed (f : Flow) (ws vs : List ℕ) (n w : ℕ) (queue : Queue) (d : ℕ) (r : Queue) : Type 0 where
  pub on : (t : Proposal) → Bytes f t → Passing f t ws n w queue d → Passing f t vs n w r (d + 1)
  pub keeps : Keeps (queue_at n) (area_end n w) ws vs

-- every number has
pub record AllPassed (f : Flow) (ws vs : List ℕ) (n w : ℕ) : Type 0 where
  pub told : (t : Proposal) → Bytes f t → Passing f t ws n w nothing 0 → all_settled vs n w ≡ (entry_held f t && all_below (2 * n) (row_held f t))
  pub keeps : Keeps (queue_at n) (area_end n w) ws vs
