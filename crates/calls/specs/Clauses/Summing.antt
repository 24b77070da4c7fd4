-- Summaries while they are made: what the state of each body and of each call says, and that from one moment to a later one summaries are only added.
-- An open body is on the way: calls lead from it to the body at hand. What is noted as touched is touched; where a summary is transparent, it is all that is touched.
use Rattle.std.specs.Prelude.{ℕ, ◌+◌, ◌<◌, Bool, true, false, cond, not, ◌||◌, List, ◌≢◌, ◌≡◌, eqb, get_or}
use mathlib.Core.Option.{some}
use Rattle.std.specs.Int.Bits.{bit_or}
use Rattle.words.specs.Clauses.Row.{bit}
use Rattle.words.specs.Clauses.Change.{joined}
use Rattle.flow.specs.Flow.{Flow}
use Rattle.theory.specs.Lists as lists
use Rattle.theory.specs.Lists.{In}
use Rattle.theory.specs.Body as theory
use Rattle.theory.specs.Body.{kind, references, continuation_of, is_return, callees, touches, opaque_call, call_touches, Calls⁺}
use Rattle.statements.specs.Clauses.Layout.{calls_at, call_touched_at, bodies_at, touched_at, entered_row_at}
use Rattle.statements.specs.Clauses.Ready.{Keeps, MembersWord}
use Rattle.calls.specs.Clauses.Held.{unentered, opened, transparent, opaque, WalkRow}

-- the states of body b and of call c, and the arrays noted as touched

abbrev pub body : List ℕ → ℕ → ℕ → ℕ
body ws n b = get_or ws (bodies_at n + b) 0

abbrev pub call : List ℕ → ℕ → ℕ → ℕ
call ws n c = get_or ws (calls_at n + c) 0

abbrev pub touched_by : List ℕ → ℕ → ℕ → ℕ
touched_by ws n b = get_or ws (touched_at n + b) 0

abbrev pub call_touched_by : List ℕ → ℕ → ℕ → ℕ
call_touched_by ws n c = get_or ws (call_touched_at n + c) 0

-- the state of a summary
abbrev pub summary_state : Bool → ℕ
summary_state found-opaque = cond found-opaque opaque transparent

-- the arrays of the word pass the test; the arrays that pass are in the word

abbrev pub Within : ℕ → (ℕ → Bool) → Type 0
Within w p = (a : ℕ) → a < 64 → bit w a ≡ 1 → p a ≡ true

abbrev pub Holds : ℕ → (ℕ → Bool) → Type 0
Holds w p = (a : ℕ) → a < 64 → p a ≡ true → bit w a ≡ 1

-- what the state of body b says. A RETURN's row is kept for its edges
pub data BodyState (f : Flow) (ws : List ℕ) (n b : ℕ) : Type 0 where
  is_unentered : body ws n b ≡ unentered → BodyState f ws n b
  is_open : body ws n b ≡ opened → WalkRow f ws n b → BodyState f ws n b
  is_transparent : body ws n b ≡ transparent → theory.opaque f b ≡ false → Holds (touched_by ws n b) (touches f b) → (is_return (kind f b) ≡ false → WalkRow f ws n b) → BodyState f ws n b
  is_opaque : body ws n b ≡ opaque → theory.opaque f b ≡ true → WalkRow f ws n b → BodyState f ws n b

-- the bodies that the call c enters have been entered
pub record CalleesEntered (f : Flow) (ws : List ℕ) (n c : ℕ) : Type 0 where
  pub continuation : ℕ
  pub continues : continuation_of (kind f c) ≡ some continuation
  pub bodies : (b : ℕ) → In b (callees f c) → body ws n b ≢ unentered

-- what the state of call c says
pub data CallState (f : Flow) (ws : List ℕ) (n c : ℕ) : Type 0 where
  is_none : call ws n c ≡ unentered → CallState f ws n c
  is_transparent : call ws n c ≡ transparent → CalleesEntered f ws n c → opaque_call f c ≡ false → Holds (call_touched_by ws n c) (call_touches f c) → CallState f ws n c
  is_opaque : call ws n c ≡ opaque → CalleesEntered f ws n c → opaque_call f c ≡ true → CallState f ws n c

pub record Summing (f : Flow) (ws : List ℕ) (n : ℕ) : Type 0 where
  pub bodies : (b : ℕ) → b < n → BodyState f ws n b
  pub touched : (b : ℕ) → b < n → Within (touched_by ws n b) (touches f b)
  pub calls : (c : ℕ) → c < n → CallState f ws n c
  pub call_touched : (c : ℕ) → c < n → Within (call_touched_by ws n c) (call_touches f c)

-- from ws to vs summaries were only added, the state of body e left aside: the same bodies are open, what was entered or summary_state is so still, and sets grew
pub record OnwardBut (e : ℕ) (ws vs : List ℕ) (n : ℕ) : Type 0 where
  pub keeps : Keeps (calls_at n) (entered_row_at n) ws vs
  pub was_open : (b : ℕ) → b < n → b ≢ e → body vs n b ≡ opened → body ws n b ≡ opened
  pub still_open : (b : ℕ) → b < n → b ≢ e → body ws n b ≡ opened → body vs n b ≡ opened
  pub still_entered : (b : ℕ) → b < n → b ≢ e → body vs n b ≡ unentered → body ws n b ≡ unentered
  pub still_summed : (c : ℕ) → c < n → call vs n c ≡ unentered → call ws n c ≡ unentered
  pub touched : (b a : ℕ) → b < n → bit (touched_by ws n b) a ≡ 1 → bit (touched_by vs n b) a ≡ 1
  pub call_touched : (c a : ℕ) → c < n → bit (call_touched_by ws n c) a ≡ 1 → bit (call_touched_by vs n c) a ≡ 1

-- no body is left aside: n is none
abbrev pub Onward : List ℕ → List ℕ → ℕ → Type 0
Onward ws vs n = OnwardBut n ws vs n

-- calls lead from every open body to b
abbrev pub Leads : Flow → List ℕ → ℕ → ℕ → Type 0
Leads f ws n b = (o : ℕ) → o < n → body ws n o ≡ opened → Calls⁺ f o b

-- statement i was passed by on the walk of body e: its references, and what it touches as a call, were joined to what the body touches; whether it makes the body opaque
pub record WalkPassed (f : Flow) (ws vs : List ℕ) (n e i : ℕ) (found-opaque : Bool) : Type 0 where
  pub own : ℕ
  pub set : MembersWord own (λ a. lists.elem a (references f i))
  pub slice : vs ≡ joined ws (touched_at n + e) (bit_or own (call_touched_by ws n i))
  pub state : found-opaque ≡ (eqb (call ws n i) opaque || theory.wipes (kind f i))

-- what body b touches was joined to what call c touches; whether the body is not transparent
pub record BodyJoined (ws vs : List ℕ) (n c b : ℕ) (found-opaque : Bool) : Type 0 where
  pub slice : vs ≡ joined ws (call_touched_at n + c) (touched_by ws n b)
  pub state : found-opaque ≡ not (eqb (body ws n b) transparent)

-- body e has a summary, or is open still
pub record BodySummed (f : Flow) (ws vs : List ℕ) (n e : ℕ) : Type 0 where
  pub summing : Summing f vs n
  pub onward : Onward ws vs n
  pub done : body vs n e ≢ unentered

-- body e was opened, and its walk is in its row
pub record Opened (f : Flow) (ws vs : List ℕ) (n e : ℕ) : Type 0 where
  pub summing : Summing f vs n
  pub onward : OnwardBut e ws vs n
  pub was : body ws n e ≡ unentered
  pub is : body vs n e ≡ opened

-- body e was opened, if the answer says so, and else there is nothing left to do
abbrev pub Entered : Flow → List ℕ → List ℕ → ℕ → ℕ → Bool → Type 0
Entered f ws vs n e true = Opened f ws vs n e
Entered f ws vs n e false = BodySummed f ws vs n e

-- call c has a continuation and no summary, if the answer says so
abbrev pub Awaits : Flow → List ℕ → ℕ → ℕ → Bool → Type 0
Awaits f ws n c true = (k : ℕ) × (continuation_of (kind f c) ≡ some k)
Awaits f ws n c false = (k : ℕ) → continuation_of (kind f c) ≡ some k → call ws n c ≢ unentered

-- call c has a summary, if it has a continuation
pub record CallSummed (f : Flow) (ws vs : List ℕ) (n c : ℕ) : Type 0 where
  pub summing : Summing f vs n
  pub onward : Onward ws vs n
  pub done : (k : ℕ) → continuation_of (kind f c) ≡ some k → call vs n c ≢ unentered

-- the handler's body has a summary, if there is a handler
pub record HandlerSummed (f : Flow) (ws vs : List ℕ) (n : ℕ) : Type 0 where
  pub summing : Summing f vs n
  pub onward : Onward ws vs n
  pub done : (e : ℕ) → f.handler ≡ some e → body vs n e ≢ unentered
