-- Request E6: what the call that accepts a proposed table or not promises, for every byte string, every proposal and every work area. It refuses what the definitions refuse, and then changes nothing; else it says yes
-- exactly where the table is accepted, leaves the work area zero and writes nothing else. Under the premise of term 3 every run finds each array's state in one of the statement's two rows of a table that it says yes to.
use Rattle.std.specs.Prelude.{ℕ, ◌+◌, ◌*◌, ◌<◌, true, Bool, List, ◌++◌, ◌≡◌, length, get_or, replicate, Result, Ok, Err}
use Rattle.masks.specs.State.{holds}
use Rattle.flow.specs.declared.Base.{Base}
use Rattle.flow.specs.declared.Refusal.{Refusal}
use Rattle.flow.specs.Flow.{Flow}
use Rattle.flow.specs.Format.{Verdict, fit, unfit, verdict, file_checks, flow_of}
use Rattle.theory.specs.Doubled.{number, at}
use Rattle.theory.specs.Accept.{proposed, proposal_checks, Accepted, Own, accepted}
use Rattle.theory.specs.Runs.{Config, Run, Listed}

-- the fields of the file in file order, then the work area, the proposal's length and its bytes
abbrev pub judged_proposal : List ℕ → List ℕ → ℕ → Verdict
judged_proposal s proposal work = verdict (file_checks s ++ proposal_checks (flow_of s) proposal work)

-- what an answer that is no refusal says
pub record Judged (f : Flow) (proposal work work' : List ℕ) (r : Result Bool Refusal) : Type 0 where
  pub answer : r ≡ Ok (accepted f (proposed f proposal))
  pub sound : r ≡ Ok true → Accepted f (proposed f proposal)
  pub complete : Accepted f (proposed f proposal) → r ≡ Ok true
  -- term 3 over an accepted table: for every list of moves from the entry, key presses included, one of the statement's two rows has the states of all arrays
  pub runs : r ≡ Ok true → Listed f → (x : Config) → Run f x
      → (b : Base) × ((a : ℕ) → a < f.arrays → holds (get_or proposal (number f (at b x.stmt) * f.arrays + a) 0) (x.states a) ≡ true)
  -- our own masks by doubled number pass
  pub own : Own f (proposed f proposal) → r ≡ Ok true
  pub work_zero : work' ≡ replicate (length work) 0

pub record AcceptPromise (s proposal work work' : List ℕ) (r : Result Bool Refusal) : Type 0 where
  pub refused : (x : Refusal) → judged_proposal s proposal (length work) ≡ unfit x → (r ≡ Err x) × (work' ≡ work)
  pub accepted : judged_proposal s proposal (length work) ≡ fit → Judged (flow_of s) proposal work work' r
