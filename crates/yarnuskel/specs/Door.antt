-- What a door tells its caller: the answer of the call behind it, as the paper's numbers.
use Rattle.std.specs.Prelude.{ℕ, Bool, true, false, List, ◌≡◌, Result, Ok, Err}
use Rattle.flow.specs.declared.Refusal.{Refusal}
use Rattle.flow.specs.Refusals.{number_of, place_of}
use Rattle.dataflow.specs.Promise.{Promise}
use Rattle.dataflow.specs.Certain.{CertainPromise}
use Rattle.dataflow.specs.Interference.{InterferencePromise}
use Rattle.accept.specs.Promise.{AcceptPromise}

-- the paper's number and place for each answer, and what an accepted call found: the count of visits, the word of certain names, or how many names are live at once
abbrev pub number_of_answer : {T : Type 0} → Result T Refusal → ℕ
number_of_answer (Ok v) = 0
number_of_answer (Err r) = number_of r

abbrev pub place_of_answer : {T : Type 0} → Result T Refusal → ℕ
place_of_answer (Ok v) = 0
place_of_answer (Err r) = place_of r

abbrev pub found_of_answer : Result ℕ Refusal → ℕ
found_of_answer (Ok v) = v
found_of_answer (Err r) = 0

-- the door: an answer that keeps the promise, as this paper's numbers
pub record Door (s masks masks' live_in live_in' live_out live_out' work work' : List ℕ) (place visits r : ℕ) : Type 0 where
  pub answer : Result ℕ Refusal
  pub number : r ≡ number_of_answer answer
  pub place_is : place ≡ place_of_answer answer
  pub visits_is : visits ≡ found_of_answer answer
  pub promise : Promise s masks masks' live_in live_in' live_out live_out' work work' answer

-- the door of the certain names
pub record CertainDoor (s work work' : List ℕ) (place certain r : ℕ) : Type 0 where
  pub answer : Result ℕ Refusal
  pub number : r ≡ number_of_answer answer
  pub place_is : place ≡ place_of_answer answer
  pub certain_is : certain ≡ found_of_answer answer
  pub promise : CertainPromise s work work' answer

-- the door of the names that get in each other's way
pub record InterferenceDoor (s rows rows' work work' : List ℕ) (place most r : ℕ) : Type 0 where
  pub answer : Result ℕ Refusal
  pub number : r ≡ number_of_answer answer
  pub place_is : place ≡ place_of_answer answer
  pub most_is : most ≡ found_of_answer answer
  pub promise : InterferencePromise s rows rows' work work' answer

-- the same for the answer to a proposal, where 1 is yes and 0 no
abbrev pub accepted_of_answer : Result Bool Refusal → ℕ
accepted_of_answer (Ok true) = 1
accepted_of_answer (Ok false) = 0
accepted_of_answer (Err r) = 0

-- the door of proposed tables
pub record AcceptDoor (s proposal work work' : List ℕ) (place accepted r : ℕ) : Type 0 where
  pub answer : Result Bool Refusal
  pub number : r ≡ number_of_answer answer
  pub place_is : place ≡ place_of_answer answer
  pub accepted_is : accepted ≡ accepted_of_answer answer
  pub promise : AcceptPromise s proposal work work' answer
