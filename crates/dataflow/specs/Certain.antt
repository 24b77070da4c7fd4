-- Request E1: what the call that finds the names certainly written promises, for every byte string and every work area. It refuses what the definitions refuse, and then changes nothing; else
-- it answers the word of the certain names and leaves the work area zero.
use Rattle.std.specs.Prelude.{ℕ, ◌^◌, ◌<◌, true, List, [], ◌∷◌, ◌++◌, ◌≡◌, length, replicate, Result, Ok, Err}
use Rattle.flow.specs.declared.Refusal.{Refusal}
use Rattle.flow.specs.Limits.{work_words}
use Rattle.flow.specs.Flow.{Flow, size}
use Rattle.flow.specs.Format.{Verdict, fit, unfit, verdict, file_checks, area_check, flow_of}
use Rattle.theory.specs.Live.{member}
use Rattle.theory.specs.Certain.{Certain, certain_word}

-- the fields of the file in file order, then the work area alone
abbrev pub judged_work : List ℕ → ℕ → Verdict
judged_work s work = verdict (file_checks s ++ (area_check (work_words (size (flow_of s))) work ∷ []))

-- what an accepted call has found
pub record CertainFound (f : Flow) (work work' : List ℕ) (word : ℕ) : Type 0 where
  pub word_is : word ≡ certain_word f
  pub below : word < 2 ^ f.names
  pub sound : (x : ℕ) → x < f.names → member word x ≡ true → Certain f x
  pub complete : (x : ℕ) → x < f.names → Certain f x → member word x ≡ true
  pub work_zero : work' ≡ replicate (length work) 0

pub record CertainPromise (s work work' : List ℕ) (r : Result ℕ Refusal) : Type 0 where
  pub refused : (x : Refusal) → judged_work s (length work) ≡ unfit x → (r ≡ Err x) × (work' ≡ work)
  pub accepted : judged_work s (length work) ≡ fit → (w : ℕ) × (r ≡ Ok w) × CertainFound (flow_of s) work work' w
