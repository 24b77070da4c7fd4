-- Request E5: what the call that finds the names that get in each other's way promises, for every byte string and every two lent areas. It refuses what the definitions refuse, and then changes nothing; else
-- it writes one word a name, answers how many names are live at once, and leaves the work area zero and every other word as it was.
use Rattle.std.specs.Prelude.{ℕ, ◌^◌, ◌<◌, ◌≤◌, true, false, List, [], ◌∷◌, ◌++◌, ◌≡◌, length, get_or, replicate, Result, Ok, Err}
use Rattle.flow.specs.declared.Refusal.{Refusal}
use Rattle.flow.specs.Limits.{work_words}
use Rattle.flow.specs.Flow.{Flow, size}
use Rattle.flow.specs.Format.{Verdict, fit, unfit, verdict, file_checks, area_check, flow_of}
use Rattle.theory.specs.Live.{member}
use Rattle.theory.specs.Interference.{Interferes, interference_word, live_count, most_live}
use Rattle.dataflow.specs.Promise.{Written}

-- the fields of the file in file order, then the work area, and last the area of words
abbrev pub judged_rows : List ℕ → ℕ → ℕ → Verdict
judged_rows s rows work = verdict (file_checks s ++ (area_check (work_words (size (flow_of s))) work ∷ area_check (flow_of s).names rows ∷ []))

-- what an accepted call has found
pub record InterferenceFound (f : Flow) (rows rows' work work' : List ℕ) (most : ℕ) : Type 0 where
  -- one word a name, later words as they were
  pub words : Written f.names (interference_word f) rows rows'
  pub sound : (x y : ℕ) → x < f.names → y < f.names → member (get_or rows' x 0) y ≡ true → Interferes f x y
  pub complete : (x y : ℕ) → x < f.names → y < f.names → Interferes f x y → member (get_or rows' x 0) y ≡ true
  pub below : (x : ℕ) → x < f.names → get_or rows' x 0 < 2 ^ f.names
  pub symmetric : (x y : ℕ) → x < f.names → y < f.names → member (get_or rows' x 0) y ≡ member (get_or rows' y 0) x
  pub not_itself : (x : ℕ) → x < f.names → member (get_or rows' x 0) x ≡ false
  -- the size of the largest live-in set, 0 for n 0
  pub most_is : most ≡ most_live f
  pub largest : (i : ℕ) → i < size f → live_count f i ≤ most
  pub attained : 0 < size f → (i : ℕ) × (i < size f) × (live_count f i ≡ most)
  pub none : size f ≡ 0 → most ≡ 0
  pub work_zero : work' ≡ replicate (length work) 0

pub record InterferencePromise (s rows rows' work work' : List ℕ) (r : Result ℕ Refusal) : Type 0 where
  pub refused : (x : Refusal) → judged_rows s (length rows) (length work) ≡ unfit x → (r ≡ Err x) × (rows' ≡ rows) × (work' ≡ work)
  pub accepted : judged_rows s (length rows) (length work) ≡ fit → (m : ℕ) × (r ≡ Ok m) × InterferenceFound (flow_of s) rows rows' work work' m
