-- What the call that answers a flow file promises, for every byte string and every set of lent areas: it refuses what the definitions refuse, and then changes no lent area; else
-- it writes the masks that the queue rule leaves when it is over and the live sets, leaves the work area zero and every other byte as it was, and terms 1 to 3 hold of the bytes that it wrote.
use Rattle.std.specs.Prelude.{ℕ, ◌+◌, ◌*◌, ◌<◌, ◌≤◌, true, List, ◌++◌, ◌≡◌, length, get_or, replicate, Result, Ok, Err}
use Rattle.masks.specs.State.{State, holds}
use Rattle.flow.specs.declared.Refusal.{Refusal}
use Rattle.flow.specs.Flow.{Flow, size}
use Rattle.flow.specs.Format.{Verdict, fit, unfit, verdict, file_checks, area_checks, flow_of}
use Rattle.theory.specs.Key.{OpaqueHandler}
use Rattle.theory.specs.Doubled.{doubled}
use Rattle.theory.specs.Queue.{Solver, Over, visit_bound}
use Rattle.theory.specs.Masks.{any_state, BringsTo, mask_left}
use Rattle.theory.specs.Live.{LiveIn, LiveOut, member, live_in_word, live_out_word}
use Rattle.theory.specs.Runs.{Config, Run, Listed}

-- the fields of the file in file order, then the areas by their lengths
abbrev pub judged : List ℕ → ℕ → ℕ → ℕ → ℕ → Verdict
judged s masks live_in live_out work = verdict (file_checks s ++ area_checks (size (flow_of s)) (flow_of s).arrays masks live_in live_out work)

-- an area of words before and after: the first n are what f gives, the others as they were
pub record Written (n : ℕ) (f : ℕ → ℕ) (before after : List ℕ) : Type 0 where
  pub size : length after ≡ length before
  pub written : (i : ℕ) → i < n → get_or after i 0 ≡ f i
  pub kept : (x : ℕ) → n ≤ x → get_or after x 0 ≡ get_or before x 0

-- the bytes are the masks that the queue rule leaves: its course is over after so many visits
pub record Solved (f : Flow) (masks : List ℕ) (visits : ℕ) : Type 0 where
  pub left : Solver
  pub over : Over (doubled f) visits left
  pub mask_bytes : (i a : ℕ) → i < size f → a < f.arrays → get_or masks (i * f.arrays + a) 0 ≡ mask_left f left i a

-- a state is in the byte of a statement and an array exactly when a walk brings it there; unreached: 0
pub record Walked (f : Flow) (masks : List ℕ) : Type 0 where
  pub sound : (i a : ℕ) (s : State) → i < size f → a < f.arrays → holds (get_or masks (i * f.arrays + a) 0) s ≡ true → BringsTo f a i s
  pub complete : (i a : ℕ) (s : State) → i < size f → a < f.arrays → BringsTo f a i s → holds (get_or masks (i * f.arrays + a) 0) s ≡ true
  pub unreached : (i a : ℕ) → i < size f → a < f.arrays → ((s : State) → BringsTo f a i s → ⊥) → get_or masks (i * f.arrays + a) 0 ≡ 0

-- request E3, where the handler's body is opaque: every byte is 7, whether a walk comes to the statement or not, and nothing is visited
pub record Unsolved (f : Flow) (masks : List ℕ) (visits : ℕ) : Type 0 where
  pub no_visits : visits ≡ 0
  pub mask_bytes : (i a : ℕ) → i < size f → a < f.arrays → get_or masks (i * f.arrays + a) 0 ≡ any_state

-- what an accepted call has written
pub record Answered (f : Flow) (masks masks' ins ins' outs outs' work work' : List ℕ) (visits : ℕ) : Type 0 where
  -- term 1: the queue rule, unless the handler's body is opaque; within the bound
  pub solved : (OpaqueHandler f → ⊥) → Solved f masks' visits
  pub unsolved : OpaqueHandler f → Unsolved f masks' visits
  pub bound : visits ≤ visit_bound (doubled f)
  -- all other bytes
  pub masks_size : length masks' ≡ length masks
  pub masks_kept : (x : ℕ) → size f * f.arrays ≤ x → get_or masks' x 0 ≡ get_or masks x 0
  pub live_in : Written (size f) (live_in_word f) ins ins'
  pub live_out : Written (size f) (live_out_word f) outs outs'
  pub work_zero : work' ≡ replicate (length work) 0
  -- term 2: the walks, unless the handler's body is opaque; 0 to 7
  pub walked : (OpaqueHandler f → ⊥) → Walked f masks'
  pub below : (i a : ℕ) → i < size f → a < f.arrays → get_or masks' (i * f.arrays + a) 0 < 8
  pub live_in_sound : (i x : ℕ) → i < size f → x < f.names → member (get_or ins' i 0) x ≡ true → LiveIn f x i
  pub live_in_complete : (i x : ℕ) → i < size f → x < f.names → LiveIn f x i → member (get_or ins' i 0) x ≡ true
  pub live_out_sound : (i x : ℕ) → i < size f → x < f.names → member (get_or outs' i 0) x ≡ true → LiveOut f x i
  pub live_out_complete : (i x : ℕ) → i < size f → x < f.names → LiveOut f x i → member (get_or outs' i 0) x ≡ true
  -- term 3, about the bytes just written: for every list of moves from the entry, key presses included
  pub runs : Listed f → (x : Config) → Run f x → (a : ℕ) → a < f.arrays → holds (get_or masks' (x.stmt * f.arrays + a) 0) (x.states a) ≡ true

-- every lent area is as it was
pub record Untouched (masks masks' live_in live_in' live_out live_out' work work' : List ℕ) : Type 0 where
  pub same_masks : masks' ≡ masks
  pub same_live_in : live_in' ≡ live_in
  pub same_live_out : live_out' ≡ live_out
  pub same_work : work' ≡ work

-- refused exactly where a field or an area is unfit, and by that refusal
pub record Promise (s masks masks' live_in live_in' live_out live_out' work work' : List ℕ) (r : Result ℕ Refusal) : Type 0 where
  pub refused : (x : Refusal) → judged s (length masks) (length live_in) (length live_out) (length work) ≡ unfit x
      → (r ≡ Err x) × Untouched masks masks' live_in live_in' live_out live_out' work work'
  pub accepted : judged s (length masks) (length live_in) (length live_out) (length work) ≡ fit
      → (v : ℕ) × (r ≡ Ok v) × Answered (flow_of s) masks masks' live_in live_in' live_out live_out' work work' v
