-- Document 01, "Runs": a configuration, one move, a list of moves, and what a run finds at a statement. A statement acts on the arrays, then moves. Request E3: before any statement a key may call the handler.
-- The premise of term 3: the statements that a call can enter, and the one after an ON GOSUB, are among its listed successors.
use Rattle.std.specs.Prelude.{ℕ, ◌<◌, Bool, true, false, List, [], ◌∷◌, ◌≡◌}
use mathlib.Core.Option.{Option, none, some}
use Rattle.masks.specs.declared.Effect.{Effect}
use Rattle.masks.specs.declared.Effect.TheVariants.{None, Reference, Dim, Reset, Touched}
use Rattle.masks.specs.State.{State, referenced}
use Rattle.flow.specs.Flow.{Flow, Kind, size}
use Rattle.theory.specs.Lists.{In}
use Rattle.theory.specs.Body.{kind, successors, entered}
use Rattle.theory.specs.Doubled.{statement_effects}

-- what a call pushes: its continuation, or "end"; what a key pushes: the statement before which it came
pub data Frame : Type 0 where
  back : ℕ → Frame
  end : Frame
  key : ℕ → Frame

abbrev pub frame_of : Option ℕ → Frame
frame_of none = end
frame_of (some k) = back k

-- where a run has come, each array's state there, before the statement acts, the stack, and whether a key counts
pub record Config : Type 0 where
  pub stmt : ℕ
  pub states : ℕ → State
  pub stack : List Frame
  pub counts : Bool

abbrev pub config : ℕ → (ℕ → State) → List Frame → Bool → Config
config i s k c = record { stmt = i; states = s; stack = k; counts = c }

-- a statement's effect on a state; the touched step belongs to masks only
abbrev pub become : Effect → State → State
become None s = s
become Reference s = referenced s
become Dim s = State.dimmed
become Reset s = State.none
become Touched s = s

unfoldable pub become_all : List Effect → State → State
become_all [] s = s
become_all (e ∷ es) s = become_all es (become e s)

-- the statement's act on all arrays
unfoldable pub act : Flow → ℕ → (ℕ → State) → ℕ → State
act f i s a = become_all (statement_effects f i a) (s a)

-- kinds that move to any successor and keep the stack
abbrev pub goes_on : Kind → Bool
goes_on Kind.other = true
goes_on Kind.return = false
goes_on Kind.clr = false
goes_on Kind.run = false
goes_on (Kind.dim items) = true
goes_on (Kind.gosub l c) = false
goes_on (Kind.on_gosub ls c) = false

-- CLR and RUN empty the stack, and move to any successor
abbrev pub empties : Kind → Bool
empties Kind.other = false
empties Kind.return = false
empties Kind.clr = true
empties Kind.run = true
empties (Kind.dim items) = false
empties (Kind.gosub l c) = false
empties (Kind.on_gosub ls c) = false

-- one move, with the statement's act before it. RETURN on an empty stack or on "end" offers none. A key moves to the handler before the statement acts, and no other counts until the RETURN that takes its
-- frame; where CLR or RUN has taken the frame, none does
pub data Move (f : Flow) : Config → Config → Type 0 where
  next : {i j : ℕ} {s : ℕ → State} {k : List Frame} {u : Bool} → goes_on (kind f i) ≡ true → In j (successors f i)
      → Move f (config i s k u) (config j (act f i s) k u)
  reset : {i j : ℕ} {s : ℕ → State} {k : List Frame} {u : Bool} → empties (kind f i) ≡ true → In j (successors f i)
      → Move f (config i s k u) (config j (act f i s) [] u)
  gosub : {i e l : ℕ} {c : Option ℕ} {s : ℕ → State} {k : List Frame} {u : Bool} → kind f i ≡ Kind.gosub l c → In e (entered f i)
      → Move f (config i s k u) (config e (act f i s) (frame_of c ∷ k) u)
  on_gosub : {i e : ℕ} {ls : List ℕ} {c : Option ℕ} {s : ℕ → State} {k : List Frame} {u : Bool} → kind f i ≡ Kind.on_gosub ls c → In e (entered f i)
      → Move f (config i s k u) (config e (act f i s) (frame_of c ∷ k) u)
  skip : {i j : ℕ} {ls : List ℕ} {s : ℕ → State} {k : List Frame} {u : Bool} → kind f i ≡ Kind.on_gosub ls (some j)
      → Move f (config i s k u) (config j (act f i s) k u)
  return : {i j : ℕ} {s : ℕ → State} {k : List Frame} {u : Bool} → kind f i ≡ Kind.return
      → Move f (config i s (back j ∷ k) u) (config j (act f i s) k u)
  press : {i h : ℕ} {s : ℕ → State} {k : List Frame} → f.handler ≡ some h
      → Move f (config i s k true) (config h s (key i ∷ k) false)
  resume : {i j : ℕ} {s : ℕ → State} {k : List Frame} {u : Bool} → kind f i ≡ Kind.return
      → Move f (config i s (key j ∷ k) u) (config j (act f i s) k true)

-- a run starts at the entry with all arrays NONE and an empty stack, and a key counts
abbrev pub begin : Flow → Config
begin f = config f.entry (λ a. State.none) [] true

-- a run is a finite list of moves, the empty list too; with n 0 there is no run. Its index is where it has come
pub data Run (f : Flow) : Config → Type 0 where
  start : 0 < size f → Run f (begin f)
  move : {x y : Config} → Run f x → Move f x y → Run f y

-- the premise on listed successors
pub record Listed (f : Flow) : Type 0 where
  pub enters : (i e : ℕ) → In e (entered f i) → In e (successors f i)
  pub after : (i j : ℕ) (ls : List ℕ) → kind f i ≡ Kind.on_gosub ls (some j) → In j (successors f i)
