-- "At a statement, a reference turns NONE into AUTO and keeps other states; then DIM with flag 1 makes its array's mask DIMMED, CLR and RUN make all masks NONE":
-- what the masks of a row become, array by array, and the sets of arrays by which a row steps. Assumes nothing.
use Rattle.std.specs.Prelude.{ℕ, ◌+◌, ◌*◌, ◌<◌, ◌≤◌, max, Bool, false, cond, ◌&&◌, List, ◌++◌, ◌⊎◌, ◌≡◌, ltb, length, get_or}
use mathlib.Core.Option.{Option, none, some}
use Rattle.words.specs.Clauses.Row.{has}
use Rattle.masks.specs.declared.Effect.{Effect}
use Rattle.masks.specs.declared.Effect.TheVariants.{Touched}
use Rattle.flow.specs.declared.Base.{Base}
use Rattle.flow.specs.declared.Base.TheVariants.{N}
use Rattle.flow.specs.Flow.{Flow}
use Rattle.theory.specs.Lists.{elem}
use Rattle.theory.specs.Body.{kind, continuation_of, entered}
use Rattle.theory.specs.Key.{handler_touches}
use Rattle.theory.specs.Doubled.{same_base, statement_effects, key_effects}
use Rattle.theory.specs.Queue.{step_all}
use Rattle.statements.specs.Clauses.Ready.{Keeps}
use Rattle.solve.specs.Clauses.Layout.{set_row, out_row, back_row, mask_row_at, key_at}
use Rattle.solve.specs.Clauses.Rows.{mask_at, step_where, member as in_set}
use Rattle.solve.specs.Clauses.Pushed.{masks_at}

-- vs is ws with the arrays that pass the test as the set at word `set`, of w words
pub record SetIs (ws vs : List ℕ) (set w : ℕ) (p : ℕ → Bool) : Type 0 where
  pub keeps : Keeps set (set + w) ws vs
  pub member : (a : ℕ) → a < 64 * w → has vs set a ≡ cond (p a) 1 0

-- with those in it besides
pub record SetGains (ws vs : List ℕ) (set w : ℕ) (p : ℕ → Bool) : Type 0 where
  pub keeps : Keeps set (set + w) ws vs
  pub member : (a : ℕ) → a < 64 * w → has vs set a ≡ max (has ws set a) (cond (p a) 1 0)

-- the set stands below both rows, and these lie apart within the slice
pub record RowsApart (ws : List ℕ) (w set to from : ℕ) : Type 0 where
  pub below_to : set + w ≤ to
  pub below_from : set + w ≤ from
  pub to_fits : to + 3 * w ≤ length ws
  pub from_fits : from + 3 * w ≤ length ws
  pub apart : (to + 3 * w ≤ from) ⊎ (from + 3 * w ≤ to)

-- the row at `to` is the row at `from` of which the arrays that pass the test take the effect. Besides it only the set is written
pub record RowSteps (ws vs : List ℕ) (w set to from : ℕ) (p : ℕ → Bool) (e : Effect) : Type 0 where
  pub size : length vs ≡ length ws
  pub masks : (a : ℕ) → a < 64 * w → mask_at vs w to a ≡ step_where p e (mask_at ws w from) a
  pub elsewhere : (x : ℕ) → (set ≤ x → x < set + w → ⊥) → (to ≤ x → x < to + 3 * w → ⊥) → get_or vs x 0 ≡ get_or ws x 0

-- each array below the count takes its effects, one after the other; the masks from there on stay
unfoldable pub acted : ℕ → (ℕ → List Effect) → (ℕ → ℕ) → ℕ → ℕ
acted count effects m a = cond (ltb a count) (step_all (effects a) (m a)) (m a)

-- the continuation of a call is a statement that it enters
abbrev pub is_entered : Flow → ℕ → Option ℕ → Bool
is_entered f i none = false
is_entered f i (some k) = elem k (entered f i)

-- the edge to base + the continuation of the call i is also one to n + an entered statement
abbrev pub enters_again : Flow → Base → ℕ → Bool
enters_again f b i = same_base b N && is_entered f i (continuation_of (kind f i))

-- the masks of d with these effects are in the row at `row`
pub record Acted (f : Flow) (ws vs : List ℕ) (n w d : ℕ) (effects : ℕ → List Effect) (row : ℕ) : Type 0 where
  pub keeps : Keeps (set_row n) (mask_row_at n w 0) ws vs
  pub masks : (a : ℕ) → a < 64 * w → mask_at vs w row a ≡ acted f.arrays effects (masks_at ws n w d) a

-- the effects of statement i, and last the handler's touched step
abbrev pub plain_effects : Flow → ℕ → ℕ → List Effect
plain_effects f i a = statement_effects f i a ++ key_effects f a

-- where there is a handler, the arrays that its body touches stand behind the solver's words
pub record KeySet (f : Flow) (ws : List ℕ) (n w : ℕ) : Type 0 where
  pub member : (e : ℕ) → f.handler ≡ some e → (a : ℕ) → a < 64 * w → has ws (key_at n w) a ≡ cond (handler_touches f a) 1 0

-- both rows of the statement at hand have taken the handler's touched step
pub record KeyStepped (ws vs : List ℕ) (n w : ℕ) : Type 0 where
  pub keeps : Keeps (out_row n w) (mask_row_at n w 0) ws vs
  pub out : (a : ℕ) → a < 64 * w → mask_at vs w (out_row n w) a ≡ step_where (in_set ws (key_at n w)) Touched (mask_at ws w (out_row n w)) a
  pub back : (a : ℕ) → a < 64 * w → mask_at vs w (back_row n w) a ≡ step_where (in_set ws (key_at n w)) Touched (mask_at ws w (back_row n w)) a
