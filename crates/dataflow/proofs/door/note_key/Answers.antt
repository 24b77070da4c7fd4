-- The word of the arrays that the handler's body touches is written behind the words of the solver, where nothing of the summaries stands. Assumes nothing.
use Prim.Native.Nat.{ℕ, ◌+◌}
use native.Mathlib.Omega.{arith}
use native.Mathlib.Nat.{le_refl}
use mathlib.Core.Path.{ap, ap₂, ◌∙◌}
use lib.ListN.{get_or, set}
use Rattle.statements.proofs.Keeps.{ready-most}
use Rattle.solve.specs.Clauses.Layout.{key_at}
use Rattle.solve.proofs.Room.{end_below}
use Rattle.dataflow.proofs.HandlerNoted.{few, narrow, handler-below, key_fits, key-made, key-none}
use Rattle.calls.proofs.Checked.{handler-at, handler-none}
use Rattle.dataflow.proofs.door.note_key.Goals as goal

pub set_words-width-requires : goal.set_words-width-requires
set_words-width-requires c = few c.requires.0

pub overflow_add-work : goal.overflow_add-work
overflow_add-work c = let low = handler-below c.requires.0 c.in-Some.e.0 (handler-at c.requires.0.indexed c.in-Some.e c.in-Some.is) in omega (arith, c.touched.ensures, low, ready-most c.requires.0.indexed.ready)

pub offset_bounds-work-touched : goal.offset_bounds-work-touched
offset_bounds-work-touched c = let low = handler-below c.requires.0 c.in-Some.e.0 (handler-at c.requires.0.indexed c.in-Some.e c.in-Some.is) in omega (arith, c.touched.ensures, low, ready-most c.requires.0.indexed.ready)

pub bounds-work-touched : goal.bounds-work-touched
bounds-work-touched c = let low = handler-below c.requires.0 c.in-Some.e.0 (handler-at c.requires.0.indexed c.in-Some.e c.in-Some.is) in omega (arith, c.touched.ensures, low, c.requires.0.indexed.ready.room)

pub offset_bounds-work-key : goal.offset_bounds-work-key
offset_bounds-work-key c =
    let most = ready-most c.requires.0.indexed.ready in
    let place = c.key-key.ensures ∙ ap (λ (w : ℕ). key_at c.args.h.statements w) c.set_words-width.ensures in
    omega (arith, place, end_below most (narrow c.requires.0) (le_refl c.args.h.statements), most)

pub bounds-work-key : goal.bounds-work-key
bounds-work-key c =
    let place = c.key-key.ensures ∙ ap (λ (w : ℕ). key_at c.args.h.statements w) c.set_words-width.ensures in
    omega (arith, place, key_fits c.requires.0 _ (handler-at c.requires.0.indexed c.in-Some.e c.in-Some.is))

pub returns-in-Some : goal.returns-in-Some
returns-in-Some c =
    let place = c.key-key.ensures ∙ ap (λ (w : ℕ). key_at c.args.h.statements w) c.set_words-width.ensures in
    key-made c.requires.0 c.requires.1 c.in-Some.e.0 (handler-at c.requires.0.indexed c.in-Some.e c.in-Some.is)
    (ap₂ (λ (k t : ℕ). set c.args.work.now k (get_or c.args.work.now (t + c.in-Some.e.0) 0)) place c.touched.ensures)

pub returns-in_default : goal.returns-in_default
returns-in_default c = (c.requires.0, key-none (handler-none c.requires.0.indexed c.in_default.is))
