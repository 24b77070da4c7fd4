-- From what the phases leave in the areas to the promise: the masks are those of the queue rule's course and the live words those of the definitions, so terms 1 to 3 hold of the bytes written.
-- Where the handler's body is opaque every mask holds all states. By the theorems of the theory crate, carried along the equations of the areas.
use Prim.Native.Nat.{ℕ, ◌+◌, ◌*◌, ◌<◌, ◌≤◌}
use native.Mathlib.Omega.{arith}
use mathlib.Core.Bool.{Bool, true, false}
use mathlib.Core.List.{List}
use mathlib.Core.Path.{◌≡◌, refl, sym, subst, ◌∙◌}
use lib.Dec.{lit<}
use lib.ListN.{length, get_or, replicate}
use Rattle.masks.specs.State.{holds}
use Rattle.flow.specs.Flow.{Flow, size}
use Rattle.theory.specs.Clauses.WellFormed.{WellFormed}
use Rattle.theory.specs.Key.{opaque_handler}
use Rattle.theory.specs.Doubled.{doubled}
use Rattle.theory.specs.Queue.{visit_bound}
use Rattle.theory.specs.Live.{member}
use Rattle.theory.specs.Runs.{Config, Run, Listed}
use Rattle.theory.proofs.Handler.{opaque_handler-complete, handler-not-opaque, not-opaque-handler}
use Rattle.theory.proofs.Terms.{term_1, term_2_sound, term_2_complete, term_2_below, term_2_unreached, term_3, any-state}
use Rattle.theory.proofs.Term3.{run-brings}
use Rattle.theory.proofs.RunsWithin.{run-below}
use Rattle.theory.proofs.Names.{live_in_word-sound, live_in_word-complete, live_out_word-sound, live_out_word-complete}
use Rattle.dataflow.specs.Promise.{Solved, Walked, Answered}
use Rattle.dataflow.specs.Clauses.Phases.{MasksFound, Findings}

module _ (f : Flow) (wf : WellFormed f) {masks masks' : List ℕ} {visits : ℕ} (found : MasksFound f masks masks' visits) where
  -- term 2, where the queue rule was followed
  module _ (clear : opaque_handler f ≡ false) where
    abbrev rule : Solved f masks' visits
    rule = found.solved clear

    by_walks : Walked f masks'
    by_walks = record {
      sound = λ i a s l m h. term_2_sound f wf rule.over (subst (λ b. holds b s ≡ true) (rule.mask_bytes i a l m) h);
      complete = λ i a s l m h. subst (λ b. holds b s ≡ true) (sym (rule.mask_bytes i a l m)) (term_2_complete f wf rule.over l m h);
      unreached = λ i a l m h. rule.mask_bytes i a l m ∙ term_2_unreached f wf rule.over i a h;
    }

  -- what holds of the bytes in both cases
  record Bytes : Type 0 where
    bound : visits ≤ visit_bound (doubled f)
    below : (i a : ℕ) → i < size f → a < f.arrays → get_or masks' (i * f.arrays + a) 0 < 8
    runs : Listed f → (x : Config) → Run f x → (a : ℕ) → a < f.arrays → holds (get_or masks' (x.stmt * f.arrays + a) 0) (x.states a) ≡ true

  bytes : (b : Bool) → opaque_handler f ≡ b → Bytes
  bytes false q =
      let rule = found.solved q in
      let clear = handler-not-opaque wf q in
      record {
        bound = term_1 f wf rule.over;
        below = λ i a l m. subst (λ b. b < 8) (sym (rule.mask_bytes i a l m)) (term_2_below f wf rule.over i a);
        runs = λ listed x r a m.
            subst (λ b. holds b (x.states a) ≡ true)
            (sym (rule.mask_bytes x.stmt a (run-brings f wf listed clear r).0 m))
            (term_3 f wf rule.over listed clear r a m);
      }
  bytes true q =
      let any = found.unsolved q in
      record {
        bound = omega (arith, any.no_visits);
        below = λ i a l m. subst (λ b. b < 8) (sym (any.mask_bytes i a l m)) (lit< tt);
        runs = λ listed x r a m.
            subst (λ b. holds b (x.states a) ≡ true) (sym (any.mask_bytes x.stmt a (run-below wf r) m)) (any-state (x.states a));
      }

module _ (f : Flow) (wf : WellFormed f) (masks masks' live_in live_in' live_out live_out' work work' : List ℕ) (visits : ℕ)
    (left : Findings f masks masks' live_in live_in' live_out live_out' visits) (zero : work' ≡ replicate (length work) 0) where
  abbrev all : Bytes f wf left.found
  all = bytes f wf left.found (opaque_handler f) refl

  pub promised : Answered f masks masks' live_in live_in' live_out live_out' work work' visits
  promised = record {
    solved = λ clear. left.found.solved (not-opaque-handler f clear);
    unsolved = λ o. left.found.unsolved (opaque_handler-complete wf o);
    bound = all.bound;
    masks_size = left.found.masks_size;
    masks_kept = left.found.masks_kept;
    live_in = left.live_in;
    live_out = left.live_out;
    work_zero = zero;
    walked = λ clear. by_walks f wf left.found (not-opaque-handler f clear);
    below = all.below;
    live_in_sound = λ i x l m h. live_in_word-sound f i x m (subst (λ w. member w x ≡ true) (left.live_in.written i l) h);
    live_in_complete = λ i x l m h. subst (λ w. member w x ≡ true) (sym (left.live_in.written i l)) (live_in_word-complete wf l m h);
    live_out_sound = λ i x l m h. live_out_word-sound f i x m (subst (λ w. member w x ≡ true) (left.live_out.written i l) h);
    live_out_complete = λ i x l m h. subst (λ w. member w x ≡ true) (sym (left.live_out.written i l)) (live_out_word-complete wf m h);
    runs = all.runs;
  }
