-- The computed form is the rule's course: for every well-formed graph it leaves a course that is over, and no other course is over elsewhere. What is
-- computed goes visit by visit as the course does, stands still where nothing waits, and term 1's bound is at least the potential. Assumes nothing.
use Prim.Native.Nat.{ℕ, zero, suc, ◌+◌, ◌≤◌}
use mathlib.Core.List.{List, [], ◌∷◌}
use mathlib.Core.Path.{◌≡◌, refl, sym, ap, ◌∙◌}
use native.Mathlib.Nat.{zero-add, suc-add, add_comm}
use native.Mathlib.Omega.{arith}
use lib.ListN.{length}
use Rattle.theory.specs.Queue.{Graph, Solver, visit, initial, Course, begins, next_visit, Over}
use Rattle.theory.specs.Computed.{Progress, progress, visit_front, visit_times, solved}
use Rattle.theory.proofs.Invariant.{WellFormedGraph}
use Rattle.theory.proofs.Ends.{potential, falls, initial-potential, course-keeps}

-- with nothing waiting, visits change nothing
stops : (k : ℕ) (g : Graph) (x : Progress) → x.state.waiting ≡ [] → visit_times k g x ≡ x
unfolding visit_times visit_front
stops zero g x e = refl
stops (suc k) g x e = ap (λ l. visit_times k g (visit_front g x l)) e ∙ stops k g x e

times_add : (j k : ℕ) (g : Graph) (x : Progress) → visit_times (j + k) g x ≡ visit_times k g (visit_times j g x)
unfolding visit_times
times_add zero k g x = ap (λ n. visit_times n g x) (zero-add k)
times_add (suc j) k g x = ap (λ n. visit_times n g x) (suc-add j k) ∙ times_add j k g (visit_front g x x.state.waiting)

abbrev start : Graph → Progress
start g = progress 0 (initial g)

-- a course, computed
course_times : {g : Graph} {k : ℕ} {st : Solver} → Course g k st → visit_times k g (start g) ≡ progress k st
unfolding visit_times visit_front
course_times begins = refl
course_times {g} (next_visit {k = k} {st = st} c e) =
    times_add k 1 g (start g)
    ∙ (ap (λ (x : Progress). visit_front g x x.state.waiting) (course_times c) ∙ ap (visit_front g (progress k st)) e)

-- where a course is over, more visits are none
over_times : {g : Graph} {k : ℕ} {st : Solver} (j : ℕ) → Over g k st → visit_times (k + j) g (start g) ≡ progress k st
over_times {g} {k} {st} j o =
    times_add k j g (start g) ∙ (ap (visit_times j g) (course_times o.course) ∙ stops j g (progress k st) o.nothing_waits)

-- a course that is over is unique: its visits, and what it leaves
pub over_unique : {g : Graph} {k j : ℕ} {st st' : Solver} → Over g k st → Over g j st' → progress k st ≡ progress j st'
over_unique {g} {k} {j} o p = sym (over_times j o) ∙ (ap (λ n. visit_times n g (start g)) (add_comm k j) ∙ over_times k p)

-- What is computed is a course

abbrev OnCourse : Graph → Progress → Type 0
OnCourse g x = Course g x.count x.state

front-course : (g : Graph) (x : Progress) → OnCourse g x → OnCourse g (visit_front g x x.state.waiting)
unfolding visit_front
front-course g x c = go x.state.waiting refl
  where
    go : (l : List ℕ) → x.state.waiting ≡ l → OnCourse g (visit_front g x l)
    go [] e = c
    go (d ∷ w) e = next_visit c e

times_course : (k : ℕ) (g : Graph) (x : Progress) → OnCourse g x → OnCourse g (visit_times k g x)
unfolding visit_times
times_course zero g x c = c
times_course (suc k) g x c = times_course k g (visit_front g x x.state.waiting) (front-course g x c)

-- as many visits as the potential leave nothing waiting
times_end : (k : ℕ) (g : Graph) (wf : WellFormedGraph g) (x : Progress) → OnCourse g x → potential g x.state ≤ k → (visit_times k g x).state.waiting ≡ []
unfolding visit_times visit_front potential
times_end zero g wf x c h = go x.state.waiting refl
  where
    go : (l : List ℕ) → x.state.waiting ≡ l → x.state.waiting ≡ []
    go [] e = e
    go (d ∷ w) e = let n : length x.state.waiting ≡ suc (length w) = ap length e in absurd (omega arith)
times_end (suc k) g wf x c h = go x.state.waiting refl (λ y. times_end k g wf y)
  where
    go : (l : List ℕ) → x.state.waiting ≡ l → ((y : Progress) → OnCourse g y → potential g y.state ≤ k → (visit_times k g y).state.waiting ≡ [])
        → (visit_times k g (visit_front g x l)).state.waiting ≡ []
    go [] e ih = ap (λ (y : Progress). y.state.waiting) (stops k g x e) ∙ e
    go (d ∷ w) e ih =
        let n = falls g wf x.state (course-keeps wf c) d w e in
        ih (progress (x.count + 1) (visit g x.state d w)) (next_visit c e) (omega arith)

-- the computed form is the course that is over
pub solved-over : (g : Graph) → WellFormedGraph g → Over g (solved g).count (solved g).state
unfolding solved
solved-over g wf = record {
  course = times_course _ g (start g) begins;
  nothing_waits = times_end _ g wf (start g) begins (initial-potential g);
}

-- and every course that is over is the computed one
pub over-solved : {g : Graph} {k : ℕ} {st : Solver} → WellFormedGraph g → Over g k st → progress k st ≡ solved g
over-solved {g} wf o = over_unique o (solved-over g wf)
