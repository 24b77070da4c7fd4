-- The solver goes through the states of the queue rule: it starts at the rule's first, each visit leads to the next, and where nothing waits it has come
-- to what the rule leaves. A number's masks are then what a visit would pull.
use Prim.Native.Nat.{ℕ, ◌+◌, ◌*◌, ◌/◌, ◌%◌, ◌<◌, ◌≤◌}
use mathlib.Core.Bool.{Bool, true, false, cond}
use mathlib.Core.List.{List, [], ◌∷◌}
use mathlib.Core.Option.{none}
use mathlib.Core.Path.{◌≡◌, refl, sym, ap, ap₂, subst, ◌∙◌}
use native.Mathlib.Decide.{dec_lt, ℕ_discrete}
use native.Mathlib.Nat.{zero-add}
use native.Mathlib.Omega.{arith}
use borrow.Author.Tests.{eq-eqb, ne_eqb}
use lib.Dec.{eqb, ltb}
use lib.ListN.{length, get_or}
use Rattle.masks.specs.declared.Effect.TheVariants.{Reset, Touched}
use Rattle.masks.specs.Step.{step_of}
use Rattle.flow.specs.Flow.{Flow, size}
use Rattle.theory.specs.Lists.{elem}
use Rattle.theory.specs.Key.{handler_touches}
use Rattle.theory.specs.Doubled.{doubled, key_effects, boundary}
use Rattle.theory.specs.Queue.{Graph, begins, next_visit, Over, step_all, pulled, initial, visit, visit_bound}
use Rattle.theory.specs.Clauses.WellFormed.{WellFormed}
use Rattle.theory.proofs.Terms.{doubled_well_formed}
use Rattle.theory.proofs.Ends.{course-keeps, course-bound, potential}
use Rattle.theory.proofs.Exact.{pulled-held}
use Rattle.theory.proofs.Push.{pulled-first}
use Rattle.statements.specs.Clauses.Layout.{queue_at}
use Rattle.statements.specs.Clauses.Ready.{Keeps}
use Rattle.statements.proofs.Keeps.{keeps-refl, keeps-trans, keeps_widen, keeps-word}
use Rattle.calls.specs.Clauses.Held.{Linked}
use Rattle.solve.specs.declared.Queue.{Queue}
use Rattle.solve.specs.Clauses.Layout.{set_row, out_row, back_row, mask_row_at, state_at, settled_in, nodes_end, area_end, key_at}
use Rattle.solve.specs.Clauses.Rows.{mask_at, RowIs, step_where, member}
use Rattle.solve.specs.Clauses.Waiting.{Waits, Enqueued}
use Rattle.solve.specs.Clauses.Pushed.{masks_at}
use Rattle.solve.proofs.Room.{rows_apart, row_from, row_fits, nodes-within, not-state}
use Rattle.solve.proofs.Masks.{mask-cong}
use Rattle.solve.proofs.Waiting.{rest-keeps, waits-none}
use Rattle.dataflow.specs.Clauses.Transfer.{RowSteps}
use Rattle.dataflow.specs.Clauses.Sent.{masks_below}
use Rattle.dataflow.specs.Clauses.Solving.{Underway, VisitsFront, Unused, Begun, RowBegun, RuleResult}
use Rattle.dataflow.proofs.Acted.{unkeyed-step, key_step}
use Rattle.dataflow.proofs.Unions.{cond-zero}
use Rattle.dataflow.proofs.Sharing.{zero-mask, shared-none}
use Rattle.dataflow.proofs.Visiting.{nodes_are, arrays_are, below_at}

pub record Running (f : Flow) (n w : ℕ) (ws₀ ws : List ℕ) (queue : Queue) (visits : ℕ) : Type 0 where
  pub underway : Underway f ws n w queue
  pub counted : visits ≡ underway.count
  pub keeps : Keeps (queue_at n) (area_end n w) ws₀ ws

-- The start

start_is : (f : Flow) (a : ℕ) → (doubled f).boundary a ≡ boundary f a
unfolding doubled
start_is f a = refl

-- the masks of a number are those of its row

pub row_begun : {f : Flow} {ws vs : List ℕ} {n w d : ℕ} → RowBegun f ws vs n w (mask_row_at n w d) → Begun f ws vs n w d
row_begun b = record { masks = b.masks; size = b.size; elsewhere = b.elsewhere }

pub begun_row : {f : Flow} {ws vs : List ℕ} {n w d : ℕ} → Begun f ws vs n w d → RowBegun f ws vs n w (mask_row_at n w d)
begun_row b = record { masks = b.masks; size = b.size; elsewhere = b.elsewhere }

-- the masks at the entry: NONE for every array, and then the handler's touched step
module _ (f : Flow) (n w row : ℕ) {count : ℕ} (ws us : List ℕ) (all : count ≡ f.arrays) (low : back_row n w ≤ row) (high : row + 3 * w ≤ nodes_end n w) (unused : Unused ws n w)
    (reset : RowSteps ws us w (set_row n) row (out_row n w) (λ a. ltb a count) Reset) where
  reset-masks : (a : ℕ) → a < 64 * w → mask_at us w row a ≡ masks_below f.arrays (λ b. 1) a
  unfolding step_where masks_below
  reset-masks a l =
      reset.masks a l
      ∙ ap₂ (λ (k v : ℕ). cond (ltb a k) 1 v) all
      (zero-mask ws w (out_row n w) a l (λ x lo hi. let least = row_from n w (2 * n) in let end = nodes-within n w in unused x (omega arith) (omega arith)))

  pub reset-keeps : Keeps (queue_at n) (area_end n w) ws us
  reset-keeps =
      let end = nodes-within n w in
      record { size = reset.size; below = λ x l. reset.elsewhere x (λ a b. omega arith) (λ a b. omega arith); above = λ x l. reset.elsewhere x (λ a b. omega arith) (λ a b. omega arith) }

  pub begun_unkeyed : f.handler ≡ none → RowBegun f ws us n w row
  unfolding boundary masks_below
  begun_unkeyed e = record {
    masks = λ a l. reset-masks a l ∙ ap (λ (v : ℕ). cond (ltb a f.arrays) v 0) (sym (unkeyed-step f a 1 e));
    size = reset.size;
    elsewhere = reset.elsewhere;
  }

  pub begun_keyed : {vs : List ℕ} → RowIs us vs w row (step_where (member us (key_at n w)) Touched (mask_at us w row)) → ((a : ℕ) → a < 64 * w → member us (key_at n w) a ≡ handler_touches f a)
      → RowBegun f ws vs n w row
  unfolding boundary masks_below step_where
  begun_keyed y says = record {
    masks = λ a l. y.masks a l ∙ ap₂ (λ (b : Bool) (v : ℕ). cond b (step_of Touched v) v) (says a l) (reset-masks a l) ∙ at a (ltb a f.arrays);
    size = y.keeps.size ∙ reset.size;
    elsewhere = λ x p q. keeps-word y.keeps x q ∙ reset.elsewhere x p q;
  }
    where
      at : (a : ℕ) (b : Bool) → cond (handler_touches f a) (step_of Touched (cond b 1 0)) (cond b 1 0) ≡ cond b (step_all (key_effects f a) 1) 0
      at a true = key_step f a 1
      at a false = untouched (handler_touches f a)
        where
          untouched : (b : Bool) → cond b (step_of Touched 0) 0 ≡ 0
          untouched true = refl
          untouched false = refl

abbrev pub nothing : Queue
nothing = record { head = 0; len = 0 }

module _ (f : Flow) (n w : ℕ) (ws us : List ℕ) (entry : ℕ) (sized : size f ≡ n) (some : 0 < n) (unused : Unused ws n w) (first : entry ≡ f.entry) (below : entry < n) (entered : RowBegun f ws us n w (mask_row_at n w entry)) where
  abbrev g : Graph
  g = doubled f

  low : (x : ℕ) → x < set_row n → get_or us x 0 ≡ get_or ws x 0
  low x l = entered.elsewhere x (λ a b. omega arith) (λ a b. let least = row_from n w entry in omega arith)

  -- the numbers have no state yet
  no_state : (d : ℕ) → d < 2 * n → get_or us (state_at n w d) 0 ≡ 0
  no_state d l =
      let least = row_from n w d in
      let fits = row_fits n w l in
      let end = nodes-within n w in
      entered.elsewhere (state_at n w d) (λ a b. omega arith) (λ a b. apart a b (dec_lt d entry) (dec_lt entry d)) ∙ unused (state_at n w d) (omega arith) (omega arith)
    where
      apart : mask_row_at n w entry ≤ state_at n w d → state_at n w d < mask_row_at n w entry + 3 * w → Dec (d < entry) → Dec (entry < d) → ⊥
      apart a b (yes h) c = let far = rows_apart n w h in omega arith
      apart a b (no h) (yes c) = let far = rows_apart n w c in omega arith
      apart a b (no h) (no c) = let same : d ≡ entry = omega (arith, h, c) in let here : mask_row_at n w d ≡ mask_row_at n w entry = rw same in omega arith

  pub first-waits : Waits us n w nothing []
  first-waits = waits-none some (λ d l. ap (λ z. z % 2) (no_state d l))

  module _ (vs : List ℕ) (r : Queue) (q : Enqueued us vs n w nothing entry r) where
    -- joining the queue writes no word of a number before its state
    kept_word : (d x : ℕ) → mask_row_at n w d ≤ x → x < state_at n w d → get_or vs x 0 ≡ get_or us x 0
    kept_word d x lo hi = q.kept.above x (let least = row_from n w d in omega arith) (λ c m. not-state n w d x lo hi c)

    not-settled : (d : ℕ) → d < 2 * n → settled_in vs n w d ≡ 0
    not-settled d l = q.kept.settled d l ∙ ap (λ z. z / 2) (no_state d l)

    entry_is : g.entry ≡ entry
    unfolding doubled
    entry_is = zero-add f.entry ∙ sym first

    waits : Waits vs n w r (initial g).waiting
    unfolding initial doubled elem
    waits =
        subst (λ (l : List ℕ). Waits vs n w r l)
        (ap (λ (e : ℕ). e ∷ []) (sym entry_is) ∙ sym (ap (λ (b : Bool). cond b [] (g.entry ∷ [])) (ne_eqb (size f + size f) 0 (λ e. omega arith))))
        (q.waits [] first-waits)

    same_masks : (d a : ℕ) → d < 2 * n → a < 64 * w → masks_at vs n w d a ≡ masks_at us n w d a
    same_masks d a l m = mask-cong us vs w (mask_row_at n w d) a m (λ x lo hi. kept_word d x lo (omega arith))

    -- at the entry the masks are the boundary's, and elsewhere nothing is
    first-mask : (d a : ℕ) → masks_below f.arrays (pulled g (initial g) d) a ≡ masks_below f.arrays (λ b. cond (eqb d entry) (boundary f b) 0) a
    unfolding masks_below
    first-mask d a =
        ap (λ (v : ℕ). cond (ltb a f.arrays) v 0)
        (pulled-first g d a ∙ ap (λ (e : ℕ). cond (eqb d e) (g.boundary a) 0) entry_is ∙ ap (λ (v : ℕ). cond (eqb d entry) v 0) (start_is f a))

    masks : (d a : ℕ) → d < 2 * n → a < 64 * w → masks_at vs n w d a ≡ masks_below f.arrays (pulled g (initial g) d) a
    unfolding masks_below
    masks d a l m = same_masks d a l m ∙ at (ℕ_discrete d entry) ∙ sym (first-mask d a)
      where
        at : Dec (d ≡ entry) → masks_at us n w d a ≡ cond (ltb a f.arrays) (cond (eqb d entry) (boundary f a) 0) 0
        at (yes e) =
            ap (λ (y : ℕ). masks_at us n w y a) e ∙ entered.masks a m
            ∙ sym (ap (λ (b : Bool). cond (ltb a f.arrays) (cond b (boundary f a) 0) 0) (eq-eqb d entry e))
        at (no e) =
            mask-cong ws us w (mask_row_at n w d) a m (λ x lo hi. entered.elsewhere x (λ c b. let least = row_from n w d in omega arith) (λ c b. apart x lo hi c b (dec_lt d entry)))
            ∙ zero-mask ws w (mask_row_at n w d) a m (λ x lo hi. let least = row_from n w d in let fits = row_fits n w l in let end = nodes-within n w in unused x (omega arith) (omega arith))
            ∙ cond-zero (ltb a f.arrays) ∙ ap (λ (v : ℕ). cond (ltb a f.arrays) v 0) (sym (ap (λ (b : Bool). cond b (boundary f a) 0) (ne_eqb d entry e)))
          where
            apart : (x : ℕ) → mask_row_at n w d ≤ x → x < mask_row_at n w d + 3 * w → mask_row_at n w entry ≤ x → x < mask_row_at n w entry + 3 * w → Dec (d < entry) → ⊥
            apart x lo hi c b (yes h) = let far = rows_apart n w h in omega arith
            apart x lo hi c b (no h) = let less : entry < d = omega (arith, h, e) in let far = rows_apart n w less in omega arith

    -- nothing was sent
    none-sent : (x : ℕ) → nodes_end n w ≤ x → x < area_end n w → get_or vs x 0 ≡ 0
    none-sent x lo hi =
        let least = row_from n w (2 * n) in
        let fits = row_fits n w {d = entry} (omega arith) in
        q.kept.above x (omega arith) (λ c b z. let fit = row_fits n w b in omega arith)
        ∙ entered.elsewhere x (λ c b. omega arith) (λ c b. omega arith) ∙ unused x (omega arith) (omega arith)

    pub starts : Linked f vs n → Running f n w vs vs r 0
    unfolding initial
    starts linked = record {
      underway = record {
        count = 0;
        state = initial g;
        course = begins;
        solving = record {
          waits = waits;
          masks = masks;
          shared = shared-none linked none-sent;
          settled = not-settled;
        };
      };
      counted = refl;
      keeps = keeps-refl;
    }

    pub starts-keeps : Keeps (queue_at n) (area_end n w) ws vs
    starts-keeps =
        let least = row_from n w entry in
        let fits = row_fits n w {d = entry} (omega arith) in
        let end = nodes-within n w in
        keeps-trans
        (record {
          size = entered.size;
          below = λ x l. low x (omega arith);
          above = λ x l. entered.elsewhere x (λ a b. omega arith) (λ a b. omega arith);
        })
        (keeps_widen (omega arith) (omega arith) (rest-keeps q.kept))

-- The visits

pub running_on : {f : Flow} {n w : ℕ} {ws₀ ws vs : List ℕ} {queue r : Queue} (visits : ℕ) (x : Running f n w ws₀ ws queue visits) → VisitsFront f ws vs n w queue r x.underway
    → Keeps (queue_at n) (area_end n w) ws vs → Running f n w ws₀ vs r (visits + 1)
unfolding visit
running_on visits x y k = record {
  underway = record {
    count = x.underway.count + 1;
    state = visit (doubled _) x.underway.state y.front y.behind;
    course = next_visit x.underway.course y.waiting;
    solving = y.solving;
  };
  counted = ap (λ (v : ℕ). v + 1) x.counted;
  keeps = keeps-trans x.keeps k;
}

module _ {f : Flow} (wf : WellFormed f) {n w : ℕ} (sized : size f ≡ n) (some : 0 < n) (few : f.arrays ≤ 64 * w) {ws₀ ws : List ℕ} {queue : Queue} (visits : ℕ) (x : Running f n w ws₀ ws queue visits) where
  -- Term 1
  pub running_bound : visits + queue.len ≤ visit_bound (doubled f)
  unfolding potential
  running_bound =
      let bound = course-bound (doubled_well_formed f wf) x.underway.course in
      let count = x.underway.solving.waits.count in
      let counted = x.counted in
      omega arith

  pub running_ends : queue.len ≡ 0 → RuleResult f ws₀ ws n w visits
  running_ends e = record {
    left = x.underway.state;
    over = subst (λ (k : ℕ). Over (doubled f) k x.underway.state) (sym x.counted) (record { course = x.underway.course; nothing_waits = still });
    masks = λ d a l m.
        x.underway.solving.masks d a l (omega arith) ∙ below_at f.arrays (pulled (doubled f) x.underway.state d) m
        ∙ pulled-held (doubled f) x.underway.state (course-keeps (doubled_well_formed f wf) x.underway.course) still nodes (doubled_well_formed f wf) d a (subst (λ (k : ℕ). a < k) (sym (arrays_are f)) m);
    keeps = x.keeps;
  }
    where
      empty : (l : List ℕ) → 0 ≡ length l → l ≡ []
      empty [] h = refl
      empty (y ∷ l) h = absurd (omega arith)

      still : x.underway.state.waiting ≡ []
      still = empty x.underway.state.waiting (sym e ∙ x.underway.solving.waits.count)

      nodes : 0 < (doubled f).nodes
      nodes = omega (arith, nodes_are f)
