-- One more sweep notes the statements from the last down to i in the rows of their successors; the columns below i are still empty. A statement whose live-in
-- changed waits. One more statement at a time, from words of the worklist that are zero.
use Prim.Native.Nat.{ℕ, ◌+◌, ◌/◌, ◌%◌, ◌-◌, ◌<◌, ◌≤◌}
use mathlib.Core.Bool.{Bool, true, false, cond}
use mathlib.Core.List.{List, []}
use mathlib.Core.Logic.{⊎_elim}
use mathlib.Core.Path.{◌≡◌, refl, sym, ◌∙◌, ap, subst}
use native.Mathlib.Decide.{ℕ_discrete}
use native.Mathlib.Nat.{le_refl}
use native.Mathlib.Omega.{arith}
use lib.ListN.{length, get_or}
use Rattle.words.specs.Clauses.Row.{has}
use Rattle.words.specs.Clauses.Change.{zeroed}
use Rattle.words.proofs.Zeroed.{length-zeroed, zeroed-other, zeroed-run}
use Rattle.flow.specs.Flow.{Flow}
use Rattle.flow.specs.Format.{flow_of}
use Rattle.theory.specs.Lists as lists
use Rattle.theory.specs.Lists.{In}
use Rattle.theory.specs.Body.{successors}
use Rattle.theory.specs.Queue.{join}
use Rattle.theory.specs.Live.{bit_of}
use Rattle.theory.proofs.Lists.{clash}
use Rattle.theory.proofs.Enqueue.{join-keeps, join_adds, join-cases}
use Rattle.statements.specs.Clauses.Layout.{row_at, matrix_at, lists_at, queue_at}
use Rattle.statements.specs.Clauses.Ready.{Keeps}
use Rattle.statements.proofs.WorkArea.{row_from, row_fits, member-word}
use Rattle.statements.proofs.Keeps.{keeps-refl, keeps-trans, keeps_widen, keeps-zeroed}
use Rattle.statements.proofs.Members.{zero_has}
use Rattle.solve.specs.Clauses.Layout.{state_at, nodes_end}
use Rattle.solve.proofs.Room as rows
use Rattle.solve.specs.declared.Queue.{Queue}
use Rattle.solve.specs.Clauses.Waiting.{Waits}
use Rattle.solve.proofs.Waiting.{waits-none, waits_kept, rest-keeps}
use Rattle.live.specs.Clauses.Predecessors.{Column, Noted}
use Rattle.live.specs.Clauses.Solving.{Sound, Held}
use Rattle.live.specs.Clauses.Sweeping.{SettledOrWaits}
use Rattle.live.specs.Clauses.LiveNames.{LiveStart, Begun}
use Rattle.live.proofs.Pushing.{rest-row}
use Rattle.live.proofs.Sweeping.{solving-none, settled-solving}
use Rattle.live.proofs.Sweeps.{start_keeps, settled_in, settled-out}

pub record Beginning (f : Flow) (n : ℕ) (ws₀ ws ins₀ ins outs₀ outs : List ℕ) (q : Queue) (i : ℕ) : Type 0 where
  pub low : i ≤ n
  pub noted : (k : ℕ) → i ≤ k → k < n → Column ws n k (successors f k)
  pub free : (k : ℕ) → k < i → Column ws n k []
  pub held : Held f i n ws ins outs q
  pub kept : Keeps (matrix_at n) (nodes_end n 0) ws₀ ws
  pub in_area : Keeps 0 n ins₀ ins
  pub out_area : Keeps 0 n outs₀ outs

-- the words of the worklist are zeroed
module _ (ws : List ℕ) (n : ℕ) {vs : List ℕ} (fits : nodes_end n 0 ≤ length ws) (e : vs ≡ zeroed (zeroed ws (matrix_at n) (lists_at n - matrix_at n)) (queue_at n) (nodes_end n 0 - queue_at n)) where
  rows-zeroed : List ℕ
  rows-zeroed = zeroed ws (matrix_at n) (lists_at n - matrix_at n)

  row_word : (x : ℕ) → matrix_at n ≤ x → x < lists_at n → get_or vs x 0 ≡ 0
  unfolding rows-zeroed
  row_word x l m =
      ap (λ z. get_or z x 0) e ∙ zeroed-other rows-zeroed (queue_at n) (nodes_end n 0 - queue_at n) x (λ k b q. omega arith) ∙ zeroed-run ws (matrix_at n) (lists_at n) x (omega arith) l m

  queue-word : (x : ℕ) → queue_at n ≤ x → x < nodes_end n 0 → get_or vs x 0 ≡ 0
  unfolding rows-zeroed
  queue-word x l m =
      ap (λ z. get_or z x 0) e ∙ zeroed-run rows-zeroed (queue_at n) (nodes_end n 0) x (omega (arith, length-zeroed ws (matrix_at n) (lists_at n - matrix_at n))) l m

  pub cleared-kept : Keeps (matrix_at n) (nodes_end n 0) ws vs
  unfolding rows-zeroed
  cleared-kept =
      subst (λ z. Keeps (matrix_at n) (nodes_end n 0) ws z) (sym e)
      (keeps-trans (keeps-zeroed ws (matrix_at n) (lists_at n - matrix_at n) (le_refl _) (omega (arith, row_from n n))) (keeps-zeroed rows-zeroed (queue_at n) (nodes_end n 0 - queue_at n) (omega (arith, row_from n n)) (omega arith)))

  pub beginning_none : {f : Flow} {ins outs : List ℕ} → 0 < n → Sound f n ins → Beginning f n ws vs ins ins outs outs (record { head = 0; len = 0 }) n
  unfolding lists.elem
  beginning_none p sound = record {
    low = le_refl n;
    noted = λ k l m. absurd (omega arith);
    free = λ k l j m. zero_has vs (row_at n j) k (row_word (row_at n j + k / 64) (omega (arith, row_from n j)) (omega (arith, row_fits n m, member-word l)));
    held = ([], waits-none p (λ d m. ap (λ z. z % 2) (queue-word (state_at n 0 d) (omega arith) (omega (arith, rows.row_fits n 0 m)))), solving-none sound);
    kept = cleared-kept;
    in_area = keeps-refl;
    out_area = keeps-refl;
  }

pub beginning_start : {s ws₀ ws ins₀ ins outs₀ outs : List ℕ} {n i : ℕ} {q : Queue} → LiveStart s ws₀ ins₀ outs₀ n
    → Beginning (flow_of s) n ws₀ ws ins₀ ins outs₀ outs q i → LiveStart s ws ins outs n
beginning_start a b = start_keeps a b.kept b.in_area b.out_area

-- noting writes no word of the queue
pub noted-waits : {f : Flow} {ws vs w : List ℕ} {n i : ℕ} {q : Queue} → Noted f ws vs n i → Waits ws n 0 q w → Waits vs n 0 q w
noted-waits s h = waits_kept h (λ x l m. s.kept.above x l) (λ d m. ap (λ z. z % 2) (s.kept.above _ (omega arith)))

-- the list of those that wait, with the statement in it if it changed

waits_stay : (b : Bool) (w : List ℕ) (i : ℕ) {k : ℕ} → In k w → In k (cond b (join w i) w)
waits_stay true w i m = join-keeps w i m
waits_stay false w i m = m

waits_come : (b : Bool) (w : List ℕ) (i : ℕ) → b ≡ true → In i (cond b (join w i) w)
waits_come true w i e = join_adds w i
waits_come false w i e = clash false e refl

waits-small : (b : Bool) (w : List ℕ) {n i : ℕ} → i < n → ((k : ℕ) → In k w → k < n) → (k : ℕ) → In k (cond b (join w i) w) → k < n
waits-small true w {n} {i} l h k m = ⊎_elim (h k) (λ e. rw e l) (join-cases w i m)
waits-small false w l h k m = h k m

module _ {s : List ℕ} {n : ℕ} {ws₀ ws vs us ins₀ ins ins' outs₀ outs outs' : List ℕ} {q r : Queue} {i : ℕ} (a : LiveStart s vs ins outs n)
    (b : Beginning (flow_of s) n ws₀ ws ins₀ ins outs₀ outs q i) (p : 0 < i) (t : Noted (flow_of s) ws vs n (i - 1))
    (u : SettledOrWaits (flow_of s) n vs us ins ins' outs outs' q r (i - 1)) where
  below : i - 1 < n
  below = let low = b.low in omega arith

  column : (k : ℕ) → i - 1 ≤ k → k < n → Dec (k ≡ i - 1) → Column us n k (successors (flow_of s) k)
  column k l m (yes e) j c =
      rest-row u.kept c m ∙ subst (λ z. has vs (row_at n j) z ≡ bit_of (lists.elem j (successors (flow_of s) z))) (sym e) (t.column j c)
  column k l m (no e) j c = rest-row u.kept c m ∙ t.others j k c m e ∙ b.noted k (omega (arith, e)) m j c

  pub beginning_more : Beginning (flow_of s) n ws₀ us ins₀ ins' outs₀ outs' r (i - 1)
  beginning_more =
      let w = b.held.0 in
      let h = b.held.2 in
      record {
        low = omega (arith, below);
        noted = λ k l m. column k l m (ℕ_discrete k (i - 1));
        free = λ k l j c. let m : k < n = omega (arith, below) in rest-row u.kept c m ∙ t.others j k c m (λ e. omega arith) ∙ b.free k (omega arith) j c;
        held = (
          cond u.changed (join w (i - 1)) w,
          u.waits w (noted-waits t b.held.1),
          settled-solving a.ready below a.in_room h.sound_in u.settled a.out_room (omega arith) h
              (waits-small u.changed w below h.small) (λ k. waits_stay u.changed w (i - 1)) (waits_come u.changed w (i - 1)),
        );
        kept = keeps-trans b.kept (keeps-trans (keeps_widen (le_refl _) (omega arith) t.kept) (keeps_widen (omega (arith, row_from n n)) (le_refl _) (rest-keeps u.kept)));
        in_area = keeps-trans b.in_area (settled_in u.settled below);
        out_area = keeps-trans b.out_area (settled-out u.settled below);
      }

pub beginning_all : {f : Flow} {n : ℕ} {ws₀ ws vs ins₀ ins outs₀ outs : List ℕ} {q : Queue} {i : ℕ} → Keeps (matrix_at n) (nodes_end n 0) ws₀ ws → Beginning f n ws vs ins₀ ins outs₀ outs q i → i ≤ 0
    → Begun f n ws₀ vs ins₀ ins outs₀ outs q
beginning_all {f} {n} {ws₀} {ws} {vs} {ins₀} {ins} {outs₀} {outs} {q} {i} k b l = record {
  predecessors = λ j m. b.noted j (omega arith) m;
  held = let z : i ≡ 0 = omega arith in subst (λ z. Held f z n vs ins outs q) z b.held;
  kept = keeps-trans k b.kept;
  in_area = b.in_area;
  out_area = b.out_area;
}
