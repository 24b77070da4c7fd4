-- From the first visit to the last: what is kept stays kept, and where nothing waits, after the sweeps or the visits, the sets are the live sets.
-- Assumes nothing.
use Prim.Native.Nat.{ℕ, ◌≤◌}
use mathlib.Core.List.{List, [], ◌∷◌}
use native.Mathlib.Nat.{le_refl}
use native.Mathlib.Omega.{arith}
use Rattle.flow.specs.Flow.{Flow}
use Rattle.flow.specs.Format.{flow_of}
use Rattle.statements.specs.Clauses.Layout.{matrix_at}
use Rattle.statements.specs.Clauses.Ready.{Ready, Keeps}
use Rattle.statements.proofs.WorkArea.{row_from}
use Rattle.statements.proofs.Keeps.{keeps-refl, keeps-trans, keeps_widen}
use Rattle.solve.specs.Clauses.Layout.{nodes_end}
use Rattle.solve.specs.declared.Queue.{Queue}
use Rattle.solve.specs.Clauses.Waiting.{Waits}
use Rattle.solve.proofs.Waiting.{rest-keeps}
use Rattle.live.specs.Clauses.Solving.{Solving, Held, Visited}
use Rattle.live.specs.Clauses.LiveNames.{Begun, LiveNames}
use Rattle.live.proofs.Visits.{rest-predecessors}
use Rattle.live.proofs.Solution.{solved_in, solved-out}

pub begun_here : {f : Flow} {n : ℕ} {ws vs ins ins' outs outs' : List ℕ} {q : Queue} → Begun f n ws vs ins ins' outs outs' q → Begun f n vs vs ins' ins' outs' outs' q
begun_here b = record { predecessors = b.predecessors; held = b.held; kept = keeps-refl; in_area = keeps-refl; out_area = keeps-refl }

pub begun_more : {f : Flow} {n : ℕ} {ws vs us ins ins' ins'' outs outs' outs'' : List ℕ} {q r : Queue} → Begun f n ws vs ins ins' outs outs' q
    → Visited f n vs us ins' ins'' outs' outs'' q r → Begun f n ws us ins ins'' outs outs'' r
begun_more {f} {n} b v = record {
  predecessors = rest-predecessors f v.kept b.predecessors;
  held = v.held;
  kept = keeps-trans b.kept (keeps_widen (omega (arith, row_from n n)) (le_refl _) (rest-keeps v.kept));
  in_area = keeps-trans b.in_area v.in_area;
  out_area = keeps-trans b.out_area v.out_area;
}

-- since before
pub begun_since : {f : Flow} {n : ℕ} {ws vs us ins ins' ins'' outs outs' outs'' : List ℕ} {q : Queue} → Keeps (matrix_at n) (nodes_end n 0) ws vs → Keeps 0 n ins ins' → Keeps 0 n outs outs'
    → Begun f n vs us ins' ins'' outs' outs'' q → Begun f n ws us ins ins'' outs outs'' q
begun_since k i o b = record {
  predecessors = b.predecessors;
  held = b.held;
  kept = keeps-trans k b.kept;
  in_area = keeps-trans i b.in_area;
  out_area = keeps-trans o b.out_area;
}

pub nothing_waits : {f : Flow} {n : ℕ} {ws ins outs : List ℕ} {q : Queue} → Held f 0 n ws ins outs q → q.len ≤ 0 → Solving f 0 n ins outs []
nothing_waits {f} {n} {ws} {ins} {outs} {q} h l = go h.0 h.1 h.2
  where
    go : (w : List ℕ) → Waits ws n 0 q w → Solving f 0 n ins outs w → Solving f 0 n ins outs []
    go [] a b = b
    go (x ∷ w) a b = absurd (omega (arith, a.count))

pub finished : {s ws vs ins ins' outs outs' : List ℕ} {n : ℕ} → Ready s ws n → Solving (flow_of s) 0 n ins' outs' [] → Keeps 0 n ins ins' → Keeps 0 n outs outs'
    → Keeps (matrix_at n) (nodes_end n 0) ws vs → LiveNames (flow_of s) n ws vs ins ins' outs outs'
finished r done i o k = record { live_in = solved_in r done; live_out = solved-out r done; in_area = i; out_area = o; work = k }
