-- What a phase keeps: a change of words within a run, one after another, and a wider run. So the noted places stay, and so do rows outside the run.
-- By the words that a change leaves. Assumes nothing.
use Prim.Native.Nat.{ℕ, ◌+◌, ◌/◌, ◌≤◌, ◌<◌}
use native.Mathlib.Omega.{arith}
use native.Mathlib.Decide.{dec_lt}
use mathlib.Core.Bool.{Bool}
use mathlib.Core.List.{List}
use mathlib.Core.Path.{◌≡◌, refl, sym, ap, ◌∙◌, subst}
use lib.ListN.{length, get_or, set, length-set}
use lib.Seq.{get_or-set_other}
use Rattle.words.specs.Clauses.Row.{has}
use Rattle.words.specs.Clauses.Change.{joined, PairJoined, inserted, removed, rewritten, unioned, zeroed}
use Rattle.words.proofs.Row.{has-cong}
use Rattle.words.proofs.Rewritten.{length-rewritten, rewritten-other}
use Rattle.flow.specs.declared.Header.{Header}
use Rattle.flow.specs.Limits.{max_statements}
use Rattle.flow.specs.Flow.{size}
use Rattle.flow.specs.Format.{flow_of}
use Rattle.records.specs.Clauses.Fields.{LinePart, LineParts}
use Rattle.records.proofs.Files.{limited}
use Rattle.records.proofs.Statements.{size_is}
use Rattle.theory.specs.Clauses.WellFormed.{WellFormed}
use Rattle.statements.specs.Clauses.Layout.{lines_at, sure_at, solver_at}
use Rattle.statements.specs.Clauses.Ready.{Ready, Indexed, Located, Keeps}
use Rattle.statements.proofs.WorkArea.{area-fits}
use Rattle.statements.proofs.WellFormed.{well_formed}

pub keeps-refl : {lo hi : ℕ} {ws : List ℕ} → Keeps lo hi ws ws
keeps-refl = record { size = refl; below = λ x l. refl; above = λ x l. refl }

pub keeps-trans : {lo hi : ℕ} {ws vs us : List ℕ} → Keeps lo hi ws vs → Keeps lo hi vs us → Keeps lo hi ws us
keeps-trans a b = record {
  size = b.size ∙ a.size;
  below = λ x l. b.below x l ∙ a.below x l;
  above = λ x l. b.above x l ∙ a.above x l;
}

pub keeps_widen : {lo hi lo' hi' : ℕ} {ws vs : List ℕ} → lo' ≤ lo → hi ≤ hi' → Keeps lo hi ws vs → Keeps lo' hi' ws vs
keeps_widen l h k = record {
  size = k.size;
  below = λ x m. k.below x (omega arith);
  above = λ x m. k.above x (omega arith);
}

-- a part of the area that is kept, read by its words
module _ {lo hi : ℕ} {ws vs : List ℕ} (k : Keeps lo hi ws vs) where
  pub keeps-word : (x : ℕ) → (lo ≤ x → x < hi → ⊥) → get_or vs x 0 ≡ get_or ws x 0
  keeps-word x out = go (dec_lt x lo) (dec_lt x hi)
    where
      go : Dec (x < lo) → Dec (x < hi) → get_or vs x 0 ≡ get_or ws x 0
      go (yes l) h = k.below x l
      go (no l) (yes h) = absurd (out (omega (arith, l)) h)
      go (no l) (no h) = k.above x (omega (arith, h))

  pub keeps-has : (base i : ℕ) → (lo ≤ base + i / 64 → base + i / 64 < hi → ⊥) → has vs base i ≡ has ws base i
  keeps-has base i out = has-cong vs ws base i (keeps-word (base + i / 64) out)

-- the words' changes

module _ (ws : List ℕ) {lo hi : ℕ} where
  pub keeps-set : (x v : ℕ) → lo ≤ x → x < hi → Keeps lo hi ws (set ws x v)
  keeps-set x v l h = record {
    size = length-set ws x v;
    below = λ y m. get_or-set_other ws x y v 0 (λ e. omega arith);
    above = λ y m. get_or-set_other ws x y v 0 (λ e. omega arith);
  }

  pub keeps-joined : (x bits : ℕ) → lo ≤ x → x < hi → Keeps lo hi ws (joined ws x bits)
  unfolding joined
  keeps-joined x bits l h = keeps-set x _ l h

  pub keeps-inserted : (base i : ℕ) → lo ≤ base → base + i / 64 < hi → Keeps lo hi ws (inserted ws base i)
  unfolding inserted
  keeps-inserted base i l h = keeps-joined (base + i / 64) _ (omega arith) h

  pub keeps-removed : (base i : ℕ) → lo ≤ base → base + i / 64 < hi → Keeps lo hi ws (removed ws base i)
  unfolding removed
  keeps-removed base i l h = keeps-set (base + i / 64) _ (omega arith) h

  pub keeps-rewritten : (f : List ℕ → ℕ → ℕ) (base width : ℕ) → lo ≤ base → base + width ≤ hi → Keeps lo hi ws (rewritten f ws base width)
  keeps-rewritten f base width l h = record {
    size = length-rewritten f ws base width;
    below = λ x m. rewritten-other f ws base width x (λ k b e. omega arith);
    above = λ x m. rewritten-other f ws base width x (λ k b e. omega arith);
  }

  pub keeps-unioned : (to from width : ℕ) → lo ≤ to → to + width ≤ hi → Keeps lo hi ws (unioned ws to from width)
  unfolding unioned
  keeps-unioned to from width l h = keeps-rewritten _ to width l h

  pub keeps-zeroed : (base width : ℕ) → lo ≤ base → base + width ≤ hi → Keeps lo hi ws (zeroed ws base width)
  unfolding zeroed
  keeps-zeroed base width l h = keeps-rewritten _ base width l h

pub keeps-pair : {ws vs : List ℕ} {lo hi x a b : ℕ} {r : Bool} → PairJoined ws vs x a b r → lo ≤ x → x + 1 < hi → Keeps lo hi ws vs
keeps-pair {ws} {vs} {lo} {hi} {x} {a} {b} p l h =
    subst (Keeps lo hi ws) (sym p.slice) (keeps-trans (keeps-joined ws x a l (omega arith)) (keeps-joined (joined ws x a) (x + 1) b (omega arith) h))

-- a phase that writes above the noted places keeps them
pub ready-keeps : {s ws vs : List ℕ} {n lo hi : ℕ} → Ready s ws n → Keeps lo hi ws vs → n ≤ lo → Ready s vs n
ready-keeps r k l = record {
  fit = r.fit;
  count = r.count;
  room = let room = r.room in let size = k.size in omega arith;
  offsets = λ i m. k.below _ (omega arith) ∙ r.offsets i m;
}

pub parts_keep : {s ws vs : List ℕ} {n r lo hi : ℕ} → LineParts s ws (lines_at n) n r → Keeps lo hi ws vs → sure_at n ≤ lo → LineParts s vs (lines_at n) n r
parts_keep {s} {n = n} {r} p k l i m = subst (λ (w : ℕ). LinePart s n r i w) (sym (k.below _ (omega arith))) (p i m)

pub indexed-keeps : {s ws vs : List ℕ} {h : Header} {lo hi : ℕ} → Indexed s h ws → Keeps lo hi ws vs → sure_at h.statements ≤ lo → Indexed s h vs
indexed-keeps r k l = record { ready = ready-keeps r.ready k (omega arith); lines = parts_keep r.lines k l; header = r.header }

pub located-keeps : {s ws vs : List ℕ} {n place lo hi : ℕ} → Located s ws n place → Keeps lo hi ws vs → sure_at n ≤ lo → Located s vs n place
located-keeps p k l = record { ready = ready-keeps p.ready k (omega arith); parts = parts_keep p.parts k l; lines = p.lines }

-- the header tells where the lines stand
pub located : {s ws : List ℕ} {h : Header} → Indexed s h ws → Located s ws h.statements h.lines_at
located x = record { ready = x.ready; parts = x.lines; lines = ap (λ (h : Header). h.lines_at) x.header }

-- a fit file has few enough statements for the layout, and the parts below the solver's lie within the area, with a set of doubled numbers

pub ready-most : {s ws : List ℕ} {n : ℕ} → Ready s ws n → n ≤ max_statements
ready-most {s} r = let most = (limited r.fit).statements in let count = r.count in omega arith

pub ready-room : {s ws : List ℕ} {n : ℕ} → Ready s ws n → 0 < n → solver_at n + n ≤ length ws
ready-room r p = let room = r.room in omega (arith, area-fits p (ready-most r))

-- and the flow that it stands for is well formed and has n of them

module _ {s ws : List ℕ} {n : ℕ} (r : Ready s ws n) where
  pub ready-size : size (flow_of s) ≡ n
  ready-size = size_is s ∙ sym r.count

  pub ready_formed : WellFormed (flow_of s)
  ready_formed = well_formed r.fit

  pub ready-below : {j : ℕ} → j < size (flow_of s) → j < n
  ready-below {j} l = subst (λ m. j < m) ready-size l
