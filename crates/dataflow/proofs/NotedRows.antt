-- Rows noted one after the other: each element of each row is the value given, what stands past the rows is as it was, and the length stays. A row may be noted
-- in parts, as the bytes of words are. By induction on the number of rows or elements; a later row starts where the rows before it end.
use Prim.Native.Nat.{ℕ, zero, suc, ◌+◌, ◌*◌, ◌≤◌, ◌<◌}
use native.Mathlib.Omega.{arith}
use native.Mathlib.Nat.{eq-or-lt_of_le, le_of_suc-le-suc, zero-add, add-zero, add-suc, suc-mul, mul-le-mul_right}
use borrow.Rule.Slice.PartMut.{put_mid}
use mathlib.Core.List.{List, ◌++◌}
use mathlib.Core.Logic.{⊎_elim}
use mathlib.Core.Path.{◌≡◌, refl, sym, ap, ap₂, ◌∙◌}
use lib.ListN.{length, get_or, set, take, drop}
use Rattle.std.proofs.lemmas.List.{ext_get_or, take-append-drop, append_assoc, length-append, length-drop, length-take-le, set_at, drop-drop}
use Rattle.std.proofs.Math.Seq.{drop-cons}
use Rattle.flow.specs.Format.{tabulate}
use Rattle.records.proofs.Tabulated.{length-tabulate, get_or-tabulate}
use Rattle.words.specs.Clauses.Change.{noted}
use Rattle.records.proofs.Noting.{length-noted, noted-at, noted_other}
use Rattle.dataflow.specs.Clauses.Bytes.{noted_rows}

-- m elements noted behind k are k + m elements noted
pub noted-on : (ws : List ℕ) (base k m : ℕ) (f g : ℕ → ℕ) → ((j : ℕ) → j < m → g j ≡ f (k + j))
    → noted (noted ws base k f) (base + k) m g ≡ noted ws base (k + m) f
unfolding noted
noted-on ws base k zero f g same = ap (λ (x : ℕ). noted ws base x f) (sym (add-zero k))
noted-on ws base k (suc m) f g same =
    let place : base + k + m ≡ base + (k + m) = omega arith in
    ap (λ (l : List ℕ). set l (base + k + m) (g m)) (noted-on ws base k m f g (λ j l. same j (omega arith)))
    ∙ ap₂ (λ (x v : ℕ). set (noted ws base (k + m) f) x v) place (same m (omega arith))
    ∙ ap (λ (x : ℕ). noted ws base x f) (sym (add-suc k m))

-- what is noted is told by the first m values
pub noted-same : (ws : List ℕ) (base m : ℕ) (f g : ℕ → ℕ) → ((j : ℕ) → j < m → g j ≡ f j) → noted ws base m g ≡ noted ws base m f
unfolding noted
noted-same ws base zero f g same = refl
noted-same ws base (suc m) f g same =
    ap₂ (λ (l : List ℕ) (v : ℕ). set l (base + m) v) (noted-same ws base m f g (λ j l. same j (omega arith))) (same m (omega arith))

-- Parts written anew

pub tabulated : (xs : List ℕ) {n : ℕ} (f : ℕ → ℕ) → length xs ≡ n → ((k : ℕ) → k < n → get_or xs k 0 ≡ f k) → xs ≡ tabulate n f
tabulated xs {n} f e same = ext_get_or 0 xs (tabulate n f) (e ∙ sym (length-tabulate f n)) (λ k l. same k (omega arith) ∙ sym (get_or-tabulate f n k 0 (omega arith)))

-- all of a slice
pub noted-whole : (ws : List ℕ) (f : ℕ → ℕ) → noted ws 0 (length ws) f ≡ tabulate (length ws) f
noted-whole ws f = tabulated (noted ws 0 (length ws) f) f (length-noted ws 0 f (length ws)) (λ k l. ap (λ (x : ℕ). get_or (noted ws 0 (length ws) f) x 0) (sym (zero-add k)) ∙ noted-at ws 0 f (length ws) k 0 l (omega arith))

-- what stands before the part, the part, and what stands behind it
pub noted-paste : (ws : List ℕ) (at m : ℕ) (f : ℕ → ℕ) → at + m ≤ length ws → take at ws ++ (tabulate m f ++ drop (at + m) ws) ≡ noted ws at m f
unfolding noted tabulate
noted-paste ws at zero f l = rw add-zero (take-append-drop at ws)
noted-paste ws at (suc m) f l =
    let front = take at ws ++ tabulate m f in
    let long : length front ≡ at + m = omega (arith, length-append (take at ws) (tabulate m f), length-take-le at ws (omega arith), length-tabulate f m) in
    let last = drop-cons ws (at + m) 0 (omega arith) in
    simp append_assoc (rw add-suc (sym (append_assoc (take at ws) (tabulate m f) _) ∙ sym (set_at front (get_or ws (at + m) 0) (drop (suc (at + m)) ws) (f m) (at + m) long)
    ∙ ap (λ (xs : List ℕ). set xs (at + m) (f m)) (append_assoc (take at ws) (tabulate m f) _ ∙ ap (λ (xs : List ℕ). take at ws ++ (tabulate m f ++ xs)) (sym last) ∙ noted-paste ws at m f (omega arith))))

pub noted-part : (ws : List ℕ) (at m : ℕ) {ys : List ℕ} (f : ℕ → ℕ) → at + m ≤ length ws → ys ≡ tabulate (length (take m (drop at ws))) f → put_mid at m ws ys ≡ noted ws at m f
noted-part ws at m f l is =
    let long : length (take m (drop at ws)) ≡ m = length-take-le m (drop at ws) (omega (arith, length-drop at ws)) in
    ap₂ (λ (zs rest : List ℕ). take at ws ++ (zs ++ rest)) (is ∙ ap (λ (k : ℕ). tabulate k f) long) (drop-drop m at ws) ∙ noted-paste ws at m f l

-- m elements behind the first k, which were noted
pub noted-more : (ws : List ℕ) (k m : ℕ) (f g : ℕ → ℕ) {vs ys : List ℕ} {to : ℕ} → vs ≡ noted ws 0 k f → k + m ≤ length ws → ys ≡ tabulate (length (take m (drop k vs))) g
    → ((j : ℕ) → j < m → g j ≡ f (k + j)) → k + m ≡ to → put_mid k m vs ys ≡ noted ws 0 to f
noted-more ws k m f g {vs} e l is same all =
    noted-part vs k m g (omega (arith, ap length e, length-noted ws 0 f k)) is
    ∙ ap₂ (λ (xs : List ℕ) (at : ℕ). noted xs at m g) e (sym (zero-add k))
    ∙ noted-on ws 0 k m f g same
    ∙ ap (λ (x : ℕ). noted ws 0 x f) all

module _ (ws : List ℕ) (w : ℕ) (f : ℕ → ℕ → ℕ) where
  pub length-rows : (k : ℕ) → length (noted_rows ws w f k) ≡ length ws
  unfolding noted_rows
  length-rows zero = refl
  length-rows (suc k) = length-noted (noted_rows ws w f k) (k * w) (f k) w ∙ length-rows k

  pub rows_past : (k x : ℕ) → k * w ≤ x → get_or (noted_rows ws w f k) x 0 ≡ get_or ws x 0
  unfolding noted_rows
  rows_past zero x l = refl
  rows_past (suc k) x l =
      let e = suc-mul k w in
      noted_other (noted_rows ws w f k) (k * w) (f k) w x 0 (λ i m h. omega arith) ∙ rows_past k x (omega arith)

  pub rows_at : (k i a : ℕ) → i < k → a < w → k * w ≤ length ws → get_or (noted_rows ws w f k) (i * w + a) 0 ≡ f i a
  unfolding noted_rows
  rows_at zero i a l m h = absurd (omega arith)
  rows_at (suc k) i a l m h =
      let e = suc-mul k w in
      ⊎_elim
      (λ same. rw same (noted-at (noted_rows ws w f k) (k * w) (f k) w a 0 m (omega (arith, length-rows k))))
      (λ below.
      let before = mul-le-mul_right w below in
      let first = suc-mul i w in
      noted_other (noted_rows ws w f k) (k * w) (f k) w (i * w + a) 0 (λ j n x. omega arith) ∙ rows_at k i a below m (omega arith))
      (eq-or-lt_of_le (le_of_suc-le-suc l))
