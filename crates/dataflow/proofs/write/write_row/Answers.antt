-- The masks of one word more are written. Assumes nothing.
use native.Mathlib.Nat.{zero-min}
use native.Mathlib.Omega.{arith}
use Prim.Native.Nat.{ℕ, ◌+◌, ◌-◌, ◌*◌, ◌≤◌, min}
use borrow.Rule.Slice.PartMut.{put_mid}
use mathlib.Core.List.{List}
use mathlib.Core.Path.{◌≡◌, ap, ap₂, ◌∙◌}
use lib.ListN.{length, take, drop}
use Rattle.flow.specs.Format.{tabulate}
use Rattle.words.specs.Clauses.Change.{noted}
use Rattle.dataflow.specs.Clauses.Bytes.{mask_in, both_words, both_copies}
use Rattle.dataflow.proofs.MaskBytes.{both_masks}
use Rattle.dataflow.proofs.NotedRows.{noted-more, noted-whole}
use Rattle.dataflow.proofs.write.write_row.Goals as goal

-- the masks of one word more
word_on : (ws work : List ℕ) (n width i k m : ℕ) {out part : List ℕ} {none auto dimmed : ℕ} → out ≡ noted ws 0 (min (64 * k) (length ws)) (both_copies work n width i) → 64 * k ≤ length ws
    → none ≡ both_words work n width i k → auto ≡ both_words work n width i (width + k) → dimmed ≡ both_words work n width i (2 * width + k)
    → m ≡ min 64 (length ws - 64 * k) → part ≡ tabulate (length (take m (drop (64 * k) out))) (mask_in none auto dimmed)
    → put_mid (64 * k) m out part ≡ noted ws 0 (min (64 * (k + 1)) (length ws)) (both_copies work n width i)
word_on ws work n width i k m {none = none} {auto} {dimmed} f l p q r e is =
    let whole : min (64 * k) (length ws) ≡ 64 * k = omega arith in
    noted-more ws (64 * k) m (both_copies work n width i) (mask_in none auto dimmed) (f ∙ ap (λ (x : ℕ). noted ws 0 x (both_copies work n width i)) whole) (omega arith) is
    (λ j h. rw (p, q, r) (both_masks work n width i k j (omega arith))) (omega arith)

pub loop-k-init : goal.loop-k-init
unfolding noted
loop-k-init c = simp zero-min

pub loop-k-preserved : goal.loop-k-preserved
loop-k-preserved c =
    let a = c.args in
    let s = c.loop-k in
    word_on a.out.now a.work.now a.n c.set_words-width.result a.i s.k _ s.invariant (omega arith) c.joined_word-none.ensures c.joined_word-auto.ensures c.joined_word-dimmed.ensures (omega (arith, c.in_word.ensures)) c.write_word.ensures

pub returns : goal.returns
returns c =
    let a = c.args in
    let all : min (64 * c.loop-k.k) (length a.out.now) ≡ length a.out.now = omega (arith, c.set_words-width.ensures) in
    c.loop-k.invariant
    ∙ ap₂ (λ (x w : ℕ). noted a.out.now 0 x (both_copies a.work.now a.n w a.i)) all c.set_words-width.ensures
    ∙ noted-whole a.out.now _
