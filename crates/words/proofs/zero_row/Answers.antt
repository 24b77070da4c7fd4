-- `words::zero_row` meets its contract: a part that is filled with 0 is one whose words are written one after the other. Assumes nothing.
use Rattle.std.proofs.Common.{◌≡◌, ℕ, zero, suc, ◌+◌, ◌≤◌, List, length, ◌-◌, take, drop, replicate, length-take, length-drop, arith, add-one, sym, ap, ◌∙◌}
use Rattle.std.proofs.lemmas.List.{length-replicate, take-append-drop, append-nil}
use Rattle.std.proofs.lemmas.List.Edits.{fill_from_more}
use Rattle.std.proofs.lemmas.Slice.{put_mid-paste}
use lib.Seq.{paste}
use native.Mathlib.Nat.{add-zero}
use lib.ListN.{set}
use Rattle.words.specs.Clauses.Change.{zeroed, rewritten}
use Rattle.words.proofs.zero_row.Goals as goal

filled : (ws : List ℕ) (base n : ℕ) → base + n ≤ length ws → paste ws base (replicate n 0) n ≡ zeroed ws base n
unfolding zeroed rewritten
filled ws base zero h = rw (add-zero, append-nil) (take-append-drop base ws)
filled ws base (suc n) h =
    let more = fill_from_more ws base n 0 (omega arith) in
    sym (rw add-one at more) ∙ ap (λ (vs : List ℕ). set vs (base + n) 0) (filled ws base n (omega arith))

pub returns : goal.returns
returns c =
    let a = c.args in
    let long : length (take (a.base + a.width - a.base) (drop a.base a.ws.now)) ≡ a.width = simp (length-take, length-drop) (omega arith) in
    let zeros : c.fill.new.self ≡ replicate a.width 0 = c.fill.ensures.after (λ y e. e) ∙ ap (λ (n : ℕ). replicate n 0) long in
    put_mid-paste a.base _ a.ws.now _ (replicate a.width 0) a.width zeros (omega arith) (sym (length-replicate a.width 0))
    ∙ filled a.ws.now a.base a.width c.requires
