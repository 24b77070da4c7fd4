-- `noting::note_follower` meets its contract: as the first follower, or in the row, which is zeroed when it is first used.
-- Assumes nothing.
use mathlib.Core.List.{[], ◌∷◌}
use mathlib.Core.Path.{◌≡◌, sym, ◌∙◌, ap₂, subst}
use native.Mathlib.Omega.{arith}
use borrow.Author.Tests.{not-true, not-false}
use lib.ListN.{set}
use Rattle.words.specs.Clauses.Change.{inserted, zeroed}
use Rattle.statements.specs.Clauses.Layout.{row_at, row_words}
use Rattle.statements.proofs.WorkArea.{row_fits, member-word}
use Rattle.sure.specs.Clauses.Layout.{mirror}
use Rattle.sure.specs.Clauses.Noting.{NotesFollower}
use Rattle.sure.proofs.Reading.{no_follower, first-is, are_more, no_more}
use Rattle.sure.proofs.Followers.{InUse, mirror-low, first-noted, used_already, used-first, row-noted}
use Rattle.sure.proofs.noting.note_follower.Goals as goal
use Rattle.sure.proofs.noting.note_follower.Goals.{Joined-not-followers, then-not-followers, else-not-followers}

-- the row is in use, whether it was before or is zeroed now
used : (c : Joined-not-followers) → InUse c.args.work.now c.if-not-followers.work c.args.layout.n c.args.j.0
used c =
    let a = c.args in
    let at = c.first-at.ensures in
    let read = c.followers_of.ensures in
    elim c.if-not-followers.branch [
      | then-not-followers w ↦
          let one = no_more a.work.now a.layout.n a.j.0 at read c.in-Some.followers c.in-Some.is (not-true c.in-Some.followers.more w.if-not-followers.true) in
          let zeros : w.zero_row.new.ws ≡ zeroed a.work.now (row_at a.layout.n a.j.0) (row_words a.layout.n) = w.zero_row.ensures ∙ ap₂ (zeroed a.work.now) c.row-row.ensures w.row_words.ensures in
          subst (λ x. InUse a.work.now x a.layout.n a.j.0) (sym (w.work-is ∙ ap₂ (set w.zero_row.new.ws) at w.followers_word-then-not-followers.ensures)) (used-first c.in-Some.followers.first.0 c.requires.0 c.requires.1 one.0 one.1 zeros)
      | else-not-followers w ↦ subst (λ x. InUse a.work.now x a.layout.n a.j.0) (sym w.work-is) (used_already (are_more a.work.now a.layout.n a.j.0 at read c.in-Some.followers c.in-Some.is (not-false c.in-Some.followers.more w.if-not-followers.false)))
    ]

pub returns-in_default : goal.returns-in_default
returns-in_default c =
    let a = c.args in
    let p = c.requires in
    let at = c.first-at.ensures in
    subst (λ x. NotesFollower a.work.now x a.layout.n a.i.0 (a.j.0 ∷ [])) (sym (ap₂ (set a.work.now) at c.followers_word.ensures))
    (first-noted c.args.layout.few p.0 p.1 p.2 p.3 (no_follower a.work.now a.layout.n a.j.0 at c.followers_of.ensures p.3 p.1 c.in_default.is))

pub zero_row-requires : goal.zero_row-requires
zero_row-requires c = omega (arith, c.row-row.ensures, c.row_words.ensures, row_fits c.args.layout.n c.requires.1, c.requires.0)

pub insert-requires : goal.insert-requires
insert-requires c =
    omega (arith, c.row-row.ensures, c.mirrored.ensures, row_fits c.args.layout.n c.requires.1, member-word (mirror-low c.requires.2), c.requires.0, c.if-not-followers.auto.work)

pub returns : goal.returns
returns c =
    let a = c.args in
    let p = c.requires in
    let slice : c.insert.new.ws ≡ inserted c.if-not-followers.work (row_at a.layout.n a.j.0) (mirror a.layout.n a.i.0) = c.insert.ensures.slice ∙ ap₂ (inserted c.if-not-followers.work) c.row-row.ensures c.mirrored.ensures in
    let some = first-is a.work.now a.layout.n a.j.0 c.first-at.ensures c.followers_of.ensures p.3 p.1 c.in-Some.followers c.in-Some.is in
    subst (λ z. NotesFollower a.work.now z a.layout.n a.i.0 (a.j.0 ∷ [])) (sym slice)
    (row-noted p.0 p.1 p.2 p.3 (λ e. omega (arith, some.0)) (used (goal.at.returns c).Joined-not-followers))
