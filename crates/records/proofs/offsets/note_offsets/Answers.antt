-- The record at hand is fit, since the file is, and ends where the next one begins. Assumes nothing.
use native.Mathlib.Numerals.{add-one}
use native.Mathlib.Omega.{arith}
use Prim.Native.Nat.{ℕ}
use mathlib.Core.List.{List}
use mathlib.Core.Path.{◌≡◌, refl, ap, ◌∙◌}
use Rattle.flow.specs.Format.{record_place}
use Rattle.words.specs.Clauses.Change.{noted}
use Rattle.records.specs.declared.offsets.Noted.{Noted}
use Rattle.records.specs.Clauses.Fields.{acts_at, word_of, word_at, noted_word}
use Rattle.records.proofs.Files.{record-fit}
use Rattle.records.proofs.offsets.note_offsets.Goals as goal

-- the word of what is noted of the record at hand
word : (s : List ℕ) (i : ℕ) {p w : ℕ} {x : Noted} → p ≡ record_place s i → x ≡ record { place = p; acts = acts_at s p } → w ≡ word_of x → w ≡ noted_word s i
unfolding word_at
word s i place is made = made ∙ ap word_of is ∙ ap (word_at s) place

pub loop-i-init : goal.loop-i-init
unfolding noted record_place
loop-i-init c = record { place = refl; words = refl }

pub noted_at-requires : goal.noted_at-requires
noted_at-requires c = (c.requires.0, rw c.loop-i.invariant.place (record-fit c.requires.0 c.loop-i.i (omega arith)))

pub record_end-p-requires : goal.record_end-p-requires
record_end-p-requires c = rw c.loop-i.invariant.place (record-fit c.requires.0 c.loop-i.i (omega arith))

pub loop-i-preserved : goal.loop-i-preserved
unfolding noted record_place
loop-i-preserved c =
    let inv = c.loop-i.invariant in
    let made = word c.args.file.now c.loop-i.i inv.place c.noted_at.ensures c.into.ensures in
    record { place = rw add-one (cc); words = rw add-one (cc) }
