-- With the places and the parts of the lines noted the area is ready, and the words that the summaries count on are still zero. Assumes nothing.
use native.Mathlib.Omega.{arith}
use Prim.Native.Nat.{ℕ}
use mathlib.Core.List.{List}
use mathlib.Core.Path.{◌≡◌, ap, subst, ◌∙◌}
use Rattle.flow.specs.declared.Header.{Header}
use Rattle.flow.specs.Format.{line_count}
use Rattle.records.specs.Clauses.Fields.{PartsNoted}
use Rattle.records.proofs.Files.{limited}
use Rattle.statements.specs.Clauses.Layout.{lines_at}
use Rattle.dataflow.specs.Clauses.Phases.{cleared}
use Rattle.dataflow.proofs.Phases.{room_fits, lines_unused, lines-room, noted-indexed, no_summaries, no_sure, summed}
use Rattle.dataflow.proofs.door.summarize.Goals as goal

-- the area once it was cleared, by the width of the flow
made : (ws : List ℕ) (n : ℕ) {vs : List ℕ} {w w' : ℕ} → w ≡ w' → vs ≡ cleared ws n w → vs ≡ cleared ws n w'
made ws n e x = x ∙ ap (cleared ws n) e

pub set_words-width-requires : goal.set_words-width-requires
set_words-width-requires c = let p = c.requires in omega (arith, (limited p.fit).arrays, ap (λ (x : Header). x.arrays) p.header)

pub invariant_of-clear : goal.invariant_of-clear
invariant_of-clear c =
    let p = c.requires in
    let l = limited p.fit in
    record {
      few = omega (arith, l.statements, ap (λ (x : Header). x.statements) p.header);
      narrow = omega (arith, l.arrays, ap (λ (x : Header). x.arrays) p.header, c.set_words-width.ensures);
    }

pub note_offsets-requires : goal.note_offsets-requires
note_offsets-requires c =
    let p = c.requires in
    (p.fit, (omega (arith, ap (λ (x : Header). x.statements) p.header), room_fits p (made c.args.work.now c.args.h.statements c.set_words-width.ensures c.clear.ensures)))

pub note_lines-requires : goal.note_lines-requires
note_lines-requires c =
    let p = c.requires in
    let cleared = (made c.args.work.now c.args.h.statements c.set_words-width.ensures c.clear.ensures) in
    let noted = c.note_offsets.ensures in (
      p.fit,
      (ap (λ (x : Header). x.lines_at) p.header, ap (λ (x : Header). x.lines) p.header),
      p.some,
      omega (arith, (limited p.fit).statements, ap (λ (x : Header). x.statements) p.header),
      omega (arith, c.lines.ensures, lines-room p cleared noted),
      λ k l. rw c.lines.ensures (lines_unused p cleared noted k l),
    )

-- the parts are noted behind the places
parts : {s offsets vs : List ℕ} (n : ℕ) {base : ℕ} → base ≡ lines_at n → PartsNoted s offsets vs base n (line_count s) → PartsNoted s offsets vs (lines_at n) n (line_count s)
parts {s} {offsets} {vs} n e p = subst (λ (base : ℕ). PartsNoted s offsets vs base n (line_count s)) e p

pub summarize_calls-requires : goal.summarize_calls-requires
summarize_calls-requires c =
    let cleared = (made c.args.work.now c.args.h.statements c.set_words-width.ensures c.clear.ensures) in
    let noted = c.note_offsets.ensures in
    let p = parts c.args.h.statements c.lines.ensures c.note_lines.ensures in
    (noted-indexed c.requires cleared noted p, no_summaries c.requires cleared noted p, no_sure c.requires cleared noted p)

pub returns : goal.returns
returns c =
    let calls = c.summarize_calls.ensures in
    summed c.requires (made c.args.work.now c.args.h.statements c.set_words-width.ensures c.clear.ensures) c.note_offsets.ensures (parts c.args.h.statements c.lines.ensures c.note_lines.ensures) calls.summarized calls.keeps
