-- `sure_arrays` meets its contract: each phase finds what it needs, and in the end the words are those of the sure arrays.
-- Assumes nothing.
use Prim.Native.Nat.{ℕ}
use mathlib.Core.List.{List}
use Rattle.std.proofs.Common.{rules}
use Rattle.words.specs.Clauses.Row.{Words}
use Rattle.flow.specs.Format.{flow_of}
use Rattle.theory.specs.Sure.{gosub_body, returning}
use Rattle.statements.proofs.Keeps.{ready-most}
use Rattle.sure.specs.Clauses.Missing.{Solved, Exact}
use Rattle.sure.proofs.Found.{sure-words}
use Rattle.sure.proofs.Course.{words-room, Asking, asking-words, asking-run, asking-solved, ready-bodies, none-sure, asking-noted, exact-noted, asking-opened, exact-opened, all_noted}
use Rattle.sure.proofs.sure_arrays.Goals as goal
use Rattle.sure.proofs.sure_arrays.Goals.{After-note_statements, After-open_bodies}

-- before the first run of the worklist
noted : (c : After-note_statements) → Asking c.args.file.now (gosub_body (flow_of c.args.file.now)) c.note_statements.new.work c.args.h.statements
noted c = asking-noted c.requires.0.ready c.note_bodies.ensures.0 c.note_statements.ensures

-- before the second, and what it finds
opened : (c : After-open_bodies) → let f = flow_of c.args.file.now in let n = c.args.h.statements in let ws = c.open_bodies.new.work in
    Asking c.args.file.now (returning f) ws n × ((vs : List ℕ) → Solved f ws vs n → Exact f (returning f) vs n)
opened c =
    let first = asking-noted c.requires.0.ready c.note_bodies.ensures.0 c.note_statements.ensures in
    let before = asking-solved first c.solve.ensures in
    let found = exact-noted first c.note_statements.ensures c.solve.ensures in
    let words : Words c.solve.new.work = λ x. search rules in
    (asking-opened before words found c.open_bodies.ensures, λ vs y. exact-opened before words found c.open_bodies.ensures y)

pub invariant_of-layout : goal.invariant_of-layout
invariant_of-layout c = record { few = ready-most c.requires.0.ready }

pub returns-then-not-note_bodies : goal.returns-then-not-note_bodies
returns-then-not-note_bodies c = let b = c.note_bodies.ensures in none-sure c.requires.0.ready b.0 (b.1 c.if-not-note_bodies.true)

pub note_statements-requires : goal.note_statements-requires
note_statements-requires c =
    let r = ready-bodies c.requires.0.ready c.note_bodies.ensures.0 in
    (r, words-room r, c.note_bodies.ensures.0.asks)

pub solve-requires : goal.solve-requires
solve-requires c = asking-run (noted (goal.at.solve-requires c).After-note_statements)

pub open_bodies-requires : goal.open_bodies-requires
open_bodies-requires c = asking-words (asking-solved (noted (goal.at.open_bodies-requires c).After-note_statements) c.solve.ensures)

pub solve-requires-2 : goal.solve-requires-2
solve-requires-2 c = asking-run (opened (goal.at.solve-requires-2 c).After-open_bodies).0

pub note_unmissed-requires : goal.note_unmissed-requires
note_unmissed-requires c = asking-words (asking-solved (opened (goal.at.note_unmissed-requires c).After-open_bodies).0 c.solve-2.ensures)

pub returns : goal.returns
returns c =
    let r = c.requires.0.ready in
    let second = opened (goal.at.returns c).After-open_bodies in
    let words : Words c.solve-2.new.work = λ x. search rules in
    let is = sure-words r words (second.1 _ c.solve-2.ensures) (asking-solved second.0 c.solve-2.ensures).asks c.note_unmissed.ensures in
    all_noted (ready-most r) c.note_bodies.ensures.0 c.note_statements.ensures c.solve.ensures c.open_bodies.ensures c.solve-2.ensures c.note_unmissed.ensures is
