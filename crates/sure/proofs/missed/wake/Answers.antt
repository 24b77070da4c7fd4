-- `missed::wake` meets its contract: the first that follows joins those that wait, and the others of the row with it.
-- Assumes nothing.
use Prim.Native.Nat.{◌+◌, ◌%◌, ◌<◌}
use mathlib.Core.Path.{◌≡◌, ◌∙◌, ap}
use native.Mathlib.Omega.{arith}
use lib.ListN.{length, get_or}
use Rattle.statements.proofs.WorkArea.{row_fits, row-words-le}
use Rattle.words.proofs.Inserted.{length_inserted}
use Rattle.sure.specs.Clauses.Layout.{first_at, more}
use Rattle.sure.proofs.Reading.{first-is, no_more}
use Rattle.sure.proofs.Waking.{woken_first, woken_more}
use Rattle.sure.proofs.missed.wake.Goals as goal
use Rattle.sure.proofs.missed.wake.Goals.{In-Some}

-- the statement that follows first
first : (c : In-Some) → (get_or c.args.work.now (first_at c.args.layout.n c.args.j.0) 0 % more ≡ c.in-Some.followers.first.0 + 1) × (c.in-Some.followers.first.0 < c.args.layout.n)
first c = first-is c.args.work.now c.args.layout.n c.args.j.0 c.first.ensures c.followers_of.ensures c.requires.2 c.requires.1 c.in-Some.followers c.in-Some.is

pub union-requires : goal.union-requires
union-requires c =
    let size : length c.insert.new.ws ≡ length c.args.work.now = ap length c.insert.ensures.slice ∙ simp length_inserted in
    (omega (arith, c.waiting-then-followers.ensures, c.row_words.ensures, row-words-le c.args.layout.n, c.requires.0), omega (arith, c.row.ensures, c.row_words.ensures, row_fits c.args.layout.n c.requires.1, c.requires.0))

pub returns-then-followers : goal.returns-then-followers
returns-then-followers c =
    woken_more c.requires.1 c.requires.0 (first (goal.at.returns-then-followers c).In-Some) c.waiting.ensures c.mirrored.ensures c.insert.ensures
    c.waiting-then-followers.ensures c.row.ensures c.row_words.ensures c.union.ensures

pub returns-else-followers : goal.returns-else-followers
returns-else-followers c =
    woken_first c.requires.1 c.requires.0 (first (goal.at.returns-else-followers c).In-Some) c.waiting.ensures c.mirrored.ensures c.insert.ensures
    (let few = no_more c.args.work.now c.args.layout.n c.args.j.0 c.first.ensures c.followers_of.ensures c.in-Some.followers c.in-Some.is c.if-followers.false in omega arith)
