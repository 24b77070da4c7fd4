-- A turn takes the lowest bit that is left. Assumes nothing.
use Prim.Native.Nat.{ℕ, ◌^◌, ◌≤◌, ◌<◌, ◌%◌, ◌*◌}
use mathlib.Core.List.{List}
use mathlib.Core.Path.{◌≡◌, sym, ap, ◌∙◌, subst}
use native.Mathlib.Omega.{arith}
use lib.Count.{count_trailing_zeros}
use lib.ListN.{length}
use Rattle.words.specs.Clauses.Row.{bit, tally}
use Rattle.words.specs.Clauses.Change.{Inserted, without}
use Rattle.words.proofs.Bit.{one_shl}
use Rattle.words.proofs.Lowest.{lowest-lt, lowest_less}
use Rattle.statements.specs.Clauses.Layout.{queue_at, row_words}
use Rattle.statements.proofs.WorkArea.{member-word, row-words-most, row_fits, area-fits}
use Rattle.calls.specs.Clauses.Joins.{Gains, in_word}
use Rattle.calls.proofs.Joined.{gains-none}
use Rattle.calls.proofs.Gathered.{word_on, word_past, word_none}
use Rattle.flow.specs.Limits.{max_statements}
use Rattle.calls.specs.Clauses.Held.{Area}
use Rattle.calls.proofs.returns.note_word.Goals as goal

-- the lowest bit is one of a word
some : {rest : ℕ} → (rest ≡ 0 → ⊥) → 0 < rest
some h = omega arith

low : {rest : ℕ} → rest < 2 ^ 64 → (rest ≡ 0 → ⊥) → count_trailing_zeros 64 rest < 64
low {rest} fits h = lowest-lt rest fits (some h)

-- what is left without it
left : {rest r : ℕ} → rest < 2 ^ 64 → (rest ≡ 0 → ⊥) → r ≡ without rest (1 * 2 ^ count_trailing_zeros 64 rest % 2 ^ 64) → r ≡ without rest (2 ^ count_trailing_zeros 64 rest)
left {rest} fits h e = e ∙ ap (without rest) (one_shl (count_trailing_zeros 64 rest) (low fits h))

few : {n j : ℕ} → n ≤ max_statements → j < row_words n → j < 32
few most l = omega (arith, row-words-most most)

pub overflow_mul-r : goal.overflow_mul-r
overflow_mul-r c = omega (arith, few c.requires.0.few c.requires.1)

pub overflow_add-r : goal.overflow_add-r
overflow_add-r c = omega (arith, few c.requires.0.few c.requires.1, low c.loop-rest.invariant.1 c.loop-rest-test.true)

pub returns-then-layout-r : goal.returns-then-layout-r
returns-then-layout-r c = c.loop-rest.invariant.2 c.loop-rest.work (gains-none (word_past c.loop-rest.rest c.args.j c.if-layout-r.true))

room : {ws : List ℕ} {n : ℕ} (vs : List ℕ) → Area ws n → 0 < n → length vs ≡ length ws → queue_at n ≤ length vs
room {n = n} vs a l size = omega (arith, area-fits {n = n} l a.few, a.room)

pub insert-requires : goal.insert-requires
insert-requires c =
    omega (arith, room c.loop-rest.work c.requires.0 (omega (arith, c.requires.2)) c.loop-rest.invariant.0, c.row.ensures, row_fits c.args.layout.n c.if-layout-r.false, member-word c.requires.2)

pub loop-rest-smaller : goal.loop-rest-smaller
loop-rest-smaller c =
    let rest = c.loop-rest.rest in
    let fits = c.loop-rest.invariant.1 in
    subst (λ (x : ℕ). tally (bit x) 64 < tally (bit rest) 64) (sym (left fits c.loop-rest-test.true c.difference-rest.ensures)) (lowest_less rest fits (some c.loop-rest-test.true))

pub loop-rest-preserved : goal.loop-rest-preserved
loop-rest-preserved c =
    let a = c.args in
    let rest = c.loop-rest.rest in
    let inv = c.loop-rest.invariant in
    let i = c.insert in
    let new : Inserted c.loop-rest.work i.new.ws _ a.k.0 i.result = subst (λ (b : ℕ). Inserted c.loop-rest.work i.new.ws b a.k.0 i.result) c.row.ensures i.ensures in (
      i.auto.ws ∙ inv.0,
      c.difference-rest.type_inv,
      λ vs g. inv.2 vs
          (word_on rest a.j inv.1 (some c.loop-rest-test.true) new c.if-layout-r.false c.requires.2 (room c.loop-rest.work c.requires.0 (omega (arith, c.requires.2)) inv.0)
          (subst (λ (x : ℕ). Gains i.new.ws vs a.layout.n (queue_at a.layout.n) (in_word x a.j) a.k.0) (left inv.1 c.loop-rest-test.true c.difference-rest.ensures) g)),
    )

pub returns : goal.returns
returns c = let l = c.loop-rest in l.invariant.2 l.work (gains-none (λ s h. word_none c.args.j c.loop-rest-test.false s))
