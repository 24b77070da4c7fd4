-- A turn takes the lowest name that is left. Assumes nothing.
use Prim.Native.Nat.{ℕ, ◌*◌, ◌%◌, ◌^◌, ◌<◌}
use mathlib.Core.Path.{◌≡◌, sym, ap, ◌∙◌, subst}
use native.Mathlib.Omega.{arith}
use lib.Count.{count_trailing_zeros}
use Rattle.words.specs.Clauses.Row.{bit, tally}
use Rattle.words.specs.Clauses.Change.{Joined, without}
use Rattle.words.proofs.Bit.{one_shl}
use Rattle.words.proofs.Lowest.{lowest-lt, lowest_less}
use Rattle.interference.proofs.LowestFirst.{Adding, adding_all, lowest-room, adding_on, all_added}
use Rattle.interference.proofs.add_clique.Goals as goal
use Rattle.interference.proofs.add_clique.Goals.{After-difference-rest}

-- the lowest name is a bit of a word
some : {rest : ℕ} → (rest ≡ 0 → ⊥) → 0 < rest
some h = omega arith

pub loop-rest-init : goal.loop-rest-init
loop-rest-init c = adding_all c.ranges.set.fits

pub union_word-requires : goal.union_word-requires
union_word-requires c = lowest-room c.loop-rest.invariant (some c.loop-rest-test.true) c.requires

-- the code's lowest name, as a power of two
name : {rest : ℕ} → rest < 2 ^ 64 → (rest ≡ 0 → ⊥) → (w : ℕ) → without w (1 * 2 ^ count_trailing_zeros 64 rest % 2 ^ 64) ≡ without w (2 ^ count_trailing_zeros 64 rest)
name {rest} fits h w = ap (without w) (one_shl (count_trailing_zeros 64 rest) (lowest-lt rest fits (some h)))

-- what is left is without it
left : (c : After-difference-rest) → c.difference-rest.result ≡ without c.loop-rest.rest (2 ^ count_trailing_zeros 64 c.loop-rest.rest)
left c = c.difference-rest.ensures ∙ name c.loop-rest.invariant.word64 c.loop-rest-test.true c.loop-rest.rest

pub loop-rest-smaller : goal.loop-rest-smaller
loop-rest-smaller c =
    let rest = c.loop-rest.rest in
    subst (λ (x : ℕ). tally (bit x) 64 < tally (bit rest) 64) (sym (left (goal.at.loop-rest-smaller c).After-difference-rest))
    (lowest_less rest c.loop-rest.invariant.word64 (some c.loop-rest-test.true))

pub loop-rest-preserved : goal.loop-rest-preserved
loop-rest-preserved c =
    let rest = c.loop-rest.rest in
    let inv = c.loop-rest.invariant in
    let set = c.args.set in
    let u = c.union_word in
    let less = left (goal.at.loop-rest-preserved c).After-difference-rest in
    let others = c.difference.ensures ∙ name inv.word64 c.loop-rest-test.true set in
    let joined = subst (λ (w : ℕ). Joined c.loop-rest.rows u.new.ws (count_trailing_zeros 64 rest) w u.result) others u.ensures in
    subst (λ (w : ℕ). Adding c.args.rows.now u.new.ws set w) (sym less)
    (adding_on inv (some c.loop-rest-test.true) c.requires joined (subst (λ (w : ℕ). w < 2 ^ 64) less c.difference-rest.type_inv))

pub returns : goal.returns
returns c = all_added c.loop-rest.invariant c.loop-rest-test.false
