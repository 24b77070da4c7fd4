-- Each statement adds what is live at its start and what it ends with. Assumes nothing.
use Prim.Native.Nat.{ℕ, ◌^◌, ◌<◌, ◌≤◌}
use mathlib.Core.Path.{◌≡◌, sym, ap₂, ◌∙◌, subst}
use native.Mathlib.Nat.{lt_of_lt_of_le}
use native.Mathlib.Omega.{arith}
use lib.Bits.{bit_or}
use lib.ListN.{get_or}
use lib.Pow.{pow_mono}
use Rattle.flow.specs.Format.{flow_of}
use Rattle.theory.specs.Live.{live_in_word}
use Rattle.theory.proofs.Names.{live_in_word-lt}
use Rattle.interference.specs.Clauses.Rows.{after_word}
use Rattle.interference.proofs.Paired.{going_none}
use Rattle.interference.proofs.Interfering.{after-lt, going_statement}
use Rattle.interference.proofs.add_statements.Goals as goal
use Rattle.interference.proofs.add_statements.Goals.{After-written}

-- a set of names is below the power that the words ask for
room : {k m : ℕ} (w : ℕ) {v : ℕ} → v ≡ w → w < 2 ^ k → k ≤ m → v < 2 ^ m
room {m = m} w e l b = subst (λ z. z < 2 ^ m) (sym e) (lt_of_lt_of_le l (pow_mono b))

-- what the code has at the end of a statement
after : (c : After-written) → bit_or (get_or c.args.live_out.now c.loop-i.i 0) c.written.result ≡ after_word (flow_of c.args.file.now) c.loop-i.i
after c = ap₂ bit_or (c.requires.1.live_out.word c.loop-i.i c.loop-i-test.true) (c.written.ensures ∙ sym c.offset-p.ensures.written)

pub loop-i-init : goal.loop-i-init
loop-i-init c = (omega arith, going_none (λ x y t. omega (arith, t.1)))

pub add_new_clique-last-requires : goal.add_new_clique-last-requires
add_new_clique-last-requires c =
    let f = flow_of c.args.file.now in
    let i = c.loop-i.i in
    room (live_in_word f i) (c.requires.1.live_in.word i c.loop-i-test.true) (live_in_word-lt f i) (omega (arith, c.requires.0.room, c.loop-i.invariant.1.kept.size))

pub add_new_clique-last-requires-in-loop-i : goal.add_new_clique-last-requires-in-loop-i
add_new_clique-last-requires-in-loop-i c =
    let f = flow_of c.args.file.now in
    let i = c.loop-i.i in
    room (after_word f i) (after (goal.at.add_new_clique-last-requires-in-loop-i c).After-written) (after-lt c.requires.0.ready i)
    (omega (arith, c.requires.0.room, c.loop-i.invariant.1.kept.size, c.add_new_clique-last.auto.rows))

pub loop-i-preserved : goal.loop-i-preserved
loop-i-preserved c =
    let i = c.loop-i.i in (
      c.add_new_clique-last-in-loop-i.type_inv,
      going_statement c.requires.0.ready c.loop-i.invariant.1 c.loop-i.invariant.0 c.add_new_clique-last.type_inv (c.requires.1.live_in.word i c.loop-i-test.true)
          (after (goal.at.loop-i-preserved c).After-written) c.add_new_clique-last.ensures
          c.add_new_clique-last-in-loop-i.ensures,
    )
